-- The two mirror filters, G.722 (11/88), 5.2, with the exact sums of SCOPE 38 to 42.
-- Assumes nothing.
use Rattle.std.specs.Prelude.{List, ℕ, zero, suc, ◌+◌, ◌*◌, ◌-◌, ℤ, pos, ◌+ℤ◌, ◌-ℤ◌, ◌*ℤ◌, get_or}
use Rattle.g722.specs.Arithmetic.{shr}
use Rattle.g722.specs.Tables.{h}

-- f 0 + f 1 + .. + f (n - 1)
unfoldable pub sum : (ℕ → ℤ) → ℕ → ℤ
sum f zero = pos 0
sum f (suc n) = sum f n +ℤ f n

-- Hi
unfoldable pub coefficient : ℕ → ℤ
coefficient i = get_or h i (pos 0)

-- XINi: of 24 samples, oldest first, the one i places before the newest
unfoldable pub xin : List ℤ → ℕ → ℤ
xin x i = get_or x (23 - i) (pos 0)

-- ACCUMA and ACCUMB
unfoldable pub accuma : List ℤ → ℤ
accuma x = sum (λ (i : ℕ). coefficient (2 * i) *ℤ xin x (2 * i)) 12

unfoldable pub accumb : List ℤ → ℤ
accumb x = sum (λ (i : ℕ). coefficient (2 * i + 1) *ℤ xin x (2 * i + 1)) 12

-- LOWT and HIGHT, their first line: XL and XH in full. The second limits them
unfoldable pub lowt : List ℤ → ℤ
lowt x = shr (accuma x +ℤ accumb x) 13

unfoldable pub hight : List ℤ → ℤ
hight x = shr (accuma x -ℤ accumb x) 13

-- RECA and RECB: XDi and XSi of twelve pairs, oldest first
unfoldable pub xd : List ℤ → List ℤ → ℕ → ℤ
xd rl rh i = get_or rl (11 - i) (pos 0) -ℤ get_or rh (11 - i) (pos 0)

unfoldable pub xs : List ℤ → List ℤ → ℕ → ℤ
xs rl rh i = get_or rl (11 - i) (pos 0) +ℤ get_or rh (11 - i) (pos 0)

-- ACCUMC and ACCUMD, but for their last line, which limits: XOUT1, the earlier sample, and XOUT2 in full
unfoldable pub accumc : List ℤ → List ℤ → ℤ
accumc rl rh = shr (sum (λ (i : ℕ). coefficient (2 * i) *ℤ xd rl rh i) 12) 12

unfoldable pub accumd : List ℤ → List ℤ → ℤ
accumd rl rh = shr (sum (λ (i : ℕ). coefficient (2 * i + 1) *ℤ xs rl rh i) 12) 12
