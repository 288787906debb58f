-- The arithmetic of G.722 (11/88), 6.2, with what SCOPE 23 to 26 fix.
-- Assumes nothing.
use Rattle.std.specs.Prelude.{Bool, not, cond, ◌&&◌, List, [], ◌∷◌, ℕ, ◌+◌, ◌^◌, ℤ, pos, neg_ℤ, ◌+ℤ◌, ◌-ℤ◌, ◌*ℤ◌}
use Rattle.std.specs.Int.Signed.{lt_z, le_z, shr_z}
use Rattle.laws.specs.Clamp.{clamp}
use Rattle.g722.specs.declared.Limited.{Limited}

-- a negative constant, as it is printed: `neg 11` is -11
abbrev pub neg : ℕ → ℤ
neg n = neg_ℤ (pos n)

-- shifted right by so many places, rounding down
abbrev pub shr : ℤ → ℕ → ℤ
shr z places = shr_z z (2 ^ places)

-- stops at -32768 and 32767
abbrev pub stop : ℤ → ℤ
stop z = clamp (neg 32768) (pos 32767) z

-- A + B
unfoldable pub add : ℤ → ℤ → ℤ
add a b = stop (a +ℤ b)

-- A - B
unfoldable pub sub : ℤ → ℤ → ℤ
sub a b = stop (a -ℤ b)

-- A * B: the product shifted right by 15, rounding down. The stop concerns -32768 * -32768 alone
unfoldable pub mul : ℤ → ℤ → ℤ
mul a b = stop (shr (a *ℤ b) 15)

-- the sign. The size is `mag`: z itself from 0 up, -1 - z below 0
abbrev pub negative : ℤ → Bool
negative z = lt_z z (pos 0)

-- SGi = SGj
unfoldable pub same_sign : ℤ → ℤ → Bool
same_sign a b = cond (negative a) (negative b) (not (negative b))

-- lo ≤ z ≤ hi
unfoldable pub within : ℤ → ℤ → ℤ → Bool
within lo hi z = le_z lo z && le_z z hi

-- a = b, as a ≤ b ≤ a
unfoldable pub equal : ℤ → ℤ → Bool
equal a b = within a a b

-- limited to the range of XIN, XOUT, RL and RH; and the same with whether that changed the value
unfoldable pub limit : ℤ → ℤ
limit z = clamp (neg 16384) (pos 16383) z

unfoldable pub limited : ℤ → Limited
limited z = record { value = limit z; changed = not (equal (limit z) z) }

-- how many of two limited values were changed, and of a run of values how many limiting changes
abbrev pub one : Bool → ℕ
one t = cond t 1 0

unfoldable pub changes : Limited → Limited → ℕ
changes a b = one a.changed + one b.changed

unfoldable pub overloads : List ℤ → ℕ
overloads [] = 0
overloads (z ∷ rest) = one (limited z).changed + overloads rest
