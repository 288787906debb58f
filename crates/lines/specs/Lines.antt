-- The lines of a listing, and how the code holds one.
-- Assumes nothing.
use Rattle.std.specs.Prelude.{◌≡◌, List, [], ◌∷◌, ◌++◌, ℕ, ◌+◌, ◌-◌, ◌≤◌, ◌<◌, min, ℤ, length, get_or, drop, replicate}
use denote.Ref.{Bor}
use Rattle.lines.specs.Decimal.{decimal, signed}
use Rattle.lines.specs.Text.{ascii}
use Rattle.lines.specs.declared.Line.{Line}

-- "take block mode count first last limited", single spaces between them and a line feed behind them
unfoldable pub block_line : ℕ → ℕ → ℕ → ℕ → ℤ → ℤ → ℕ → List ℕ
block_line take block mode count first last limited =
    decimal take ++ (32 ∷ decimal block ++ (32 ∷ decimal mode ++ (32 ∷ decimal count
    ++ (32 ∷ signed first ++ (32 ∷ signed last ++ (32 ∷ decimal limited ++ (10 ∷ [])))))))

-- "refused number blocks", alike
unfoldable pub refused_line : ℕ → ℕ → List ℕ
refused_line number blocks =
    ascii "refused" ++ (32 ∷ decimal number ++ (32 ∷ decimal blocks ++ (10 ∷ [])))

-- "overload: limited sums limited"
unfoldable pub overload_line : ℕ → List ℕ
overload_line limited = ascii "overload:" ++ (32 ∷ decimal limited ++ (ascii " sums limited" ++ (10 ∷ [])))

-- a line held at the end of 160 bytes, behind zeros
unfoldable pub line_of : List ℕ → Line
line_of text = record { bytes = replicate (160 - length text) 0 ++ text; at = 160 - length text }

-- its bytes, where they stand in it; none where it would begin behind them
abbrev pub text_of : Bor Line → Bor (List ℕ)
text_of line =
    let at = min line.now.at 160 in
    record { ref_ptr = (line.ref_ptr.0, line.ref_ptr.1 + at); now = drop at line.now.bytes }

-- ---- what the steps of writing say

abbrev pub held : Line → List ℕ
held line = drop line.at line.bytes

pub record Sound (line : Line) : Type 0 where
  pub size : length line.bytes ≡ 160
  pub inside : line.at ≤ 160
  pub blank : (i : ℕ) → i < line.at → get_or line.bytes i 0 ≡ 0

-- there is room for k more bytes
pub record Ready (k : ℕ) (line : Line) : Type 0 where
  pub sound : Sound line
  pub room : k ≤ line.at

-- w went in before the line, and took at most k bytes
pub record Wrote (k : ℕ) (w : List ℕ) (line r : Line) : Type 0 where
  pub sound : Sound r
  pub text : held r ≡ w ++ held line
  pub room : line.at ≤ r.at + k
