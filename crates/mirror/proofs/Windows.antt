-- The window that a filter sees at a place of a run: the past numbers, and the new ones of that place.
-- Assumes nothing.
use mathlib.Core.Path.{◌≡◌, sym, ap, ◌∙◌}
use mathlib.Core.List.{List, [], ◌++◌, append_assoc, append-nil}
use Prim.Native.Nat.{ℕ, ◌+◌, ◌<◌}
use native.Mathlib.Omega.{arith}
use lib.IntN.{ℤ, pos}
use lib.ListN.{length, drop, length-append, length-drop, get_or-append}
use lib.Seq.{drop-drop, drop-append-le, get_or-drop}
use Rattle.mirror.specs.Rows.{nth}

-- what is left of w from place d on: m past numbers, and the rest
pub record Left (m : ℕ) (w : List ℤ) (d : ℕ) (p rest : List ℤ) : Type 0 where
  pub long : length p ≡ m
  pub is : p ++ rest ≡ drop d w

pub none_left : {m : ℕ} {w p : List ℤ} {d : ℕ} → Left m w d p [] → (e : ℕ) → e ≡ d → drop e w ≡ p
none_left {w = w} {p = p} f e h = ap (λ (j : ℕ). drop j w) h ∙ sym f.is ∙ append-nil p

module _ {m : ℕ} {w p : List ℤ} {d : ℕ} (new rest : List ℤ) (f : Left m w d p (new ++ rest)) where
  window_long : length (p ++ new) ≡ m + length new
  window_long = length-append p new ∙ omega (arith, f.long)

  window_is : (p ++ new) ++ rest ≡ drop d w
  window_is = append_assoc p new rest ∙ f.is

  pub place : (k : ℕ) → k < m + length new → nth w (d + k) ≡ nth (p ++ new) k
  place k h =
      sym (get_or-drop d w k (pos 0))
      ∙ ap (λ (l : List ℤ). nth l k) (sym window_is)
      ∙ get_or-append (p ++ new) rest (pos 0) k (omega (arith, window_long))

  -- the oldest go, as many as are new
  pub left_next : (e : ℕ) → e ≡ d + length new → Left m w e (drop (length new) (p ++ new)) rest
  left_next e h =
      record {
        long = length-drop (length new) (p ++ new) ∙ omega (arith, window_long);
        is =
            sym (drop-append-le (length new) (p ++ new) rest (omega (arith, window_long)))
            ∙ ap (λ (t : List ℤ). drop (length new) t) window_is
            ∙ drop-drop (length new) d w
            ∙ ap (λ (j : ℕ). drop j w) (sym h);
      }
