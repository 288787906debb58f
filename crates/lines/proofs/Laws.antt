-- A line that grows at its start: what a byte, and a run of bytes, does to it.
-- Assumes nothing.
use mathlib.Core.Path.{◌≡◌, refl, sym, ap, ◌∙◌}
use mathlib.Core.List.{List, [], ◌∷◌, ◌++◌, append_assoc, append-nil}
use Prim.Native.Nat.{ℕ, ◌+◌, ◌-◌, ◌≤◌, ◌<◌}
use native.Mathlib.Omega.{arith}
use lib.ListN.{length, get_or, set, take, drop, replicate, length-append, length-drop, length-set, length-replicate, get_or-replicate}
use lib.ListN.{take-append-drop}
use lib.Seq.{ext_get_or, get_or-take, get_or-set_same, get_or-set_other, drop-set-lt, length-take-le}
use lib.IntN.{ℤ, pos, negsuc, nat_abs}
use lib.Signed.{lt_z}
use mathlib.Core.Bool.{true, false}
use borrow.Author.Tests.{ltb-true}
use Rattle.laws.specs.Order.{no}
use Rattle.laws.specs.Turns.{drop_one}
use Rattle.lines.specs.Decimal.{decimal, signed}
use Rattle.lines.specs.Lines.{line_of, held, Sound, Ready, Wrote}
use Rattle.lines.specs.declared.Line.{Line}

pub held_length : {line : Line} → Sound line → length (held line) + line.at ≡ 160
held_length {line} s = rw length-drop (omega (arith, s.size, s.inside))

-- a byte
pub put_byte : (line : Line) (b : ℕ) → Ready 1 line → Wrote 1 (b ∷ []) line
    (record { bytes = set line.bytes (line.at - 1) b; at = line.at - 1 })
put_byte line b h =
    let xs = line.bytes in
    let i = line.at - 1 in
    let s = h.sound in
    let in-it : i < length xs = omega (arith, s.size, s.inside, h.room) in
    let in-set : i < length (set xs i b) = rw length-set in-it in
    let next : i + 1 ≡ line.at = omega (arith, h.room) in
    record {
      sound = record {
        size = length-set xs i b ∙ s.size;
        inside = omega (arith, s.inside);
        blank = λ j k. get_or-set_other xs i j b 0 (λ e. omega arith) ∙ s.blank j (omega arith);
      };
      text = drop_one (set xs i b) i 0 in-set ∙ (λ j. get_or-set_same xs i b 0 in-it j ∷ drop-set-lt (i + 1) xs i b (omega arith) j)
          ∙ ap (λ (n : ℕ). b ∷ drop n xs) next;
      room = omega arith;
    }

-- a run of bytes from its end: what is left of it, before what is held, stays the whole
pub turn : (x y : List ℕ) {whole : List ℕ} {b : ℕ} {line r : Line} → x ≡ y ++ (b ∷ []) → Wrote 1 (b ∷ []) line r → x ++ held line ≡ whole
    → y ++ held r ≡ whole
turn x y {whole} {b} {line} {r} e w h = ap (λ (t : List ℕ). y ++ t) w.text ∙ sym (append_assoc y (b ∷ []) (held line))
    ∙ ap (λ (t : List ℕ). t ++ held line) (sym e) ∙ h

module _ (w : List ℕ) {line r : Line} (s : Sound line) (t : Sound r) where
  -- so there is room for what is left where there was for the whole
  pub left : (x : List ℕ) → x ++ held r ≡ w ++ held line → length w ≤ line.at → length x ≤ r.at
  left x e h =
      let l = simp length-append at (ap length e) in
      omega (arith, held_length s, held_length t)

  -- and where nothing is left the whole is written
  pub ran : {k : ℕ} → held r ≡ w ++ held line → length w ≤ k → Wrote k w line r
  ran {k} e h =
      let l = simp length-append at (ap length e) in
      record { sound = t; text = e; room = omega (arith, held_length s, held_length t) }

-- one run after another
pub both : {j k : ℕ} {v w : List ℕ} {line mid r : Line} → Wrote j v line mid → Wrote k w mid r → Wrote (j + k) (w ++ v) line r
both {j} {k} {v} {w} {line} {mid} {r} p q =
    record {
      sound = q.sound;
      text = q.text ∙ ap (λ (t : List ℕ). w ++ t) p.text ∙ sym (append_assoc w v (held line));
      room = omega (arith, p.room, q.room);
    }

-- ---- the first line and the last

pub empty_line : ◌≡◌ {A = Line} (record { bytes = replicate 160 0; at = 160 }) (line_of [])
unfolding line_of
empty_line = ap (λ (l : List ℕ). record { bytes = l; at = 160 }) (sym (append-nil (replicate 160 0)))

pub empty_ready : {line : Line} → line ≡ line_of [] → Ready 160 line
unfolding line_of
empty_ready {line} e =
    rw e (record {
      sound = record {
        size = refl;
        inside = omega arith;
        blank = λ i h. ap (λ (l : List ℕ). get_or l i 0) (append-nil (replicate 160 0)) ∙ get_or-replicate 160 i 0 0 h;
      };
      room = omega arith;
    })

shut : {line : Line} → Sound line → line ≡ line_of (held line)
unfolding line_of
shut {line} s =
    let at : line.at ≡ 160 - length (held line) = omega (arith, held_length s) in
    let size = length-take-le line.at line.bytes (omega (arith, s.size, s.inside)) in
    let front : take line.at line.bytes ≡ replicate line.at 0 =
    ext_get_or 0 _ _ (size ∙ sym (length-replicate line.at 0))
    (λ i h. let k : i < line.at = omega arith in get_or-take _ _ i 0 k ∙ s.blank i k ∙ sym (get_or-replicate _ i 0 0 k)) in
    let bytes = sym (take-append-drop line.at line.bytes)
    ∙ ap (λ (t : List ℕ). t ++ held line) (front ∙ ap (λ (n : ℕ). replicate n 0) at) in
    λ i. record { bytes = bytes i; at = at i }

none_held : (w : List ℕ) → w ++ held (line_of []) ≡ w
unfolding line_of
none_held w = append-nil w

pub finished : {k : ℕ} {w : List ℕ} {line r : Line} → line ≡ line_of [] → Wrote k w line r → r ≡ line_of w
finished {k} {w} {line} {r} e h = shut h.sound ∙ ap line_of (h.text ∙ ap (λ (l : Line). w ++ held l) e ∙ none_held w)

-- ---- a signed number

pub negative : (z : ℤ) (n : ℕ) → lt_z z (pos 0) ≡ true → n ≡ nat_abs z → 45 ∷ decimal n ≡ signed z
unfolding signed
negative (pos m) n h e = absurd (omega (arith, ltb-true m 0 h))
negative (negsuc m) n h e = ap (λ (k : ℕ). 45 ∷ decimal k) e

pub positive : (z : ℤ) (n : ℕ) → lt_z z (pos 0) ≡ false → n ≡ nat_abs z → decimal n ≡ signed z
unfolding signed
positive (pos m) n h e = ap decimal e
positive (negsuc m) n h e = no h
