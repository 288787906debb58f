-- Coding a run is its filter and then its bands, on plain values.
-- Assumes nothing.
use mathlib.Core.Path.{◌≡◌, refl, sym, ap, ◌∙◌}
use mathlib.Core.List.{List, [], ◌∷◌}
use Prim.Native.Nat.{ℕ}
use lib.IntN.{ℤ}
use Rattle.laws.specs.Outcome.{Does}
use Rattle.g722.specs.Arithmetic.{overloads}
use Rattle.g722.specs.Mirror.{lowt, hight}
use Rattle.g722.specs.Coding.{window, il_of, ih_of, octet_of, coder_step, octets_of, coder_after, split_in_full, coded}
use Rattle.g722.specs.declared.Coder.{Coder}
use Rattle.g722.specs.Answers.{Coded}
use Rattle.facts.specs.Blocks.{coder_done}
use Rattle.mirror.specs.declared.Parted.{Parted}
use Rattle.mirror.specs.Block.{filtered_by, past_after, split_run}
use Rattle.coder.specs.declared.BothBands.{BothBands}
use Rattle.coder.specs.Step.{octets_by, bands_after, bands_run}

octets_in_turn : (c : Coder) (s : List ℤ)
    → octets_of c s ≡ octets_by c.low c.high (filtered_by lowt c.past s) (filtered_by hight c.past s)
unfolding octets_of octet_of il_of ih_of coder_step window octets_by filtered_by
octets_in_turn c [] = refl
octets_in_turn c (x ∷ []) = refl
octets_in_turn c (x ∷ y ∷ rest) = ap (λ (l : List ℕ). octet_of c x y ∷ l) (octets_in_turn (coder_step c x y) rest)

record_in_turn : (c : Coder) (s : List ℤ)
    → let b = bands_after c.low c.high (filtered_by lowt c.past s) (filtered_by hight c.past s) in
    ◌≡◌ {A = Coder} (coder_after c s) (record { low = b.low; high = b.high; past = past_after c.past s })
unfolding coder_after coder_step il_of ih_of window bands_after filtered_by past_after
record_in_turn c [] = refl
record_in_turn c (x ∷ []) = refl
record_in_turn c (x ∷ y ∷ rest) = record_in_turn (coder_step c x y) rest

-- what the code makes of a run, step by step
module _ (c : Coder) (s : List ℤ) where
  pub coded_in_turn : {f : Parted} {xl xh : List ℤ} {b : BothBands} {o : List ℕ}
      → Does (split_run c.past s) f (xl, xh) → Does (bands_run c.low c.high xl xh) b o
      → Does (coded c s) (coder_done f.limited (record { low = b.low; high = b.high; past = f.past })) o
  unfolding coded
  coded_in_turn f b =
      let bands = b.answer ∙ λ i. bands_after c.low c.high (f.left i).0 (f.left i).1 in
      let next : Coder → Coded = λ n. record { number = 0; index = 0; limited = overloads (split_in_full c.past s); next = n } in
      record {
        answer =
            (λ i. record {
              number = 0;
              index = 0;
              limited = (f.answer i).limited;
              next = record { low = (bands i).low; high = (bands i).high; past = (f.answer i).past };
            })
            ∙ ap next (sym (record_in_turn c s));
        left = b.left ∙ (λ i. octets_by c.low c.high (f.left i).0 (f.left i).1) ∙ sym (octets_in_turn c s);
      }
