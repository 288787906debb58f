-- Both bands over a run of signals, one band after the other: the words of each alone, put together, are the octets.
-- Assumes nothing.
use Rattle.std.specs.Prelude.{◌≡◌, refl, Bool, true, false, ℕ, ◌+◌, ◌*◌, ◌/◌, ◌%◌, ◌<◌, ℤ, length}
use Rattle.std.proofs.Common.{sym, ◌∙◌, arith}
use mathlib.Core.List.{List, [], ◌∷◌, zip_with}
use Rattle.laws.specs.Outcome.{Does}
use Rattle.laws.specs.Machine.{outs, last}
use Rattle.facts.specs.Sent.{quantl_small, quanth_small}
use Rattle.g722.specs.Octet.{octet}
use Rattle.g722.specs.Coding.{low_word_of, high_word_of}
use Rattle.g722.specs.declared.Band.{Band}
use Rattle.sweep.specs.Block.{word_of, coded_next}
use Rattle.coder.specs.declared.BothBands.{BothBands}
use Rattle.coder.specs.Step.{octets_by, bands_after, bands_run}

-- over a run
abbrev pub words_by : Bool → Band → List ℤ → List ℕ
words_by high = outs (word_of high) (coded_next high)

abbrev pub band_by : Bool → Band → List ℤ → Band
band_by high = last (coded_next high)

-- the octet of the high band's word and the low band's
abbrev pub together : ℕ → ℕ → ℕ
together h l = l % 64 + 64 * (h / 4 % 4)

two_words : (ih il : ℕ) → ih < 4 → il < 64 → octet ih il ≡ together (ih * 4) il
unfolding octet
two_words ih il h k = omega arith

-- THE LAWS: so are the octets of a run, and so the bands after it
octets_by_band : (low high : Band) (xls xhs : List ℤ) → length xhs ≡ length xls
    → octets_by low high xls xhs ≡ zip_with together (words_by true high xhs) (words_by false low xls)
unfolding octets_by outs zip_with word_of coded_next
octets_by_band low high [] [] e = refl
octets_by_band low high [] (xh ∷ xhs) e = absurd (omega arith)
octets_by_band low high (xl ∷ xls) [] e = absurd (omega arith)
octets_by_band low high (xl ∷ xls) (xh ∷ xhs) e =
    let first = two_words (high_word_of high xh) (low_word_of low xl) (quanth_small _ _) (quantl_small _ _) in
    let rest = octets_by_band (coded_next false low xl) (coded_next true high xh) xls xhs (omega arith) in
    λ i. first i ∷ rest i

bands_by_band : (low high : Band) (xls xhs : List ℤ) → length xhs ≡ length xls
    → ◌≡◌ {A = BothBands} (bands_after low high xls xhs) (record { low = band_by false low xls; high = band_by true high xhs })
unfolding bands_after last coded_next
bands_by_band low high [] [] e = refl
bands_by_band low high [] (xh ∷ xhs) e = absurd (omega arith)
bands_by_band low high (xl ∷ xls) [] e = absurd (omega arith)
bands_by_band low high (xl ∷ xls) (xh ∷ xhs) e = bands_by_band (coded_next false low xl) (coded_next true high xh) xls xhs (omega arith)

-- what the code makes of a run, step by step
pub coded_by_band : (low high : Band) (xls xhs : List ℤ) {l h : Band} {ils ihs octets : List ℕ} → length xhs ≡ length xls
    → l ≡ band_by false low xls → ils ≡ words_by false low xls → h ≡ band_by true high xhs → ihs ≡ words_by true high xhs
    → octets ≡ zip_with together ihs ils → Does (bands_run low high xls xhs) (record { low = l; high = h }) octets
coded_by_band low high xls xhs e l≡ ils≡ h≡ ihs≡ octets≡ =
    record {
      answer = (λ i. record { low = l≡ i; high = h≡ i }) ∙ sym (bands_by_band low high xls xhs e);
      left = octets≡ ∙ (λ i. zip_with together (ihs≡ i) (ils≡ i)) ∙ sym (octets_by_band low high xls xhs e);
    }
