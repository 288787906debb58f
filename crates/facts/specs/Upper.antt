-- The loop at both ends goes by an octet's upper six bits alone, H1 H2 L1..L4.
-- Assumes nothing.
use Rattle.std.specs.Prelude.{◌≡◌, ℕ, ◌/◌, ◌%◌, pos, get_or}
use Rattle.std.proofs.Common.{sym, ap, ◌∙◌, shr-shr}
use Rattle.std.proofs.Math.Pow.{field}
use Rattle.g722.specs.Tables.{qq4, wl}
use Rattle.g722.specs.Words.{from_four}
use Rattle.g722.specs.Quantise.{inverse, invqal, logsc, logscl, scalel, low_factors}
use Rattle.g722.specs.Band.{next_band, low_after}
use Rattle.g722.specs.Octet.{high_word, low_word}
use Rattle.g722.specs.declared.Band.{Band}

abbrev pub upper_six : ℕ → ℕ
upper_six o = o / 4

pub low_by_four : (s : Band) (il ir : ℕ) → il / 4 ≡ ir / 4 → low_after s il ≡ low_after s ir
unfolding low_after invqal low_factors logscl
low_by_four s il ir e =
    ap (λ (w : ℕ). next_band s (inverse qq4 (from_four w) s.factors.scale) (record {
      log = logsc (pos 18432) (get_or wl (from_four w).number (pos 0)) s.factors.log;
      scale = scalel (logsc (pos 18432) (get_or wl (from_four w).number (pos 0)) s.factors.log);
    })) e

pub upper_low : (o r : ℕ) → upper_six o ≡ upper_six r → low_word o / 4 ≡ low_word r / 4
upper_low o r e = field o 4 2 ∙ ap (λ (u : ℕ). u % 16) e ∙ sym (field r 4 2)

pub upper_high : (o r : ℕ) → upper_six o ≡ upper_six r → high_word o ≡ high_word r
upper_high o r e = sym (shr-shr o 2 4) ∙ ap (λ (u : ℕ). u / 16) e ∙ shr-shr r 2 4
