-- Equal bands at both ends stay equal over one octet, whose upper six bits (H1 H2 L1..L4) come as they were sent: of both sub-band coders
-- without the transmit filter, and so of coding.
-- Assumes nothing.
use Rattle.std.specs.Prelude.{◌≡◌, List, [], ◌∷◌, ℕ, ◌/◌, ℤ, drop}
use Rattle.std.proofs.Common.{sym, ◌∙◌}
use Rattle.std.proofs.Math.Path.{ap}
use Rattle.g722.specs.Arithmetic.{limit}
use Rattle.g722.specs.Band.{low_after, high_after}
use Rattle.g722.specs.Mirror.{lowt, hight}
use Rattle.g722.specs.Octet.{octet, high_word, low_word}
use Rattle.g722.specs.Coding.{window, low_word_of, high_word_of, il_of, ih_of, octet_of, coder_step}
use Rattle.g722.specs.Steps.{band_after, heard_after}
use Rattle.g722.specs.declared.Band.{Band}
use Rattle.g722.specs.declared.Coder.{Coder}
use Rattle.g722.specs.declared.Decoder.{Decoder}
use Rattle.facts.specs.Sent.{quantl_small, low_of_octet, high_of_octet}
use Rattle.facts.specs.Upper.{upper_six, low_by_four, upper_low, upper_high}

-- both bands: predictors, log factors and scale factors
pub record SameBands (c : Coder) (d : Decoder) : Type 0 where
  pub low : c.low ≡ d.low
  pub high : c.high ≡ d.high

-- the words of a low and a high signal, and the octet of both
module _ (c : Coder) (xl xh : ℤ) where
  abbrev pub low_sent : ℕ
  low_sent = low_word_of c.low xl

  abbrev pub high_sent : ℕ
  high_sent = high_word_of c.high xh

  abbrev pub both_sent : ℕ
  both_sent = octet high_sent low_sent

  -- the octet holds what the coder's loop used
  low_sent_lem : low_word both_sent ≡ low_sent
  low_sent_lem = low_of_octet high_sent low_sent (quantl_small _ _)

  high_sent_lem : high_word both_sent ≡ high_sent
  high_sent_lem = high_of_octet high_sent low_sent (quantl_small _ _)

  -- one octet, by the two sub-band coders, whatever past samples the coder is left with
  pub same_words : (past : List ℤ) (d : Decoder) (o : ℕ) → SameBands c d → upper_six both_sent ≡ upper_six o
      → SameBands (record { low = low_after c.low low_sent; high = high_after c.high high_sent; past = past }) (heard_after d (o ∷ []))
  unfolding heard_after band_after
  same_words past d o b e =
      record {
        low =
            low_by_four c.low low_sent (low_word o) (ap (λ (w : ℕ). w / 4) (sym low_sent_lem) ∙ upper_low both_sent o e)
            ∙ ap (λ (t : Band). low_after t (low_word o)) b.low;
        high =
            ap (high_after c.high) (sym high_sent_lem ∙ upper_high both_sent o e)
            ∙ ap (λ (t : Band). high_after t (high_word o)) b.high;
      }

-- one octet, out of a pair of samples
pub same_samples : (c : Coder) (d : Decoder) (x y : ℤ) (o : ℕ) → SameBands c d → upper_six (octet_of c x y) ≡ upper_six o
    → SameBands (coder_step c x y) (heard_after d (o ∷ []))
unfolding octet_of coder_step il_of ih_of
same_samples c d x y o b e =
    let w = window c x y in
    same_words c (limit (lowt w)) (limit (hight w)) (drop 2 w) d o b e
