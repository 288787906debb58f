-- What the counts of calls mean, over any sequence of them, refused ones among them: together they are the number of values in full
-- that are out of range, over one run of what the accepted calls were given. Of coding, of decoding, and of its two steps.
-- Assumes nothing.
use Rattle.std.specs.Prelude.{◌≡◌, refl, List, ◌++◌, ◌+◌, ℤ, length}
use Rattle.std.proofs.Common.{sym, ap, ap₂, ◌∙◌, eqb-true}
use Rattle.std.proofs.lemmas.Bool.{eqb-false}
use Rattle.g722.specs.Arithmetic.{overloads}
use Rattle.g722.specs.Quantise.{in_force}
use Rattle.g722.specs.Coding.{split_in_full, coded}
use Rattle.g722.specs.Decoding.{samples_in_full, decoded}
use Rattle.g722.specs.Steps.{signals_of, yls_of, yhs_of, heard, joined_in_full, joined_after, joined}
use Rattle.g722.specs.declared.Coder.{Coder}
use Rattle.g722.specs.declared.Decoder.{Decoder}
use Rattle.facts.specs.Overload.{places_out, overloads_are, overloads_append}
use Rattle.facts.specs.CodedRuns as coded-runs
use Rattle.facts.specs.Told.{full_run, marked, full_run_lem, full_join}
use Rattle.promises.proofs.Accepted.{coded_run_lem, decoded_run, heard_run_lem}
use Rattle.promises.proofs.RefusedLaws.{code_beside, decode_beside, hear_beside, join_beside}
use Rattle.promises.proofs.ThroughLaws.{of_as_one_run}
use Rattle.promises.proofs.StepRuns.{received, received_marked, lows_run, yls_run, yls_marked, yls_cut, yhs_cut, lows, highs, full_cut}
use Rattle.promises.proofs.Sequences.{CodeInput, coding, coding_runs, samples_taken, whole}
use Rattle.promises.proofs.Sequences.{DecodeInput, decoding, decoding_runs, octets_taken}
use Rattle.promises.proofs.HearCalls.{HearInput, hearing, hearing_runs, octets_heard}
use Rattle.promises.proofs.JoinCalls.{JoinInput, joining, joining_runs, joins, pairs_taken}
use Rattle.promises.proofs.Lamp.{Counts, count_through, counts_add_up, two_rows}

-- ---- coding: XL and XH

pub coding_counts : Counts coding
unfolding coded
coding_counts =
    record {
      limited = λ a. a.limited;
      full = λ c k. split_in_full c.past k.samples;
      counted = λ c k e. ap (λ o. o.answer.limited) (coded_run_lem c k.samples k.octets (eqb-true _ _ e));
      dark = λ c k e. (code_beside c k.samples k.octets).dark (eqb-false _ _ e);
    }

pub coded_count : (c : Coder) (ks : List CodeInput)
    → count_through coding coding_counts c ks ≡ overloads (split_in_full c.past (samples_taken c ks))
unfolding split_in_full coding_counts
coded_count c ks =
    counts_add_up coding coding_counts c ks
    ∙ ap overloads (of_as_one_run coding coding_runs (λ b k. split_in_full b.past k.samples) (λ b s. split_in_full b.past s)
    (λ b. refl) (λ b k e. refl) (λ b k e rest. coded-runs.full_join b rest (whole b k (eqb-true _ _ e))) c ks)

-- ---- decoding: its samples

pub decoding_counts : Counts decoding
unfolding decoded
decoding_counts =
    record {
      limited = λ a. a.limited;
      full = λ d k. samples_in_full (in_force k.told) d k.octets;
      counted = λ d k e. ap (λ o. o.answer.limited) (decoded_run d k.told k.octets k.samples (eqb-true _ _ e));
      dark = λ d k e. (decode_beside d k.told k.octets k.samples).dark (eqb-false _ _ e);
    }

pub decoded_count : (d : Decoder) (ks : List DecodeInput)
    → count_through decoding decoding_counts d ks ≡ overloads (full_run d (octets_taken d ks))
unfolding full_run decoding_counts
decoded_count d ks =
    counts_add_up decoding decoding_counts d ks
    ∙ ap overloads (of_as_one_run decoding decoding_runs (λ b k. samples_in_full (in_force k.told) b k.octets) full_run
    (λ b. refl) (λ b k e. full_run_lem (in_force k.told) b k.octets)
    (λ b k e rest. full_join b (marked (in_force k.told) k.octets) rest) d ks)

-- .. which is: how many output places there are at which the sample in full is out of range
pub decoded_places : (d : Decoder) (ks : List DecodeInput)
    → count_through decoding decoding_counts d ks ≡ length (places_out 0 (full_run d (octets_taken d ks)))
decoded_places d ks = decoded_count d ks ∙ overloads_are (full_run d (octets_taken d ks))

-- ---- the first step: its signals, low and high

abbrev low_full : Decoder → HearInput → List ℤ
low_full d k = yls_of (in_force k.told) d.low k.octets

abbrev high_full : Decoder → HearInput → List ℤ
high_full d k = yhs_of d.high k.octets

pub hearing_counts : Counts hearing
unfolding heard
hearing_counts =
    record {
      limited = λ a. a.limited;
      full = λ d k. low_full d k ++ high_full d k;
      counted = λ d k e.
          ap (λ o. o.answer.limited) (heard_run_lem d k.told k.octets k.low k.high (eqb-true _ _ e))
          ∙ sym (overloads_append (low_full d k) (high_full d k));
      dark = λ d k e. (hear_beside d k.told k.octets k.low k.high).dark (eqb-false _ _ e);
    }

pub heard_count : (d : Decoder) (ks : List HearInput)
    → count_through hearing hearing_counts d ks
    ≡ overloads (yls_run d.low (octets_heard d ks)) + overloads (yhs_of d.high (received (octets_heard d ks)))
unfolding yls_run lows_run yhs_of signals_of hearing_counts
heard_count d ks =
    counts_add_up hearing hearing_counts d ks
    ∙ two_rows hearing low_full high_full d ks
    ∙ ap₂ (λ (l h : List ℤ). overloads l + overloads h)
    (of_as_one_run hearing hearing_runs low_full (λ b ts. yls_run b.low ts) (λ b. refl)
    (λ b k e. sym (yls_marked (in_force k.told) b.low k.octets)) (λ b k e rest. yls_cut b (hearing.given k) rest) d ks)
    (of_as_one_run hearing hearing_runs high_full (λ b ts. yhs_of b.high (received ts)) (λ b. refl)
    (λ b k e. ap (yhs_of b.high) (sym (received_marked (in_force k.told) k.octets)))
    (λ b k e rest. yhs_cut b (hearing.given k) rest) d ks)

-- ---- the second step: its samples

pub joining_counts : Counts joining
unfolding joined
joining_counts =
    record {
      limited = λ a. a.limited;
      full = λ d k. joined_in_full d.past (lows (joining.given k)) (highs (joining.given k));
      counted = λ d k e. ap (λ o. o.answer.limited) (joins d k (eqb-true _ _ e));
      dark = λ d k e. (join_beside d k.low k.high k.samples).dark (eqb-false _ _ e);
    }

pub joined_count : (d : Decoder) (ks : List JoinInput)
    → count_through joining joining_counts d ks ≡ overloads (joined_in_full d.past (lows (pairs_taken d ks)) (highs (pairs_taken d ks)))
unfolding joined_in_full joined_after joining_counts
joined_count d ks =
    counts_add_up joining joining_counts d ks
    ∙ ap overloads (of_as_one_run joining joining_runs
    (λ b k. joined_in_full b.past (lows (joining.given k)) (highs (joining.given k)))
    (λ b hs. joined_in_full b.past (lows hs) (highs hs)) (λ b. refl) (λ b k e. refl)
    (λ b k e rest. full_cut b.past (joining.given k) rest) d ks)
