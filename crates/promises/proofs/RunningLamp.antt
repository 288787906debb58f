-- What the counts of running calls mean: of whatever the contracts of `coder::code` and `decoder::decode` allow to be answered.
-- Assumes nothing.
use Rattle.std.specs.Prelude.{◌≡◌, List, map, ℕ}
use Rattle.std.proofs.Common.{sym, ap, ◌∙◌}
use Rattle.g722.specs.Arithmetic.{overloads}
use Rattle.g722.specs.Coding.{split_in_full}
use Rattle.g722.specs.declared.Coder.{Coder}
use Rattle.g722.specs.declared.Decoder.{Decoder}
use Rattle.facts.specs.Told.{full_run}
use Rattle.promises.proofs.Through.{Calls}
use Rattle.promises.proofs.Lamp.{Counts, total, count_through}
use Rattle.promises.proofs.LampCalls.{coding_counts, coded_count, decoding_counts, decoded_count}
use Rattle.promises.proofs.Made.{Made, MadeFrom}
use Rattle.promises.proofs.MadeLaws.{made_answers, made_taken}
use Rattle.promises.proofs.Running.{Coding, Decoding}
use Rattle.promises.proofs.RunningLaws.{codings, decodings, spoken, came}

-- what calls counted that were made: the sum over their answers
abbrev pub count_of : {C : Calls} (M : Made C) → Counts C → List M.Call → ℕ
count_of M L ks = total (map L.limited (map M.answer ks))

made_count : {C : Calls} (M : Made C) (L : Counts C) (s : C.State) (ks : List M.Call) → MadeFrom M s ks
    → count_of M L ks ≡ count_through C L s (map M.input ks)
made_count M L s ks m = ap (λ l. total (map L.limited l)) (made_answers M s ks m)

-- THE THEOREMS: how many XL and XH are out of range in full, over all samples that accepted calls were given ..
pub running_coded_count : (c : Coder) (ks : List Coding) → MadeFrom codings c ks
    → count_of codings coding_counts ks ≡ overloads (split_in_full c.past (spoken ks))
running_coded_count c ks m =
    made_count codings coding_counts c ks m
    ∙ coded_count c (map codings.input ks)
    ∙ ap (λ l. overloads (split_in_full c.past l)) (sym (made_taken codings c ks m))

-- .. and how many samples, over all octets
pub running_decoded_count : (d : Decoder) (ks : List Decoding) → MadeFrom decodings d ks
    → count_of decodings decoding_counts ks ≡ overloads (full_run d (came ks))
running_decoded_count d ks m =
    made_count decodings decoding_counts d ks m
    ∙ decoded_count d (map decodings.input ks)
    ∙ ap (λ l. overloads (full_run d l)) (sym (made_taken decodings d ks m))
