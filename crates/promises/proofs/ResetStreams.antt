-- Demand 3 over a stream with resets, turn by turn: the coder takes a pair of samples and sends an octet, or is reset; the decoder takes an
-- octet in some mode, or is reset. After each octet since the last reset both bands are equal at both ends.
-- Assumes nothing.
use Rattle.std.specs.Prelude.{◌≡◌, refl, ℕ, zero, suc, ◌+◌, ◌*◌, ℤ, length, take}
use Rattle.std.proofs.Common.{sym, ap, ◌∙◌, arith, take_all}
use mathlib.Core.List.{List, [], ◌∷◌, map, flat_map, foldl}
use Rattle.std.proofs.Math.Seq.{take-nil}
use Rattle.g722.specs.Records.{reset_coder, reset_decoder}
use Rattle.g722.specs.Coding.{octet_of, octets_of, coder_step, coder_after}
use Rattle.g722.specs.Decoding.{decoder_step}
use Rattle.g722.specs.declared.Coder.{Coder}
use Rattle.g722.specs.declared.Decoder.{Decoder}
use Rattle.facts.specs.Told.{Told, decoder_run}
use Rattle.facts.specs.Upper.{upper_six}
use Rattle.promises.proofs.StepRuns.{received}
use Rattle.promises.proofs.SameBands.{SameBands}
use Rattle.promises.proofs.Ends.{take_map, AsSent, same_after, reset_same}
use Rattle.promises.proofs.Turns.{Turn, reset, more, on_turn, since, turned, given, given_in_turn}
use Rattle.promises.proofs.TurnsLaws.{since_map, turned_since, given_since}

-- two samples, which one octet is sent for
pub record Pair : Type 0 where
  pub first : ℤ
  pub second : ℤ

-- ---- one octet at each end

abbrev pub speak : Coder → Pair → Coder
speak c p = coder_step c p.first p.second

abbrev pub send : Coder → Pair → List ℕ
send c p = octet_of c p.first p.second ∷ []

abbrev pub hear : Decoder → Told → Decoder
hear d t = decoder_step t.mode d t.octet

-- ---- octets and resets, from reset

-- the records after turns, and what is sent, each reset in its place
abbrev pub coder_after_turns : List (Turn Pair) → Coder
coder_after_turns = turned speak reset_coder reset_coder

abbrev pub decoder_after_turns : List (Turn Told) → Decoder
decoder_after_turns = turned hear reset_decoder reset_decoder

abbrev pub sent_turns : List (Turn Pair) → List (Turn ℕ)
sent_turns = given_in_turn speak reset_coder send reset_coder

-- ---- pairs one after the other are a run over their samples, and so the ends go together

abbrev both : Pair → List ℤ
both p = p.first ∷ p.second ∷ []

spoken_run : (c : Coder) (ps : List Pair) → foldl speak c ps ≡ coder_after c (flat_map both ps)
unfolding coder_after flat_map
spoken_run c [] = refl
spoken_run c (p ∷ ps) = spoken_run (speak c p) ps

sent_run : (c : Coder) (ps : List Pair) → given speak reset_coder send c ps ≡ octets_of c (flat_map both ps)
unfolding given octets_of flat_map
sent_run c [] = refl
sent_run c (p ∷ ps) = ap (λ (l : List ℕ). octet_of c p.first p.second ∷ l) (sent_run (speak c p) ps)

heard_run_lem : (d : Decoder) (ts : List Told) → foldl hear d ts ≡ decoder_run d ts
unfolding decoder_run
heard_run_lem d [] = refl
heard_run_lem d (t ∷ ts) = heard_run_lem (hear d t) ts

take_both : (n : ℕ) (ps : List Pair) → take (2 * n) (flat_map both ps) ≡ flat_map both (take n ps)
unfolding flat_map
take_both zero ps = refl
take_both (suc n) [] = take-nil (2 * suc n)
take_both (suc n) (p ∷ ps) =
    let k : 2 * suc n ≡ suc (suc (2 * n)) = omega arith in
    rw k (ap (λ (l : List ℤ). p.first ∷ p.second ∷ l) (take_both n ps))

same_spoken : (n : ℕ) (ps : List Pair) (ts : List Told) → AsSent n (given speak reset_coder send reset_coder ps) ts
    → SameBands (foldl speak reset_coder (take n ps)) (foldl hear reset_decoder (take n ts))
same_spoken n ps ts e =
    rw (spoken_run reset_coder (take n ps), ← take_both n ps, heard_run_lem reset_decoder (take n ts))
    (same_after n reset_coder reset_decoder (flat_map both ps) ts reset_same (rw (sent_run reset_coder ps) at e))

sent_take : (n : ℕ) (c : Coder) (ps : List (Turn Pair))
    → take n (given_in_turn speak reset_coder send c ps) ≡ given_in_turn speak reset_coder send c (take n ps)
unfolding given_in_turn
sent_take zero c ps = refl
sent_take (suc n) c [] = refl
sent_take (suc n) c (reset ∷ ps) = ap (λ (l : List (Turn ℕ)). reset ∷ l) (sent_take n reset_coder ps)
sent_take (suc n) c (more p ∷ ps) = ap (λ (l : List (Turn ℕ)). more (octet_of c p.first p.second) ∷ l) (sent_take n (speak c p) ps)

module _ (ps : List (Turn Pair)) (ts : List (Turn Told)) where
  -- THE THEOREM. Any pairs and resets at the coder, any octets and resets at the decoder, in any modes: after the n-th octet since the
  -- last reset of both, wherever the first n since then came as they were sent, both bands are the same at both ends ..
  pub each_octet_since : (n : ℕ) → AsSent n (since (sent_turns ps)) (since ts)
      → SameBands (foldl speak reset_coder (take n (since ps))) (foldl hear reset_decoder (take n (since ts)))
  each_octet_since n e = same_spoken n (since ps) (since ts) (rw (given_since speak reset_coder send ps) at e)

  -- .. so where all that was sent since then has come, the records have the same bands, whatever was lost before
  pub all_octets_since : map upper_six (since (sent_turns ps)) ≡ map upper_six (received (since ts))
      → SameBands (coder_after_turns ps) (decoder_after_turns ts)
  all_octets_since e =
      let n = length (since ps) + length (since ts) in
      rw (turned_since speak reset_coder ps, turned_since hear reset_decoder ts)
      (rw (take_all n (since ps) (omega arith), take_all n (since ts) (omega arith)) at (each_octet_since n (ap (take n) e)))

-- ---- turn by turn

since_take : {A B : Type 0} (f : A → B) (n : ℕ) (ts : List (Turn A)) → since (take n (map (on_turn f) ts)) ≡ map f (since (take n ts))
since_take f n ts = ap since (take_map (on_turn f) n ts) ∙ since_map f (take n ts)

-- the octet of each turn at the decoder; and the upper six bits of the octet of each
abbrev pub received_turns : List (Turn Told) → List (Turn ℕ)
received_turns = map (on_turn (λ (t : Told). t.octet))

abbrev pub upper_sixes : List (Turn ℕ) → List (Turn ℕ)
upper_sixes = map (on_turn upper_six)

-- after the n-th turn, where the first n came as they were sent, resets at the same places; it is enough that those since the last reset
-- among them did
module _ (ps : List (Turn Pair)) (ts : List (Turn Told)) (n : ℕ) where
  pub each_turn_since : map upper_six (since (take n (sent_turns ps))) ≡ map upper_six (received (since (take n ts)))
      → SameBands (coder_after_turns (take n ps)) (decoder_after_turns (take n ts))
  each_turn_since e = all_octets_since (take n ps) (take n ts) (rw (sent_take n reset_coder ps) at e)

  pub each_turn : take n (upper_sixes (sent_turns ps)) ≡ take n (upper_sixes (received_turns ts))
      → SameBands (coder_after_turns (take n ps)) (decoder_after_turns (take n ts))
  each_turn e =
      each_turn_since (sym (since_take upper_six n (sent_turns ps)) ∙ ap since e ∙ since_take upper_six n (received_turns ts)
      ∙ ap (map upper_six) (since_take (λ (t : Told). t.octet) n ts))
