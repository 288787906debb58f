-- Demand 3, its first half: the two ends never part.
-- From reset, with every octet decoded once and in order, its upper six bits (H1 H2 L1..L4) as sent: after each octet both bands
-- are equal at both ends, whatever stands in the last two bits and whichever modes were told, whatever calls were refused, also
-- inside a call and while the decoder is behind. Nothing is said of lost or repeated octets: after those the ends may part,
-- until both are reset. The first step of decoding alone moves the bands, so it is proved of that, and is so of decoding.
-- Assumes nothing.
use Rattle.std.specs.Prelude.{◌≡◌, refl, ℕ, zero, suc, ◌+◌, ◌*◌, ℤ, length, take}
use Rattle.std.proofs.Common.{sym, ap, ◌∙◌, arith, take_all}
use mathlib.Core.List.{List, [], ◌∷◌, map}
use Rattle.std.proofs.Math.Seq.{take-length}
use Rattle.g722.specs.Records.{reset_coder, reset_decoder}
use Rattle.g722.specs.Coding.{octets_of, coder_after}
use Rattle.g722.specs.Steps.{heard_after, joined_after}
use Rattle.facts.specs.Upper.{upper_six}
use Rattle.g722.specs.declared.Coder.{Coder}
use Rattle.g722.specs.declared.Decoder.{Decoder}
use Rattle.facts.specs.Told.{Told, decoder_run}
use Rattle.promises.proofs.SameBands.{SameBands}
use Rattle.promises.proofs.StepRuns.{received, decoder_run_in_steps}
use Rattle.promises.proofs.Sequences.{CodeInput, coder_through, octets_through, samples_taken, coder_as_one_run, octets_as_one_run}
use Rattle.promises.proofs.Sequences.{DecodeInput, decoder_through, octets_taken, decoder_as_one_run}
use Rattle.promises.proofs.SameHeard.{same_heard}

-- ---- a run at each end, from equal bands

-- after all that came, as long as it came as it was sent
pub heard_behind : (c : Coder) (d : Decoder) (s : List ℤ) (os : List ℕ) → SameBands c d
    → take (length os) (map upper_six (octets_of c s)) ≡ take (length os) (map upper_six os)
    → SameBands (coder_after c (take (2 * length os) s)) (heard_after d os)
heard_behind c d s os b e = rw (take-length os) at (same_heard (length os) c d s os b e)

-- and after all that was sent, once it has come
pub heard_at_end : (c : Coder) (d : Decoder) (s : List ℤ) (os : List ℕ) → SameBands c d
    → map upper_six (octets_of c s) ≡ map upper_six os → SameBands (coder_after c s) (heard_after d os)
heard_at_end c d s os b e =
    let n = length s + length os in
    rw (take_all (2 * n) s (omega arith), take_all n os (omega arith)) at (same_heard n c d s os b (ap (take n) e))

-- ---- decoding in whatever modes

-- a run of the decoder has the bands of the first step's
same_run : (c : Coder) (d : Decoder) (ts : List Told) → SameBands c (heard_after d (received ts)) → SameBands c (decoder_run d ts)
unfolding joined_after
same_run c d ts b =
    let e = decoder_run_in_steps d ts in
    record { low = b.low ∙ ap (λ (r : Decoder). r.low) (sym e); high = b.high ∙ ap (λ (r : Decoder). r.high) (sym e) }

pub take_map : {A B : Type 0} (f : A → B) (n : ℕ) (l : List A) → take n (map f l) ≡ map f (take n l)
take_map f zero l = refl
take_map f (suc n) [] = refl
take_map f (suc n) (a ∷ l) = ap (◌∷◌ (f a)) (take_map f n l)

-- the first n octets came as they were sent, as far as their upper six bits go
abbrev pub AsSent : ℕ → List ℕ → List Told → Type 0
AsSent n sent ts = take n (map upper_six sent) ≡ take n (map upper_six (received ts))

-- so it is the same, of n octets, of all that came and of all that was sent
pub same_after : (n : ℕ) (c : Coder) (d : Decoder) (s : List ℤ) (ts : List Told) → SameBands c d → AsSent n (octets_of c s) ts
    → SameBands (coder_after c (take (2 * n) s)) (decoder_run d (take n ts))
same_after n c d s ts b e =
    same_run _ d (take n ts) (rw (take_map (λ (t : Told). t.octet) n ts) at (same_heard n c d s (received ts) b e))

pub same_behind : (c : Coder) (d : Decoder) (s : List ℤ) (ts : List Told) → SameBands c d → AsSent (length ts) (octets_of c s) ts
    → SameBands (coder_after c (take (2 * length ts) s)) (decoder_run d ts)
same_behind c d s ts b e = rw (take-length ts) at (same_after (length ts) c d s ts b e)

pub same_at_end : (c : Coder) (d : Decoder) (s : List ℤ) (ts : List Told) → SameBands c d
    → map upper_six (octets_of c s) ≡ map upper_six (received ts) → SameBands (coder_after c s) (decoder_run d ts)
same_at_end c d s ts b e = same_run _ d ts (heard_at_end c d s (received ts) b e)

-- ---- calls from reset

pub reset_same : SameBands reset_coder reset_decoder
unfolding reset_coder reset_decoder
reset_same = record { low = refl; high = refl }

-- THE THEOREM. Any coding calls from reset, and any octets received with any modes in force: wherever the first n came as they
-- were sent, both bands are the same at both ends after the n-th
pub ends_equal : (ks : List CodeInput) (ts : List Told) (n : ℕ) → AsSent n (octets_through reset_coder ks) ts
    → SameBands (coder_after reset_coder (take (2 * n) (samples_taken reset_coder ks))) (decoder_run reset_decoder (take n ts))
ends_equal ks ts n e =
    same_after n reset_coder reset_decoder (samples_taken reset_coder ks) ts reset_same (rw (octets_as_one_run reset_coder ks) at e)

module _ (ks : List CodeInput) (ds : List DecodeInput) where
  abbrev came : List Told
  came = octets_taken reset_decoder ds

  -- so of the record that decoding calls give back, wherever they are cut, while they are behind what was sent
  pub record_behind : AsSent (length came) (octets_through reset_coder ks) came
      → SameBands (coder_after reset_coder (take (2 * length came) (samples_taken reset_coder ks))) (decoder_through reset_decoder ds)
  record_behind e =
      rw (decoder_as_one_run reset_decoder ds)
      (same_behind reset_coder reset_decoder (samples_taken reset_coder ks) came reset_same (rw (octets_as_one_run reset_coder ks) at e))

  -- and of both records, where all that was sent has come
  pub records_equal : map upper_six (octets_through reset_coder ks) ≡ map upper_six (received came)
      → SameBands (coder_through reset_coder ks) (decoder_through reset_decoder ds)
  records_equal e =
      rw (coder_as_one_run reset_coder ks, decoder_as_one_run reset_decoder ds)
      (same_at_end reset_coder reset_decoder (samples_taken reset_coder ks) came reset_same (rw (octets_as_one_run reset_coder ks) at e))
