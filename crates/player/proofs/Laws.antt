-- A block played, as the code makes the calls: on plain values.
-- Assumes nothing.
use mathlib.Core.Path.{◌≡◌, refl, sym, ap, ◌∙◌}
use mathlib.Core.Bool.{true, false}
use mathlib.Core.List.{List, ◌++◌}
use Prim.Native.Nat.{ℕ, ◌+◌, ◌-◌, ◌*◌, ◌≤◌}
use native.Mathlib.Omega.{arith}
use lib.Dec.{ltb}
use lib.IntN.{ℤ, pos}
use lib.ListN.{length, get_or, take, drop, length-drop}
use lib.Seq.{length-take-le}
use borrow.Author.Tests.{le-ltb, eq-eqb, ne_eqb}
use Rattle.laws.specs.Outcome.{Outcome, Does, does}
use Rattle.g722.specs.Arithmetic.{overloads}
use Rattle.g722.specs.Quantise.{in_force}
use Rattle.g722.specs.Records.{good_decoder}
use Rattle.g722.specs.Coding.{misfit}
use Rattle.g722.specs.Decoding.{decoded}
use Rattle.g722.specs.Steps.{rls_of, rhs_of, heard_after, unpaired, heard, hear_call, joined, join_call}
use Rattle.g722.specs.declared.Decoder.{Decoder}
use Rattle.std.proofs.Common.{Result, Ok, Err}
use Rattle.g722.specs.Answers.{Answer, Decoded, answered}
use Rattle.g722.specs.Refused.{number_of, index_of}
use Rattle.g722.proofs.Tells.{refused_number}
use Rattle.g722.specs.declared.Accepted.{Accepted}
use Rattle.g722.specs.declared.Refusal.{Refusal}
use Rattle.facts.specs.Steps.{full_in_steps, samples_in_steps, record_in_steps}
use Rattle.facts.specs.Signals.{rls_length, rhs_length, rls_in_range, rhs_in_range, no_bad_pair, heard_good}
use Rattle.block.specs.Calls.{read_call}
use Rattle.block.specs.Formed.{Allowed}
use Rattle.block.specs.Read.{BlockRead}
use Rattle.playing.specs.Play.{decoder_for, not_played, reported, played_from, play_call}
use Rattle.playing.proofs.PlayCalls.{Bounds, read_bounds, start_good, play_called}
use Rattle.playing.specs.Answer.{Played, played_as}
use Rattle.playing.specs.declared.Player.{Player}

-- ---- octets heard and joined

-- a mode and octets as a block may have them, and a good record: neither step refuses
module _ (mode : ℕ) (d : Decoder) (os : List ℕ) (says : Allowed mode (length os)) (g : good_decoder d ≡ true) where
  abbrev rl : List ℤ
  rl = rls_of mode d.low os

  abbrev rh : List ℤ
  rh = rhs_of d.high os

  few : ltb 8000 (length os) ≡ false
  few = le-ltb 8000 (length os) (omega (arith, says))

  pub hear_run : (low high : List ℤ) → length low ≡ length os → length high ≡ length os → hear_call d mode os low high ≡ heard mode d os
  unfolding hear_call unpaired in_force
  hear_run low high a b =
      rw (le-ltb 3 mode says.mode_most, few, a, b, eq-eqb (length os) (length os) refl, g, ne_eqb mode 0 (λ z. omega (arith, says)))

  join_run : (samples : List ℤ) → length samples ≡ 2 * length os → join_call (heard_after d os) rl rh samples ≡ joined (heard_after d os) rl rh
  unfolding join_call misfit
  join_run samples e =
      let p = rls_length mode d.low os in
      let q = rhs_length d.high os in
      rw (
        no_bad_pair rl rh (q ∙ sym p) (rls_in_range mode d.low os) (rhs_in_range d.high os),
        heard_good d os g,
        p,
        q,
        e,
        few,
        eq-eqb (2 * length os) (2 * length os) refl,
        eq-eqb (length os) (length os) refl,
      )

  -- so the two in turn, the second over the signals that the first leaves, decode
  pub stepped : (low₀ high₀ samples : List ℤ) {first second : Decoded} {low high last : List ℤ}
      → length low₀ ≡ length os → length high₀ ≡ length os → length samples ≡ 2 * length os
      → Does (hear_call d mode os low₀ high₀) first (low, high)
      → Does (join_call first.next low high samples) second last
      → Does (decoded mode d os) second last
  unfolding heard_after heard joined decoded
  stepped low₀ high₀ samples a b e x y =
      let h = rw (hear_run low₀ high₀ a b) at x in
      let l = ap (λ (z : List ℤ × List ℤ). z.0) h.left in
      let r = ap (λ (z : List ℤ × List ℤ). z.1) h.left in
      let j = rw (l, r, h.answer, join_run samples e) at y in
      let full = sym (full_in_steps mode d os) in
      let next = sym (record_in_steps mode d os) in
      record {
        answer = j.answer ∙ λ i. record { number = 0; index = 0; limited = overloads (full i); next = next i };
        left = j.left ∙ sym (samples_in_steps mode d os);
      }

-- ---- a block

module _ (b : List ℕ) (r : BlockRead) (e : r ≡ read_call b) (h : r.number ≡ 0) where
  pub bounds : Bounds b r
  bounds = rw e (read_bounds b (sym (ap (λ (x : BlockRead). x.number) e) ∙ h))

  module _ (p : Player) (samples : List ℤ) (k : 2 * r.count ≤ length samples) (g : good_decoder p.decoder ≡ true) where
    abbrev octets : List ℕ
    octets = take (12 + r.count - 12) (drop 12 b)

    -- the block, the samples and the record are what the steps ask for
    pub ready : {d : Decoder} → d ≡ decoder_for p r
        → (Allowed r.mode (length octets) × (good_decoder d ≡ true)) × (length (take (2 * r.count) samples) ≡ 2 * length octets)
    ready f =
        let says = bounds.says in
        let n : 12 + r.count - 12 ≡ r.count = omega arith in
        let m : length octets ≡ r.count =
        rw n (length-take-le r.count (drop 12 b) (rw (length-drop, bounds.size) (omega (arith, says)))) in
        rw (m, f) ((says, start_good p r g), length-take-le (2 * r.count) samples k)

    pub played : {d : Decoder} {done : Decoded} {last : List ℤ} {answer : Played} → d ≡ decoder_for p r
        → Does (decoded r.mode d octets) done last
        → answer ≡ reported r done (last ++ drop (2 * r.count) samples)
        → Does (play_call p b samples) answer (last ++ drop (2 * r.count) samples)
    unfolding played_from
    played f x a =
        let n : 12 + r.count - 12 ≡ r.count = omega arith in
        let y = rw (n, f) at x in
        let rest = drop (2 * r.count) samples in
        does (play_called p b samples r e h k g) (a ∙ λ i. reported r (y.answer i) (y.left i ++ rest)) (λ i. y.left i ++ rest)

-- what is reported, from the samples at its ends
pub as_reported : (r : BlockRead) (done : Decoded) (samples : List ℤ) {first last : ℤ}
    → first ≡ get_or samples 0 (pos 0) → last ≡ get_or samples (2 * r.count - 1) (pos 0)
    → record {
      number = 0;
      index = 0;
      next = record { decoder = done.next; begun = true; take = r.take };
      take = r.take;
      block = r.block;
      mode = r.mode;
      count = r.count;
      first = first;
      last = last;
      limited = done.limited;
    }
    ≡ reported r done samples
unfolding reported
as_reported r done samples f l = rw (f, l)

-- an accepted answer is the same to a call with any record
pub whoever : {R L : Type 0} {x : Outcome (Answer R) L} (c d : R) (r : Result (Accepted R) Refusal) {l : L} → x.answer.number ≡ 0
    → Does x (answered c r) l → Does x (answered d r) l
whoever c d (Ok a) z h = h
whoever c d (Err r) z h = absurd (refused_number r (ap (λ a. a.number) h.answer ∙ z))

-- what reading refuses is not played
pub unread : (p : Player) (r : Refusal) → index_of r ≡ 0 → played_as p (Err r) ≡ not_played (number_of r) p
unread p r e =
    ap (λ (n : ℕ). record { number = number_of r; index = n; next = p; take = 0; block = 0; mode = 0; count = 0; first = pos 0; last = pos 0; limited = 0 }) e
