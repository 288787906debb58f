-- A block played, for every input: which number is given when, that a refusal changes nothing, and what is heard.
-- Assumes nothing.
use Rattle.std.specs.Prelude.{◌≡◌, true, false, List, ◌++◌, ℕ, ◌-◌, ◌*◌, ◌≤◌, ◌<◌, eqb, ltb, ℤ, pos, length, get_or, take, drop}
use Rattle.std.proofs.Math.Path.{refl}
use Rattle.std.proofs.Common.{arith, length-drop, length-take-le}
use borrow.Author.Tests.{lt-ltb, le-ltb, ltb-true, ltb-false, eq-eqb, ne_eqb, eqb-true, eqb-false}
use Rattle.laws.specs.Order.{by_test}
use Rattle.g722.specs.Records.{good_decoder}
use Rattle.g722.specs.Arithmetic.{overloads}
use Rattle.g722.specs.Decoding.{samples_in_full, samples_of, decoder_after, decoded}
use Rattle.facts.specs.Good.{decoder_reset_good}
use Rattle.block.specs.Calls.{read_call}
use Rattle.block.specs.Formed.{Allowed}
use Rattle.block.proofs.Numbers.{read_sound, read_done}
use Rattle.block.specs.Read.{BlockRead}
use Rattle.playing.specs.declared.Player.{Player}
use Rattle.playing.specs.Play.{afresh, decoder_for, not_played, octets_in, reported, played_from, play_call}

-- the bounds of a block that reads well
pub record Bounds (b : List ℕ) (r : BlockRead) : Type 0 where
  pub size : length b ≡ 512
  pub says : Allowed r.mode r.count

pub read_bounds : (b : List ℕ) → (read_call b).number ≡ 0 → Bounds b (read_call b)
read_bounds b z =
    let s = read_sound b z in
    rw (read_done b s.size s.right s.formed) (record { size = s.size; says = s.formed.says })

pub octets_length : (b : List ℕ) → (read_call b).number ≡ 0 → length (octets_in b) ≡ (read_call b).count
octets_length b z =
    let p = read_bounds b z in
    let most = p.says.count_most in
    length-take-le (read_call b).count (drop 12 b) (rw (length-drop, p.size) (omega arith))

-- ---- case by case, from what the block reads as

module _ (p : Player) (b : List ℕ) (samples : List ℤ) (r : BlockRead) (e : r ≡ read_call b) where
  pub play_unread : (r.number ≡ 0 → ⊥) → play_call p b samples ≡ record { answer = not_played r.number p; left = samples }
  unfolding play_call
  play_unread h = rw (← e, ne_eqb r.number 0 h)

  module _ (h : r.number ≡ 0) where
    pub play_narrow : length samples < 2 * r.count → play_call p b samples ≡ record { answer = not_played 3 p; left = samples }
    unfolding play_call
    play_narrow k = rw (← e, eq-eqb r.number 0 h, lt-ltb (length samples) (2 * r.count) k)

    module _ (k : 2 * r.count ≤ length samples) where
      pub play_broken : good_decoder p.decoder ≡ false → play_call p b samples ≡ record { answer = not_played 2 p; left = samples }
      unfolding play_call
      play_broken g = rw (← e, eq-eqb r.number 0 h, le-ltb (length samples) (2 * r.count) k, g)

      pub play_called : good_decoder p.decoder ≡ true
          → play_call p b samples
          ≡ played_from (decoder_for p r) r (take r.count (drop 12 b)) (drop (2 * r.count) samples)
      unfolding play_call
      play_called g = rw (← e, eq-eqb r.number 0 h, le-ltb (length samples) (2 * r.count) k, g)

-- what was played, then, in full
module _ (p : Player) (b : List ℕ) (samples : List ℤ) (h : (read_call b).number ≡ 0) (k : 2 * (read_call b).count ≤ length samples) where
  pub play_done : good_decoder p.decoder ≡ true
      → let d = decoder_for p (read_call b) in
      let left = samples_of (read_call b).mode d (octets_in b) ++ drop (2 * (read_call b).count) samples in
      play_call p b samples
      ≡ record {
        answer = record {
          number = 0;
          index = 0;
          next = record { decoder = decoder_after (read_call b).mode d (octets_in b); begun = true; take = (read_call b).take };
          take = (read_call b).take;
          block = (read_call b).block;
          mode = (read_call b).mode;
          count = (read_call b).count;
          first = get_or left 0 (pos 0);
          last = get_or left (2 * (read_call b).count - 1) (pos 0);
          limited = overloads (samples_in_full (read_call b).mode d (octets_in b));
        };
        left = left;
      }
  unfolding played_from reported decoded
  play_done g = play_called p b samples (read_call b) refl h k g

-- ---- the record that a block starts from is good, if the player's is

pub start_good : (p : Player) (r : BlockRead) → good_decoder p.decoder ≡ true → good_decoder (decoder_for p r) ≡ true
unfolding decoder_for
start_good p r g = by_test (afresh p r) (λ e. rw e decoder_reset_good) (λ e. rw e g)

-- ---- so a refused play changes nothing, and one that is not refused has heard the block

module _ (p : Player) (b : List ℕ) (samples : List ℤ) where
  pub play_refused : ((play_call p b samples).answer.number ≡ 0 → ⊥)
      → play_call p b samples
      ≡ record {
        answer = record {
          number = (play_call p b samples).answer.number;
          index = 0;
          next = p;
          take = 0;
          block = 0;
          mode = 0;
          count = 0;
          first = pos 0;
          last = pos 0;
          limited = 0;
        };
        left = samples;
      }
  play_refused h =
      by_test (eqb (read_call b).number 0)
      (λ e. let z = eqb-true (read_call b).number 0 e in
      by_test (ltb (length samples) (2 * (read_call b).count))
      (λ f. rw (play_narrow p b samples (read_call b) refl z (ltb-true _ _ f)))
      (λ f. let k = ltb-false (length samples) (2 * (read_call b).count) f in
      by_test (good_decoder p.decoder)
      (λ g. absurd (h (rw (play_done p b samples z k g))))
      (λ g. rw (play_broken p b samples (read_call b) refl z k g))))
      (λ e. rw (play_unread p b samples (read_call b) refl (eqb-false (read_call b).number 0 e)))

  pub record Heard : Type 0 where
    pub read : (read_call b).number ≡ 0
    pub room : 2 * (read_call b).count ≤ length samples
    pub sound : good_decoder p.decoder ≡ true

  pub play_heard : (play_call p b samples).answer.number ≡ 0 → Heard
  play_heard h =
      by_test (eqb (read_call b).number 0)
      (λ e. let z = eqb-true (read_call b).number 0 e in
      by_test (ltb (length samples) (2 * (read_call b).count))
      (λ f. absurd (omega (arith, rw (play_narrow p b samples (read_call b) refl z (ltb-true _ _ f)) at h)))
      (λ f. let k = ltb-false (length samples) (2 * (read_call b).count) f in
      by_test (good_decoder p.decoder) (λ g. record { read = z; room = k; sound = g })
      (λ g. absurd (omega (arith, rw (play_broken p b samples (read_call b) refl z k g) at h)))))
      (λ e. absurd (let n = eqb-false (read_call b).number 0 e in n (rw (play_unread p b samples (read_call b) refl n) at h)))
