-- Laws of the two steps of a host, on plain values: an accepted step was handed the bytes of a state.
-- Assumes nothing.
use mathlib.Core.Path.{◌≡◌}
use mathlib.Core.List.{List}
use Prim.Native.Nat.{ℕ, ◌/◌}
use native.Mathlib.Omega.{arith}
use lib.Dec.{ltb}
use lib.ListN.{length}
use Rattle.laws.specs.Order.{by_test}
use Rattle.g722.specs.Records.{good_decoder}
use Rattle.pcm.specs.Chunks.{not_stored}
use Rattle.pcm.specs.Signals.{unpaired_bytes, not_heard_bytes, hear_chunk, unjoined_bytes, join_signals, join_chunk}
use Rattle.state.specs.Layout.{decoder_in}
use Rattle.host.proofs.Laws.{good_held}

pub hear_held : (s : List ℕ) (told : ℕ) (o l h : List ℕ) → (hear_chunk (decoder_in s) told o l h).answer.number ≡ 0 → length s ≡ 125
unfolding hear_chunk not_heard_bytes
hear_held s told o l h z =
    good_held s (by_test (good_decoder (decoder_in s)) (λ g. g) (λ g. absurd (
    by_test (ltb 3 told)
    (λ e. let k : ◌≡◌ {A = ℕ} 1 0 = rw e at z in omega arith)
    (λ e. by_test (unpaired_bytes (length o) (length l) (length h))
    (λ f. let k : ◌≡◌ {A = ℕ} 3 0 = rw (e, f) at z in omega arith)
    (λ f. let k : ◌≡◌ {A = ℕ} 2 0 = rw (e, f, g) at z in omega arith)))))

pub join_held : (s l h b : List ℕ) → (join_chunk (decoder_in s) l h b).answer.number ≡ 0 → length s ≡ 125
unfolding join_chunk join_signals not_stored
join_held s l h b z =
    good_held s (by_test (good_decoder (decoder_in s)) (λ g. g) (λ g. absurd (
    by_test (unjoined_bytes (length l / 2) (length l) (length h) (length b))
    (λ f. let k : ◌≡◌ {A = ℕ} 3 0 = rw f at z in omega arith)
    (λ f. let k : ◌≡◌ {A = ℕ} 2 0 = rw (f, g) at z in omega arith))))
