-- `decoder::signals::hear_block` meets its contract: hearing both bands is hearing one after the other, and limiting them.
use mathlib.Core.Path.{◌≡◌, refl}
use mathlib.Core.Bool.{true, false}
use mathlib.Core.List.{List, map}
use Prim.Native.Nat.{ℕ, ◌≤◌, ◌+◌}
use native.Mathlib.Omega.{arith}
use lib.IntN.{ℤ}
use lib.ListN.{length}
use Rattle.laws.specs.Outcome.{Does, becomes}
use Rattle.facts.specs.Blocks.{done, heard_next_good}
use Rattle.facts.specs.Overload.{overloads_most}
use Rattle.facts.specs.Signals.{decoder_poles}
use Rattle.g722.specs.Arithmetic.{limit, overloads}
use Rattle.g722.specs.Records.{good_decoder}
use Rattle.g722.specs.Steps.{heard}
use Rattle.g722.specs.declared.Band.{Band}
use Rattle.g722.specs.declared.Decoder.{Decoder}
use Rattle.sweep.specs.Block.{is_block, heard_block, heard_block_lem}
use Rattle.decoder.specs.ByBand.{heard_by_band}
use Rattle.decoder.proofs.signals.hear_block.Goals as goal

-- one band and then the other, each limited
did : (mode : ℕ) (d : Decoder) (o : List ℕ) (x y : List ℤ) {yls yhs rls rhs : List ℤ} {l h : Band} {n m : ℕ} → good_decoder d ≡ true
    → length o ≤ 160 → length x ≡ length o → length y ≡ length o
    → Does (heard_block false mode d.low o x) l yls → Does (heard_block true mode d.high o y) h yhs
    → (n ≡ overloads yls) × (rls ≡ map limit yls) → (m ≡ overloads yhs) × (rhs ≡ map limit yhs)
    → Does (heard mode d o) (done (n + m) (record { low = l; high = h; past = d.past })) (rls, rhs)
did mode d o x y good few low high l h n m =
    let poles = decoder_poles d good in
    let low_fits = is_block d.low.poles (length o) (length x) (omega arith) (omega arith) poles.0 in
    let high_fits = is_block d.high.poles (length o) (length y) (omega arith) (omega arith) poles.1 in
    heard_by_band _ _ _ (becomes (heard_block_lem _ _ _ o x low_fits) l) (becomes (heard_block_lem _ _ _ o y high_fits) h) n m refl

-- the signals are as many as the octets, so the counts are small
pub overflow_add-result : goal.overflow_add-result
overflow_add-result c =
    let low = c.hear_band-low_band in
    let high = c.hear_band-high_band in
    omega (
      arith,
      low.auto.signals,
      high.auto.signals,
      c.requires,
      c.limit_all.ensures.0,
      c.limit_all-2.ensures.0,
      overloads_most low.new.signals,
      overloads_most high.new.signals,
    )

pub invariant_of-result : goal.invariant_of-result
invariant_of-result c =
    let a = c.args in
    let asked = c.requires in
    let by = did a.mode a.d.decoder a.octets.now a.low.now a.high.now a.d.good asked.octets_len_bound asked.low_len asked.high_len c.hear_band-low_band.ensures
    c.hear_band-high_band.ensures c.limit_all.ensures c.limit_all-2.ensures in
    record { good = heard_next_good _ _ a.octets.now by a.d.good }

pub returns : goal.returns
returns c =
    let a = c.args in
    let asked = c.requires in
    did a.mode a.d.decoder a.octets.now a.low.now a.high.now a.d.good asked.octets_len_bound asked.low_len asked.high_len c.hear_band-low_band.ensures
    c.hear_band-high_band.ensures c.limit_all.ensures c.limit_all-2.ensures
