-- A turn at the decoder meets its contract: the prediction plus the difference of the mode is heard, and the turn goes by the word.
use Rattle.std.proofs.Common.{rules, ◌∙◌, ap, to_z, of_z, to_z-of_z}
use mir.Syntax.{w16}
use Rattle.laws.specs.Back.{back32}
use Rattle.g722.specs.Arithmetic.{add}
use Rattle.g722.specs.Band.{filtep}
use Rattle.at_hand.proofs.Signed.{outputs_at, output_small}
use Rattle.idle.specs.Recursive.{poles_of}
use Rattle.idle.specs.Factors.{factors_of}
use Rattle.sweep.specs.Turn.{step_by, HeardBy}
use Rattle.sweep.proofs.Loop.{by_heard}
use Rattle.sweep.proofs.hear.HearerEnd.turn.Goals as goal

pub inverse-requires-clause-q_bound : goal.inverse-requires-clause-q_bound
inverse-requires-clause-q_bound c =
    let t = c.args.self.now in
    let w = c.word-word in
    search (rules, t.heard_are, outputs_at t.tables.high t.mode w.result w.ensures.1, output_small t.tables.high t.mode w.result)

pub returns : goal.returns
unfolding factors_of add
returns c =
    let a = c.args in
    let t = a.self.now in
    let high = t.tables.high in
    let r = c.predic-s in
    let sz = to_z-of_z c.ranges.sz in
    let s = back32 r.result r.type_inv ∙ r.ensures.0 ∙ ap (add (filtep (poles_of a.p))) sz in
    let by : HeardBy high t.heard (poles_of a.p) (factors_of a.f) a.sz a.o (to_z w16 (of_z w16 c.clamp.result), c.turn.result) =
    record {
      signal = search rules;
      step = c.turn.ensures ∙ (λ j. step_by high (poles_of a.p) (factors_of a.f) (sz j) (s j) (c.word-word.ensures.0 j));
    } in
    by_heard high t.mode c.ranges.o.fits t.heard_are by
