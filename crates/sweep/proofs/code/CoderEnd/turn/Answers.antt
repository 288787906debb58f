-- A turn at the coder meets its contract: the word is that of the signal less its prediction, and the turn goes by it.
use Rattle.std.proofs.Common.{rules, ◌∙◌, ap, to_z-of_z}
use Rattle.laws.specs.Back.{back32}
use Rattle.g722.specs.Arithmetic.{add}
use Rattle.g722.specs.Band.{filtep}
use Rattle.idle.specs.Recursive.{poles_of}
use Rattle.idle.specs.Factors.{factors_of}
use Rattle.sweep.specs.Turn.{step_by, CodedBy}
use Rattle.sweep.proofs.Loop.{by_coded}
use Rattle.sweep.proofs.code.CoderEnd.turn.Goals as goal

pub returns : goal.returns
unfolding factors_of
returns c =
    let a = c.args in
    let high = a.self.now.tables.high in
    let r = c.predic-s in
    let sz = to_z-of_z c.ranges.sz in
    let s = back32 r.result r.type_inv ∙ r.ensures.0 ∙ ap (add (filtep (poles_of a.p))) sz in
    let by : CodedBy high (poles_of a.p) (factors_of a.f) a.sz a.x (c.word-word.result, c.turn.result) =
    record {
      word = search rules;
      step = c.turn.ensures ∙ (λ j. step_by high (poles_of a.p) (factors_of a.f) (sz j) (s j) c.word-word.result);
    } in
    by_coded high by
