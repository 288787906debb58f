-- The tests of a tick say that every row has an entry for each port.
use Rattle.std.proofs.Common.{sym, ◌∙◌, arith}
use Rattle.conference.proofs.Cases.{seated, even}
use Rattle.mixer.proofs.tick.Goals as goal

pub run-requires-clause-octets_len_bound : goal.run-requires-clause-octets_len_bound
run-requires-clause-octets_len_bound c =
    let s = seated _ (sym c.unseated-no_desk.ensures ∙ c.if-no_desk.false) in
    let n = even _ _ _ _ (sym c.uneven-unfit.ensures ∙ c.if-unfit.false) in
    omega (arith, s.1, n.1)

pub run-requires-clause-modes_len : goal.run-requires-clause-modes_len
run-requires-clause-modes_len c =
    let n = even _ _ _ _ (sym c.uneven-unfit.ensures ∙ c.if-unfit.false) in
    n.0 ∙ sym n.1

pub run-requires-clause-room_len : goal.run-requires-clause-room_len
run-requires-clause-room_len c =
    let n = even _ _ _ _ (sym c.uneven-unfit.ensures ∙ c.if-unfit.false) in
    n.2 ∙ sym n.1
