-- `bounds::good_factors` meets its contract: the top is that of the band's own, and two numbers of 16 bits are one where their words are.
use Rattle.std.proofs.Common.{◌≡◌, ◌∙◌, sym, ap, pos, SFits, to_z-of_z, rules}
use Rattle.std.specs.Int.{w16}
use Rattle.laws.specs.Back.{back16}
use Rattle.g722.specs.Arithmetic.{within, equal}
use Rattle.g722.specs.Records.{good_factors}
use Rattle.quant.specs.Own.{scale_of}
use Rattle.arith.proofs.Words.{one_word}
use Rattle.bounds.proofs.Chosen.{went_on, stopped}
use Rattle.bounds.proofs.good_factors.Goals as goal

pub returns-then-within : goal.returns-then-within
unfolding good_factors
returns-then-within g c =
    let f = c.args.f in
    let own = g.B.SubBand.own in
    let log : SFits w16 f.log = search rules in
    let scale : SFits w16 f.scale = search rules in
    let lies : c.within.result ≡ within (pos 0) own.top f.log =
    cc (back16 c.TOP.result c.TOP.type_inv, g.met.B.SubBand.top_own, to_z-of_z log) in
    let told = one_word scale (record { sfits = c.scale.type_inv }) ∙ ap (equal f.scale) (c.scale.ensures ∙ ap (scale_of own) (to_z-of_z log)) in
    went_on _ _ (sym lies ∙ c.if-within.true) told

pub returns-else-within : goal.returns-else-within
unfolding good_factors
returns-else-within g c =
    let f = c.args.f in
    let own = g.B.SubBand.own in
    let log : SFits w16 f.log = search rules in
    let lies : c.within.result ≡ within (pos 0) own.top f.log =
    cc (back16 c.TOP.result c.TOP.type_inv, g.met.B.SubBand.top_own, to_z-of_z log) in
    stopped (within (pos 0) own.top f.log) _ lies c.if-within.false
