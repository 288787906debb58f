-- `coder::bands::bands_all` meets its contract: coding both bands is coding one after the other.
use native.Mathlib.Omega.{arith}
use Rattle.laws.specs.Outcome.{becomes}
use Rattle.sweep.specs.Block.{is_block, coded_block_lem}
use Rattle.coder.specs.ByBand.{coded_by_band}
use Rattle.coder.proofs.bands.bands_all.Goals as goal

pub returns : goal.returns
returns c =
    let asked = c.requires in
    let a = c.args in
    let low =
    becomes (coded_block_lem _ _ a.xl.now a.octets.now (is_block _ _ _ asked.octets_len_bound asked.xl_len asked.poles_value))
    c.code_band-low.ensures in
    let high =
    becomes (coded_block_lem _ _ a.xh.now a.words.now (is_block _ _ _ (omega (arith, asked)) (omega (arith, asked)) asked.poles_value_2))
    c.code_band-high.ensures in
    coded_by_band _ _ _ _ (omega (arith, asked)) low.answer low.left high.answer high.left c.put_together.ensures
