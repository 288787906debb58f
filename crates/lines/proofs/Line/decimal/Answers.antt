-- `Line::decimal` meets its contract: the digits that are left, before what is held, stay the whole.
use Rattle.std.proofs.Common.{◌≡◌, ◌∙◌, sym, ap, ◌∷◌, [], ◌++◌, ℕ, ◌/◌, ◌^◌, ◌<◌, ◌≤◌, length, arith}
use Rattle.lines.specs.declared.Line.{Line}
use Rattle.lines.specs.Decimal.{decimal, decimal_one, decimal_more, decimal_most, decimal_some}
use Rattle.lines.specs.Lines.{Sound, Ready, held}
use Rattle.lines.proofs.Laws.{turn, left, ran}
use Rattle.lines.proofs.Line.decimal.Goals as goal

-- 20 digits are enough
most : (n : ℕ) → n < 2 ^ 64 → length (decimal n) ≤ 20
most n h = decimal_most 19 n (omega arith)

-- there is room for the next digit
room : {start line : Line} (n rest : ℕ) → Ready 20 start → Sound line → n < 2 ^ 64 → decimal rest ++ held line ≡ decimal n ++ held start → Ready 1 line
room n rest r s h e = record {
  sound = s;
  room = omega (arith, left (decimal n) r.sound s (decimal rest) e (omega (arith, r.room, most n h)), decimal_some rest);
}

pub put-line-requires : goal.put-line-requires
put-line-requires c = let i = c.loop-rest.invariant in room c.args.n c.loop-rest.rest c.requires i.sound c.ranges.n.fits i.whole

pub put-requires : goal.put-requires
put-requires c = let i = c.loop-rest.invariant in room c.args.n c.loop-rest.rest c.requires i.sound c.ranges.n.fits i.whole

pub loop-rest-preserved : goal.loop-rest-preserved
loop-rest-preserved c =
    let n = c.loop-rest.rest in
    record {
      sound = c.put-line.ensures.sound;
      whole = turn (decimal n) (decimal (n / 10))
          (decimal_more n (omega arith) ∙ ap (λ (b : ℕ). decimal (n / 10) ++ (b ∷ [])) (sym c.digit.ensures))
          c.put-line.ensures c.loop-rest.invariant.whole;
    }

pub returns : goal.returns
returns c =
    let n = c.loop-rest.rest in
    ran _ c.requires.sound c.put.ensures.sound
    (turn (decimal n) [] (decimal_one n (omega arith) ∙ ap (λ (b : ℕ). b ∷ []) (sym c.digit-2.ensures)) c.put.ensures c.loop-rest.invariant.whole)
    (most c.args.n c.ranges.n.fits)
