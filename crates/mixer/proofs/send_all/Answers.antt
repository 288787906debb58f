-- One port more.
use Rattle.std.proofs.Common.{rules, ◌≡◌, refl, ◌∙◌, ◌<◌, ◌≤◌, pos, length, arith}
use Rattle.laws.specs.Back.{back16, back32}
use Rattle.laws.specs.Filled.{fill}
use Rattle.facts.specs.Overload.{none_counted, room_for_two}
use Rattle.g722.specs.Arithmetic.{limited}
use Rattle.conference.specs.Sums.{others_of}
use Rattle.conference.specs.Tick.{sums_limited}
use Rattle.port.specs.Step.{sent_of}
use Rattle.mixer.proofs.Laws.{full, none_yet, as_it_stood, one_more, all_ports}
use Rattle.mixer.proofs.Laws.{sum_at, heard_at, none_left, sums_counted}
use Rattle.mixer.proofs.Laws.{heards_length, octets_length, next_of, octet_of_lem}
use Rattle.mixer.proofs.send_all.Goals as goal

pub loop-i-init : goal.loop-i-init
unfolding sums_limited
loop-i-init c = record { table = none_yet _ _ _; octets = record { long = c.requires.room_len; is = refl }; count = none_counted _ }

-- the two sums of a port, limited
module _ (c : goal.After-struct_known-1) where
  low_sum : c.others.result ≡ limited (others_of c.args.low.now c.loop-i.i)
  low_sum =
      sum_at _ _ (back32 c.total-all_low.result c.total-all_low.type_inv ∙ c.total-all_low.ensures.0) (back16 _ (search rules)) c.others.ensures

  high_sum : c.others-in-loop-i.result ≡ limited (others_of c.args.high.now c.loop-i.i)
  high_sum =
      sum_at _ _ (back32 c.total-all_high.result c.total-all_high.type_inv ∙ c.total-all_high.ensures.0) (back16 _ (search rules)) c.others-in-loop-i.ensures

pub loop-i-preserved : goal.loop-i-preserved
loop-i-preserved c =
    let a = c.args in
    let low = a.low.now in
    let high = a.high.now in
    let t₀ = a.coders in
    let i = c.loop-i.i in
    let v = c.loop-i.invariant in
    let alike = c.requires.high_len in
    let eight : length t₀ ≡ 8 = search rules in
    let in_low : i < length low = omega arith in
    let in_high : i < length high = rw alike in_low in
    let in_table : i < length t₀ = omega arith in
    let all : length low ≤ length t₀ = omega arith in
    let xl = heard_at low i in_low (low_sum c) in
    let xh = heard_at high i in_high (high_sum c) in
    let stood = as_it_stood _ _ _ v.table _ in
    record {
      table =
          one_more _ _ _ v.table _ (pos 0, pos 0) in_table (rw (heards_length t₀ low high alike) in_low)
          (next_of t₀ low high alike _ _ _ i c.sent-s.ensures in_low xl xh);
      octets =
          fill _ _ v.octets 0 (rw (octets_length t₀ low high alike all) in_low) in_low
          (octet_of_lem t₀ low high alike _ _ _ i c.sent-s.ensures in_low xl xh _ stood in_table);
      count = sums_counted low high alike _ _ _ in_low v.count c.sent-s.ensures (low_sum c) (high_sum c);
    }

-- the count has room for two more
pub overflow_add-limited : goal.overflow_add-limited
unfolding sent_of
overflow_add-limited c =
    omega (arith, room_for_two _ _ c.loop-i.invariant.count (omega arith) (λ j. (c.sent-s.ensures j).limited))

pub returns : goal.returns
returns c =
    let a = c.args in
    let v = c.loop-i.invariant in
    let low = a.low.now in
    let high = a.high.now in
    let alike = c.requires.high_len in
    let eight : length a.coders ≡ 8 = search rules in
    let few : length low ≤ length a.coders = omega arith in
    let pairs = heards_length a.coders low high alike in
    let octets = octets_length a.coders low high alike few in
    let count : c.loop-i.limited ≡ sums_limited low high =
    omega (arith, v.count.all, none_left low high alike c.loop-i.i (omega arith)) in
    let coders = all_ports _ _ _ v.table (omega arith) in
    record { answer = λ j. record { limited = count j; coders = coders j }; left = full v.octets (omega arith) (omega arith) }
