-- `sweep::factors::weighed` meets its contract: the log factor is limited once, so its address is in ILA.
use Rattle.std.proofs.Common.{◌≡◌, ◌∙◌, Bool, ℕ, ℤ, pos, nat_abs, ◌+◌, ◌/◌, ◌^◌, ◌<◌, ◌+ℤ◌, ◌*ℤ◌, FitsSigned, to_z, of_z, w32, arith}
use mir.Syntax.{w16}
use mir.Facts.{to_z-of_z}
use Rattle.std.specs.Int.Signed.{mag, shr_z}
use Rattle.laws.specs.Back.{back32, widened}
use Rattle.laws.specs.Clamp.{clamp}
use Rattle.laws.specs.Size.{fits_abs, abs_add, abs16, mag_abs, shr_fits}
use Rattle.g722.specs.Quantise.{logsc, scale_at}
use Rattle.tables.specs.Entries.{ila_small}
use Rattle.idle.specs.Factors.{factors_of, top, weighed, product_abs, kept_abs, log_is, log_address}
use Rattle.sweep.proofs.factors.weighed.Goals as goal

scale-held : (k : ℕ) → mag (scale_at k) < 2 ^ 15
unfolding scale_at
scale-held k = omega (arith, ila_small k)

-- what is limited, by way of the widened weight wd, fits 32 bits
sum : (nb w : ℤ) {wd : ℤ} → mag nb < 2 ^ 15 → mag w < 2 ^ 15 → mag wd < 2 ^ 31 → wd ≡ to_z w16 (of_z w16 w)
    → FitsSigned w32 (to_z w32 (of_z w32 (shr_z (to_z w32 (of_z w32 (to_z w32 (of_z w32 nb) *ℤ pos 32512))) 32768)) +ℤ to_z w32 (of_z w32 wd))
sum nb w {wd} hn hw hd wd≡ =
    let old = back32 nb (omega (arith, hn)) in
    let m : FitsSigned w32 (to_z w32 (of_z w32 nb) *ℤ pos 32512) = rw old (fits_abs (omega (arith, product_abs nb hn))) in
    rw (to_z-of_z m, to_z-of_z (shr_fits 32768 m), old, widened {x = w} hd wd≡ (record { sfits = hw }))
    (fits_abs (omega (arith, abs_add (shr_z (nb *ℤ pos 32512) 32768) w, kept_abs nb hn, abs16 {z = w} (record { sfits = hw }))))

-- the log factor of nb after the weight w, by way of the widened weight wd and the limit t, as it is read
log : (high : Bool) (nb w : ℤ) {wd t l : ℤ} → mag nb < 2 ^ 15 → mag w < 2 ^ 15 → mag wd < 2 ^ 31 → mag t < 2 ^ 31 → mag l < 2 ^ 31
    → wd ≡ to_z w16 (of_z w16 w) → t ≡ top high
    → l ≡ clamp (pos 0) (to_z w32 (of_z w32 t))
    (to_z w32 (of_z w32 (to_z w32 (of_z w32 (shr_z (to_z w32 (of_z w32 (to_z w32 (of_z w32 nb) *ℤ pos 32512))) 32768)) +ℤ to_z w32 (of_z w32 wd))))
    → to_z w32 (of_z w32 l) ≡ logsc (top high) w nb
log high nb w {wd} {t} {l} hn hw hd ht hl wd≡ t≡ l≡ =
    let old = back32 nb (omega (arith, hn)) in
    let weight = widened {x = w} hd wd≡ (record { sfits = hw }) in
    let m : FitsSigned w32 (to_z w32 (of_z w32 nb) *ℤ pos 32512) = rw old (fits_abs (omega (arith, product_abs nb hn))) in
    rw (back32 l hl ∙ l≡, to_z-of_z (sum nb w hn hw hd wd≡), to_z-of_z m, to_z-of_z (shr_fits 32768 m), old, weight, back32 t ht ∙ t≡) (log_is nb hn high w)

pub overflow_add-f : goal.overflow_add-f
overflow_add-f c = sum c.args.f.log c.args.w c.args.f.log_bound c.ranges.w.sfits c.from.type_inv c.from.ensures

pub overflow_cast-k : goal.overflow_cast-k
overflow_cast-k c =
    let s = c.args in
    let l = log s.high s.f.log s.w s.f.log_bound c.ranges.w.sfits c.from.type_inv c.top.type_inv c.fit-log.type_inv c.from.ensures c.top.ensures c.fit-log.ensures in
    let a = log_address s.high s.w s.f.log in
    rw l (a.positive, record { fits = omega (arith, a.size) })

pub overflow_add-k : goal.overflow_add-k
overflow_add-k c =
    let s = c.args in
    let l = log s.high s.f.log s.w s.f.log_bound c.ranges.w.sfits c.from.type_inv c.top.type_inv c.fit-log.type_inv c.from.ensures c.top.ensures c.fit-log.ensures in
    rw (l, c.first.ensures) (record { fits = omega (arith, (log_address s.high s.w s.f.log).place) })

pub scale_at-requires-clause-k_bound : goal.scale_at-requires-clause-k_bound
scale_at-requires-clause-k_bound c =
    let s = c.args in
    let l = log s.high s.f.log s.w s.f.log_bound c.ranges.w.sfits c.from.type_inv c.top.type_inv c.fit-log.type_inv c.from.ensures c.top.ensures c.fit-log.ensures in
    rw (l, c.first.ensures) (log_address s.high s.w s.f.log).place

pub invariant_of-result : goal.invariant_of-result
invariant_of-result c =
    let s = c.args in
    let l = log s.high s.f.log s.w s.f.log_bound c.ranges.w.sfits c.from.type_inv c.top.type_inv c.fit-log.type_inv c.from.ensures c.top.ensures c.fit-log.ensures in
    record {
      log_bound = rw l (omega (arith, mag_abs (logsc (top s.high) s.w s.f.log), (log_address s.high s.w s.f.log).size));
      scale_bound = rw (back32 c.scale_at.result c.scale_at.type_inv ∙ c.scale_at.ensures) (scale-held _);
    }

pub returns : goal.returns
unfolding factors_of weighed
returns c =
    let s = c.args in
    let l = log s.high s.f.log s.w s.f.log_bound c.ranges.w.sfits c.from.type_inv c.top.type_inv c.fit-log.type_inv c.from.ensures c.top.ensures c.fit-log.ensures in
    let scale = back32 c.scale_at.result c.scale_at.type_inv
    ∙ c.scale_at.ensures
    ∙ (λ j. scale_at (nat_abs (l j) / 64 + c.first.ensures j))
    ∙ (log_address s.high s.w s.f.log).scale in
    λ j. record { log = l j; scale = scale j }
