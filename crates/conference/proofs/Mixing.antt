-- Of a tick that is not refused: in each band the sums for all ports, before they are limited, add up to the sum of all signals as often
-- as there are other ports; and two ports hear each other's signals as they are.
-- Assumes nothing.
use Rattle.std.specs.Prelude.{◌≡◌, ℕ, ◌-◌, ℤ, pos, ◌+ℤ◌, ◌*ℤ◌}
use Rattle.std.proofs.Math.Path.{ap}
use Rattle.std.proofs.Common.{◌∙◌}
use mathlib.Core.List.{List, [], ◌∷◌, zip, zip_with}
use Rattle.std.specs.Int.Signed.{le_z_yes}
use Rattle.laws.specs.Clamp.{clamp_id, clamp_within}
use Rattle.laws.specs.Order.{zarith, add_read}
use Rattle.g722.specs.Arithmetic.{neg, limit}
use Rattle.g722.specs.Decoding.{rl_of, rh_of}
use Rattle.g722.specs.declared.Coder.{Coder}
use Rattle.g722.specs.declared.Decoder.{Decoder}
use Rattle.conference.specs.Sums.{sum_of, without, ports_from, others_of, sums_of, mixed}
use Rattle.conference.specs.Ports.{rl_from, rh_from, rls_from, rhs_from, octet_to}
use Rattle.conference.specs.Tick.{signals_to, octets_to, tick_call}
use Rattle.conference.proofs.Cases.{accepted}
use Rattle.conference.proofs.Rows.{zip_none}
use Rattle.conference.proofs.Total.{sums_add_up}
use Rattle.conference.specs.Own.{Eight}
use Rattle.conference.proofs.Own.{rls_long, rhs_long}
use Rattle.conference.specs.declared.Desk.{Desk}

-- ---- THE THEOREMS of the sums, with N ports

module _ (desk : Desk) (modes octets room : List ℕ) (w : Eight desk) (h : (tick_call desk modes octets room).answer.number ≡ 0) where
  abbrev low : List ℤ
  low = rls_from desk.decoders modes octets

  abbrev high : List ℤ
  high = rhs_from desk.decoders octets

  pub low_sums : sum_of (sums_of low) ≡ pos (desk.ports - 1) *ℤ sum_of low
  low_sums =
      sums_add_up low
      ∙ ap (λ (n : ℕ). pos (n - 1) *ℤ sum_of low) (rls_long desk modes octets room w (accepted desk modes octets room h))

  pub high_sums : sum_of (sums_of high) ≡ pos (desk.ports - 1) *ℤ sum_of high
  high_sums =
      sums_add_up high
      ∙ ap (λ (n : ℕ). pos (n - 1) *ℤ sum_of high) (rhs_long desk modes octets room w (accepted desk modes octets room h))

-- ---- two ports

-- what is limited is not limited again
limited_once : (z : ℤ) → limit (limit z) ≡ limit z
unfolding limit
limited_once z =
    let w = clamp_within (neg 16384) (pos 16383) z (le_z_yes tt) in clamp_id (neg 16384) (pos 16383) _ w.0 w.1

rl_once : (d : Decoder) (t : ℕ × ℕ) → limit (rl_from d t) ≡ rl_from d t
unfolding rl_from rl_of
rl_once d t = limited_once _

rh_once : (d : Decoder) (o : ℕ) → limit (rh_from d o) ≡ rh_from d o
unfolding rh_from rh_of
rh_once d o = limited_once _

-- the sum of one is that one
mixed_two : (x y : ℤ) → mixed (x ∷ y ∷ []) ≡ limit y ∷ limit x ∷ []
unfolding mixed sums_of ports_from others_of without sum_of
mixed_two x y =
    let alone : (z : ℤ) → z +ℤ pos 0 ≡ z = λ z. omega (zarith, add_read z (pos 0)) in
    λ i. limit (alone y i) ∷ limit (alone x i) ∷ []

-- THE THEOREM: each is sent the other's signals
module _ (n : ℕ) (c e : Coder) (cs : List Coder) (d f : Decoder) (ds : List Decoder) (m o p q : ℕ) where
  low_as_it_is : mixed (rl_from d (m, o) ∷ rl_from f (p, q) ∷ []) ≡ rl_from f (p, q) ∷ rl_from d (m, o) ∷ []
  low_as_it_is = mixed_two _ _ ∙ λ i. rl_once f (p, q) i ∷ rl_once d (m, o) i ∷ []

  high_as_it_is : mixed (rh_from d o ∷ rh_from f q ∷ []) ≡ rh_from f q ∷ rh_from d o ∷ []
  high_as_it_is = mixed_two _ _ ∙ λ i. rh_once f q i ∷ rh_once d o i ∷ []

  abbrev desk : Desk
  desk = record { ports = n; coders = c ∷ e ∷ cs; decoders = d ∷ f ∷ ds }

  rls_two : rls_from desk.decoders (m ∷ p ∷ []) (o ∷ q ∷ []) ≡ rl_from d (m, o) ∷ rl_from f (p, q) ∷ []
  unfolding rls_from zip zip_with
  rls_two = ap (λ (l : List ℤ). rl_from d (m, o) ∷ rl_from f (p, q) ∷ l) (zip_none rl_from ds)

  rhs_two : rhs_from desk.decoders (o ∷ q ∷ []) ≡ rh_from d o ∷ rh_from f q ∷ []
  unfolding rhs_from zip_with
  rhs_two = ap (λ (l : List ℤ). rh_from d o ∷ rh_from f q ∷ l) (zip_none rh_from ds)

  pub two_hear_each_other : octets_to desk (m ∷ p ∷ []) (o ∷ q ∷ [])
      ≡ octet_to c (rl_from f (p, q), rh_from f q) ∷ octet_to e (rl_from d (m, o), rh_from d o) ∷ []
  unfolding octets_to signals_to zip zip_with
  two_hear_each_other =
      (λ i. zip_with octet_to (c ∷ e ∷ cs) (zip ((ap mixed rls_two ∙ low_as_it_is) i) ((ap mixed rhs_two ∙ high_as_it_is) i)))
      ∙ ap (λ (l : List ℕ). octet_to c (rl_from f (p, q), rh_from f q) ∷ octet_to e (rl_from d (m, o), rh_from d o) ∷ l) (zip_none octet_to cs)
