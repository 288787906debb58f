-- What a port is sent does not depend on its own octets: over ticks none of which is refused, from one desk, two streams that agree on all
-- modes and on every other port's octets send it the same octets.
-- Assumes nothing.
use Rattle.std.specs.Prelude.{◌≡◌, refl, ℕ, ◌<◌, ℤ, length, get_or}
use Rattle.std.proofs.Math.Path.{sym, ap}
use Rattle.std.proofs.Common.{◌∙◌}
use mathlib.Core.List.{List, [], ◌∷◌, zip, zip_with}
use native.Mathlib.Omega.{arith}
use Rattle.std.proofs.Math.IntN.{pos}
use Rattle.g722.specs.Arithmetic.{limit}
use Rattle.g722.specs.Records.{reset_coder}
use Rattle.conference.specs.Sums.{sum_of, without, others_of, mixed}
use Rattle.conference.specs.Ports.{rl_from, rh_from, rls_from, rhs_from, decoder_from, octet_to, coder_to, each_port}
use Rattle.conference.specs.Tick.{signals_to, octets_to, desk_after}
use Rattle.conference.proofs.Cases.{Accepted, accepted}
use Rattle.conference.proofs.Rows.{zip_length, zip_at, zip_without, pairs_length, pairs_at, pairs_without}
use Rattle.conference.proofs.Rows.{each_length, each_at, each_without}
use Rattle.conference.proofs.Total.{mixed_length, mixed_at}
use Rattle.conference.specs.declared.Desk.{Desk}
use Rattle.conference.specs.Own.{TickInput, after, NoneRefused, sent_to, ButFor, AllButFor, Eight, OneTo}

-- ---- one tick

-- of rows that are one but for entry k, port k hears the same
heard_same : (xs ys : List ℤ) (k : ℕ) → k < length xs → k < length ys → without k xs ≡ without k ys
    → get_or (mixed xs) k (pos 0) ≡ get_or (mixed ys) k (pos 0)
unfolding others_of
heard_same xs ys k h l e = mixed_at xs k h ∙ ap (λ (zs : List ℤ). limit (sum_of zs)) e ∙ sym (mixed_at ys k l)

-- a signal of each band from every port
module _ (desk : Desk) (modes octets room : List ℕ) (w : Eight desk) (a : Accepted desk modes octets room) where
  pub rls_long : length (rls_from desk.decoders modes octets) ≡ desk.ports
  unfolding rls_from
  rls_long =
      omega (
        arith,
        zip_length rl_from desk.decoders (zip modes octets),
        pairs_length modes octets,
        w.decoders,
        a.modes,
        a.octets,
        a.most,
      )

  pub rhs_long : length (rhs_from desk.decoders octets) ≡ desk.ports
  unfolding rhs_from
  rhs_long = omega (arith, zip_length rh_from desk.decoders octets, w.decoders, a.octets, a.most)

  pub signals_long : length (signals_to desk modes octets) ≡ desk.ports
  unfolding signals_to
  signals_long =
      let low = rls_from desk.decoders modes octets in
      let high = rhs_from desk.decoders octets in
      omega (arith, pairs_length (mixed low) (mixed high), mixed_length low, mixed_length high, rls_long, rhs_long)

  -- and eight places of each kind after it
  pub still_eight : Eight (desk_after desk modes octets)
  unfolding desk_after
  still_eight =
      record {
        coders = each_length coder_to desk.coders (signals_to desk modes octets) ∙ w.coders;
        decoders = each_length decoder_from desk.decoders octets ∙ w.decoders;
      }

module _ (k : ℕ) (desk : Desk) (i : TickInput) (w : Eight desk) (a : Accepted desk i.modes i.octets i.room)
    (h : k < desk.ports) where
  abbrev rls : List ℤ
  rls = rls_from desk.decoders i.modes i.octets

  abbrev rhs : List ℤ
  rhs = rhs_from desk.decoders i.octets

  here : k < length rls
  here = omega (arith, rls_long desk i.modes i.octets i.room w a)

  there : k < length rhs
  there = omega (arith, rhs_long desk i.modes i.octets i.room w a)

  -- what port k hears, is sent, and has for a coder after it
  heard_pair : get_or (signals_to desk i.modes i.octets) k (pos 0, pos 0) ≡ (get_or (mixed rls) k (pos 0), get_or (mixed rhs) k (pos 0))
  unfolding signals_to
  heard_pair =
      pairs_at (mixed rls) (mixed rhs) k (pos 0) (pos 0) (pos 0, pos 0) (omega (arith, mixed_length rls, here))
      (omega (arith, mixed_length rhs, there))

  in_signals : k < length (signals_to desk i.modes i.octets)
  in_signals = omega (arith, signals_long desk i.modes i.octets i.room w a)

  pub sent_octet : get_or (octets_to desk i.modes i.octets) k 0
      ≡ octet_to (get_or desk.coders k reset_coder) (get_or (signals_to desk i.modes i.octets) k (pos 0, pos 0))
  unfolding octets_to
  sent_octet =
      zip_at octet_to desk.coders (signals_to desk i.modes i.octets) k reset_coder (pos 0, pos 0) 0
      (omega (arith, w.coders, a.most)) in_signals

  next_coder : get_or (desk_after desk i.modes i.octets).coders k reset_coder
      ≡ coder_to (get_or desk.coders k reset_coder) (get_or (signals_to desk i.modes i.octets) k (pos 0, pos 0))
  unfolding desk_after
  next_coder =
      each_at coder_to desk.coders (signals_to desk i.modes i.octets) k reset_coder (pos 0, pos 0)
      (omega (arith, w.coders, a.most)) in_signals

-- two such ticks of two desks that are one to port k
module _ (k : ℕ) (d e : Desk) (i j : TickInput) (v : Eight d) (w : Eight e) (s : OneTo k d e) (b : ButFor k i j)
    (p : Accepted d i.modes i.octets i.room) (q : Accepted e j.modes j.octets j.room) (h : k < d.ports) where
  h' : k < e.ports
  h' = omega (arith, s.ports)

  others_rl : without k (rls k d i v p h) ≡ without k (rls k e j w q h')
  unfolding rls_from
  others_rl =
      zip_without rl_from k d.decoders (zip i.modes i.octets)
      ∙ ap (zip_with rl_from (without k d.decoders)) (pairs_without k i.modes i.octets)
      ∙ (λ t. zip_with rl_from (s.decoders t) (zip (without k (b.modes t)) (b.others t)))
      ∙ sym (zip_without rl_from k e.decoders (zip j.modes j.octets)
      ∙ ap (zip_with rl_from (without k e.decoders)) (pairs_without k j.modes j.octets))

  others_rh : without k (rhs k d i v p h) ≡ without k (rhs k e j w q h')
  unfolding rhs_from
  others_rh =
      zip_without rh_from k d.decoders i.octets
      ∙ (λ t. zip_with rh_from (s.decoders t) (b.others t))
      ∙ sym (zip_without rh_from k e.decoders j.octets)

  same_signals : get_or (signals_to d i.modes i.octets) k (pos 0, pos 0) ≡ get_or (signals_to e j.modes j.octets) k (pos 0, pos 0)
  same_signals =
      let low = heard_same (rls k d i v p h) (rls k e j w q h') k (here k d i v p h) (here k e j w q h') others_rl in
      let high = heard_same (rhs k d i v p h) (rhs k e j w q h') k (there k d i v p h) (there k e j w q h') others_rh in
      heard_pair k d i v p h ∙ (λ t. (low t, high t)) ∙ sym (heard_pair k e j w q h')

  pub same_octet : get_or (octets_to d i.modes i.octets) k 0 ≡ get_or (octets_to e j.modes j.octets) k 0
  same_octet = sent_octet k d i v p h ∙ (λ t. octet_to (s.coder t) (same_signals t)) ∙ sym (sent_octet k e j w q h')

  pub one_still : OneTo k (desk_after d i.modes i.octets) (desk_after e j.modes j.octets)
  unfolding desk_after
  one_still =
      record {
        ports = s.ports;
        coder = next_coder k d i v p h ∙ (λ t. coder_to (s.coder t) (same_signals t)) ∙ sym (next_coder k e j w q h');
        decoders =
            each_without decoder_from k d.decoders i.octets
            ∙ (λ t. each_port decoder_from (s.decoders t) (b.others t))
            ∙ sym (each_without decoder_from k e.decoders j.octets);
      }

-- ---- THE THEOREM

-- the desk after such a tick has as many ports
pub ports_stay : (desk : Desk) (modes octets : List ℕ) → (desk_after desk modes octets).ports ≡ desk.ports
unfolding desk_after
ports_stay desk modes octets = refl

runs_same : (k : ℕ) (d e : Desk) (is js : List TickInput) → Eight d → Eight e → OneTo k d e → k < d.ports
    → AllButFor k is js → NoneRefused d is → NoneRefused e js → sent_to k d is ≡ sent_to k e js
unfolding sent_to
runs_same k d e [] [] v w s h b m n = refl
runs_same k d e [] (j ∷ js) v w s h b m n = absurd b
runs_same k d e (i ∷ is) [] v w s h b m n = absurd b
runs_same k d e (i ∷ is) (j ∷ js) v w s h b m n =
    let p = accepted d i.modes i.octets i.room m.0 in
    let q = accepted e j.modes j.octets j.room n.0 in
    let octet =
    ap (λ x. get_or x.left k 0) p.done ∙ same_octet k d e i j v w s b.0 p q h ∙ sym (ap (λ x. get_or x.left k 0) q.done) in
    let dn : after d i ≡ desk_after d i.modes i.octets = ap (λ x. x.answer.next) p.done in
    let en : after e j ≡ desk_after e j.modes j.octets = ap (λ x. x.answer.next) q.done in
    let rest =
    runs_same k (after d i) (after e j) is js (rw dn (still_eight d i.modes i.octets i.room v p))
    (rw en (still_eight e j.modes j.octets j.room w q)) (rw (dn, en) (one_still k d e i j v w s b.0 p q h)) (rw (dn, ports_stay) h) b.1 m.1 n.1 in
    λ t. octet t ∷ rest t

pub own_octets_unheard : (k : ℕ) (desk : Desk) (is js : List TickInput) → Eight desk → k < desk.ports
    → AllButFor k is js → NoneRefused desk is → NoneRefused desk js → sent_to k desk is ≡ sent_to k desk js
own_octets_unheard k desk is js w h =
    runs_same k desk desk is js w w (record { ports = refl; coder = refl; decoders = refl }) h
