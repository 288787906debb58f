-- Laws of the loops over ports, on plain values: what one port more adds to a table and to the rows beside it.
-- Assumes nothing.
use mathlib.Core.Path.{◌≡◌, refl, sym, ap, ◌∙◌}
use mathlib.Core.List.{List, [], ◌∷◌, zip, zip_with}
use Prim.Native.Nat.{ℕ, ◌+◌, ◌≤◌, ◌<◌}
use native.Mathlib.Numerals.{add-one}
use native.Mathlib.Omega.{arith}
use lib.IntN.{ℤ, pos, ◌-ℤ◌}
use lib.ListN.{length, take, drop, get_or, set, drop_of_length-le}
use lib.Seq.{take_all}
use Rattle.laws.specs.Filled.{Filled}
use Rattle.laws.specs.Turns.{drop_one}
use Rattle.facts.specs.Overload.{Counted, two_counted}
use Rattle.g722.specs.Arithmetic.{limited, one, changes, overloads}
use Rattle.g722.specs.declared.Coder.{Coder}
use Rattle.g722.specs.declared.Decoder.{Decoder}
use Rattle.g722.specs.declared.Limited.{Limited}
use Rattle.conference.specs.Sums.{sum_of, others_of, sums_of, mixed}
use Rattle.conference.specs.Ports.{rl_from, rh_from, rls_from, rhs_from, octet_to, coder_to, each_port}
use Rattle.port.specs.Step.{heard_of, sent_of}
use Rattle.conference.proofs.Rows.{zip_length, zip_at, pairs_length, pairs_at, each_not_yet, each_one_more}
use Rattle.conference.proofs.Total.{others_total, sums_length, sums_at, mixed_length, mixed_at}
use Rattle.port.specs.declared.Signals.{Signals}
use Rattle.port.specs.declared.Reply.{Reply}

-- ---- a row that is full

pub full : {A : Type 0} {z row : List A} {m i : ℕ} → Filled z m row i → m ≤ i → length z ≤ i → row ≡ z
full {A} {z} {row} {m} {i} f h l = sym (take_all i row (omega (arith, f.long))) ∙ f.is ∙ take_all i z l

-- ---- a table, one port after the other

module _ {A B : Type 0} (next : A → B → A) (t₀ : List A) (given : List B) where
  -- the table after the first i ports
  pub record Upto (t : List A) (i : ℕ) : Type 0 where
    pub is : t ≡ each_port next t₀ (take i given)

  pub none_yet : Upto t₀ 0
  unfolding each_port
  none_yet = record { is = nothing t₀ }
    where
      nothing : (xs : List A) → xs ≡ each_port next xs []
      nothing [] = refl
      nothing (x ∷ xs) = refl

  module _ {t : List A} {i : ℕ} (u : Upto t i) where
    -- port i stands as it stood
    pub as_it_stood : (a : A) → get_or t i a ≡ get_or t₀ i a
    as_it_stood a = ap (λ (l : List A). get_or l i a) u.is ∙ each_not_yet next t₀ given i a

    pub one_more : {x : A} (a : A) (b : B) → i < length t₀ → i < length given → x ≡ next (get_or t i a) (get_or given i b)
        → Upto (set t i x) (i + 1)
    one_more {x} a b h l e =
        rw add-one (record {
          is =
              (λ q. set (u.is q) i ((e ∙ ap (λ (d : A). next d (get_or given i b)) (as_it_stood a)) q))
              ∙ each_one_more next t₀ given i a b h l;
        })

    pub all_ports : length given ≤ i → t ≡ each_port next t₀ given
    all_ports h = u.is ∙ ap (each_port next t₀) (take_all i given h)

-- ---- what each port gave

module _ (t₀ : List Decoder) (modes octets : List ℕ) where
  pub rls_length : length octets ≤ length t₀ → length modes ≡ length octets → length (rls_from t₀ modes octets) ≡ length octets
  unfolding rls_from
  rls_length h l = omega (arith, zip_length rl_from t₀ (zip modes octets), pairs_length modes octets)

  pub rhs_length : length octets ≤ length t₀ → length (rhs_from t₀ octets) ≡ length octets
  unfolding rhs_from
  rhs_length h = omega (arith, zip_length rh_from t₀ octets)

  module _ {h : Signals} {d : Decoder} (i : ℕ) (a : Decoder) (e : h ≡ heard_of d (get_or modes i 0) (get_or octets i 0)) (f : d ≡ get_or t₀ i a)
      (p : i < length t₀) (q : i < length octets) where
    pub rl_of_lem : i < length modes → h.rl ≡ get_or (rls_from t₀ modes octets) i (pos 0)
    unfolding rls_from heard_of
    rl_of_lem l =
        let r : i < length (zip modes octets) = omega (arith, pairs_length modes octets) in
        (λ j. (e j).rl)
        ∙ (λ j. rl_from (f j) (sym (pairs_at modes octets i 0 0 (0, 0) l q) j))
        ∙ sym (zip_at rl_from t₀ (zip modes octets) i a (0, 0) (pos 0) p r)

    pub rh_of_lem : h.rh ≡ get_or (rhs_from t₀ octets) i (pos 0)
    unfolding rhs_from heard_of
    rh_of_lem = (λ j. (e j).rh) ∙ (λ j. rh_from (f j) (get_or octets i 0)) ∙ sym (zip_at rh_from t₀ octets i a 0 (pos 0) p q)

-- ---- what each port hears

-- the total less the own signal is the sum of the others, and limited it is what the port hears
pub sum_at : (xs : List ℤ) (i : ℕ) {all own : ℤ} {x : Limited} → all ≡ sum_of xs → own ≡ get_or xs i (pos 0) → x ≡ limited (all -ℤ own)
    → x ≡ limited (others_of xs i)
sum_at xs i all≡ own≡ e = e ∙ (λ j. limited (all≡ j -ℤ own≡ j)) ∙ ap limited (sym (others_total xs i))

pub heard_at : (xs : List ℤ) (i : ℕ) {x : Limited} → i < length xs → x ≡ limited (others_of xs i) → x.value ≡ get_or (mixed xs) i (pos 0)
unfolding limited
heard_at xs i h e = (λ j. (e j).value) ∙ sym (mixed_at xs i h)

-- what is left to count after i ports
left_turn : (xs : List ℤ) (i : ℕ) → i < length xs
    → overloads (drop i (sums_of xs)) ≡ one (limited (others_of xs i)).changed + overloads (drop (i + 1) (sums_of xs))
unfolding overloads
left_turn xs i h =
    ap overloads (drop_one (sums_of xs) i (pos 0) (rw (sums_length xs) h))
    ∙ ap (λ (z : ℤ). one (limited z).changed + overloads (drop (i + 1) (sums_of xs))) (sums_at xs i h)

abbrev pub sums_left : List ℤ → List ℤ → ℕ → ℕ
sums_left low high i = overloads (drop i (sums_of low)) + overloads (drop i (sums_of high))

module _ (low high : List ℤ) (l : length high ≡ length low) where
  pub none_left : (i : ℕ) → length low ≤ i → sums_left low high i ≡ 0
  unfolding overloads
  none_left i h =
      let p : length (sums_of low) ≤ i = rw (sums_length low) h in
      let q : length (sums_of high) ≤ i = rw (sums_length high, l) h in
      omega (arith, ap overloads (drop_of_length-le (sums_of low) p), ap overloads (drop_of_length-le (sums_of high) q))

  pub sums_counted : {i n whole : ℕ} (x y : Limited) {s : Reply} (c : Coder) → i < length low → Counted n (sums_left low high i) whole i
      → s ≡ sent_of c x y → x ≡ limited (others_of low i) → y ≡ limited (others_of high i)
      → Counted (n + s.limited) (sums_left low high (i + 1)) whole (i + 1)
  unfolding sent_of overloads
  sums_counted {i} x y c h f e x≡ y≡ =
      two_counted (others_of low i) (others_of high i) f ((λ j. (e j).limited) ∙ λ j. changes (x≡ j) (y≡ j))
      (omega (arith, left_turn low i h, left_turn high i (rw l h)))

abbrev pub heards : List ℤ → List ℤ → List (ℤ × ℤ)
heards low high = zip (mixed low) (mixed high)

module _ (t₀ : List Coder) (low high : List ℤ) (l : length high ≡ length low) where
  pub heards_length : length (heards low high) ≡ length low
  heards_length = omega (arith, pairs_length (mixed low) (mixed high), mixed_length low, mixed_length high)

  pub octets_length : length low ≤ length t₀ → length (zip_with octet_to t₀ (heards low high)) ≡ length low
  octets_length h = omega (arith, zip_length octet_to t₀ (heards low high), heards_length)

  module _ {s : Reply} (c : Coder) (x y : Limited) (i : ℕ) (e : s ≡ sent_of c x y) (p : i < length low)
      (x≡ : x.value ≡ get_or (mixed low) i (pos 0)) (y≡ : y.value ≡ get_or (mixed high) i (pos 0)) where
    pair_at : get_or (heards low high) i (pos 0, pos 0) ≡ (x.value, y.value)
    pair_at =
        pairs_at (mixed low) (mixed high) i (pos 0) (pos 0) (pos 0, pos 0)
        (omega (arith, mixed_length low)) (omega (arith, mixed_length high))
        ∙ λ j. (sym x≡ j, sym y≡ j)

    pub next_of : s.next ≡ coder_to c (get_or (heards low high) i (pos 0, pos 0))
    unfolding sent_of
    next_of = (λ j. (e j).next) ∙ ap (coder_to c) (sym pair_at)

    pub octet_of_lem : (a : Coder) → c ≡ get_or t₀ i a → i < length t₀ → s.octet ≡ get_or (zip_with octet_to t₀ (heards low high)) i 0
    unfolding sent_of
    octet_of_lem a f q =
        let r : i < length (heards low high) = omega (arith, heards_length) in
        (λ j. (e j).octet)
        ∙ (λ j. octet_to (f j) (sym pair_at j))
        ∙ sym (zip_at octet_to t₀ (heards low high) i a (pos 0, pos 0) 0 q r)
