-- Laws of a state's parts, on plain values.
-- Assumes nothing.
use mathlib.Core.Path.{◌≡◌, refl, sym, ap, ◌∙◌}
use mathlib.Core.Bool.{true, false}
use mathlib.Core.List.{List, [], ◌∷◌, ◌++◌, append_assoc}
use Prim.Native.Nat.{ℕ, ◌+◌, ◌-◌, ◌*◌, ◌≤◌, ◌<◌}
use native.Mathlib.Omega.{arith}
use borrow.Author.Tests.{eq-eqb, ne_eqb}
use lib.IntN.{ℤ, pos}
use lib.ListN.{length, set, take, drop, replicate, length-drop}
use Rattle.std.proofs.lemmas.List.{take-take, drop-take}
use lib.Seq.{length-take-le, take_all, drop-drop, get_or-take, get_or-drop}
use borrow.Rule.Slice.PartMut.{mid_of, put_mid, same_len_mid, mid_len}
use Rattle.laws.specs.Parts.{behind}
use Rattle.g722.specs.Records.{reset_band}
use Rattle.g722.specs.declared.Band.{Band}
use Rattle.g722.specs.declared.Coder.{Coder}
use Rattle.g722.specs.declared.Decoder.{Decoder}
use Rattle.big_endian.specs.Bytes.{pcm_samples, pcm_bytes, load_call, store_call, load_all, store_all}
use Rattle.big_endian.specs.Bytes.{samples_of_first, samples_of_rest, bytes_join, bytes_length}
use Rattle.state.specs.Layout.{band_values, write_call}
use Rattle.state.specs.Layout.{value, part, band_of, coder_of, decoder_of, holds, no_coder, no_decoder, coder_in, decoder_in}

-- ---- read

part_length : (a n : ℕ) (b : List ℕ) → a + n ≤ length b → length (take n (drop a b)) ≡ n
part_length a n b h = length-take-le n (drop a b) (rw length-drop (omega arith))

-- the values that stand at bytes a to a + 2n, and behind the first byte of a state
module _ (k n : ℕ) (z : List ℤ) {r : List ℤ} where
  pub values_at : (b : List ℕ) → 2 * k + 2 * n ≤ length b → length z ≡ n → r ≡ (load_call (take (2 * n) (drop (2 * k) b)) z).left
      → r ≡ part k n (pcm_samples b)
  values_at b h l e =
      let p = part_length (2 * k) (2 * n) b h in
      e ∙ load_all (take (2 * n) (drop (2 * k) b)) z (omega (arith, p, l))
      ∙ samples_of_first n (drop (2 * k) b) ∙ ap (take n) (samples_of_rest k b)

  pub values_behind : (s : List ℕ) → 1 + 2 * k + 2 * n ≤ length s → length z ≡ n
      → r ≡ (load_call (take (2 * n) (drop (1 + 2 * k) s)) z).left → r ≡ part k n (pcm_samples (drop 1 s))
  values_behind s h l e =
      values_at (drop 1 s) (rw length-drop (omega arith)) l (e ∙ ap (λ x. (load_call (take (2 * n) x) z).left) (sym (drop-drop (2 * k) 1 s)))

-- a part of a part
pub part_of_part : (a n k m : ℕ) (v : List ℤ) → k + m ≤ n → part k m (part a n v) ≡ part (a + k) m v
part_of_part a n k m v h =
    let e : n ≡ k + (n - k) = omega arith in
    ap (λ (x : ℕ). take m (drop k (take x (drop a v)))) e
    ∙ ap (take m) (drop-take k (n - k) (drop a v))
    ∙ take-take m (n - k) (drop k (drop a v)) (omega arith)
    ∙ ap (take m) (drop-drop k a v)

-- a band that stands there
pub band_behind : (k : ℕ) (s : List ℕ) → band_of (pcm_samples (take 40 (drop (1 + 2 * k) s))) ≡ band_of (part k 20 (pcm_samples (drop 1 s)))
band_behind k s =
    ap band_of (ap (λ x. pcm_samples (take 40 x)) (sym (drop-drop (2 * k) 1 s))
    ∙ samples_of_first 20 (drop (2 * k) (drop 1 s)) ∙ ap (take 20) (samples_of_rest k (drop 1 s)))

-- a band from its rows and its eight last values
pub band_read : (v : List ℤ) {b d rest : List ℤ} → b ≡ part 0 6 v → d ≡ part 6 6 v → rest ≡ part 12 8 v
    → ◌≡◌ {A = Band} (record {
      zeros = record { b = b; d = d };
      poles = record { a1 = value rest 0; a2 = value rest 1; r1 = value rest 2; r2 = value rest 3; p1 = value rest 4; p2 = value rest 5 };
      factors = record { log = value rest 6; scale = value rest 7 };
    }) (band_of v)
unfolding band_of
band_read v {rest = rest} f g h =
    let at : (k : ℕ) → k < 8 → value rest k ≡ value v (12 + k) =
    λ k l. ap (λ x. value x k) h ∙ get_or-take 8 (drop 12 v) k (pos 0) l ∙ get_or-drop 12 v k (pos 0) in
    λ i. record {
      zeros = record { b = f i; d = g i };
      poles = record {
        a1 = at 0 (omega arith) i;
        a2 = at 1 (omega arith) i;
        r1 = at 2 (omega arith) i;
        r2 = at 3 (omega arith) i;
        p1 = at 4 (omega arith) i;
        p2 = at 5 (omega arith) i;
      };
      factors = record { log = at 6 (omega arith) i; scale = at 7 (omega arith) i };
    }

-- a record that bytes hold, and what they are read as where they hold none
module _ (s : List ℕ) {low high : Band} where
  module _ (l : low ≡ band_of (part 0 20 (pcm_samples (drop 1 s)))) (h : high ≡ band_of (part 20 20 (pcm_samples (drop 1 s)))) where
    pub coder_read : {past : List ℤ} → holds 1 s ≡ true → past ≡ part 40 22 (pcm_samples (drop 1 s))
        → ◌≡◌ {A = Coder} (record { low = low; high = high; past = past }) (coder_in s)
    unfolding coder_in coder_of
    coder_read e p = rw e (λ i. record { low = l i; high = h i; past = p i })

    pub decoder_read : {rl rh : List ℤ} → holds 2 s ≡ true → rl ≡ part 40 11 (pcm_samples (drop 1 s))
        → rh ≡ part 51 11 (pcm_samples (drop 1 s)) → ◌≡◌ {A = Decoder} (record { low = low; high = high; past = record { rl = rl; rh = rh } }) (decoder_in s)
    unfolding decoder_in decoder_of
    decoder_read e p q =
        rw e (λ i. record { low = l i; high = h i; past = record { rl = p i; rh = q i } })

  module _ (l : low ≡ reset_band (pos 0)) (h : high ≡ reset_band (pos 0)) where
    pub no_coder_lem : holds 1 s ≡ false → ◌≡◌ {A = Coder} (record { low = low; high = high; past = replicate 22 (pos 0) }) (coder_in s)
    unfolding coder_in no_coder
    no_coder_lem e = rw e (λ i. record { low = l i; high = h i; past = replicate 22 (pos 0) })

    pub no_decoder_lem : holds 2 s ≡ false
        → ◌≡◌ {A = Decoder}
        (record { low = low; high = high; past = record { rl = replicate 11 (pos 0); rh = replicate 11 (pos 0) } }) (decoder_in s)
    unfolding decoder_in no_decoder
    no_decoder_lem e = rw e (λ i. record { low = l i; high = h i; past = record { rl = replicate 11 (pos 0); rh = replicate 11 (pos 0) } })

-- ---- written, part after part

-- of m bytes the first e are p
pub record Front (m e : ℕ) (p xs : List ℕ) : Type 0 where
  pub long : length xs ≡ m
  pub is : take e xs ≡ p

module _ {m : ℕ} {p xs : List ℕ} where
  -- where all are, that is what stands there
  pub whole : Front m m p xs → xs ≡ p
  whole f = sym (take_all m xs (omega (arith, f.long))) ∙ f.is

  -- a part written behind them
  pub further : (a e : ℕ) (ys : List ℕ) → Front m a p xs → a ≤ e → e ≤ m → length ys ≡ e - a → Front m e (p ++ ys) (put_mid a (e - a) xs ys)
  further a e ys f h k l =
      let n = f.long in
      record {
        long = same_len_mid a (e - a) xs ys (l ∙ sym (mid_len a e xs (omega arith))) ∙ n;
        is = behind a e xs ys p h (omega arith) l f.is;
      }

  -- and values stored there
  pub stored : (a e : ℕ) (v : List ℤ) {ys : List ℕ} → Front m a p xs → a ≤ e → e ≤ m → e - a ≡ 2 * length v
      → ys ≡ (store_call v (mid_of a (e - a) xs)).left → Front m e (p ++ pcm_bytes v) (put_mid a (e - a) xs ys)
  stored a e v f h k l g =
      let n = f.long in
      let y = g ∙ store_all v (mid_of a (e - a) xs) (mid_len a e xs (omega arith) ∙ l) in
      rw y (further a e (pcm_bytes v) f h k (bytes_length v ∙ sym l))

-- the first byte
pub first : (m kind : ℕ) (xs : List ℕ) → 0 < m → length xs ≡ m → Front m 1 (kind ∷ []) (set xs 0 kind)
first m kind [] h l = absurd (omega arith)
first m kind (x ∷ xs) h l = record { long = l; is = refl }

-- ---- what is written is what the layout says

module _ (state lent : List ℕ) where
  pub written : length lent ≡ 125 → write_call state lent ≡ record { answer = true; left = state }
  unfolding write_call
  written e = simp (eq-eqb _ _ e)

  pub unwritten : (length lent ≡ 125 → ⊥) → write_call state lent ≡ record { answer = false; left = lent }
  unfolding write_call
  unwritten e = simp (ne_eqb _ _ e)

-- values in parts
join3 : (a b c : List ℤ) → (pcm_bytes a ++ pcm_bytes b) ++ pcm_bytes c ≡ pcm_bytes (a ++ (b ++ c))
join3 a b c =
    append_assoc (pcm_bytes a) (pcm_bytes b) (pcm_bytes c)
    ∙ ap (λ x. pcm_bytes a ++ x) (sym (bytes_join b c)) ∙ sym (bytes_join a (b ++ c))

pub band_written : (s : Band) {xs : List ℕ}
    → Front 40 40 ((pcm_bytes s.zeros.b ++ pcm_bytes s.zeros.d) ++ pcm_bytes (s.poles.a1 ∷ s.poles.a2 ∷ s.poles.r1 ∷ s.poles.r2
    ∷ s.poles.p1 ∷ s.poles.p2 ∷ s.factors.log ∷ s.factors.scale ∷ [])) xs
    → xs ≡ pcm_bytes (band_values s)
unfolding band_values
band_written s f = whole f ∙ join3 s.zeros.b s.zeros.d _

-- a record's first byte, its bands and the values behind them
pub all_written : (kind : ℕ) (low high : Band) (past : List ℤ) {xs : List ℕ}
    → Front 125 125 ((kind ∷ pcm_bytes (band_values low ++ band_values high)) ++ pcm_bytes past) xs
    → xs ≡ kind ∷ pcm_bytes (band_values low ++ (band_values high ++ past))
all_written kind low high past f =
    whole f ∙ ap (λ x. kind ∷ x) (sym (bytes_join (band_values low ++ band_values high) past)
    ∙ ap pcm_bytes (append_assoc (band_values low) (band_values high) past))
