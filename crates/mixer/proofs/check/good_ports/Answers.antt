-- The definition looks at the same ports.
use Rattle.std.proofs.Common.{rules, tests, ◌≡◌, refl, sym, ap, ◌∙◌, arith, min, take, length, List, [], ◌∷◌, ◌&&◌, Bool}
use Prim.Native.Nat.{ℕ, zero, suc}
use mathlib.Core.List.{zip, zip_with}
use Rattle.std.specs.List.{list_all, zip as pairs}
use Rattle.std.proofs.lemmas.Iterator.{YieldsList-from_slice, YieldsList-from_zip}
use Rattle.std.proofs.lemmas.Iterator.Search.{all_from_yields_List}
use Rattle.std.proofs.lemmas.List.{take_min}
use Rattle.g722.specs.declared.Coder.{Coder}
use Rattle.g722.specs.declared.Decoder.{Decoder}
use Rattle.conference.specs.Tick.{all_good, good_port, good_ports}
use Rattle.conference.proofs.Rows.{pairs_length}
use Rattle.mixer.proofs.check.good_ports.Goals as goal

defined : {A : Type 0} (good : A → Bool) (xs : List A) → list_all good xs ≡ all_good good xs
unfolding all_good
defined good [] = refl
defined good (x ∷ xs) = ap (λ (b : Bool). good x && b) (defined good xs)

-- the ports in use, of both tables
taken : (n : ℕ) (cs : List Coder) (ds : List Decoder) → pairs (take n cs) (take n ds) ≡ take n (zip cs ds)
unfolding zip zip_with
taken zero cs ds = refl
taken (suc n) [] ds = refl
taken (suc n) (c ∷ cs) [] = refl
taken (suc n) (c ∷ cs) (d ∷ ds) = ap (λ (l : List (Coder × Decoder)). (c, d) ∷ l) (taken n cs ds)

-- there are eight ports at most, whatever number is told
used : (n : ℕ) (cs : List Coder) (ds : List Decoder) → length cs ≡ 8 → length ds ≡ 8 → take (min n 8) (zip cs ds) ≡ take n (zip cs ds)
used n cs ds h k =
    let l : length (zip cs ds) ≡ 8 = omega (arith, pairs_length cs ds) in
    ap (λ (m : ℕ). take (min n m) (zip cs ds)) (sym l) ∙ take_min n (zip cs ds)

pub returns : goal.returns
unfolding good_ports
returns c =
    let cs = c.args.desk.coders in
    let ds = c.args.desk.decoders in
    let n = min c.args.desk.ports 8 in
    let m : c.min-n.result ≡ n = c.min-n.ensures ∙ ap (λ (p : ℕ). min p 8) c.from.ensures in
    let both = YieldsList-from_zip {s = c.zip.result} (YieldsList-from_slice (take n cs) (cc)) (YieldsList-from_slice (take n ds) (cc)) in
    all_from_yields_List good_port c.all.new.self _ _ c.all.ensures.ran both (λ x b q k. search (rules, tests))
    ∙ defined good_port (pairs (take n cs) (take n ds))
    ∙ ap (all_good good_port) (taken n cs ds ∙ used c.args.desk.ports cs ds (search rules) (search rules))
