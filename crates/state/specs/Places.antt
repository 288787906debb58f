-- Which value stands where: of records whose values count up, in the order of their fields, the values count up. The laws of Round hold
-- also where two fields are exchanged both in writing and in reading; this does not.
-- Assumes nothing.
use Rattle.std.specs.Prelude.{◌≡◌, refl, List, [], ◌∷◌, ℕ, zero, suc, ◌+◌, ℤ, pos}
use Rattle.g722.specs.declared.Band.{Band}
use Rattle.state.specs.Layout.{band_values, coder_values, decoder_values}

-- so many numbers from k up
abbrev count : ℕ → ℕ → List ℤ
count k zero = []
count k (suc n) = pos k ∷ count (k + 1) n

abbrev counted : ℕ → Band
counted k =
    record {
      zeros = record { b = count k 6; d = count (k + 6) 6 };
      poles = record {
        a1 = pos (k + 12);
        a2 = pos (k + 13);
        r1 = pos (k + 14);
        r2 = pos (k + 15);
        p1 = pos (k + 16);
        p2 = pos (k + 17);
      };
      factors = record { log = pos (k + 18); scale = pos (k + 19) };
    }

coder_places : coder_values (record { low = counted 1; high = counted 21; past = count 41 22 }) ≡ count 1 62
unfolding coder_values band_values
coder_places = refl

decoder_places : decoder_values (record { low = counted 1; high = counted 21; past = record { rl = count 41 11; rh = count 52 11 } })
    ≡ count 1 62
unfolding decoder_values band_values
decoder_places = refl
