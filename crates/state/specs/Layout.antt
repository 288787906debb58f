-- A record as the bytes that a host keeps: one byte that says which record it is, 1 the coder's and 2 the decoder's, and then its 62
-- values in the order of its fields, each two bytes, high byte first.
-- Assumes nothing.
use Rattle.std.specs.Prelude.{Bool, cond, ◌&&◌, List, [], ◌∷◌, ◌++◌, ℕ, eqb, ℤ, pos, length, get_or, take, drop, replicate}
use Rattle.laws.specs.Outcome.{Outcome}
use Rattle.g722.specs.Records.{reset_band}
use Rattle.g722.specs.declared.Band.{Band}
use Rattle.g722.specs.declared.Coder.{Coder}
use Rattle.g722.specs.declared.Decoder.{Decoder}
use Rattle.big_endian.specs.Bytes.{pcm_samples, pcm_bytes}
use Rattle.state.specs.declared.Kind.{Kind}
use Rattle.state.specs.declared.Kind.TheVariants.{OfCoder, OfDecoder}

-- the first byte, by the record
abbrev pub byte_of : Kind → ℕ
byte_of kind = elim kind [ OfCoder ↦ 1 | OfDecoder ↦ 2 ]

-- ---- written

-- the 20 values of a band
unfoldable pub band_values : Band → List ℤ
band_values s =
    s.zeros.b ++ (s.zeros.d ++ (s.poles.a1 ∷ s.poles.a2 ∷ s.poles.r1 ∷ s.poles.r2 ∷ s.poles.p1 ∷ s.poles.p2
    ∷ s.factors.log ∷ s.factors.scale ∷ []))

-- the 62 of each record
unfoldable pub coder_values : Coder → List ℤ
coder_values c = band_values c.low ++ (band_values c.high ++ c.past)

unfoldable pub decoder_values : Decoder → List ℤ
decoder_values d = band_values d.low ++ (band_values d.high ++ (d.past.rl ++ d.past.rh))

unfoldable pub coder_bytes : Coder → List ℕ
coder_bytes c = 1 ∷ pcm_bytes (coder_values c)

unfoldable pub decoder_bytes : Decoder → List ℕ
decoder_bytes d = 2 ∷ pcm_bytes (decoder_values d)

-- lent bytes that have the length of a state take it; others stay
unfoldable pub write_call : List ℕ → List ℕ → Outcome Bool (List ℕ)
write_call state lent = record { answer = eqb (length lent) 125; left = cond (eqb (length lent) 125) state lent }

-- ---- read

-- one value, and so many from a place on
abbrev pub value : List ℤ → ℕ → ℤ
value v k = get_or v k (pos 0)

abbrev pub part : ℕ → ℕ → List ℤ → List ℤ
part from count v = take count (drop from v)

unfoldable pub band_of : List ℤ → Band
band_of v =
    record {
      zeros = record { b = part 0 6 v; d = part 6 6 v };
      poles = record { a1 = value v 12; a2 = value v 13; r1 = value v 14; r2 = value v 15; p1 = value v 16; p2 = value v 17 };
      factors = record { log = value v 18; scale = value v 19 };
    }

unfoldable pub coder_of : List ℤ → Coder
coder_of v = record { low = band_of (part 0 20 v); high = band_of (part 20 20 v); past = part 40 22 v }

unfoldable pub decoder_of : List ℤ → Decoder
decoder_of v =
    record { low = band_of (part 0 20 v); high = band_of (part 20 20 v); past = record { rl = part 40 11 v; rh = part 51 11 v } }

-- bytes of a state's length, whose first is the kind
unfoldable pub holds : ℕ → List ℕ → Bool
holds kind state = eqb (length state) 125 && eqb (get_or state 0 0) kind

-- What bytes that hold no such record are read as: all zero, the scale factors too. No scale factor is 0, so every call refuses it
unfoldable pub no_coder : Coder
no_coder = record { low = reset_band (pos 0); high = reset_band (pos 0); past = replicate 22 (pos 0) }

unfoldable pub no_decoder : Decoder
no_decoder =
    record {
      low = reset_band (pos 0);
      high = reset_band (pos 0);
      past = record { rl = replicate 11 (pos 0); rh = replicate 11 (pos 0) };
    }

unfoldable pub coder_in : List ℕ → Coder
coder_in state = cond (holds 1 state) (coder_of (pcm_samples (drop 1 state))) no_coder

unfoldable pub decoder_in : List ℕ → Decoder
decoder_in state = cond (holds 2 state) (decoder_of (pcm_samples (drop 1 state))) no_decoder
