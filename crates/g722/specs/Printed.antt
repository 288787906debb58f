-- Tables 4 to 8 and 16 to 21 of G.722 (11/88) as printed. No definition leans on them: Checks.antt holds the definitions against them.
-- Assumes nothing.
use Rattle.std.specs.Prelude.{List, [], ◌∷◌, ℕ, ℤ, pos}
use Rattle.g722.specs.Arithmetic.{neg}
use Rattle.g722.specs.Words.{minus, plus}
use Rattle.g722.specs.declared.Interval.{Interval}

-- Table 4, in units of 10^-9: h0 to h11, which are h23 to h12
unfoldable pub table4 : List ℤ
table4 =
    pos 366211 ∷ neg 1342770 ∷ neg 1342770 ∷ pos 6469730 ∷ pos 1464840 ∷ neg 19043000
    ∷ pos 3906250 ∷ pos 44189500 ∷ neg 25634800 ∷ neg 98266600 ∷ pos 116089000 ∷ pos 473145000 ∷ []

-- Tables 5 to 8, in units of 10^-5. LU6 of Table 5
unfoldable pub lu6 : List ℤ
lu6 =
    pos 6817 ∷ pos 14103 ∷ pos 21389 ∷ pos 29212 ∷ pos 37035 ∷ pos 45482 ∷ pos 53929 ∷ pos 63107 ∷ pos 72286 ∷ pos 82335
    ∷ pos 92383 ∷ pos 103485 ∷ pos 114587 ∷ pos 126989 ∷ pos 139391 ∷ pos 153439 ∷ pos 167486 ∷ pos 183683 ∷ pos 199880 ∷ pos 219006
    ∷ pos 238131 ∷ pos 261482 ∷ pos 284833 ∷ pos 314822 ∷ pos 344811 ∷ pos 386796 ∷ pos 428782 ∷ pos 499498 ∷ pos 570214 ∷ []

-- QL6, QL5, QL4 and WL of Table 7
unfoldable pub ql6 : List ℤ
ql6 =
    pos 3409 ∷ pos 10460 ∷ pos 17746 ∷ pos 25300 ∷ pos 33124 ∷ pos 41259 ∷ pos 49706 ∷ pos 58518 ∷ pos 67697 ∷ pos 77310
    ∷ pos 87359 ∷ pos 97934 ∷ pos 109036 ∷ pos 120788 ∷ pos 133191 ∷ pos 146415 ∷ pos 160462 ∷ pos 175585 ∷ pos 191782 ∷ pos 209443
    ∷ pos 228568 ∷ pos 249806 ∷ pos 273157 ∷ pos 299827 ∷ pos 329816 ∷ pos 365804 ∷ pos 407789 ∷ pos 464140 ∷ pos 534856 ∷ pos 605572 ∷ []

unfoldable pub ql5 : List ℤ
ql5 =
    pos 6817 ∷ pos 21389 ∷ pos 37035 ∷ pos 53929 ∷ pos 72286 ∷ pos 92383 ∷ pos 114587 ∷ pos 139391
    ∷ pos 167486 ∷ pos 199880 ∷ pos 238131 ∷ pos 284833 ∷ pos 344811 ∷ pos 428782 ∷ pos 570214 ∷ []

unfoldable pub ql4 : List ℤ
ql4 = pos 0 ∷ pos 29212 ∷ pos 63107 ∷ pos 103485 ∷ pos 153439 ∷ pos 219006 ∷ pos 314822 ∷ pos 499498 ∷ []

unfoldable pub weight_l : List ℤ
weight_l = neg 2930 ∷ neg 1465 ∷ pos 2832 ∷ pos 8398 ∷ pos 16309 ∷ pos 26270 ∷ pos 58496 ∷ pos 148535 ∷ []

-- HU of Table 6, Q2 and WH of Table 8
unfoldable pub hu : List ℤ
hu = pos 110156 ∷ []

unfoldable pub ql2 : List ℤ
ql2 = pos 39453 ∷ pos 180859 ∷ []

unfoldable pub weight_h : List ℤ
weight_h = neg 10449 ∷ pos 38965 ∷ []

-- a row of Tables 16 to 21: a word beside its sign and interval
pub record Row : Type 0 where
  pub word : ℕ
  pub interval : Interval

abbrev pub row : ℕ → Interval → Row
row w v = record { word = w; interval = v }

-- Table 16, the left columns and the right
unfoldable pub table16 : List Row
table16 =
    row 0b000100 (minus 30) ∷ row 0b000101 (minus 29) ∷ row 0b000110 (minus 28) ∷ row 0b000111 (minus 27)
    ∷ row 0b001000 (minus 26) ∷ row 0b001001 (minus 25) ∷ row 0b001010 (minus 24) ∷ row 0b001011 (minus 23)
    ∷ row 0b001100 (minus 22) ∷ row 0b001101 (minus 21) ∷ row 0b001110 (minus 20) ∷ row 0b001111 (minus 19)
    ∷ row 0b010000 (minus 18) ∷ row 0b010001 (minus 17) ∷ row 0b010010 (minus 16) ∷ row 0b010011 (minus 15)
    ∷ row 0b010100 (minus 14) ∷ row 0b010101 (minus 13) ∷ row 0b010110 (minus 12) ∷ row 0b010111 (minus 11)
    ∷ row 0b011000 (minus 10) ∷ row 0b011001 (minus 9) ∷ row 0b011010 (minus 8) ∷ row 0b011011 (minus 7)
    ∷ row 0b011100 (minus 6) ∷ row 0b011101 (minus 5) ∷ row 0b011110 (minus 4) ∷ row 0b011111 (minus 3)
    ∷ row 0b111110 (minus 2) ∷ row 0b111111 (minus 1) ∷ row 0b111101 (plus 1) ∷ row 0b111100 (plus 2)
    ∷ row 0b111011 (plus 3) ∷ row 0b111010 (plus 4) ∷ row 0b111001 (plus 5) ∷ row 0b111000 (plus 6)
    ∷ row 0b110111 (plus 7) ∷ row 0b110110 (plus 8) ∷ row 0b110101 (plus 9) ∷ row 0b110100 (plus 10)
    ∷ row 0b110011 (plus 11) ∷ row 0b110010 (plus 12) ∷ row 0b110001 (plus 13) ∷ row 0b110000 (plus 14)
    ∷ row 0b101111 (plus 15) ∷ row 0b101110 (plus 16) ∷ row 0b101101 (plus 17) ∷ row 0b101100 (plus 18)
    ∷ row 0b101011 (plus 19) ∷ row 0b101010 (plus 20) ∷ row 0b101001 (plus 21) ∷ row 0b101000 (plus 22)
    ∷ row 0b100111 (plus 23) ∷ row 0b100110 (plus 24) ∷ row 0b100101 (plus 25) ∷ row 0b100100 (plus 26)
    ∷ row 0b100011 (plus 27) ∷ row 0b100010 (plus 28) ∷ row 0b100001 (plus 29) ∷ row 0b100000 (plus 30) ∷ []

-- Table 17
unfoldable pub table17 : List Row
table17 =
    row 0b0000 (plus 0) ∷ row 0b0001 (minus 7) ∷ row 0b0010 (minus 6) ∷ row 0b0011 (minus 5)
    ∷ row 0b0100 (minus 4) ∷ row 0b0101 (minus 3) ∷ row 0b0110 (minus 2) ∷ row 0b0111 (minus 1)
    ∷ row 0b1111 (plus 0) ∷ row 0b1110 (plus 1) ∷ row 0b1101 (plus 2) ∷ row 0b1100 (plus 3)
    ∷ row 0b1011 (plus 4) ∷ row 0b1010 (plus 5) ∷ row 0b1001 (plus 6) ∷ row 0b1000 (plus 7) ∷ []

-- Table 18
unfoldable pub table18 : List Row
table18 =
    row 0b000000 (minus 1) ∷ row 0b000001 (minus 1) ∷ row 0b000010 (minus 1) ∷ row 0b000011 (minus 1)
    ∷ row 0b000100 (minus 30) ∷ row 0b000101 (minus 29) ∷ row 0b000110 (minus 28) ∷ row 0b000111 (minus 27)
    ∷ row 0b001000 (minus 26) ∷ row 0b001001 (minus 25) ∷ row 0b001010 (minus 24) ∷ row 0b001011 (minus 23)
    ∷ row 0b001100 (minus 22) ∷ row 0b001101 (minus 21) ∷ row 0b001110 (minus 20) ∷ row 0b001111 (minus 19)
    ∷ row 0b010000 (minus 18) ∷ row 0b010001 (minus 17) ∷ row 0b010010 (minus 16) ∷ row 0b010011 (minus 15)
    ∷ row 0b010100 (minus 14) ∷ row 0b010101 (minus 13) ∷ row 0b010110 (minus 12) ∷ row 0b010111 (minus 11)
    ∷ row 0b011000 (minus 10) ∷ row 0b011001 (minus 9) ∷ row 0b011010 (minus 8) ∷ row 0b011011 (minus 7)
    ∷ row 0b011100 (minus 6) ∷ row 0b011101 (minus 5) ∷ row 0b011110 (minus 4) ∷ row 0b011111 (minus 3)
    ∷ row 0b111110 (minus 2) ∷ row 0b111111 (minus 1) ∷ row 0b111101 (plus 1) ∷ row 0b111100 (plus 2)
    ∷ row 0b111011 (plus 3) ∷ row 0b111010 (plus 4) ∷ row 0b111001 (plus 5) ∷ row 0b111000 (plus 6)
    ∷ row 0b110111 (plus 7) ∷ row 0b110110 (plus 8) ∷ row 0b110101 (plus 9) ∷ row 0b110100 (plus 10)
    ∷ row 0b110011 (plus 11) ∷ row 0b110010 (plus 12) ∷ row 0b110001 (plus 13) ∷ row 0b110000 (plus 14)
    ∷ row 0b101111 (plus 15) ∷ row 0b101110 (plus 16) ∷ row 0b101101 (plus 17) ∷ row 0b101100 (plus 18)
    ∷ row 0b101011 (plus 19) ∷ row 0b101010 (plus 20) ∷ row 0b101001 (plus 21) ∷ row 0b101000 (plus 22)
    ∷ row 0b100111 (plus 23) ∷ row 0b100110 (plus 24) ∷ row 0b100101 (plus 25) ∷ row 0b100100 (plus 26)
    ∷ row 0b100011 (plus 27) ∷ row 0b100010 (plus 28) ∷ row 0b100001 (plus 29) ∷ row 0b100000 (plus 30) ∷ []

-- Table 19, whose left column is printed with six digits: the last five
unfoldable pub table19 : List Row
table19 =
    row 0b00000 (minus 1) ∷ row 0b00001 (minus 1) ∷ row 0b00010 (minus 15) ∷ row 0b00011 (minus 14)
    ∷ row 0b00100 (minus 13) ∷ row 0b00101 (minus 12) ∷ row 0b00110 (minus 11) ∷ row 0b00111 (minus 10)
    ∷ row 0b01000 (minus 9) ∷ row 0b01001 (minus 8) ∷ row 0b01010 (minus 7) ∷ row 0b01011 (minus 6)
    ∷ row 0b01100 (minus 5) ∷ row 0b01101 (minus 4) ∷ row 0b01110 (minus 3) ∷ row 0b01111 (minus 2)
    ∷ row 0b11111 (minus 1) ∷ row 0b11110 (plus 1) ∷ row 0b11101 (plus 2) ∷ row 0b11100 (plus 3)
    ∷ row 0b11011 (plus 4) ∷ row 0b11010 (plus 5) ∷ row 0b11001 (plus 6) ∷ row 0b11000 (plus 7)
    ∷ row 0b10111 (plus 8) ∷ row 0b10110 (plus 9) ∷ row 0b10101 (plus 10) ∷ row 0b10100 (plus 11)
    ∷ row 0b10011 (plus 12) ∷ row 0b10010 (plus 13) ∷ row 0b10001 (plus 14) ∷ row 0b10000 (plus 15) ∷ []

-- Table 20, whose second row is printed with interval 2: as Table 21 decides
unfoldable pub table20 : List Row
table20 = row 0b00 (minus 2) ∷ row 0b01 (minus 1) ∷ row 0b11 (plus 1) ∷ row 0b10 (plus 2) ∷ []

-- Table 21
unfoldable pub table21 : List Row
table21 = row 0b00 (minus 2) ∷ row 0b01 (minus 1) ∷ row 0b11 (plus 1) ∷ row 0b10 (plus 2) ∷ []
