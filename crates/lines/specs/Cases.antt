-- Lines as they are read, each field with a number of its own: fields that change places change the line.
-- Assumes nothing.
use Rattle.std.specs.Prelude.{◌≡◌, refl, pos, negsuc}
use Rattle.lines.specs.Decimal.{spelled, decimal, signed}
use Rattle.lines.specs.Text.{ascii}
use Rattle.lines.specs.Lines.{line_of, text_of, block_line, refused_line, overload_line}

pub block_read : block_line 7 12 3 480 (pos 16383) (negsuc 16383) 95 ≡ ascii "7 12 3 480 16383 -16384 95\n"
unfolding block_line decimal spelled signed ascii
block_read = refl

pub overload_read : overload_line 120 ≡ ascii "overload: 120 sums limited\n"
unfolding overload_line decimal spelled ascii
overload_read = refl

pub refused_read : refused_line 8 1203 ≡ ascii "refused 8 1203\n"
unfolding refused_line decimal spelled ascii
refused_read = refl

-- the 9 bytes of a line that is held behind 151 zeros: they, and no zero before them
pub text_read : text_of (record { ref_ptr = (7, 1000); now = line_of (ascii "refused 8") })
    ≡ record { ref_ptr = (7, 1151); now = ascii "refused 8" }
unfolding line_of ascii
text_read = refl
