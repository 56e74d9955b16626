-- A row's image, as docs/IMAGES.md lays it out ("The row"). Counts have 4 bytes.
-- Assumes nothing.
use Rattle.std.specs.Prelude.{◌≡◌, List, ℕ}
use Rattle.std.proofs.Math.Option.{Option, some}
use Rattle.bytes_format.specs.Format.{Format}
use Rattle.bytes_format.proofs.Formats.{list_of}
use Rattle.bytes_wire.specs.Le.{Bytes}
use Rattle.image_value.specs.Parts.{value}
use Rattle.rules.specs.Rows.{Row}

unfoldable pub row : Format Row
row = list_of 4 value

-- ---- what a reader of the images wants to know

-- the one image of a row, the row that bytes stand for, and which rows have an image
unfoldable pub encode : Row → List ℕ
encode = row.write

unfoldable pub decode : List ℕ → Option Row
decode = row.read

unfoldable pub HasImage : Row → Type 0
HasImage = row.Ok

-- writing then reading gives the value back
pub decode_encode : (r : Row) → HasImage r → decode (encode r) ≡ some r
unfolding encode decode HasImage
decode_encode = row.there

-- what reads is what would be written
pub encode_decode : (s : List ℕ) (r : Row) → Bytes s → decode s ≡ some r → (s ≡ encode r) × HasImage r
unfolding encode decode HasImage
encode_decode = row.back
