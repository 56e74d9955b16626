-- The catalogue's image, as docs/IMAGES.md lays it out ("The catalogue"). Counts have 2 bytes.
-- Assumes nothing.
use Rattle.std.specs.Prelude.{◌≡◌, refl, List, ℕ}
use Rattle.std.proofs.Math.Option.{Option, some}
use Rattle.bytes_format.specs.Format.{Format, Fixed}
use Rattle.bytes_format.proofs.Formats.{text, number, alone, via, checked, both, end, ◌and◌, list_of, record_of}
use Rattle.bytes_wire.specs.Le.{Bytes}
use Rattle.image_value.specs.Parts.{column_id, table_id, column_schema}
use Rattle.rules.specs.declared.TableId.{TableId}
use Rattle.rules.specs.Tables.{TableSchema, Catalogue, sound}

-- id, schema version, tablet count
abbrev pub TableNumbers : Type 0
TableNumbers = TableId × (ℕ × ℕ)

abbrev pub table_numbers : Fixed TableNumbers
table_numbers = both table_id (both (number 8) (number 4))

unfoldable pub table : Format TableSchema
table =
    via (record_of 2 (alone table_numbers and text and list_of 2 (column_schema 2) and list_of 2 (alone column_id) and end))
    (λ p. record { id = p.0.0; name = p.1.0; columns = p.1.1.0; key = p.1.1.1.0; version = p.0.1.0; tablets = p.0.1.1 })
    (λ t. ((t.id, (t.version, t.tablets)), (t.name, (t.columns, (t.key, tt)))))
    (λ t. refl)
    (λ p h. refl)

-- a list of tables that is sound: "Anything else is no catalogue image."
unfoldable pub catalogue : Format Catalogue
catalogue = checked (list_of 2 table) sound

-- ---- what a reader of the images wants to know

-- the one image of a catalogue, the catalogue that bytes stand for, and which catalogues have an image
unfoldable pub encode : Catalogue → List ℕ
encode = catalogue.write

unfoldable pub decode : List ℕ → Option Catalogue
decode = catalogue.read

unfoldable pub HasImage : Catalogue → Type 0
HasImage = catalogue.Ok

-- writing then reading gives the value back
pub decode_encode : (c : Catalogue) → HasImage c → decode (encode c) ≡ some c
unfolding encode decode HasImage
decode_encode = catalogue.there

-- what reads is what would be written
pub encode_decode : (s : List ℕ) (c : Catalogue) → Bytes s → decode s ≡ some c → (s ≡ encode c) × HasImage c
unfolding encode decode HasImage
encode_decode = catalogue.back
