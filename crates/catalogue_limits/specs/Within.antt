-- What is within the limits, test by test, as the code makes them.
-- Assumes nothing.
use Rattle.std.specs.Prelude.{◌≡◌, Bool, List, [], ◌∷◌, ℕ, length}
use Rattle.std.proofs.Common.{ap}
use Rattle.bytes_format.specs.Format.{Format}
use Rattle.bytes_format.proofs.Formats.{list_of}
use Rattle.bytes_bundle.specs.Bundle.{parts_of}
use Rattle.bytes_bundle.specs.Decides.{Decides}
use Rattle.rules.specs.Lists.{all}
use Rattle.rules.specs.Tables.{ColumnSchema, TableSchema, Catalogue}
use Rattle.rules.specs.Limits.{at_most, name_within, table_within, catalogue_within}
use Rattle.bytes_bundle.specs.Held.{Holds, list_count}
use Rattle.image_catalogue.specs.Entries.{chain_is}

abbrev pub column_within : ColumnSchema → Bool
column_within c = name_within c.name

-- a list is as long as the parts of its image are many
pub count_within : {A : Type 0} (f : Format A) (limit : ℕ) (s : List ℕ) {vs : List A} → Holds (list_of 2 f) s vs → at_most limit (length vs) ≡ at_most limit (length (parts_of 2 s))
count_within f limit s h = ap (at_most limit) (list_count f s h)

abbrev pub table_within_tests : TableSchema → List Bool
table_within_tests t = name_within t.name ∷ at_most 64 (length t.columns) ∷ all column_within t.columns ∷ at_most 64 (length t.key) ∷ []

pub table_within_decided : (t : TableSchema) → Decides (table_within t) (table_within_tests t)
unfolding table_within
table_within_decided t = record {
  is = chain_is (name_within t.name) (at_most 64 (length t.columns) ∷ all column_within t.columns ∷ at_most 64 (length t.key) ∷ []);
}

pub within_decided : (n : ℕ) (c : Catalogue) → Decides (catalogue_within n c) (at_most 65536 n ∷ at_most 256 (length c) ∷ all table_within c ∷ [])
unfolding catalogue_within
within_decided n c = record { is = chain_is (at_most 65536 n) (at_most 256 (length c) ∷ all table_within c ∷ []) }
