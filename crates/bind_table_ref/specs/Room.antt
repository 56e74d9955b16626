-- What the writer of a table asks for, and what is bound of the table by its fields.
-- Assumes nothing.
use Rattle.std.specs.Prelude.{◌≡◌, List, ℕ, ◌+◌, ◌≤◌, length}
use Rattle.std.proofs.Common.{ap, ap₂, ◌∙◌}
use Rattle.bytes_bundle.specs.Held.{Holds}
use Rattle.image_bound.specs.Columns.{bound_table_ref}
use Rattle.image_bound.specs.Made.{table_ref}
use Rattle.image_bound.specs.Spelt.{table_ref_length}
use Rattle.image_catalogue.specs.Layout.{table}
use Rattle.rules.specs.declared.TableId.{TableId}
use Rattle.rules.specs.Lookup.{bound_table}
use Rattle.rules.specs.Tables.{TableSchema}

-- t holds a table, and what is bound of it has room
pub record RefRoom (t o : List ℕ) (at : ℕ) : Type 0 where
  pub value : TableSchema
  pub holds : Holds table t value
  pub room : at + length (bound_table_ref.write (bound_table value)) ≤ length o

pub bound_table_length : (v : TableSchema) → length (bound_table_ref.write (bound_table v)) ≡ 16 + length v.name
unfolding bound_table
bound_table_length v = table_ref_length (bound_table v)

-- by the fields that the code reads
pub bound_table_read : (v : TableSchema) {id : TableId} {version : ℕ} {name : List ℕ} → id ≡ v.id → version ≡ v.version → name ≡ v.name
    → table_ref id version name ≡ bound_table v
unfolding bound_table
bound_table_read v {id} {version} {name} i k n =
    ap₂ (λ (x : TableId) (y : ℕ). table_ref x y name) i k ∙ ap (table_ref v.id v.version) n
