-- The bound statement's image, as docs/IMAGES.md lays it out ("The bound statement"). Counts have 4 bytes.
-- Assumes nothing.
use Rattle.std.specs.Prelude.{◌≡◌, refl, List, [], ◌∷◌, ℕ}
use Rattle.std.proofs.Math.Option.{Option, some}
use Rattle.bytes_wire.specs.Le.{Bytes}
use Rattle.bytes_format.specs.Format.{Format}
use Rattle.bytes_format.proofs.Formats.{text, nothing, alone, via, optional, end, ◌and◌, list_of, record_of}
use Rattle.bytes_format.proofs.Sums.{Case, case, Some, nth, made, sum, choice}
use Rattle.image_value.specs.Parts.{column_id, value, column_schema}
use Rattle.rules.specs.Bound.{
  BoundCreateTable,
  BoundInsert,
  BoundSelect,
  BoundAssignment,
  BoundUpdate,
  BoundDelete,
  BoundStatement,
  bound_create_table,
  bound_insert,
  bound_select,
  bound_update,
  bound_delete,
  bound_begin,
  bound_commit,
  bound_rollback,
  bound_show_tables,
  bound_show_transactions,
}
use Rattle.image_bound.specs.Columns.{bound_table_ref, bound_column_ref}
use Rattle.image_bound.specs.Expression.{bound_expression, bound_expression_not_empty}

unfoldable pub create_table : Format BoundCreateTable
create_table =
    via (record_of 4 (text and list_of 4 (column_schema 4) and list_of 4 (alone column_id) and end))
    (λ p. record { table_name = p.0; columns = p.1.0; key = p.1.1.0 })
    (λ c. (c.table_name, (c.columns, (c.key, tt))))
    (λ c. refl)
    (λ p h. refl)

unfoldable pub insert : Format BoundInsert
insert =
    via (record_of 4 (bound_table_ref and list_of 4 bound_column_ref and list_of 4 (list_of 4 value) and end))
    (λ p. record { table = p.0; target_columns = p.1.0; rows = p.1.1.0 })
    (λ i. (i.table, (i.target_columns, (i.rows, tt))))
    (λ i. refl)
    (λ p h. refl)

unfoldable pub select : Format BoundSelect
select =
    via (record_of 4 (bound_table_ref and list_of 4 bound_column_ref and optional bound_expression bound_expression_not_empty and end))
    (λ p. record { table = p.0; projection = p.1.0; filter = p.1.1.0 })
    (λ s. (s.table, (s.projection, (s.filter, tt))))
    (λ s. refl)
    (λ p h. refl)

unfoldable pub assignment : Format BoundAssignment
assignment =
    via (record_of 4 (bound_column_ref and bound_expression and end))
    (λ p. record { column = p.0; value = p.1.0 })
    (λ a. (a.column, (a.value, tt)))
    (λ a. refl)
    (λ p h. refl)

unfoldable pub update : Format BoundUpdate
update =
    via (record_of 4 (bound_table_ref and list_of 4 assignment and bound_expression and end))
    (λ p. record { table = p.0; assignments = p.1.0; filter = p.1.1.0 })
    (λ u. (u.table, (u.assignments, (u.filter, tt))))
    (λ u. refl)
    (λ p h. refl)

unfoldable pub delete : Format BoundDelete
delete =
    via (record_of 4 (bound_table_ref and bound_expression and end))
    (λ p. record { table = p.0; filter = p.1.0 })
    (λ d. (d.table, (d.filter, tt)))
    (λ d. refl)
    (λ p h. refl)

abbrev pub bound_cases : List (Case BoundStatement)
bound_cases =
    case create_table bound_create_table ∷ case insert bound_insert ∷ case select bound_select ∷ case update bound_update ∷ case delete bound_delete
    ∷ case nothing (λ u. bound_begin) ∷ case nothing (λ u. bound_commit) ∷ case nothing (λ u. bound_rollback) ∷ case nothing (λ u. bound_show_tables)
    ∷ case nothing (λ u. bound_show_transactions) ∷ []

abbrev pub which_bound : BoundStatement → Some bound_cases
which_bound (bound_create_table c) = nth bound_cases 0 c
which_bound (bound_insert i) = nth bound_cases 1 i
which_bound (bound_select s) = nth bound_cases 2 s
which_bound (bound_update u) = nth bound_cases 3 u
which_bound (bound_delete d) = nth bound_cases 4 d
which_bound bound_begin = nth bound_cases 5 tt
which_bound bound_commit = nth bound_cases 6 tt
which_bound bound_rollback = nth bound_cases 7 tt
which_bound bound_show_tables = nth bound_cases 8 tt
which_bound bound_show_transactions = nth bound_cases 9 tt

pub bound_made : (b : BoundStatement) → made bound_cases (which_bound b) ≡ b
bound_made (bound_create_table c) = refl
bound_made (bound_insert i) = refl
bound_made (bound_select s) = refl
bound_made (bound_update u) = refl
bound_made (bound_delete d) = refl
bound_made bound_begin = refl
bound_made bound_commit = refl
bound_made bound_rollback = refl
bound_made bound_show_tables = refl
bound_made bound_show_transactions = refl

unfoldable pub bound_statement : Format BoundStatement
bound_statement =
    choice
    (sum bound_cases which_bound bound_made refl)
    refl

-- ---- what a reader of the images wants to know

-- the one image of a bound statement, the bound statement that bytes stand for, and which bound statements have an image
unfoldable pub encode : BoundStatement → List ℕ
encode = bound_statement.write

unfoldable pub decode : List ℕ → Option BoundStatement
decode = bound_statement.read

unfoldable pub HasImage : BoundStatement → Type 0
HasImage = bound_statement.Ok

-- writing then reading gives the value back
pub decode_encode : (b : BoundStatement) → HasImage b → decode (encode b) ≡ some b
unfolding encode decode HasImage
decode_encode = bound_statement.there

-- what reads is what would be written
pub encode_decode : (s : List ℕ) (b : BoundStatement) → Bytes s → decode s ≡ some b → (s ≡ encode b) × HasImage b
unfolding encode decode HasImage
encode_decode = bound_statement.back
