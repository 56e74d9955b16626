-- What `evaluate` and `value` ask for, and what they answer.
-- Assumes nothing.
use Rattle.std.specs.Prelude.{◌≡◌, true, List, ℕ, ◌<◌, length, Option as Maybe}
use Rattle.bytes_bundle.specs.Held.{Is, Holds, held, is_held}
use Rattle.image_catalogue.specs.Layout.{table}
use Rattle.image_expression.specs.Expression.{expression}
use Rattle.image_expression.specs.Place.{node_at, Root, HasNode}
use Rattle.bind_expression.specs.Marks.{NamesWithin}
use Rattle.image_row.specs.Layout.{row}
use Rattle.image_row.specs.Obeyed.{obeyed, obeyed_row}
use Rattle.rules.specs.Evaluate.{evaluate}
use Rattle.rules.specs.Rows.{Row}
use Rattle.rules.specs.Statements.{Expr}
use Rattle.rules.specs.Tables.{TableSchema}
use Rattle.run_values.specs.declared.Worth.{Worth}
use Rattle.run_values.specs.Worths.{told, heard, value_of}

-- r is a row that obeys the table t
pub record ObeysTable (t r : List ℕ) : Type 0 where
  pub obeys : (v : TableSchema) → Holds table t v → obeyed v (row.read r) ≡ true

-- t is a table's image, e an expression's with short names, i one of its nodes, and r a row that obeys the table
pub record Workable (t e : List ℕ) (i : ℕ) (r : List ℕ) : Type 0 where
  pub table : Is table t
  pub names : NamesWithin e
  pub node : HasNode e i
  pub row : ObeysTable t r

-- w is what the tree at node i comes to over the row
abbrev pub Works : List ℕ → List ℕ → ℕ → List ℕ → Maybe Worth → Type 0
Works t e i r w =
    (v : TableSchema) → Holds table t v → (x : Row) → Holds row r x → (a : Expr) → Root (node_at e) i a → heard value_of w ≡ told (evaluate v x a)

-- w is what the expression comes to over the row
abbrev pub Comes : List ℕ → List ℕ → List ℕ → Maybe Worth → Type 0
Comes t e r w = (v : TableSchema) → Holds table t v → (x : Row) → Holds row r x → (a : Expr) → Holds expression e a → heard value_of w ≡ told (evaluate v x a)

-- the row has a value at the position
pub record StandsAt (r : List ℕ) (n : ℕ) : Type 0 where
  pub image : Is row r
  pub there : (x : Row) → Holds row r x → n < length x

-- ---- laws

pub obeys_row : {t r : List ℕ} → Is table t → ObeysTable t r → Is row r
obeys_row {t} {r} i o = held i (λ v h. obeyed_row v (row.read r) (o.obeys v h) (λ x k z. is_held {f = row} k))
