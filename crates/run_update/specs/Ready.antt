-- What an UPDATE over its table stands on, and what the row is made of, once the row obeys the table: the bytes of each part.
-- Assumes nothing.
use Rattle.std.specs.Prelude.{◌≡◌, Bool, true, List, ℕ, ◌≤◌, length}
use Rattle.std.proofs.Common.{sym, ap, ◌∙◌, subst}
use Rattle.std.proofs.Math.Option.{some}
use Rattle.bytes_format.proofs.Formats.{list_of}
use Rattle.bytes_bundle.specs.Held.{Holds, is_held, held_once}
use Rattle.image_catalogue.specs.Layout.{table}
use Rattle.image_expression.specs.Expression.{expression}
use Rattle.bind_where.specs.There.{There, there_reads, there_short}
use Rattle.image_row.specs.Layout.{row}
use Rattle.image_row.specs.Obeyed.{obeyed}
use Rattle.rules.specs.Heard.{Running}
use Rattle.rules.specs.Statements.{Update}
use Rattle.rules.specs.Tables.{TableSchema}
use Rattle.image_parts.specs.Layout.{condition, assignment, updating}
use Rattle.bind_update.specs.Within.{Limited, update_assignments, update_condition}
use Rattle.run_row.specs.Updates.{Runnable}

-- ---- an UPDATE over its table: t holds the table, b the body of the statement

pub record Over (t b : List ℕ) (u : Running) : Type 0 where
  pub holds : Holds table t u.table
  pub few : length u.table.columns ≤ 64
  pub change : Update
  pub reads : Holds updating b change
  pub limited : Limited b
  pub filters : change.condition ≡ some u.condition
  pub assigns : change.assignments ≡ u.assignments

pub record SomeOver (t b : List ℕ) : Type 0 where
  pub value : Running
  pub is : Over t b value

-- ---- its parts

-- t holds the table, s the assignments, w the condition
pub record Holding (t s w : List ℕ) (u : Running) : Type 0 where
  pub schema : Holds table t u.table
  pub assigns : Holds (list_of 2 assignment) s u.assignments
  pub filters : Holds expression w u.condition

-- the condition is there
abbrev filtered : {t b w : List ℕ} {u : Running} → Over t b u → ((v : Update) → Holds updating b v → Holds condition w v.condition) → There w
filtered {u = u} o q = record { value = u.condition; holds = q o.change o.reads ∙ ap some o.filters }

module _ {t b s w : List ℕ} {u : Running} (o : Over t b u) (p : (v : Update) → Holds updating b v → Holds (list_of 2 assignment) s v.assignments)
    (q : (v : Update) → Holds updating b v → Holds condition w v.condition) where
  pub holding : Holding t s w u
  holding = record {
    schema = o.holds;
    assigns = p o.change o.reads ∙ ap some o.assigns;
    filters = there_reads (filtered o q);
  }

  -- all of it is within the limits, and r is a row that obeys the table
  pub ready : {r : List ℕ} {a : Bool} → ((v : TableSchema) → Holds table t v → a ≡ obeyed v (row.read r)) → a ≡ true → Runnable t s w r
  ready k e = record {
    runs = record {
      schema = is_held {f = table} o.holds;
      few = λ v h. subst (λ (x : TableSchema). length x.columns ≤ 64) (held_once table o.holds h) o.few;
      obeys = record { obeys = λ v h. sym (k v h) ∙ e };
    };
    names = update_assignments o.limited (is_held {f = updating} o.reads) p;
    expression = there_short (filtered o q) (update_condition o.limited (is_held {f = updating} o.reads) q);
  }
