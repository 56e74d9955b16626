-- The whole UPDATE, written: its code, the head of a record, and its three parts.
-- Assumes nothing.
use Rattle.std.specs.Prelude.{◌≡◌, refl, List, [], ◌∷◌, ◌++◌, ℕ, ◌+◌, ◌-◌, ◌≤◌, length}
use Rattle.std.proofs.Common.{sym, ap, ◌∙◌, arith}
use Rattle.std.proofs.Math.Option.{some}
use Rattle.bytes_wire.specs.Le.{Bytes}
use Rattle.bytes_wire.specs.Sets.{Wrote, then}
use Rattle.bytes_format.proofs.Formats.{list_of}
use Rattle.bytes_bundle.specs.Held.{Is, Holds}
use Rattle.image_bound.specs.Beside.{wrote_record3_after, wrote_long}
use Rattle.image_bound.specs.Bundles.{head3, head3_length}
use Rattle.image_bound.specs.Columns.{bound_table_ref}
use Rattle.image_bound.specs.Expression.{bound_expression}
use Rattle.image_bound.specs.Layout as layout
use Rattle.image_bound.specs.Layout.{bound_statement}
use Rattle.image_bound.specs.Statements.{update_bytes_lem, update_coded}
use Rattle.image_bound.specs.Written.{spelt}
use Rattle.image_catalogue.specs.Layout.{table}
use Rattle.image_expression.specs.Expression.{expression}
use Rattle.image_parts.specs.Layout.{condition, assignment, updating}
use Rattle.bind_where.specs.Filters.{filter_given}
use Rattle.bind_where.specs.Short.{short_names}
use Rattle.bind_where.specs.There.{There, there_reads, there_short}
use Rattle.bind_table_ref.specs.Room.{RefRoom}
use Rattle.bind_table.specs.Room.{Bindable}
use Rattle.bind_table.specs.Steps.{TableGiven}
use Rattle.rules.specs.Answers.{given}
use Rattle.rules.specs.Analyze as analyze
use Rattle.rules.specs.Analyze.{resolve_direct_table, analyze_update}
use Rattle.rules.specs.Bound.{BoundAssignment, BoundExpr, BoundUpdate, BoundStatement}
use Rattle.rules.specs.Lookup.{bound_table}
use Rattle.rules.specs.Marking.{bind_expression}
use Rattle.rules.specs.Statements.{Assignment, Update, Expr}
use Rattle.rules.specs.Tables.{TableSchema, Catalogue}
use Rattle.bind_update.specs.Updated.{update_table, updated_length}
use Rattle.bind_update.specs.Within.{Limited, update_assignments, update_condition}
use Rattle.write_expression.specs.Writes.{Ready}
use Rattle.write_update.specs.Given.{given_same, TableUpdated, table_given, UpdateGiven, update_given}
use Rattle.write_update.specs.Room.{AssignmentsRoom, TableRoom}

-- ---- over its table: each part has room where the one in front of it ends

module _ {t s w o : List ℕ} (r : TableRoom t s w o) where
  abbrev parts : TableUpdated r.schema r.list r.condition r.value
  parts = table_given r.schema r.list r.condition r.gives

  whole : 17 + length (bound_table_ref.write (bound_table r.schema)) + length ((list_of 4 layout.assignment).write parts.assigned) + length (bound_expression.write parts.filter) ≤ length o
  whole =
      omega (arith, r.room, updated_length r.schema parts.assigned parts.filter refl refl refl, ap (λ (b : BoundStatement). length (bound_statement.write b)) parts.is)

  pub code_room : 17 ≤ length o
  code_room = omega (arith, whole)

  module _ {o₁ : List ℕ} {head : ℕ} (p : Wrote o 0 (3 ∷ []) head o₁) where
    pub ref_room : RefRoom t o₁ (head + 16)
    ref_room = record { value = r.schema; holds = r.holds; room = omega (arith, whole, p.end, wrote_long p) }

    module _ {o₂ : List ℕ} {second : ℕ} (q : (v : TableSchema) → Holds table t v → Wrote o₁ (head + 16) (bound_table_ref.write (bound_table v)) second o₂) where
      pub list_ready : AssignmentsRoom t s o₂ second
      list_ready =
          let a = q r.schema r.holds in
          record {
            schema = r.schema;
            holds = r.holds;
            names = r.names;
            list = r.list;
            reads = r.reads;
            values = parts.assigned;
            gives = parts.assigns;
            room = omega (arith, whole, p.end, wrote_long p, a.end, wrote_long a);
          }

      module _ {o₃ : List ℕ} {third : ℕ}
          (k : (v : TableSchema) (xs : List Assignment) (bs : List BoundAssignment) → Holds table t v → Holds (list_of 2 assignment) s xs → analyze.assignments v [] xs ≡ given bs
          → Wrote o₂ second ((list_of 4 layout.assignment).write bs) third o₃) where
        pub filter_ready : Bytes w → Ready t w o₃ third
        filter_ready y =
            let a = q r.schema r.holds in
            let b = k r.schema r.list parts.assigned r.holds r.reads parts.assigns in
            record {
              names = short_names y r.expression;
              whole = parts.filter;
              bind = record { schema = r.schema; holds = r.holds; tree = r.condition; reads = r.filters; bound = filter_given r.schema r.condition parts.filters };
              room = omega (arith, whole, p.end, wrote_long p, a.end, wrote_long a, b.end, wrote_long b);
            }

        module _ {o₄ : List ℕ} {end : ℕ}
            (f : (v : TableSchema) (x : Expr) (b : BoundExpr) → Holds table t v → Holds expression w x → bind_expression v x ≡ given b
            → Wrote o₃ third (bound_expression.write b) end o₄) where
          -- the ends are in their order, and the head has room
          pub ends : (head ≡ 1) × (head + 16 ≤ second) × (second ≤ third) × (third ≤ end) × (length o₄ ≡ length o)
          ends =
              let a = q r.schema r.holds in
              let b = k r.schema r.list parts.assigned r.holds r.reads parts.assigns in
              let c = f r.schema r.condition parts.filter r.holds r.filters (filter_given r.schema r.condition parts.filters) in
              (p.end, omega (arith, a.end), omega (arith, b.end), omega (arith, c.end), wrote_long c ∙ wrote_long b ∙ wrote_long a ∙ wrote_long p)

          pub wrote_update : {o₅ : List ℕ} {j : ℕ} → Wrote o₄ head (head3 (second - (head + 16)) (third - second) (end - third)) j o₅
              → (v : TableSchema) (xs : List Assignment) (x : Expr) (b : BoundStatement) → Holds table t v → Holds (list_of 2 assignment) s xs → Holds expression w x
              → update_table v xs x ≡ given b → Wrote o 0 (bound_statement.write b) end o₅
          wrote_update h v xs x b hv hs hx e =
              let g = table_given v xs x e in
              let u : BoundUpdate = record { table = bound_table v; assignments = g.assigned; filter = g.filter } in
              spelt (sym (update_coded u ∙ ap (λ (l : List ℕ). (3 ∷ []) ++ l) (update_bytes_lem u)) ∙ ap bound_statement.write g.is)
              (then p
              (wrote_record3_after (q v hv) (k v xs g.assigned hv hs g.assigns) (f v x g.filter hv hx (filter_given v x g.filters))
              (record { end = omega (arith, head3_length (second - (head + 16)) (third - second) (end - third)); is = h.is })))

-- ---- from the catalogue

module _ {c u o : List ℕ} (i : Is updating u) (l : Limited u) (r : Bindable updating bound_statement analyze_update c u o) where
  abbrev steps : UpdateGiven r.tables r.statement r.value
  steps = update_given r.tables r.statement r.gives

  pub table_room : {t s w : List ℕ} → TableGiven (resolve_direct_table r.tables r.statement.table) t
      → ((v : Update) → Holds updating u v → Holds (list_of 2 assignment) s v.assignments) → ((v : Update) → Holds updating u v → Holds condition w v.condition)
      → TableRoom t s w o
  table_room {w = w} g k f =
      let z : g.value ≡ steps.schema = given_same (sym g.gives ∙ steps.resolved) in
      let y : There w = record { value = steps.condition; holds = f r.statement r.reads ∙ ap some steps.conditioned } in
      record {
        schema = g.value;
        holds = g.holds;
        names = update_assignments l i k;
        list = r.statement.assignments;
        reads = k r.statement r.reads;
        expression = there_short y (update_condition l i f);
        condition = steps.condition;
        filters = there_reads y;
        value = r.value;
        gives = ap (λ (t : TableSchema). update_table t r.statement.assignments steps.condition) z ∙ steps.updates;
        room = r.room;
      }

-- what is written over the table is the whole
pub wrote_whole : {t o o' : List ℕ} {n : ℕ} (s w : List ℕ) (cat : Catalogue) (v : Update) (d : BoundStatement) → TableGiven (resolve_direct_table cat v.table) t
    → Holds (list_of 2 assignment) s v.assignments → Holds condition w v.condition
    → ((y : TableSchema) (xs : List Assignment) (x : Expr) (d : BoundStatement) → Holds table t y → Holds (list_of 2 assignment) s xs → Holds expression w x
    → update_table y xs x ≡ given d → Wrote o 0 (bound_statement.write d) n o')
    → analyze_update cat v ≡ given d → Wrote o 0 (bound_statement.write d) n o'
wrote_whole s w cat v d g hs hw k h =
    let y = update_given cat v h in
    let z : g.value ≡ y.schema = given_same (sym g.gives ∙ y.resolved) in
    k g.value v.assignments y.condition d g.holds hs (there_reads (record { value = y.condition; holds = hw ∙ ap some y.conditioned }))
    (ap (λ (t : TableSchema). update_table t v.assignments y.condition) z ∙ y.updates)
