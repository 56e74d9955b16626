-- An assignment, written: a column that was found, the value behind it, and the head in front of both.
-- Assumes nothing.
use Rattle.std.specs.Prelude.{◌≡◌, List, ℕ, ◌+◌, ◌-◌, ◌≤◌, length, Result, Ok, Err}
use Rattle.std.proofs.Common.{sym, ap, ◌∙◌, arith}
use Rattle.bytes_wire.specs.Le.{Bytes}
use Rattle.bytes_wire.specs.Sets.{Wrote}
use Rattle.bytes_bundle.specs.Held.{Holds}
use Rattle.image_bound.specs.Beside.{wrote_record2_after, wrote_long}
use Rattle.image_bound.specs.Bundles.{head2, head2_length}
use Rattle.image_bound.specs.Columns.{bound_column_ref}
use Rattle.image_bound.specs.Expression.{bound_expression}
use Rattle.image_bound.specs.Layout as layout
use Rattle.image_bound.specs.Sizes.{assignment_length}
use Rattle.image_bound.specs.Spelt.{column_ref_length}
use Rattle.image_bound.specs.Statements.{assignment_bytes}
use Rattle.image_bound.specs.Written.{spelt}
use Rattle.catalogue_lookup.specs.declared.Column.{Column}
use Rattle.catalogue_lookup.specs.Finds.{ColumnBound}
use Rattle.image_catalogue.specs.Layout.{table}
use Rattle.image_expression.specs.Expression.{expression}
use Rattle.image_parts.specs.Layout.{assignment}
use Rattle.bind_where.specs.Short.{short_names}
use Rattle.rules.specs.declared.Class.{Class}
use Rattle.rules.specs.declared.TableId.{TableId}
use Rattle.rules.specs.Bound.{BoundColumnRef, BoundExpr, BoundAssignment}
use Rattle.rules.specs.Statements.{Assignment}
use Rattle.rules.specs.Tables.{TableSchema}
use Rattle.rules.proofs.Theorems.Answered.{never_given}
use Rattle.bind_update.specs.Assigned.{assigned}
use Rattle.bind_update.specs.Targets.{target_column, TargetedAs, targeted_is, targeted_off}
use Rattle.bind_update.specs.Within.{assignment_value}
use Rattle.write_expression.specs.Found.{ref_of, ref_is}
use Rattle.write_expression.specs.Writes.{Ready}
use Rattle.write_update.specs.Given.{given_same, AssignmentGiven, target_owner}
use Rattle.write_update.specs.Room.{AssignedRoom, AssignmentRoom}

-- ---- a column and its value

module _ {t e : List ℕ} {column : Column} {o : List ℕ} {at : ℕ} (r : AssignedRoom t e column o at) where
  -- where both parts have room
  pub assigned_room : at + (38 + length column.name.now + length (bound_expression.write r.value)) ≤ length o
  assigned_room =
      omega (arith, r.room, assignment_length (assigned r.ref r.value), column_ref_length r.ref, ap length r.is.name)

  pub column_room : at + 12 + (26 + length column.name.now) ≤ length o
  column_room = omega (arith, assigned_room)

  -- the value, behind the column
  pub value_ready : {o₁ : List ℕ} {k : ℕ} (id : TableId) → Bytes e → Wrote o (at + 12) (bound_column_ref.write (ref_of column id)) k o₁ → Ready t e o₁ k
  value_ready id b w = record {
    names = short_names b r.expression;
    whole = r.value;
    bind = record { schema = r.schema; holds = r.holds; tree = r.tree; reads = r.reads; bound = r.binds };
    room = omega (arith, assigned_room, w.end, wrote_long w, column_ref_length (ref_of column id));
  }

  -- and the head in front of both
  pub head_room : {o₁ o₂ : List ℕ} {k l : ℕ} (id : TableId) → Wrote o (at + 12) (bound_column_ref.write (ref_of column id)) k o₁
      → Wrote o₁ k (bound_expression.write r.value) l o₂ → at + 12 ≤ length o₂
  head_room id p q = omega (arith, assigned_room, wrote_long p, wrote_long q)

pub wrote_assigned : {column : Column} {c : BoundColumnRef} (y : BoundExpr) (id : TableId) {o o₁ o₂ o₃ : List ℕ} {at k l j : ℕ}
    → ColumnBound column c → id ≡ c.table_id → Wrote o (at + 12) (bound_column_ref.write (ref_of column id)) k o₁ → Wrote o₁ k (bound_expression.write y) l o₂
    → Wrote o₂ at (head2 (k - (at + 12)) (l - k)) j o₃ → Wrote o at ((layout.assignment).write (assigned c y)) l o₃
wrote_assigned {c = c} y id {at = at} {k = k} {l = l} d i p q h =
    spelt (sym (assignment_bytes (assigned c y)))
    (wrote_record2_after (spelt (ap bound_column_ref.write (ref_is d i)) p) q (record { end = omega (arith, head2_length (k - (at + 12)) (l - k)); is = h.is }))

-- ---- an assignment, by what was said of its target

module _ {t a o : List ℕ} {at : ℕ} (r : AssignmentRoom t a o at) {g : Result Column Class}
    (h : (v : TableSchema) (x : Assignment) → Holds table t v → Holds assignment a x → TargetedAs (target_column v x.target) g) where
  pub targeted_room : {p : List ℕ} {c : Column} → g ≡ Ok c → ((x : Assignment) → Holds assignment a x → Holds expression p x.value) → AssignedRoom t p c o at
  targeted_room q k =
      let w = targeted_is (target_column r.schema r.tree.target) (h r.schema r.tree r.holds r.reads) q in
      let z : w.column.value ≡ r.value.column = given_same (sym w.gives ∙ r.gives.target) in
      record {
        schema = r.schema;
        holds = r.holds;
        expression = assignment_value r.names k;
        tree = r.tree.value;
        reads = k r.tree r.reads;
        ref = w.column.value;
        is = w.column.is;
        value = r.value.value;
        binds = r.gives.value;
        room = rw z r.room;
      }

  -- one that is bound has a column
  pub never_untargeted : {k : Class} → g ≡ Err k → ⊥
  never_untargeted q =
      never_given (sym (targeted_off (target_column r.schema r.tree.target) (h r.schema r.tree r.holds r.reads) q) ∙ r.gives.target)

-- what is written of it
pub wrote_targeted : {g : Result Column Class} {c : Column} (v : TableSchema) (x : Assignment) {b : BoundAssignment} {o o' : List ℕ} {at l : ℕ}
    → TargetedAs (target_column v x.target) g → g ≡ Ok c → AssignmentGiven v x b
    → ((d : BoundColumnRef) → ColumnBound c d → d.table_id ≡ v.id → Wrote o at ((layout.assignment).write (assigned d b.value)) l o')
    → Wrote o at ((layout.assignment).write b) l o'
wrote_targeted v x {b} h q a k =
    let w = targeted_is (target_column v x.target) h q in
    let z : w.column.value ≡ b.column = given_same (sym w.gives ∙ a.target) in
    rw z at (k w.column.value w.column.is (target_owner v x.target w.gives))
