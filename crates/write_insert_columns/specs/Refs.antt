-- The column that a name of an INSERT stands for, as it is found in the table's image and written.
-- Assumes nothing.
use Rattle.std.specs.Prelude.{◌≡◌, refl, List, ℕ, ◌+◌, ◌≤◌, length, Option as Maybe, Some, None}
use Rattle.std.proofs.Common.{sym, ap, ◌∙◌, subst, arith}
use Rattle.std.proofs.Math.Option.{Option}
use Rattle.bytes_wire.specs.Sets.{Wrote}
use Rattle.bytes_format.proofs.Formats.{list_of}
use Rattle.bytes_bundle.specs.Held.{Holds}
use Rattle.catalogue_lookup.specs.declared.Column.{Column}
use Rattle.image_catalogue.specs.Layout.{table}
use Rattle.catalogue_lookup.specs.Finds.{ColumnIs, FindsColumn}
use Rattle.image_parts.specs.Layout.{name}
use Rattle.rules.specs.declared.Class.TheVariants.{SchemaMismatch}
use Rattle.rules.specs.declared.TableId.{TableId}
use Rattle.rules.specs.Answers.{Answer, given, found, each}
use Rattle.rules.specs.Tables.{TableSchema}
use Rattle.rules.specs.Bound.{BoundColumnRef}
use Rattle.rules.specs.Lookup.{column_by_name}
use Rattle.rules.specs.Names.{canonical}
use Rattle.rules.specs.Statements.{Name}
use Rattle.image_bound.specs.Columns.{bound_column_ref}
use Rattle.image_bound.specs.Spelt.{column_ref_length}
use Rattle.write_expression.specs.Found.{ref_of, ref_is, column_owner}
use Rattle.write_insert_rows.specs.Listing.{Gives, Puts, puts, gives_room, gives_never, Listing}

abbrev pub target : TableSchema → Name → Answer BoundColumnRef
target v n = found (column_by_name v (canonical n)) SchemaMismatch

-- ---- what the writers ask

-- the name in n stands for a column of the table in t, and there is room for it
pub record TargetGives (t n : List ℕ) (at : ℕ) (o : List ℕ) : Type 0 where
  pub schema : TableSchema
  pub holds : Holds table t schema
  pub made : Gives name n (target schema) bound_column_ref at o

-- all of them
pub record TargetsGive (t s : List ℕ) (at : ℕ) (o : List ℕ) : Type 0 where
  pub schema : TableSchema
  pub holds : Holds table t schema
  pub made : Gives (list_of 2 name) s (each (target schema)) (list_of 4 bound_column_ref) at o

-- ---- a column that is found

module _ (t n : List ℕ) (r : Maybe Column) (look : (m : Name) → Holds name n m → FindsColumn t (canonical m) r) where
  is_column_lem : (v : TableSchema) → Holds table t v → (m : Name) → Holds name n m → (x : Maybe Column) → r ≡ x → ColumnIs (column_by_name v (canonical m)) x
  is_column_lem v ht m h x e = subst (ColumnIs (column_by_name v (canonical m))) e (look m h v ht)

  module _ (c : Column) (e : r ≡ Some c) where
    target_given : (id : TableId) (v : TableSchema) → Holds table t v → id ≡ v.id → (m : Name) → Holds name n m → target v m ≡ given (ref_of c id)
    target_given id v ht own m h =
        let k = is_column_lem v ht m h (Some c) e in
        ap (λ (o : Option BoundColumnRef). found o SchemaMismatch) k.1
        ∙ ap (λ (b : BoundColumnRef). given b) (sym (ref_is k.2 (own ∙ sym (column_owner v (canonical m) k.1))))

    pub target_room : {at : ℕ} {o : List ℕ} → TargetGives t n at o → at + (26 + length c.name.now) ≤ length o
    target_room {at} {o} w =
        let b = ref_of c w.schema.id in
        let z : at + length (bound_column_ref.write b) ≤ length o = gives_room w.made (target_given w.schema.id w.schema w.holds refl) in
        omega (arith, z, column_ref_length b)

    pub target_puts : (id : TableId) {o o' : List ℕ} {at q : ℕ} → ((v : TableSchema) → Holds table t v → id ≡ v.id) → Wrote o at (bound_column_ref.write (ref_of c id)) q o'
        → (v : TableSchema) → Holds table t v → Puts name n (target v) bound_column_ref o at q o'
    target_puts id own w v ht = puts {v = ref_of c id} (target_given id v ht (own v ht)) w

  pub target_never : {at : ℕ} {o : List ℕ} → r ≡ None → TargetGives t n at o → ⊥
  target_never e w =
      gives_never w.made (λ m h. ap (λ (o : Option BoundColumnRef). found o SchemaMismatch) (is_column_lem w.schema w.holds m h None e))

-- ---- the loop over the names

-- the columns of the first n names are written
pub record Targeting (t s o : List ℕ) (n i k l : ℕ) (o' : List ℕ) : Type 0 where
  pub at : (v : TableSchema) → Holds table t v → Listing name (target v) bound_column_ref s o n i k l o'
