-- The reference that is made of a column which was looked up.
-- Assumes nothing.
use Rattle.std.specs.Prelude.{◌≡◌, refl, Bool, true, false, List, [], ◌∷◌, ℕ, suc}
use Rattle.std.proofs.Common.{sym, ap, ◌∙◌}
use Rattle.std.proofs.Math.Option.{some, some-injective, none-ne-some}
use Rattle.catalogue_lookup.specs.declared.Column.{Column}
use Rattle.catalogue_lookup.specs.Finds.{ColumnBound}
use Rattle.image_bound.specs.Made.{column_ref}
use Rattle.image_catalogue.specs.Entries.{find_hit, find_miss}
use Rattle.rules.specs.declared.TableId.{TableId}
use Rattle.rules.specs.Bound.{BoundColumnRef}
use Rattle.rules.specs.Lists.{Text, find}
use Rattle.rules.specs.Lookup.{bound_column, bound_columns_from, bound_columns, ref_named, column_by_name}
use Rattle.rules.specs.Tables.{ColumnSchema, TableSchema}

-- in the table of this id
abbrev pub ref_of : Column → TableId → BoundColumnRef
ref_of c id = column_ref id c.id c.ordinal c.ty c.nullable c.name.now

-- which is the one that the rules bind
pub ref_is : {c : Column} {b : BoundColumnRef} {id : TableId} → ColumnBound c b → id ≡ b.table_id → ref_of c id ≡ b
ref_is d i = rw (i, d.id, d.ordinal, d.ty, d.nullable, d.name)

-- a column that is found is one of its table
found_owner : (v : TableSchema) (p : BoundColumnRef → Bool) (n : ℕ) (cs : List ColumnSchema) {b : BoundColumnRef} → find p (bound_columns_from v n cs) ≡ some b
    → b.table_id ≡ v.id
unfolding bound_columns_from bound_column
found_owner v p n [] {b} h = absurd (none-ne-some b h)
found_owner v p n (c ∷ cs) {b} h = go (p (bound_column v n c)) refl (found_owner v p (suc n) cs)
  where
    l : List BoundColumnRef
    l = bound_columns_from v (suc n) cs

    go : (t : Bool) → p (bound_column v n c) ≡ t → (find p l ≡ some b → b.table_id ≡ v.id) → b.table_id ≡ v.id
    go true e rest = ap (λ (x : BoundColumnRef). x.table_id) (sym (some-injective (bound_column v n c) b (sym (find_hit p (bound_column v n c) l e) ∙ h)))
    go false e rest = rest (sym (find_miss p (bound_column v n c) l e) ∙ h)

pub column_owner : (v : TableSchema) (n : Text) {b : BoundColumnRef} → column_by_name v n ≡ some b → b.table_id ≡ v.id
unfolding column_by_name bound_columns
column_owner v n h = found_owner v (ref_named n) 0 v.columns h
