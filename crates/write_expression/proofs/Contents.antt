-- What each leaf's content is, from the rule that it keeps.
-- Assumes nothing.
use mathlib.Core.Path.{◌≡◌, refl, sym, ap, subst, ◌∙◌}
use mathlib.Core.Bool.{Bool, true, false}
use mathlib.Core.List.{List, [], ◌∷◌}
use mathlib.Core.Option.{Option, none, some, some-injective}
use Prim.Native.Nat.{ℕ, suc, ◌+◌, ◌-◌, ◌≤◌, ◌<◌}
use native.Mathlib.Decide.{dec_lt}
use native.Mathlib.Omega.{arith}
use lib.ListN.{length}
use lib.IntN.{ℤ}
use Rattle.bytes_wire.specs.Sets.{Wrote}
use Rattle.image_value.specs.Parts.{value}
use Rattle.rules.specs.declared.ExpressionType.{ExpressionType}
use Rattle.rules.specs.declared.ExpressionType.TheVariants as type
use Rattle.rules.specs.declared.Mark.{Mark}
use Rattle.rules.specs.declared.TableId.{TableId}
use Rattle.rules.specs.Answers.{fine}
use Rattle.rules.specs.Statements as leaves
use Rattle.rules.specs.Bound.{Value, Value.int, Value.text, Value.bool, Value.null, BoundColumnRef, Marked, BoundLeaf}
use Rattle.rules.specs.Lists.{Text}
use Rattle.rules.specs.Lookup.{column_by_name, column_mark}
use Rattle.rules.specs.Marking.{with, literal_leaf, column_leaf, integer_leaf, leaf_rule}
use Rattle.rules.specs.Names.{canonical}
use Rattle.rules.specs.Numbers.{integer_literal}
use Rattle.rules.specs.Tables.{TableSchema}
use Rattle.rules.proofs.Theorems.Answered.{never_fine}
use Rattle.text_names.specs.Compared.{named}
use Rattle.text_numbers.specs.Literal as literal
use Rattle.catalogue_lookup.specs.declared.Column.{Column}
use Rattle.std.specs.Prelude.{Option as Maybe, Some, None}
use Rattle.image_catalogue.specs.Layout.{table}
use Rattle.catalogue_lookup.specs.Finds.{ColumnBound, ColumnIs, FindsColumn}
use Rattle.image_expression.specs.Expression.{name_of}
use Rattle.image_expression.specs.Place.{leaf_of}
use Rattle.bytes_bundle.specs.Held.{Holds}
use Rattle.image_bound.specs.Columns.{bound_column_ref}
use Rattle.write_expression.specs.Found.{ref_of, ref_is, column_owner}
use Rattle.image_bound.specs.Written.{spelt}
use Rattle.image_bound.specs.Spelt.{column_ref_length, int_length}
use Rattle.write_expression.specs.declared.Leaf.{Leaf}
use Rattle.write_expression.specs.Binds.{Ruled, Numbered}
use Rattle.write_expression.specs.Leaves.{Columned, literal_at, LeafRoom, Puts}

pub fine_same : {A : Type 0} {a b : A} → fine a ≡ fine b → a ≡ b
fine_same h = cc

-- ---- literals

module _ (P : Marked BoundLeaf → Type 0) (x : Value) (ty : ExpressionType) (n : Bool) (is : (l : Marked BoundLeaf) → P l → literal_leaf x ty n ≡ fine l) where
  pub literal_room : {o : List ℕ} {at : ℕ} → LeafRoom P o at → at + length (value.write x) ≤ length o
  literal_room r = rw (← fine_same (is r.label r.rule)) at r.room

  pub literal_puts : {o o' : List ℕ} {at end : ℕ} {r : Leaf} → r ≡ literal_at ty n end → Wrote o at (value.write x) end o' → Puts P o at r o'
  literal_puts e w l p = rw (← fine_same (is l p), e) (record { kind = refl; mark = refl; wrote = w })

-- ---- numbers

number_is : (o : Option ℤ) (z : ℤ) → literal.told o ≡ Some z → literal_leaf (int z) type.Int false ≡ integer_leaf o
number_is (some y) z h = ap (λ (w : ℤ). literal_leaf (int w) type.Int false) (cc)
number_is none z h = absurd (let n : ◌≡◌ {A = ℕ} 0 1 = cc in omega arith)

number_bad : (o : Option ℤ) (l : Marked BoundLeaf) → literal.told o ≡ None → integer_leaf o ≡ fine l → ⊥
number_bad (some y) l h f = let n : ◌≡◌ {A = ℕ} 0 1 = cc in omega arith
number_bad none l h f = never_fine f

module _ (negative : Bool) (s : Text) where
  module _ (z : ℤ) (e : literal.told (integer_literal negative s) ≡ Some z) where
    kept : (l : Marked BoundLeaf) → Numbered negative s l → literal_leaf (int z) type.Int false ≡ fine l
    kept l p = number_is (integer_literal negative s) z e ∙ p

    pub number_room : {o : List ℕ} {at : ℕ} → LeafRoom (Numbered negative s) o at → at + 9 ≤ length o
    number_room r = rw (int_length z) at (literal_room (Numbered negative s) (int z) type.Int false kept r)

    pub number_puts : {o o' : List ℕ} {at end : ℕ} {r : Leaf} → r ≡ literal_at type.Int false end → Wrote o at (value.write (int z)) end o' → Puts (Numbered negative s) o at r o'
    number_puts = literal_puts (Numbered negative s) (int z) type.Int false kept

  pub number_never : {o : List ℕ} {at : ℕ} → literal.told (integer_literal negative s) ≡ None → LeafRoom (Numbered negative s) o at → ⊥
  number_never h r = number_bad (integer_literal negative s) r.label h r.rule

-- ---- columns

-- the column that a name's rule gives, as it was found
record Given (t : List ℕ) (c : Column) (l : Marked BoundLeaf) : Type 0 where
  pub ref : BoundColumnRef
  pub is : with (BoundLeaf.column ref) (column_mark ref) ≡ l
  pub schema : TableSchema
  pub holds : Holds table t schema
  pub owner : ref.table_id ≡ schema.id
  pub bound : ColumnBound c ref

module _ (t : List ℕ) (quoted : Bool) (name : Text) (r : Maybe Column) (found : FindsColumn t (canonical (named quoted name)) r) where
  module _ (c : Column) (e : r ≡ Some c) where
    column : (l : Marked BoundLeaf) → Columned t quoted name l → Given t c l
    column l k =
        let n = canonical (named quoted name) in
        let w = subst (ColumnIs (column_by_name k.schema n)) e (found k.schema k.holds) in
        record {
          ref = w.0;
          is = fine_same (sym (ap column_leaf w.1) ∙ k.rule);
          schema = k.schema;
          holds = k.holds;
          owner = column_owner k.schema n w.1;
          bound = w.2;
        }

    pub column_room : {o : List ℕ} {at : ℕ} → LeafRoom (Columned t quoted name) o at → at + (26 + length c.name.now) ≤ length o
    column_room p =
        let g = column p.label p.rule in
        rw (g.bound.name, ← column_ref_length g.ref) (rw (← g.is) at p.room)

    pub column_puts : {o o' : List ℕ} {at end : ℕ} (id : TableId) (m : Mark) → ((v : TableSchema) → Holds table t v → id ≡ v.id)
        → ((b : BoundColumnRef) → b.ty ≡ c.ty → b.nullable ≡ c.nullable → m ≡ column_mark b)
        → Wrote o at (bound_column_ref.write (ref_of c id)) end o'
        → Puts (Columned t quoted name) o at (record { kind = 0; ty = m.ty; «end» = end; nullable = m.nullable }) o'
    column_puts id m own marked w l k =
        let g = column l k in
        let q = ref_is g.bound (own g.schema g.holds ∙ sym g.owner) in
        rw (← g.is) (record {
          kind = refl;
          mark = marked g.ref (sym g.bound.ty) (sym g.bound.nullable);
          wrote = spelt (ap bound_column_ref.write q) w;
        })

  pub column_never : {o : List ℕ} {at : ℕ} → r ≡ None → LeafRoom (Columned t quoted name) o at → ⊥
  column_never e p =
      let k = p.rule in
      let w = subst (ColumnIs (column_by_name k.schema (canonical (named quoted name)))) e (found k.schema k.holds) in
      never_fine (sym (ap column_leaf w) ∙ k.rule)

-- ---- a leaf by its kind: a rule that follows from the leaf's

module _ {P Q : Marked BoundLeaf → Type 0} (f : (l : Marked BoundLeaf) → P l → Q l) where
  pub room_by : {o : List ℕ} {at : ℕ} → LeafRoom P o at → LeafRoom Q o at
  room_by r = record { label = r.label; rule = f r.label r.rule; room = r.room }

  pub puts_by : {o o' : List ℕ} {at : ℕ} {r : Leaf} → Puts Q o at r o' → Puts P o at r o'
  puts_by p l k = p l (f l k)

module _ (t : List ℕ) {x : leaves.Leaf} where
  pub name_rule : (q : Bool) (s : Text) → x ≡ name_of q s → (l : Marked BoundLeaf) → Ruled t x l → Columned t q s l
  unfolding leaf_rule
  name_rule q s e l k = record { schema = k.schema; holds = k.holds; rule = rw e at k.rule }

  pub number_rule : (s : Text) → x ≡ leaves.Leaf.number s → (l : Marked BoundLeaf) → Ruled t x l → Numbered false s l
  unfolding leaf_rule
  number_rule s e l k = rw e at k.rule

  pub string_rule : (s : Text) → x ≡ leaves.Leaf.string s → (l : Marked BoundLeaf) → Ruled t x l → literal_leaf (text s) type.Text false ≡ fine l
  unfolding leaf_rule
  string_rule s e l k = rw e at k.rule

  pub truth_rule : (b : Bool) → x ≡ leaves.Leaf.boolean b → (l : Marked BoundLeaf) → Ruled t x l → literal_leaf (bool b) type.Bool false ≡ fine l
  unfolding leaf_rule
  truth_rule b e l k = rw e at k.rule

  pub null_rule : x ≡ leaves.Leaf.null → (l : Marked BoundLeaf) → Ruled t x l → literal_leaf null type.Null true ≡ fine l
  unfolding leaf_rule
  null_rule e l k = rw e at k.rule

-- no rule gives a leaf of the kinds 7 and 8
pub never_ruled : (t : List ℕ) (k : ℕ) (s : Text) → 7 ≤ k → k < 9 → (l : Marked BoundLeaf) → Ruled t (leaf_of k s) l → ⊥
unfolding leaf_rule leaf_of
never_ruled t k s lo hi l r = go (dec_lt k 8)
  where
    go : Dec (k < 8) → ⊥
    go (yes h) = let e : k ≡ 7 = omega arith in never_fine (rw e at r.rule)
    go (no n) = let e : k ≡ 8 = omega arith in never_fine (rw e at r.rule)
