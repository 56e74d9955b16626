-- Whether bytes are a row that obeys a table: value by value, beside the columns.
-- Assumes nothing.
use Rattle.std.specs.Prelude.{◌≡◌, Bool, ◌⊎◌, cond, ◌&&◌, ℕ, suc, ◌<◌, length, ℤ}
use Rattle.std.proofs.Math.Path.{refl, ap}
use Rattle.std.proofs.Common.{sym, inl, inr, ◌∙◌, arith, eq-eqb, ne_eqb}
use Rattle.std.proofs.Math.Bool.{true, false, and-true, and-false}
use Rattle.std.proofs.lemmas.Bool.{false≢true, eqb-false}
use Rattle.std.proofs.Math.Option.{Option, none, some}
use mathlib.Core.List.{List, [], ◌∷◌}
use Rattle.std.proofs.Math.Dec.{eqb}
use Rattle.bytes_wire.specs.Le.{Bytes}
use Rattle.bytes_format.specs.Ways.{next, each_join}
use Rattle.bytes_format.proofs.Formats.{list_of, pieces, each}
use Rattle.bytes_bundle.specs.Bundle.{is_there, parts_of, IsBundle, is_record}
use Rattle.bytes_bundle.specs.Ahead.{Ahead, ahead, ahead_on, ahead_stop, ahead_end}
use Rattle.bytes_bundle.specs.Decides.{and_of}
use Rattle.bytes_bundle.specs.Fields.{passing, not_passing}
use Rattle.bytes_bundle.specs.Held.{Holds, Is, is_held, held, held_once, list_bundle_by}
use Rattle.bytes_bundle.specs.Laws.{bundle_read, list_not, Each, list_values}
use Rattle.image_value.specs.Parts.{data_type_no, value, column_schema}
use Rattle.image_value.specs.Values.{type_code, int_ranged}
use Rattle.rules.specs.declared.DataType.{DataType}
use Rattle.rules.specs.declared.DataType.TheVariants as data-type
use Rattle.rules.specs.Bound.{Value}
use Rattle.rules.specs.Tables.{ColumnSchema, TableSchema}
use Rattle.rules.specs.Analyze.{same_type}
use Rattle.rules.specs.Numbers.{in_range}
use Rattle.rules.specs.Rows.{Row, value_obeys, columns_obeyed, row_obeys}
use Rattle.rules.specs.Heard.{refuses, obeying}
use Rattle.image_row.specs.Layout.{row}

-- what was read of some bytes is a row that obeys the table; no row does not
abbrev pub obeyed : TableSchema → Option Row → Bool
obeyed t o = passing (row_obeys t) o

-- the same of some columns
abbrev pub values_obeyed : List ColumnSchema → Option Row → Bool
values_obeyed cs o = passing (columns_obeyed cs) o

-- the same of one column, and bytes that may be a value
abbrev pub value_obeyed : ColumnSchema → List ℕ → Bool
value_obeyed c p = passing (value_obeys c) (value.read p)

pub columns_obeyed_lem : (t : TableSchema) (o : Option Row) → values_obeyed t.columns o ≡ obeyed t o
unfolding row_obeys
columns_obeyed_lem t o = refl

-- where it says yes, there is such a row; where it says no, 10 is refused
pub obeyed_row : {C : Type 0} (t : TableSchema) (o : Option Row) → obeyed t o ≡ true → ((x : Row) → o ≡ some x → row_obeys t x ≡ true → C) → C
obeyed_row t none e k = absurd (false≢true e)
obeyed_row t (some x) e k = k x refl e

pub refused_ten : (t : TableSchema) (o : Option Row) → obeyed t o ≡ false → obeying t o ≡ refuses 10
refused_ten t none e = refl
refused_ten t (some x) e = rw e

-- ---- one value

same_code : (t u : DataType) → same_type t u ≡ eqb (data_type_no u) (data_type_no t)
same_code data-type.Int data-type.Int = refl
same_code data-type.Int data-type.Text = refl
same_code data-type.Int data-type.Bool = refl
same_code data-type.Text data-type.Int = refl
same_code data-type.Text data-type.Text = refl
same_code data-type.Text data-type.Bool = refl
same_code data-type.Bool data-type.Int = refl
same_code data-type.Bool data-type.Text = refl
same_code data-type.Bool data-type.Bool = refl

-- a value obeys a column by its type code; an INT in 64 signed bits
obeys_by_code : (c : ColumnSchema) (v : Value) → ((z : ℤ) → v ≡ Value.int z → in_range z ≡ true)
    → value_obeys c v ≡ cond (eqb (type_code v) 3) c.nullable (eqb (type_code v) (data_type_no c.ty))
unfolding value_obeys
obeys_by_code c (Value.int z) h =
    ap (λ (b : Bool). same_type c.ty data-type.Int && b) (h z refl) ∙ and-true (same_type c.ty data-type.Int) ∙ same_code c.ty data-type.Int
obeys_by_code c (Value.text s) h = same_code c.ty data-type.Text
obeys_by_code c (Value.bool b) h = same_code c.ty data-type.Bool
obeys_by_code c Value.null h = refl

-- bytes that hold a value of which k is the type code
module _ {p : List ℕ} (b : Bytes p) (i : Is value p) {k : ℕ} (f : (v : Value) → Holds value p v → k ≡ type_code v) (c : ColumnSchema) where
  by_code : value_obeyed c p ≡ cond (eqb k 3) c.nullable (eqb k (data_type_no c.ty))
  by_code = held i (λ v h.
      ap (passing (value_obeys c)) h ∙ obeys_by_code c v (λ z e. int_ranged b (h ∙ ap some e))
      ∙ ap (λ (n : ℕ). cond (eqb n 3) c.nullable (eqb n (data_type_no c.ty))) (sym (f v h)))

  pub null_obeyed : k ≡ 3 → c.nullable ≡ value_obeyed c p
  null_obeyed e = sym (by_code ∙ ap (λ (b : Bool). cond b c.nullable (eqb k (data_type_no c.ty))) (eq-eqb k 3 e))

  pub typed_obeyed : {t : DataType} → (k ≡ 3 → ⊥) → t ≡ c.ty → eqb k (data_type_no t) ≡ value_obeyed c p
  typed_obeyed n e = ap (λ (u : DataType). eqb k (data_type_no u)) e ∙ sym (by_code ∙ ap (λ (b : Bool). cond b c.nullable (eqb k (data_type_no c.ty))) (ne_eqb k 3 n))

-- ---- a row's values

-- as many parts as columns, and each obeys its own
unfoldable pub parts_obeyed : List ColumnSchema → List (List ℕ) → Bool
parts_obeyed [] [] = true
parts_obeyed [] (p ∷ l) = false
parts_obeyed (c ∷ cs) [] = false
parts_obeyed (c ∷ cs) (p ∷ l) = value_obeyed c p && parts_obeyed cs l

parts_obeyed_lem : (cs : List ColumnSchema) (l : List (List ℕ)) → values_obeyed cs (each_join value l) ≡ parts_obeyed cs l
unfolding columns_obeyed parts_obeyed
parts_obeyed_lem [] [] = refl
parts_obeyed_lem [] (p ∷ l) = go (value.read p) (each_join value l)
  where
    go : (o : Option Value) (r : Option Row) → values_obeyed [] (next o (λ a. next r (λ m. some (a ∷ m)))) ≡ false
    go none r = refl
    go (some a) none = refl
    go (some a) (some m) = refl
parts_obeyed_lem (c ∷ cs) [] = refl
parts_obeyed_lem (c ∷ cs) (p ∷ l) = go (value.read p) (each_join value l) ∙ ap (λ (b : Bool). value_obeyed c p && b) (parts_obeyed_lem cs l)
  where
    go : (o : Option Value) (r : Option Row) → values_obeyed (c ∷ cs) (next o (λ a. next r (λ m. some (a ∷ m)))) ≡ (passing (value_obeys c) o && values_obeyed cs r)
    go none r = refl
    go (some a) none = sym (and-false (value_obeys c a))
    go (some a) (some m) = refl

other_count : (cs : List ColumnSchema) (l : List (List ℕ)) → (length l ≡ length cs → ⊥) → parts_obeyed cs l ≡ false
unfolding parts_obeyed
other_count [] [] h = absurd (h refl)
other_count [] (p ∷ l) h = refl
other_count (c ∷ cs) [] h = refl
other_count (c ∷ cs) (p ∷ l) h = ap (λ (b : Bool). value_obeyed c p && b) (other_count cs l (λ e. h (ap suc e))) ∙ and-false (value_obeyed c p)

module _ (cs : List ColumnSchema) (s : List ℕ) where
  pub obeyed_is : IsBundle 4 s → values_obeyed cs (row.read s) ≡ parts_obeyed cs (parts_of 4 s)
  unfolding row
  obeyed_is b = ap (passing (columns_obeyed cs)) (bundle_read 4 (each value) s b) ∙ parts_obeyed_lem cs (parts_of 4 s)

  -- no bundle, or of another number of parts
  pub not_obeyed : is_record 4 (length cs) s ≡ false → values_obeyed cs (row.read s) ≡ false
  unfolding row is_record
  not_obeyed e = go (is_there ((pieces 4).read s)) refl e
    where
      go : (b : Bool) → is_there ((pieces 4).read s) ≡ b → (b && eqb (length (parts_of 4 s)) (length cs)) ≡ false → values_obeyed cs (row.read s) ≡ false
      go true h k = obeyed_is (record { there = h }) ∙ other_count cs (parts_of 4 s) (eqb-false (length (parts_of 4 s)) (length cs) k)
      go false h k = not_passing (columns_obeyed cs) (row.read s) (list_not 4 value s h)

-- a loop over both: the parts ps are left, beside the columns that are held by qs
pub record Beside (s list : List ℕ) (ps qs : List (List ℕ)) : Type 0 where
  pub many : length ps ≡ length qs
  pub left : Ahead (column_schema 2) list (λ cs. parts_obeyed cs (parts_of 4 s)) qs (λ cs. parts_obeyed cs ps)

pub beside : {s list : List ℕ} {ps qs : List (List ℕ)} → ps ≡ parts_of 4 s → qs ≡ parts_of 2 list → length (parts_of 4 s) ≡ length (parts_of 2 list) → Beside s list ps qs
beside e f h = record { many = ap length e ∙ h ∙ sym (ap length f); left = rw e (ahead f) }

no_more : (ps : List (List ℕ)) → length ps ≡ 0 → ps ≡ []
no_more [] h = refl
no_more (p ∷ ps) h = absurd (omega (arith, h))

module _ {s list : List ℕ} {ps qs : List (List ℕ)} (b : Beside s list ps qs) where
  module _ {p q : List ℕ} {ps' qs' : List (List ℕ)} (e : ps ≡ p ∷ ps') (f : qs ≡ q ∷ qs') where
    first : (k : Bool) → ((v : ColumnSchema) → Holds (column_schema 2) q v → value_obeyed v p ≡ k)
        → (v : ColumnSchema) (l : List ColumnSchema) → Holds (column_schema 2) q v → parts_obeyed (v ∷ l) ps ≡ (k && parts_obeyed l ps')
    unfolding parts_obeyed
    first k t v l h = ap (parts_obeyed (v ∷ l)) e ∙ ap (λ (x : Bool). x && parts_obeyed l ps') (t v h)

    pub beside_on : ((v : ColumnSchema) → Holds (column_schema 2) q v → value_obeyed v p ≡ true) → Beside s list ps' qs'
    beside_on t = record { many = omega (arith, b.many, ap length e, ap length f); left = ahead_on b.left f (first true t) }

    pub beside_stop : ((v : ColumnSchema) → Holds (column_schema 2) q v → value_obeyed v p ≡ false)
        → (cs : List ColumnSchema) → Holds (list_of 2 (column_schema 2)) list cs → parts_obeyed cs (parts_of 4 s) ≡ false
    beside_stop t = ahead_stop b.left f (first false t)

  pub beside_end : (ps ≡ []) ⊎ (qs ≡ []) → (cs : List ColumnSchema) → Holds (list_of 2 (column_schema 2)) list cs → parts_obeyed cs (parts_of 4 s) ≡ true
  unfolding parts_obeyed
  beside_end (inl e) cs h = ahead_end b.left (no_more qs (sym b.many ∙ ap length e)) cs h ∙ ap (parts_obeyed []) e
  beside_end (inr f) cs h = ahead_end b.left f cs h ∙ ap (parts_obeyed []) (no_more ps (b.many ∙ ap length f))

-- ---- a value by its position

pub row_values : (s : List ℕ) {x : Row} → Holds row s x → Each value (parts_of 4 s) x
unfolding row
row_values s h = list_values 4 value s h

pub row_bundle : {s : List ℕ} → Is row s → IsBundle 4 s
unfolding row
row_bundle i = list_bundle_by 4 value i

as_many : (cs : List ColumnSchema) (x : Row) → columns_obeyed cs x ≡ true → length x ≡ length cs
unfolding columns_obeyed
as_many [] [] e = refl
as_many [] (v ∷ x) e = absurd (false≢true e)
as_many (c ∷ cs) [] e = absurd (false≢true e)
as_many (c ∷ cs) (v ∷ x) e = ap suc (as_many cs x (and_of (value_obeys c v) (columns_obeyed cs x) e).1)

-- a row that obeys has a value at each position of a column: what `value_at` asks
pub obeyed_at : (t : TableSchema) (s : List ℕ) (n : ℕ) → obeyed t (row.read s) ≡ true → n < length t.columns → Is row s × ((x : Row) → Holds row s x → n < length x)
unfolding row_obeys
obeyed_at t s n e h =
    obeyed_row t (row.read s) e (λ y k o.
    (is_held k, λ x m. omega (arith, as_many t.columns y o, ap length (held_once row m k))))
