-- The columns of a CREATE TABLE one after the other: what the first of them make, and what is left to the others.
-- Assumes nothing.
use Rattle.std.specs.Prelude.{◌≡◌, refl, Bool, true, false, cond, ◌||◌, List, [], ◌∷◌, ◌++◌, map, ℕ, ◌+◌, ◌≤◌, length, take, drop, None}
use Rattle.std.proofs.Common.{sym, ap, ap₂, ◌∙◌, subst, arith, length-drop, drop_of_length-le, take_all}
use Rattle.std.proofs.Math.Option.{Option, none, some}
use Rattle.std.proofs.lemmas.List.{length-map}
use Rattle.bind_repeats.specs.declared.Of.TheVariants as of
use Rattle.bind_repeats.specs.Entries.{entry}
use Rattle.bind_repeats.specs.Repeats.{alike, first_repeated, is_at, take_next, drop_next, drop_map, take_map, Reached, reached_none, reached_turn, reached_on, reached_end}
use Rattle.rules.specs.declared.Class.{Class}
use Rattle.rules.specs.declared.Class.TheVariants.{ConstraintViolation, UnsupportedSql}
use Rattle.rules.specs.Lists.{Text, same, any}
use Rattle.rules.specs.Names.{canonical}
use Rattle.rules.specs.Tables.{ColumnSchema, column_named}
use Rattle.rules.proofs.Theorems.Answered.{never_given, bind_given}
use Rattle.rules.specs.Answers.{Answer, given, refuse, refuse_if, ◌>>=◌, ◌>>◌}
use Rattle.rules.specs.Statements.{ColumnDefinition}
use Rattle.rules.specs.Analyze.{no_options, options, Definition, define_columns}
use Rattle.bind_table.specs.Steps.{step_on, step_off, steps_joined}
use Rattle.bind_create.specs.declared.Key.{Key}
use Rattle.bind_create.specs.declared.Key.TheVariants.{Nowhere, Column}
use Rattle.bind_create.specs.Defined.{finish_column, judge_column, schema, schemas, definition, grown, define_judged, columns_next, columns_done, schemas_last, schemas_length}
use Rattle.bind_create.specs.Keys.{has_key, KeyAt, key_there, ColumnsRead}

-- whether a column is the key was judged, and this makes k of the key so far
pub record Inlined (i : ℕ) (key : Key) (a : Answer Bool) (k : Key) : Type 0 where
  pub yes : Bool
  pub gives : a ≡ given yes
  pub is : k ≡ cond yes (Column i) key

-- ---- columns

-- a name among some columns that are made
pub any_schemas : (n : Text) (i : ℕ) (cs : List ColumnDefinition) → any (column_named n) (schemas i cs) ≡ any (alike (some n)) (map (entry of.Columns) cs)
unfolding schemas schema
any_schemas n i [] = refl
any_schemas n i (c ∷ cs) = ap (λ (b : Bool). same n (canonical c.name) || b) (any_schemas n (i + 1) cs)

-- the columns before i are made, and the others are left
pub record ColumnsTo (cs : List ColumnDefinition) (key : Key) (i : ℕ) : Type 0 where
  pub names : Option (List Text)
  pub is : define_columns (definition [] none) cs ≡ define_columns (definition (schemas 0 (take i cs)) names) (drop i cs)
  pub reached : Reached (map (entry of.Columns) cs) i
  pub named : KeyAt cs [] key names

pub columns_none : (cs : List ColumnDefinition) → ColumnsTo cs Nowhere 0
unfolding schemas
columns_none cs = record { names = none; is = refl; reached = reached_none (map (entry of.Columns) cs); named = record { named = refl } }

module _ {cs : List ColumnDefinition} {key : Key} {i : ℕ} (t : ColumnsTo cs key i) {v : ColumnDefinition} {m : List ColumnDefinition} (d : drop i cs ≡ v ∷ m) where
  abbrev before : Definition
  before = definition (schemas 0 (take i cs)) t.names

  abbrev repeats : Bool
  repeats = is_at i (first_repeated (map (entry of.Columns) cs))

  turned : drop i (map (entry of.Columns) cs) ≡ some (canonical v.name) ∷ map (entry of.Columns) m
  turned = drop_map (entry of.Columns) i cs ∙ ap (map (entry of.Columns)) d

  -- the rules' test of the name is the search's place
  repeated_is : any (column_named (canonical v.name)) (schemas 0 (take i cs)) ≡ repeats
  repeated_is =
      any_schemas (canonical v.name) 0 (take i cs)
      ∙ ap (any (alike (some (canonical v.name)))) (sym (take_map (entry of.Columns) i cs)) ∙ sym (reached_turn t.reached turned)

  judged_is : define_columns (definition [] none) cs ≡ (judge_column repeats (has_key key) v >>= (λ k. define_columns (grown before v k) m))
  judged_is =
      t.is ∙ ap (define_columns before) d ∙ columns_next before v m
      ∙ ap (λ (a : Answer Definition). a >>= (λ e. define_columns e m))
      (define_judged before v ∙ ap₂ (λ (r k : Bool). judge_column r k v >>= (λ k. given (grown before v k))) repeated_is (key_there t.named))
      ∙ sym (steps_joined (judge_column repeats (has_key key) v) (λ k. given (grown before v k)) (λ e. define_columns e m))

  pub columns_stop : {k : Class} → judge_column repeats (has_key key) v ≡ refuse k → define_columns (definition [] none) cs ≡ refuse k
  columns_stop e = judged_is ∙ step_off (λ k. define_columns (grown before v k) m) e

  -- what was judged was not repeated
  not_repeated : {k : Bool} → judge_column repeats (has_key key) v ≡ given k → repeats ≡ false
  not_repeated {k} e = go v.collation repeats e
    where
      go : (b r : Bool) → (refuse_if b UnsupportedSql >> (refuse_if r ConstraintViolation >> (options no_options v.options >>= (λ o. finish_column (has_key key) o v)))) ≡ given k → r ≡ false
      go true r e = absurd (never_given e)
      go false true e = absurd (never_given e)
      go false false e = refl

  grown_is : (k : Bool) → grown before v k ≡ definition (schemas 0 (take (i + 1) cs)) (cond k (some (canonical v.name ∷ [])) t.names)
  grown_is k =
      let few : i ≤ length cs = omega (arith, ap length d, length-drop i cs) in
      let e : length (schemas 0 (take i cs)) ≡ 0 + length (take i cs) = omega (arith, schemas_length 0 (take i cs)) in
      ap (λ (l : List ColumnSchema). definition l (cond k (some (canonical v.name ∷ [])) t.names))
      (ap (λ (n : ℕ). schemas 0 (take i cs) ++ (schema n v ∷ [])) e ∙ sym (schemas_last 0 (take i cs) v) ∙ ap (schemas 0) (sym (take_next i cs d)))

  pub columns_on : {k : Key} → Inlined i key (judge_column repeats (has_key key) v) k → ColumnsTo cs k (i + 1)
  columns_on {k} j = record {
    names = cond j.yes (some (canonical v.name ∷ [])) t.names;
    is = judged_is ∙ step_on (λ k. define_columns (grown before v k) m) j.gives ∙ ap₂ define_columns (grown_is j.yes) (sym (drop_next i cs d));
    reached = reached_on t.reached turned (sym (reached_turn t.reached turned) ∙ not_repeated j.gives);
    named = subst (λ (k : Key). KeyAt cs [] k (cond j.yes (some (canonical v.name ∷ [])) t.names)) (sym j.is) (go j.yes);
  }
    where
      go : (b : Bool) → KeyAt cs [] (cond b (Column i) key) (cond b (some (canonical v.name ∷ [])) t.names)
      go true = record { named = record { column = v; rest = m; here = d; is = refl } }
      go false = t.named

pub columns_end : {cs : List ColumnDefinition} {key : Key} {i : ℕ} → ColumnsTo cs key i → length cs ≤ i → ColumnsRead cs key
columns_end {cs} {key} {i} t h = record {
  names = t.names;
  gives =
      t.is ∙ ap₂ (λ (l m : List ColumnDefinition). define_columns (definition (schemas 0 l) t.names) m) (take_all i cs h) (drop_of_length-le cs {i = i} h)
      ∙ columns_done (definition (schemas 0 cs) t.names);
  at = t.named;
}

-- ---- columns that are all made

module _ (cs : List ColumnDefinition) {e : Definition} (g : define_columns (definition [] none) cs ≡ given e) where
  to_end : (m : List ColumnDefinition) (i : ℕ) {key : Key} → ColumnsTo cs key i → drop i cs ≡ m → first_repeated (map (entry of.Columns) cs) ≡ None
  to_end [] i t d =
      let z : length (map (entry of.Columns) cs) ≤ i = omega (arith, ap length d, length-drop i cs, length-map cs (entry of.Columns)) in
      reached_end t.reached z
  to_end (v ∷ m) i {key} t d =
      let a = bind_given (judge_column (repeats t d) (has_key key) v) (λ k. define_columns (grown (before t d) v k) m) e (sym (judged_is t d) ∙ g) in
      to_end m (i + 1) (columns_on t d (record { yes = a.0; gives = a.1; is = refl })) (drop_next i cs d)

  -- no name was given twice
  pub columns_distinct : first_repeated (map (entry of.Columns) cs) ≡ None
  columns_distinct = to_end cs 0 (columns_none cs) refl
