-- A CREATE TABLE within the limits: its names are short, its lists are short.
-- Assumes nothing.
use Rattle.std.specs.Prelude.{◌≡◌, refl, Bool, ◌&&◌, List, [], ◌∷◌, ◌++◌, map, ℕ, zero, suc, ◌+◌, ◌≤◌, drop, Option as Maybe}
use Rattle.std.proofs.Common.{sym, ap, ap₂, ◌∙◌, subst, arith}
use Rattle.std.proofs.Math.Bool.{true}
use Rattle.std.proofs.Math.Option.{Option}
use borrow.Author.Tests.{leb-true}
use Rattle.std.proofs.Math.ListN.{length}
use Rattle.bytes_format.proofs.Formats.{list_of}
use Rattle.bytes_bundle.specs.Bundle.{parts_of}
use Rattle.bytes_bundle.specs.Decides.{and_of}
use Rattle.bytes_bundle.specs.Held.{Holds, Is, held, held_once, is_held, list_count}
use Rattle.bytes_bundle.specs.Ahead.{HoldEach, FirstHeld, hold_first, list_holds}
use Rattle.bytes_bundle.specs.Numbered.{IsPart, valued, valued_is}
use Rattle.image_expression.specs.Names.{Within}
use Rattle.rules.specs.Lists.{Text, all}
use Rattle.rules.specs.Limits.{gather, object_names, constraint_names, key_lists, held_by_create_table, at_most, held_within}
use Rattle.rules.specs.Statements.{Name, ColumnDefinition, Constraint, primary_key, CreateTable}
use Rattle.image_parts.specs.Layout.{name, object_name, column_definition, create}
use Rattle.bind_repeats.specs.declared.Of.TheVariants as of
use Rattle.bind_repeats.specs.Repeats.{first_repeated}
use Rattle.bind_repeats.specs.declared.Of.{Of}
use Rattle.bind_repeats.specs.Entries.{Entry, form, name_in, short_name, ShortIn, AllShort, entry}
use Rattle.bind_repeats.specs.Short.{all_turn}
use Rattle.bind_table.specs.Short.{ShortName, all_front, all_back, held_within_lem, create_short, short_name_lem}
use Rattle.bind_create.specs.declared.Key.{Key}
use Rattle.bind_create.specs.Keys.{KeyAt}

-- bytes of a CREATE TABLE within the limits
pub record CreateWithin (s : List ℕ) : Type 0 where
  pub is : Is create s
  pub within : (v : CreateTable) → Holds create s v → held_within (held_by_create_table v) ≡ true

-- at most 64 columns, with names of at most 128 bytes
pub record FewColumns (s : List ℕ) : Type 0 where
  pub short : AllShort of.Columns s
  pub few : length (parts_of 2 s) ≤ 64

pub record FewNames (s : List ℕ) : Type 0 where
  pub short : AllShort of.Names s
  pub few : length (parts_of 2 s) ≤ 64

-- the place of the first column that repeats a name
pub record PlaceIn (s : List ℕ) (place : Maybe ℕ) : Type 0 where
  pub is : (v : CreateTable) → Holds create s v → place ≡ first_repeated (map (entry of.Columns) v.columns)

-- the key stands at a column or a constraint that is there
pub record KeyIn (s : List ℕ) (key : Key) : Type 0 where
  pub at : (v : CreateTable) → Holds create s v → (names : Option (List Text)) × KeyAt v.columns v.constraints key names

-- ---- from the limits

module _ {A B : Type 0} (p : B → Bool) where
  all_map : (f : A → B) (l : List A) → all p (map f l) ≡ true → all (λ x. p (f x)) l ≡ true
  all_map f [] e = refl
  all_map f (x ∷ l) e = let h = and_of (p (f x)) (all p (map f l)) e in ap₂ (λ (s t : Bool). s && t) h.0 (all_map f l h.1)

  -- what holds of all that is gathered holds of all that one of them has
  all_gather : (f : A → List B) (i : ℕ) (l : List A) (x : A) (m : List A) → all p (gather f l) ≡ true → drop i l ≡ x ∷ m → all p (f x) ≡ true
  all_gather f zero [] x m h e = absurd (omega (arith, ap length e))
  all_gather f (suc i) [] x m h e = absurd (omega (arith, ap length e))
  all_gather f zero (y ∷ l) x m h e = all_front p (f x) (gather f m) (ap (λ (k : List A). all p (gather f k)) (sym e) ∙ h)
  all_gather f (suc i) (y ∷ l) x m h e = all_gather f i l x m (all_back p (f y) (gather f l) h) e

module _ (c : CreateTable) (w : held_within (held_by_create_table c) ≡ true) where
  pub columns_short : all (λ (d : ColumnDefinition). Within d.name) c.columns ≡ true
  unfolding held_by_create_table
  columns_short =
      all_map Within (λ (d : ColumnDefinition). d.name) c.columns
      (all_front Within (map (λ (d : ColumnDefinition). d.name) c.columns) (gather constraint_names c.constraints)
      (all_back Within (object_names c.name) (map (λ (d : ColumnDefinition). d.name) c.columns ++ gather constraint_names c.constraints)
      (held_within_lem (held_by_create_table c) w).names))

  abbrev pub lengths : List ℕ
  lengths = map (λ (d : ColumnDefinition). length d.options) c.columns ++ gather key_lists c.constraints

  pub columns_few : length c.columns ≤ 64
  unfolding held_by_create_table
  columns_few =
      leb-true (length c.columns) 64
      (and_of (at_most 64 (length c.columns)) (at_most 64 (length c.constraints) && all (at_most 64) lengths) (held_within_lem (held_by_create_table c) w).lists).0

  module _ (j : ℕ) {m : Bool} {ns : List Name} {rest : List Constraint} (here : drop j c.constraints ≡ primary_key m ns ∷ rest) where
    pub names_short : all Within ns ≡ true
    unfolding held_by_create_table
    names_short =
        all_gather Within constraint_names j c.constraints (primary_key m ns) rest
        (all_back Within (map (λ (d : ColumnDefinition). d.name) c.columns) (gather constraint_names c.constraints)
        (all_back Within (object_names c.name) (map (λ (d : ColumnDefinition). d.name) c.columns ++ gather constraint_names c.constraints)
        (held_within_lem (held_by_create_table c) w).names))
        here

    pub names_few : length ns ≤ 64
    unfolding held_by_create_table
    names_few =
        let a = (and_of (at_most 64 (length c.columns)) (at_most 64 (length c.constraints) && all (at_most 64) lengths) (held_within_lem (held_by_create_table c) w).lists).1 in
        let b = (and_of (at_most 64 (length c.constraints)) (all (at_most 64) lengths) a).1 in
        let k = all_gather (at_most 64) key_lists j c.constraints (primary_key m ns) rest (all_back (at_most 64) (map (λ (d : ColumnDefinition). length d.options) c.columns) (gather key_lists c.constraints) b) here in
        leb-true (length ns) 64 (and_of (at_most 64 (length ns)) true k).0

-- ---- of the bytes that hold them

module _ {s p : List ℕ} (w : CreateWithin s) where
  pub short_table : ((v : CreateTable) → Holds create s v → Holds object_name p v.name) → ShortName p
  short_table g = held w.is (λ v h. short_name_lem (g v h) (create_short v (w.within v h)))

  pub few_columns : ((v : CreateTable) → Holds create s v → Holds (list_of 2 column_definition) p v.columns) → FewColumns p
  few_columns g = held w.is (λ v h. record {
    short = record {
      is = is_held {f = list_of 2 column_definition} (g v h);
      short = λ cs k. subst (λ (l : List ColumnDefinition). all (λ (d : ColumnDefinition). Within d.name) l ≡ true) (held_once (list_of 2 column_definition) {s = p} (g v h) k) (columns_short v (w.within v h));
    };
    few = omega (arith, columns_few v (w.within v h), list_count column_definition p (g v h));
  })

-- the names of constraint j
pub few_names : {s p : List ℕ} {v : CreateTable} (j : ℕ) {m : Bool} {ns : List Name} {rest : List Constraint} → CreateWithin s → Holds create s v
    → drop j v.constraints ≡ primary_key m ns ∷ rest → Holds (list_of 2 name) p ns → FewNames p
few_names {s} {p} {v} j {m} {ns} {rest} w h here k = record {
  short = record {
    is = is_held {f = list_of 2 name} k;
    short = λ l e. subst (λ (l : List Name). all Within l ≡ true) (held_once (list_of 2 name) {s = p} k e) (names_short v (w.within v h) j here);
  };
  few = omega (arith, names_few v (w.within v h) j here, list_count name p k);
}

-- ---- the names of parts

-- the name of part i is short
pub short_at : {o : Of} {s p : List ℕ} {i : ℕ} → AllShort o s → IsPart 2 s i p → ShortIn (form o) (name_in o) p
short_at {o} {i = i} a d = record {
  is = valued_is (form o) d a.is;
  short = λ v h. held a.is (λ vs k.
      let t = valued (form o) d k in
      all_turn (λ w. short_name (name_in o w)) i vs v (drop (i + 1) vs) (a.short vs k) (t.rest ∙ ap (λ (w : Entry o). w ∷ drop (i + 1) vs) (held_once (form o) t.holds h)));
}

-- parts that hold columns whose names are short
pub record ColumnsLeft (ps : List (List ℕ)) : Type 0 where
  pub columns : List ColumnDefinition
  pub each : HoldEach column_definition ps columns
  pub short : all (λ (d : ColumnDefinition). Within d.name) columns ≡ true

pub columns_left : {s : List ℕ} {ps : List (List ℕ)} → AllShort of.Columns s → ps ≡ parts_of 2 s → ColumnsLeft ps
columns_left {s} a e = held a.is (λ cs h. let k = list_holds 2 column_definition s h in record { columns = cs; each = rw e k; short = a.short cs h })

module _ {p : List ℕ} {ps qs : List (List ℕ)} (l : ColumnsLeft ps) (e : ps ≡ p ∷ qs) where
  first : FirstHeld column_definition p qs l.columns
  first = hold_first (rw e at l.each)

  both : (Within first.value.name ≡ true) × (all (λ (d : ColumnDefinition). Within d.name) first.others ≡ true)
  both =
      and_of (Within first.value.name) (all (λ (d : ColumnDefinition). Within d.name) first.others)
      (ap (all (λ (d : ColumnDefinition). Within d.name)) (sym first.is) ∙ l.short)

  pub column_here : ShortIn column_definition (name_in of.Columns) p
  column_here = record {
    is = is_held {f = column_definition} first.holds;
    short = λ d h. ap (λ (d : ColumnDefinition). Within d.name) (held_once column_definition h first.holds) ∙ both.0;
  }

  pub columns_behind : ColumnsLeft qs
  columns_behind = record { columns = first.others; each = first.each; short = both.1 }
