-- The value at a position of the new row, by the bytes that it is drawn from, and the room that it takes.
-- Assumes nothing.
use Rattle.std.specs.Prelude.{◌≡◌, List, [], ◌∷◌, ℕ, zero, suc, ◌+◌, ◌≤◌, ◌<◌, length, get_or, drop, Option as Maybe, Some, None, IsSome}
use Rattle.std.proofs.Common.{refl, sym, ap, ◌∙◌, subst, arith, length-drop}
use Rattle.std.proofs.Math.Option.{some, none-ne-some, some-injective}
use Rattle.bytes_wire.specs.Le.{Bytes}
use Rattle.bytes_format.proofs.Formats.{list_of}
use Rattle.bytes_bundle.specs.Bundle.{parts_of}
use Rattle.bytes_bundle.specs.Held.{Is, Holds, held_once, is_held, list_count}
use Rattle.bytes_bundle.specs.Laws.{list_values}
use Rattle.image_catalogue.specs.Layout.{table}
use Rattle.run_expression.specs.Short.{value_below}
use Rattle.run_expression.specs.Works as works
use Rattle.image_expression.specs.Expression.{expression}
use Rattle.run_plan.specs.Plans.{source, Drawn, source_old, source_new}
use Rattle.run_plan.specs.Turns.{all_here}
use Rattle.image_row.specs.Layout.{row}
use Rattle.rules.specs.Bound.{Value}
use Rattle.rules.specs.Evaluate.{evaluate}
use Rattle.rules.specs.Rows.{Row}
use Rattle.rules.specs.Statements.{Expr, Assignment}
use Rattle.rules.specs.Tables.{TableSchema}
use Rattle.image_parts.specs.Layout.{assignment}
use Rattle.bind_update.specs.Within.{ShortNames, ShortAssignment, ShortAssignments}
use Rattle.image_value.specs.Parts.{value}
use Rattle.run_values.specs.declared.Worth.{Worth}
use Rattle.run_values.specs.Worths.{told, heard, value_of}

-- ---- what the bytes come to

-- the expression e comes to u
pub record Comes (t e r : List ℕ) (u : Value) : Type 0 where
  pub schema : TableSchema
  pub old : Row
  pub tree : Expr
  pub holds : Holds table t schema
  pub reads : Holds row r old
  pub spells : Holds expression e tree
  pub is : told (evaluate schema old tree) ≡ some u

-- u is the value at position p, where the plan has k for it
pub record Drawing (t s r : List ℕ) (p : ℕ) (k : Maybe ℕ) (u : Value) : Type 0 where
  pub schema : TableSchema
  pub old : Row
  pub list : List Assignment
  pub holds : Holds table t schema
  pub reads : Holds row r old
  pub lists : Holds (list_of 2 assignment) s list
  pub within : p < length old
  pub is : source schema old list p k ≡ some u

-- z is the row that has its values from where `from` says
pub record RowDrawn (t s r : List ℕ) (from : List (Maybe ℕ)) (z : Row) : Type 0 where
  pub schema : TableSchema
  pub old : Row
  pub list : List Assignment
  pub holds : Holds table t schema
  pub reads : Holds row r old
  pub lists : Holds (list_of 2 assignment) s list
  pub drawn : Drawn schema old list from z

-- ---- what the code asks for

-- bytes with room from `at` on for the value that they hold
pub record Kept (p o : List ℕ) (at : ℕ) : Type 0 where
  pub worth : Value
  pub holds : Holds value p worth
  pub room : at + length (value.write worth) ≤ length o

pub record Gives (t e r : List ℕ) : Type 0 where
  pub worth : Value
  pub comes : Comes t e r worth

pub record Given (t e r o : List ℕ) (at : ℕ) : Type 0 where
  pub worth : Value
  pub comes : Comes t e r worth
  pub room : at + length (value.write worth) ≤ length o

pub record Draws (t s r : List ℕ) (p : ℕ) (k : Maybe ℕ) : Type 0 where
  pub worth : Value
  pub drawing : Drawing t s r p k worth

pub record DrawsInto (t s r : List ℕ) (p : ℕ) (k : Maybe ℕ) (o : List ℕ) (at : ℕ) : Type 0 where
  pub worth : Value
  pub drawing : Drawing t s r p k worth
  pub room : at + length (value.write worth) ≤ length o

pub record RowDraws (t s r : List ℕ) (from : List (Maybe ℕ)) : Type 0 where
  pub new : Row
  pub drawn : RowDrawn t s r from new

pub record RowDrawsInto (t s r : List ℕ) (from : List (Maybe ℕ)) (o : List ℕ) : Type 0 where
  pub new : Row
  pub drawn : RowDrawn t s r from new
  pub room : length (row.write new) ≤ length o

-- ---- laws: a value that stands in bytes

pub kept_bytes : {p : List ℕ} {u : Value} → Bytes p → Holds value p u → p ≡ value.write u
kept_bytes {p} {u} b h = (value.back p u b h).0

-- ---- what an expression comes to

module _ {t x r : List ℕ} (m : Maybe Worth) (c : works.Comes t x r m) where
  heard_value : {u : Value} (d : Comes t x r u) → heard value_of m ≡ some u
  heard_value d = c d.schema d.holds d.old d.reads d.tree d.spells ∙ d.is

  pub comes_some : Gives t x r → IsSome m
  comes_some g = there m (heard_value g.comes)
    where
      there : (m : Maybe Worth) {u : Value} → heard value_of m ≡ some u → IsSome m
      there None {u} h = absurd (none-ne-some u h)
      there (Some w) h = refl

  module _ {w : Worth} (e : m ≡ Some w) where
    pub comes_value : {u : Value} (d : Comes t x r u) → value_of w ≡ u
    comes_value {u} d = some-injective (value_of w) u (ap (heard value_of) (sym e) ∙ heard_value d)

-- ---- a position

module _ {t s r : List ℕ} {p : ℕ} {k : Maybe ℕ} {u : Value} (d : Drawing t s r p k u) where
  -- the old value
  pub drawing_old : k ≡ None → u ≡ get_or d.old p Value.null
  drawing_old e = some-injective u _ (sym d.is ∙ ap (source d.schema d.old d.list p) e ∙ source_old d.schema d.old d.list p)

  pub drawing_kept : k ≡ None → (q : List ℕ) → ((x : Row) → Holds row r x → Holds value q (get_or x p Value.null)) → Holds value q u
  drawing_kept e q f = f d.old d.reads ∙ ap some (sym (drawing_old e))

  pub drawing_below : Bytes r → k ≡ None → length (value.write u) < 4294967296
  drawing_below b e = rw (drawing_old e) (value_below b d.reads p d.within)

  pub drawing_there : Is row r × ((x : Row) → Holds row r x → p < length x)
  drawing_there = (is_held {f = row} d.reads, λ x h. subst (λ (y : Row). p < length y) (held_once row d.reads h) d.within)

-- the assignment that is noted

get_d_here : (j : ℕ) (xs : List Assignment) {a : Assignment} {l : List Assignment} → drop j xs ≡ a ∷ l → get_or xs j a ≡ a
get_d_here zero [] e = absurd (omega (arith, ap length e))
get_d_here zero (x ∷ xs) e = cc
get_d_here (suc j) [] e = absurd (omega (arith, ap length e))
get_d_here (suc j) (x ∷ xs) e = get_d_here j xs e

-- part j of the assignments is a
pub record PartIs (t s r : List ℕ) (j : ℕ) (u : Value) : Type 0 where
  pub schema : TableSchema
  pub old : Row
  pub list : List Assignment
  pub holds : Holds table t schema
  pub reads : Holds row r old
  pub lists : Holds (list_of 2 assignment) s list
  pub few : j < length (parts_of 2 s)
  pub entry : Assignment
  pub behind : List Assignment
  pub at : drop j list ≡ entry ∷ behind
  pub part : Holds assignment (get_or (parts_of 2 s) j []) entry
  pub is : told (evaluate schema old entry.value) ≡ some u

module _ {t s r : List ℕ} {p j : ℕ} {k : Maybe ℕ} {u : Value} (d : Drawing t s r p k u) (n : k ≡ Some j) where
  drawing_part : PartIs t s r j u
  drawing_part =
      source_new d.schema d.old d.list p j (ap (source d.schema d.old d.list p) (sym n) ∙ d.is) (λ a l h q.
      let m = list_values 2 assignment s d.lists in
      let w : j < length (parts_of 2 s) = omega (arith, list_count assignment s d.lists, length-drop j d.list, ap length h) in
      record {
        schema = d.schema;
        old = d.old;
        list = d.list;
        holds = d.holds;
        reads = d.reads;
        lists = d.lists;
        few = w;
        entry = a;
        behind = l;
        at = h;
        part = m.value j a w ∙ ap some (get_d_here j d.list h);
        is = q;
      })

  pub drawing_few : j < length (parts_of 2 s)
  drawing_few = drawing_part.few

  module _ {q : List ℕ} (e : q ≡ get_or (parts_of 2 s) j []) where
    part_holds : Holds assignment q drawing_part.entry
    part_holds = ap assignment.read e ∙ drawing_part.part

    pub drawing_short : ShortAssignments s → ShortAssignment q
    drawing_short h = record {
      is = is_held {f = assignment} part_holds;
      short = λ a g.
          let w = drawing_part in
          ap ShortNames (held_once assignment g part_holds) ∙ all_here ShortNames j w.list (h.short w.list w.lists) w.at;
    }

    pub drawing_comes : {b : List ℕ} → ((a : Assignment) → Holds assignment q a → Holds expression b a.value) → Comes t b r u
    drawing_comes f =
        let w = drawing_part in
        record { schema = w.schema; old = w.old; tree = w.entry.value; holds = w.holds; reads = w.reads; spells = f w.entry part_holds; is = w.is }

-- ---- the room of a position's value

module _ {t s r : List ℕ} {p : ℕ} {k : Maybe ℕ} {o : List ℕ} {at : ℕ} (d : DrawsInto t s r p k o at) where
  pub into_kept : k ≡ None → (q : List ℕ) → ((x : Row) → Holds row r x → Holds value q (get_or x p Value.null)) → Kept q o at
  into_kept e q f = record { worth = d.worth; holds = drawing_kept d.drawing e q f; room = d.room }

  pub into_given : {j : ℕ} → k ≡ Some j → {q : List ℕ} → q ≡ get_or (parts_of 2 s) j [] → {b : List ℕ}
      → ((a : Assignment) → Holds assignment q a → Holds expression b a.value) → Given t b r o at
  into_given n e f = record { worth = d.worth; comes = drawing_comes d.drawing n e f; room = d.room }

-- ---- the whole row

pub row_drawing : {t s r : List ℕ} {from : List (Maybe ℕ)} {z : Row} {p : ℕ} → RowDrawn t s r from z → p < length z → Drawing t s r p (get_or from p None) (get_or z p Value.null)
row_drawing {p = p} d h =
    let w : p < length d.old = omega (arith, d.drawn.count) in
    record {
      schema = d.schema;
      old = d.old;
      list = d.list;
      holds = d.holds;
      reads = d.reads;
      lists = d.lists;
      within = w;
      is = d.drawn.each p w;
    }
