-- The column that a target stands for, and the value that is given to it: the rules' steps taken together, as the code makes them.
-- Assumes nothing.
use Rattle.std.specs.Prelude.{◌≡◌, List, ℕ, ◌≤◌, length, Result, Ok, Err, Option as Maybe, Some, None, ok_or}
use Rattle.std.proofs.Math.Path.{refl, ap}
use Rattle.std.proofs.Common.{◌∙◌, subst, arith}
use Rattle.std.proofs.Math.Option.{Option, none, some}
use Rattle.bytes_bundle.specs.Held.{Is, Holds, held}
use Rattle.catalogue_lookup.specs.declared.Column.{Column}
use Rattle.catalogue_lookup.specs.Finds.{ColumnBound}
use Rattle.image_parts.specs.Layout.{object_name, assignment_target}
use Rattle.image_update.specs.Held.{target_no}
use Rattle.bind_repeats.specs.Entries.{target_in, compared}
use Rattle.bind_table.specs.Steps.{classed, step_on, step_off, judged_on, judged_off}
use Rattle.bind_table.specs.Tables.{several}
use Rattle.image_parts.specs.NamesHeld.{object_name_no}
use Rattle.rules.specs.declared.Class.{Class}
use Rattle.rules.specs.declared.Class.TheVariants.{SchemaMismatch, UnsupportedSql}
use Rattle.rules.specs.declared.Refusal.{Refusal}
use Rattle.rules.specs.Answers.{Answer, given, refused, found, ◌>>=◌, ◌>>◌, fine, flaw, judged}
use Rattle.rules.specs.Analyze.{target_name}
use Rattle.rules.specs.Bound.{BoundColumnRef, BoundExpr, mark_of}
use Rattle.rules.specs.Fits.{fit}
use Rattle.rules.specs.Lists.{Text}
use Rattle.rules.specs.Lookup.{column_by_name}
use Rattle.rules.specs.Marking.{bind_expression}
use Rattle.rules.specs.Names.{canonical, simple_name}
use Rattle.rules.specs.Statements.{ObjectName, plain, qualified, Target, target, tuple, Expr}
use Rattle.rules.specs.Tables.{TableSchema}
use Rattle.rules.proofs.Theorems.Answered.{never_given}

-- ---- the column of a target

abbrev pub target_column : TableSchema → Target → Answer BoundColumnRef
target_column t g = target_name g >>= (λ name. found (column_by_name t name) SchemaMismatch)

-- a column that was found; its name is short
pub record ShortColumn (r : Column) : Type 0 where
  pub value : BoundColumnRef
  pub is : ColumnBound r value
  pub short : length r.name.now ≤ 128

-- which an answer gave
pub record ColumnGiven (a : Answer BoundColumnRef) (r : Column) : Type 0 where
  pub column : ShortColumn r
  pub gives : a ≡ given column.value

abbrev pub TargetedAs : Answer BoundColumnRef → Result Column Class → Type 0
TargetedAs a (Ok r) = ColumnGiven a r
TargetedAs a (Err k) = a ≡ refused (classed k)

-- what is answered from a lookup
pub looked_up : (a : Answer BoundColumnRef) (o : Maybe Column) {k : Class} → ((r : Column) → o ≡ Some r → ColumnGiven a r) → (o ≡ None → a ≡ refused (classed k))
    → TargetedAs a (ok_or o k)
looked_up a (Some r) f g = f r refl
looked_up a None f g = g refl

-- what a callee that looks for the column has said, by the case that it answered
module _ (a : Answer BoundColumnRef) {r : Result Column Class} (h : TargetedAs a r) where
  pub targeted_is : {c : Column} → r ≡ Ok c → ColumnGiven a c
  targeted_is q = subst (TargetedAs a) q h

  pub targeted_off : {k : Class} → r ≡ Err k → a ≡ refused (classed k)
  targeted_off q = subst (TargetedAs a) q h

-- code 0: a tuple
pub tuple_is : (g : Target) → target_no g ≡ 0 → g ≡ tuple
tuple_is (target o) e = absurd (omega arith)
tuple_is tuple e = refl

-- the target s is no tuple, and p holds its name
pub record TargetNamed (s p : List ℕ) : Type 0 where
  pub value : ObjectName
  pub whole : Holds assignment_target s (target value)
  pub part : Holds object_name p value

pub target_named : {s p : List ℕ} {k : ℕ} → Is assignment_target s → ((g : Target) → Holds assignment_target s g → k ≡ target_no g) → (k ≡ 0 → ⊥)
    → ((o : ObjectName) → Holds assignment_target s (target o) → Holds object_name p o) → TargetNamed s p
target_named {s} {p} i code off part = held i go
  where
    go : (g : Target) → Holds assignment_target s g → TargetNamed s p
    go (target o) h = record { value = o; whole = h; part = part o h }
    go tuple h = absurd (off (code tuple h))

module _ (t : TableSchema) where
  pub column_tuple : (g : Target) → target_no g ≡ 0 → target_column t g ≡ refused (classed UnsupportedSql)
  unfolding target_name
  column_tuple g e = step_off _ (ap target_name (tuple_is g e))

  module _ (g : Target) {o : ObjectName} (w : g ≡ target o) where
    pub column_qualified : object_name_no o ≡ 0 → target_column t g ≡ refused (classed UnsupportedSql)
    unfolding target_name simple_name
    column_qualified e = step_off _ (ap target_name w ∙ ap simple_name (several o e))

    module _ {s : Text} (n : simple_name o ≡ given s) where
      pub column_unknown : column_by_name t s ≡ none → target_column t g ≡ refused (classed SchemaMismatch)
      unfolding target_name
      column_unknown e = step_on _ (ap target_name w ∙ n) ∙ ap (λ (x : Option BoundColumnRef). found x SchemaMismatch) e

      pub column_is : {c : BoundColumnRef} → column_by_name t s ≡ some c → target_column t g ≡ given c
      unfolding target_name
      column_is e = step_on _ (ap target_name w ∙ n) ∙ ap (λ (x : Option BoundColumnRef). found x SchemaMismatch) e

  -- a column that was found was found by the name that targets are compared by
  pub column_named_lem : (g : Target) {c : BoundColumnRef} → target_column t g ≡ given c → (n : Text) × (compared (target_in g) ≡ some n) × (column_by_name t n ≡ some c)
  unfolding target_name simple_name
  column_named_lem (target (plain n)) {c} h = go (column_by_name t (canonical n)) refl h
    where
      go : (o : Option BoundColumnRef) → column_by_name t (canonical n) ≡ o → found o SchemaMismatch ≡ given c
          → (m : Text) × (some (canonical n) ≡ some m) × (column_by_name t m ≡ some c)
      go none e k = absurd (never_given k)
      go (some d) e k = let z : d ≡ c = cc in (canonical n, refl, e ∙ ap some z)
  column_named_lem (target qualified) h = absurd (never_given h)
  column_named_lem tuple h = absurd (never_given h)

-- ---- the value that is given to it

abbrev pub fitting_value : TableSchema → BoundColumnRef → Expr → Answer BoundExpr
fitting_value t c e = bind_expression t e >>= (λ x. judged (fit (mark_of x) c) >> given x)

module _ (t : TableSchema) (c : BoundColumnRef) (e : Expr) where
  pub value_off : {r : Refusal} → bind_expression t e ≡ refused r → fitting_value t c e ≡ refused r
  value_off h = step_off _ h

  module _ {x : BoundExpr} (h : bind_expression t e ≡ given x) where
    pub value_flaw : {k : Class} → fit (mark_of x) c ≡ flaw k → fitting_value t c e ≡ refused (classed k)
    value_flaw j = step_on _ h ∙ judged_off _ j

    pub value_on : fit (mark_of x) c ≡ fine tt → fitting_value t c e ≡ given x
    value_on j = step_on _ h ∙ judged_on _ j
