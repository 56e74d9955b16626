-- The first half of demand 3: "It binds exactly if some marking of its expressions with types and may-be-null meets 01's rule at every node,
-- the WHERE is BOOL, and the targets are plain distinct columns outside the key, each given a fitting value, none that may be null where the
-- column forbids it."
-- Assumes nothing.
use Rattle.std.specs.Prelude.{◌≡◌, refl, Bool, true, false, not, ◌&&◌, ◌||◌, ◌↔◌, List, [], ◌∷◌, ℕ, zero, suc, eqb}
use Rattle.std.proofs.Common.{◌∙◌, sym}
use Rattle.std.proofs.Math.Path.{ap}
use Rattle.std.proofs.Math.Bool.{and-false, and_assoc}
use Rattle.std.proofs.lemmas.Bool.{false≢true, not-true}
use Rattle.std.proofs.Math.Logic.Iff
use Rattle.std.proofs.Math.Option.{some}
use Rattle.std.proofs.Math.Dec.{eqb-zero-suc, eqb-suc-zero, eqb-suc-suc}
use Rattle.rules.specs.declared.Class.TheVariants.{SchemaMismatch, ConstraintViolation}
use Rattle.rules.specs.declared.ExpressionType.TheVariants as type
use Rattle.rules.specs.declared.ColumnId.{ColumnId}
use Rattle.rules.specs.Lists.{Text, any, all, distinct}
use Rattle.rules.specs.Answers.{Answer, given, ◌>>=◌, judged}
use Rattle.rules.specs.Tables.{TableSchema, Catalogue, same_id}
use Rattle.rules.specs.Statements.{Name, plain, qualified, Expr, Target, target, tuple, Assignment, Update, Statement}
use Rattle.rules.specs.Bound.{BoundColumnRef, mark_of, BoundAssignment, BoundStatement, bound_update}
use Rattle.rules.specs.Names.{canonical, simple_name}
use Rattle.rules.specs.Lookup.{bound_table, column_by_name, in_key}
use Rattle.rules.specs.Marking.{Marking, root_mark, bind_expression}
use Rattle.rules.specs.Obeys.{Obeys, AssignmentObeys, AssignmentsObey, no_more, and_then, same_column, UpdateObeys}
use Rattle.rules.specs.Fits.{is_condition, bind_boolean_filter, fit}
use Rattle.rules.specs.Analyze.{target_name, assignment, assignments, relation_name, resolve_direct_table, analyze_update, analyze_kind, analyze}
use Rattle.rules.specs.Heard.{Read, heard, judged_statement, bind_outcome}
use Rattle.rules.specs.Demand.{Taken, BindsExactly}
use Rattle.rules.proofs.Theorems.Answered.{never_given, judged_given}
use Rattle.rules.proofs.Theorems.Marked.{bound_of, obeys_of}
use Rattle.rules.proofs.Theorems.Fits.{condition_exactly, null_may, fit_exactly}
use Rattle.rules.proofs.Theorems.Steps.{Gives, step, step_found, step_past, step_fine, heard_exactly, roomy}

given_same : {A : Type 0} {a b : A} → given a ≡ given b → a ≡ b
given_same h = cc

-- ---- the WHERE

-- "A condition must be BOOL"
pub record ConditionObeys (t : TableSchema) (e : Expr) : Type 0 where
  pub marking : Marking
  pub condition_obeys : Obeys t e marking
  pub is_bool : (root_mark marking).ty ≡ type.Bool

-- a condition binds exactly if a marking obeys with BOOL at the root
pub filter_exactly : (t : TableSchema) (e : Expr) → Gives (bind_boolean_filter t e) ↔ ConditionObeys t e
unfolding bind_boolean_filter
filter_exactly t e = (only, obeying)
  where
    only : Gives (bind_boolean_filter t e) → ConditionObeys t e
    only r =
        step (bind_expression t e) _ r.1
        (λ y bound rest.
        step (judged (is_condition (mark_of y))) _ rest
        (λ u bool rest'.
        let w = obeys_of t e bound in
        record {
          marking = w.0;
          condition_obeys = w.1;
          is_bool = ap (λ m. m.ty) w.2 ∙ (condition_exactly (mark_of y)).0 (judged_given (is_condition (mark_of y)) bool);
        }))

    obeying : ConditionObeys t e → Gives (bind_boolean_filter t e)
    obeying o = let x = bound_of t o.condition_obeys in (x.0, rw (x.1, x.2, o.is_bool))

-- ---- one assignment

-- a column is among those before
abbrev pub repeated : List ColumnId → BoundColumnRef → Bool
repeated before c = any (same_id c.column_id) before

target_only : (g : Target) {name : Text} → target_name g ≡ given name → (n : Name) × (g ≡ target (plain n)) × (name ≡ canonical n)
unfolding target_name simple_name
target_only (target (plain n)) h = (n, refl, cc)
target_only (target qualified) h = absurd (never_given h)
target_only tuple h = absurd (never_given h)

module _ (t : TableSchema) (before : List ColumnId) where
  assignment_only : (a : Assignment) (b : BoundAssignment) → assignment t before a ≡ given b
      → AssignmentObeys t a b.column × (repeated before b.column ≡ false)
  unfolding assignment
  assignment_only a b h =
      step (target_name a.target) _ h
      (λ name named h₁.
      step_found (column_by_name t name) SchemaMismatch _ h₁
      (λ c known h₂.
      step_past (repeated before c) ConstraintViolation _ h₂
      (λ fresh h₃.
      step_past (in_key t c.column_id) ConstraintViolation _ h₃
      (λ outside h₄.
      step (bind_expression t a.value) _ h₄
      (λ x bound h₅.
      step_fine (fit (mark_of x) c) _ h₅
      (λ fitting h₆.
      let n = target_only a.target named in
      let w = obeys_of t a.value bound in
      let same : b.column ≡ c = ap (λ y. y.column) (given_same (sym h₆)) in
      rw same (
        record {
          name = n.0;
          is_plain = n.1;
          is_column = rw n.2 at known;
          outside_key = outside;
          marking = w.0;
          value_obeys = w.1;
          fits = (fit_exactly _ c (null_may w.1)).0 (rw (← w.2) at fitting);
        },
        fresh,
      )))))))

  assignment_obeying : (a : Assignment) (c : BoundColumnRef) → AssignmentObeys t a c → repeated before c ≡ false
      → (b : BoundAssignment) × (assignment t before a ≡ given b) × (b.column ≡ c)
  unfolding assignment target_name simple_name
  assignment_obeying a c o fresh =
      let x = bound_of t o.value_obeys in
      let fitting = (fit_exactly _ c (null_may o.value_obeys)).1 o.fits in
      (record { column = c; value = x.0 }, rw (o.is_plain, o.is_column, fresh, o.outside_key, x.1, x.2, fitting), refl)

-- ---- the assignments

abbrev pub fresh : List ColumnId → BoundColumnRef → Bool
fresh before c = not (repeated before c)

-- no target is among the columns before, and no two are one column
abbrev pub apart : List ColumnId → List BoundColumnRef → Bool
apart before cs = all (fresh before) cs && distinct same_column cs

eqb_comm : (m n : ℕ) → eqb m n ≡ eqb n m
eqb_comm zero zero = refl
eqb_comm zero (suc n) = eqb-zero-suc n ∙ sym (eqb-suc-zero n)
eqb_comm (suc m) zero = eqb-suc-zero m ∙ sym (eqb-zero-suc m)
eqb_comm (suc m) (suc n) = eqb-suc-suc m n ∙ eqb_comm m n ∙ sym (eqb-suc-suc n m)

regroup : (p q r b : Bool) → (not (p || q) && (b && not r)) ≡ (not q && b && not (p || r))
regroup true q r b = sym (and-false (not q && b))
regroup false true r b = refl
regroup false false r b = refl

group : (f a n d : Bool) → (f && a && (n && d)) ≡ (f && (a && n && d))
group true a n d = sym (and_assoc a n d)
group false a n d = refl

both_true : (a b : Bool) → (a && b) ≡ true → (a ≡ true) × (b ≡ true)
both_true true b h = (refl, h)
both_true false b h = absurd (false≢true h)

none_before : (cs : List BoundColumnRef) → all (fresh []) cs ≡ true
none_before [] = refl
none_before (c ∷ cs) = none_before cs

-- fresh with one column more before: fresh without it, and none is that column
one_more : (before : List ColumnId) (c : BoundColumnRef) (cs : List BoundColumnRef)
    → all (fresh (c.column_id ∷ before)) cs ≡ (all (fresh before) cs && not (any (same_column c) cs))
one_more before c [] = refl
one_more before c (d ∷ cs) =
    rw (one_more before c cs, eqb_comm d.column_id.0 c.column_id.0)
    (regroup (same_column c d) (repeated before d) (any (same_column c) cs) (all (fresh before) cs))

-- so each target may be looked at with those before it, as the Rust does, or with those behind it
apart_cons : (before : List ColumnId) (c : BoundColumnRef) (cs : List BoundColumnRef)
    → apart before (c ∷ cs) ≡ (fresh before c && apart (c.column_id ∷ before) cs)
apart_cons before c cs = rw (one_more before c cs) (group (fresh before c) (all (fresh before) cs) (not (any (same_column c) cs)) (distinct same_column cs))

apart_none : (cs : List BoundColumnRef) → apart [] cs ≡ distinct same_column cs
apart_none cs = ap (λ b. b && distinct same_column cs) (none_before cs)

-- targets that obey, of columns apart from each other and from those before
pub record TargetsObey (t : TableSchema) (before : List ColumnId) (l : List Assignment) : Type 0 where
  pub targets : List BoundColumnRef
  pub assignments_obey : AssignmentsObey t l targets
  pub apart_targets : apart before targets ≡ true

assignments_only : (t : TableSchema) (before : List ColumnId) (l : List Assignment) (bs : List BoundAssignment)
    → assignments t before l ≡ given bs → TargetsObey t before l
unfolding assignments
assignments_only t before [] bs h = record { targets = []; assignments_obey = no_more; apart_targets = refl }
assignments_only t before (a ∷ rest) bs h =
    step (assignment t before a) _ h
    (λ b first h₁.
    step (assignments t (b.column.column_id ∷ before) rest) _ h₁
    (λ bs' more h₂.
    let one = assignment_only t before a b first in
    let others = assignments_only t (b.column.column_id ∷ before) rest bs' more in
    record {
      targets = b.column ∷ others.targets;
      assignments_obey = and_then one.0 others.assignments_obey;
      apart_targets = rw (apart_cons before b.column others.targets, one.1, others.apart_targets);
    }))

assignments_obeying : (t : TableSchema) (before : List ColumnId) {l : List Assignment} {cs : List BoundColumnRef} → AssignmentsObey t l cs
    → apart before cs ≡ true → Gives (assignments t before l)
unfolding assignments
assignments_obeying t before no_more h = ([], refl)
assignments_obeying t before (and_then {a = a} {c = c} {rest = rest} {cs = cs} one others) h =
    let both = both_true (fresh before c) (apart (c.column_id ∷ before) cs) (rw (apart_cons before c cs) at h) in
    let b = assignment_obeying t before a c one (not-true _ both.0) in
    let bs = assignments_obeying t (c.column_id ∷ before) others both.1 in
    (b.0 ∷ bs.0, rw (b.1, b.2, bs.1))

-- the assignments bind exactly if there are targets that obey, distinct among themselves and from those before
pub assignments_exactly : (t : TableSchema) (before : List ColumnId) (l : List Assignment) → Gives (assignments t before l) ↔ TargetsObey t before l
assignments_exactly t before l = (
  λ r. assignments_only t before l r.0 r.1,
  λ o. assignments_obeying t before o.assignments_obey o.apart_targets,
)

-- ---- the statement

-- what analyzing an UPDATE comes to when its table and its WHERE are known
abbrev pub bind_update : TableSchema → List Assignment → Expr → Answer BoundStatement
bind_update t l w = do
  bs ← assignments t [] l
  x ← bind_boolean_filter t w
  given (bound_update (record { table = bound_table t; assignments = bs; filter = x }))

-- it binds exactly if it obeys
pub update_exactly : (t : TableSchema) (l : List Assignment) (w : Expr) → Gives (bind_update t l w) ↔ UpdateObeys t l w
update_exactly t l w = (only, obeying)
  where
    only : Gives (bind_update t l w) → UpdateObeys t l w
    only r =
        step (assignments t [] l) _ r.1
        (λ bs assigned h.
        step (bind_boolean_filter t w) _ h
        (λ x filtered h'.
        let o = (assignments_exactly t [] l).0 (bs, assigned) in
        let e = (filter_exactly t w).0 (x, filtered) in
        record {
          targets = o.targets;
          assignments_obey = o.assignments_obey;
          distinct_targets = rw (apart_none o.targets) at o.apart_targets;
          marking = e.marking;
          condition_obeys = e.condition_obeys;
          is_bool = e.is_bool;
        }))

    obeying : UpdateObeys t l w → Gives (bind_update t l w)
    obeying o =
        let bs = assignments_obeying t [] o.assignments_obey (rw (apart_none o.targets) o.distinct_targets) in
        let x = (filter_exactly t w).1 (record { marking = o.marking; condition_obeys = o.condition_obeys; is_bool = o.is_bool }) in
        (bound_update (record { table = bound_table t; assignments = bs.0; filter = x.0 }), rw (bs.1, x.1))

-- ---- the UPDATE that is taken

module _ {s : Read Statement} {c : Read Catalogue} {u : Update} {t : TableSchema} {w : Expr} (taken : Taken s c u t w) where
  -- none of 5, 6, 7 and 8 comes
  taken_judged : judged_statement (some s) (some c) ≡ heard (analyze c.value s.value)
  unfolding judged_statement
  taken_judged = rw (taken.statement_is_within, taken.catalogue_is_within, taken.clear_of_eight)

  -- nor does a refusal before the assignments are looked at
  pub taken_analyzed : analyze c.value s.value ≡ bind_update t u.assignments w
  unfolding analyze analyze_kind analyze_update resolve_direct_table relation_name simple_name
  taken_analyzed =
      rw (
        taken.not_show_transactions,
        taken.is_update,
        taken.no_from,
        taken.no_returning,
        taken.no_conflict,
        taken.has_assignment,
        taken.one_table,
        taken.known_table,
        taken.has_where,
      )

-- "Take an UPDATE (by 01's dispatch) of one known table, with a WHERE, at least one assignment, no unsupported clause, within the limits,
-- clear of number 8 and with room for each answer. It binds exactly if some marking of its expressions with types and may-be-null meets 01's
-- rule at every node, the WHERE is BOOL, and the targets are plain distinct columns outside the key, each given a fitting value, none that
-- may be null where the column forbids it."
pub binds_exactly : (s : Read Statement) (c : Read Catalogue) (u : Update) (t : TableSchema) (w : Expr) → Taken s c u t w
    → (size : BoundStatement → ℕ) (room : ℕ) → BindsExactly s c u t w size room
unfolding bind_outcome
binds_exactly s c u t w taken size room h =
    rw (roomy size room (judged_statement (some s) (some c)) h, taken_judged taken, taken_analyzed taken)
    (Iff.trans (heard_exactly (bind_update t u.assignments w)) (update_exactly t u.assignments w))
