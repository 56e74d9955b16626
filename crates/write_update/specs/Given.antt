-- What a bound UPDATE tells of the steps that made it.
-- Assumes nothing.
use Rattle.std.specs.Prelude.{◌≡◌, refl, List, [], ◌∷◌, ℕ, zero, suc, ◌+◌, length, drop}
use Rattle.std.proofs.Common.{sym, ap, ◌∙◌, subst, arith, length-drop}
use Rattle.std.proofs.Math.Option.{Option, some}
use Rattle.bind_table.specs.Steps.{step_on}
use Rattle.rules.specs.declared.Class.TheVariants.{SchemaMismatch, ConstraintViolation, UnsupportedSql, InvalidArgument}
use Rattle.rules.specs.declared.ColumnId.{ColumnId}
use Rattle.rules.specs.Answers.{given, found}
use Rattle.rules.specs.Analyze.{target_name, assignment, assignments, resolve_direct_table, analyze_update}
use Rattle.rules.specs.Bound.{BoundColumnRef, BoundExpr, mark_of, BoundAssignment, BoundStatement}
use Rattle.rules.specs.Fits.{bind_boolean_filter, fit}
use Rattle.rules.specs.Lists.{is_empty, any}
use Rattle.rules.specs.Lookup.{column_by_name, in_key}
use Rattle.rules.specs.Marking.{bind_expression}
use Rattle.rules.specs.Statements.{Target, Assignment, Update, Expr}
use Rattle.rules.specs.Tables.{TableSchema, Catalogue, same_id}
use Rattle.rules.proofs.Theorems.Steps.{step, step_found, step_past, step_fine}
use Rattle.bind_update.specs.Targets.{target_column, column_named_lem}
use Rattle.write_expression.specs.Found.{column_owner}
use Rattle.bind_update.specs.Updated.{updated, update_table}

pub given_same : {A : Type 0} {a b : A} → given a ≡ given b → a ≡ b
given_same h = cc

-- ---- a target's column is one of its table

pub target_owner : (v : TableSchema) (g : Target) {c : BoundColumnRef} → target_column v g ≡ given c → c.table_id ≡ v.id
target_owner v g e = let n = column_named_lem v g e in column_owner v n.0 n.2

-- ---- an assignment

pub record AssignmentGiven (t : TableSchema) (a : Assignment) (b : BoundAssignment) : Type 0 where
  pub target : target_column t a.target ≡ given b.column
  pub value : bind_expression t a.value ≡ given b.value

assignment_given : (t : TableSchema) (before : List ColumnId) (a : Assignment) {b : BoundAssignment} → assignment t before a ≡ given b → AssignmentGiven t a b
unfolding assignment
assignment_given t before a h =
    step (target_name a.target) _ h (λ n e h₁.
    step_found (column_by_name t n) SchemaMismatch _ h₁ (λ c f h₂.
    step_past (any (same_id c.column_id) before) ConstraintViolation _ h₂ (λ p h₃.
    step_past (in_key t c.column_id) ConstraintViolation _ h₃ (λ q h₄.
    step (bind_expression t a.value) _ h₄ (λ x g h₅.
    step_fine (fit (mark_of x) c) _ h₅ (λ j h₆.
    subst (AssignmentGiven t a) (given_same h₆)
    (record { target = step_on _ e ∙ ap (λ (o : Option BoundColumnRef). found o SchemaMismatch) f; value = g })))))))

-- ---- the assignments

abbrev pub AllGiven : TableSchema → List Assignment → List BoundAssignment → Type 0
AllGiven t [] [] = Unit {0}
AllGiven t [] (b ∷ bs) = ⊥
AllGiven t (a ∷ xs) [] = ⊥
AllGiven t (a ∷ xs) (b ∷ bs) = AssignmentGiven t a b × AllGiven t xs bs

pub assignments_given : (t : TableSchema) (before : List ColumnId) (xs : List Assignment) {bs : List BoundAssignment} → assignments t before xs ≡ given bs
    → AllGiven t xs bs
unfolding assignments
assignments_given t before [] h = subst (AllGiven t []) (given_same h) tt
assignments_given t before (a ∷ xs) h =
    step (assignment t before a) _ h (λ b e h₁.
    step (assignments t (b.column.column_id ∷ before) xs) _ h₁ (λ cs f h₂.
    subst (AllGiven t (a ∷ xs)) (given_same h₂) (assignment_given t before a e, assignments_given t (b.column.column_id ∷ before) xs f)))

pub all_count : (t : TableSchema) (xs : List Assignment) (bs : List BoundAssignment) → AllGiven t xs bs → length bs ≡ length xs
all_count t [] [] g = refl
all_count t [] (b ∷ bs) g = absurd g
all_count t (a ∷ xs) [] g = absurd g
all_count t (a ∷ xs) (b ∷ bs) g = ap suc (all_count t xs bs g.1)

-- what the assignment that a loop has come to is bound to
pub record Turned (t : TableSchema) (a : Assignment) (bs : List BoundAssignment) (i : ℕ) : Type 0 where
  pub value : BoundAssignment
  pub gives : AssignmentGiven t a value
  pub rest : drop i bs ≡ value ∷ drop (i + 1) bs

pub all_turn : (t : TableSchema) (i : ℕ) (xs : List Assignment) (bs : List BoundAssignment) → AllGiven t xs bs → {a : Assignment} {m : List Assignment} → drop i xs ≡ a ∷ m
    → Turned t a bs i
all_turn t i [] [] g e = absurd (omega (arith, ap length e, length-drop {A = Assignment} i []))
all_turn t i [] (b ∷ bs) g e = absurd g
all_turn t i (x ∷ xs) [] g e = absurd g
all_turn t zero (x ∷ xs) (b ∷ bs) g {a} e = let z : x ≡ a = cc in record { value = b; gives = subst (λ (y : Assignment). AssignmentGiven t y b) z g.0; rest = refl }
all_turn t (suc i) (x ∷ xs) (b ∷ bs) g e =
    let w = all_turn t i xs bs g.1 e in
    let k : suc i + 1 ≡ suc (i + 1) = omega arith in
    record { value = w.value; gives = w.gives; rest = w.rest ∙ ap (λ (n : ℕ). w.value ∷ drop n (b ∷ bs)) (sym k) }

-- ---- the whole

-- over its table
pub record TableUpdated (t : TableSchema) (xs : List Assignment) (e : Expr) (b : BoundStatement) : Type 0 where
  pub assigned : List BoundAssignment
  pub assigns : assignments t [] xs ≡ given assigned
  pub filter : BoundExpr
  pub filters : bind_boolean_filter t e ≡ given filter
  pub is : updated t assigned filter ≡ b

pub table_given : (t : TableSchema) (xs : List Assignment) (e : Expr) {b : BoundStatement} → update_table t xs e ≡ given b → TableUpdated t xs e b
table_given t xs e h =
    step (assignments t [] xs) _ h (λ bs a h₁.
    step (bind_boolean_filter t e) _ h₁ (λ x f h₂.
    record { assigned = bs; assigns = a; filter = x; filters = f; is = given_same h₂ }))

pub record UpdateGiven (cat : Catalogue) (u : Update) (b : BoundStatement) : Type 0 where
  pub schema : TableSchema
  pub resolved : resolve_direct_table cat u.table ≡ given schema
  pub condition : Expr
  pub conditioned : u.condition ≡ some condition
  pub updates : update_table schema u.assignments condition ≡ given b

pub update_given : (cat : Catalogue) (u : Update) {b : BoundStatement} → analyze_update cat u ≡ given b → UpdateGiven cat u b
unfolding analyze_update
update_given cat u h =
    step_past u.from UnsupportedSql _ h (λ p h₁.
    step_past u.returning UnsupportedSql _ h₁ (λ q h₂.
    step_past u.conflict UnsupportedSql _ h₂ (λ r h₃.
    step_past (is_empty u.assignments) InvalidArgument _ h₃ (λ s h₄.
    step (resolve_direct_table cat u.table) _ h₄ (λ t g h₅.
    step_found u.condition UnsupportedSql _ h₅ (λ e c h₆.
    record { schema = t; resolved = g; condition = e; conditioned = c; updates = h₆ }))))))
