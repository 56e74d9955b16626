-- What `mark` and `expression_size` ask for, what they answer, and what an answer tells of binding the expression.
-- Assumes nothing.
use Rattle.std.specs.Prelude.{◌≡◌, refl, List, ℕ, ◌≤◌, ◌<◌, length, Result, Ok, Err}
use Rattle.std.proofs.Common.{◌∙◌, sym, arith}
use Rattle.rules.specs.declared.Refusal.{Refusal}
use Rattle.rules.specs.Answers.{Answer, given, refused}
use Rattle.rules.specs.Bound.{BoundExpr, mark_of}
use Rattle.rules.specs.Marking.{bind_expression}
use Rattle.rules.specs.Statements.{Expr}
use Rattle.rules.specs.Tables.{TableSchema}
use Rattle.rules.proofs.Theorems.Answered.{mapped}
use Rattle.image_catalogue.specs.Layout.{table}
use Rattle.image_expression.specs.Expression.{expression}
use Rattle.image_expression.specs.Place.{node_count, node_at, Root, HasNode}
use Rattle.bytes_bundle.specs.Held.{Is, Holds}
use Rattle.image_bound.specs.Expression.{bound_expression}
use Rattle.bind_expression.specs.declared.Measured.{Measured}
use Rattle.bind_expression.specs.declared.BoundExpression.{BoundExpression}
use Rattle.bind_expression.specs.Told.{measured, told, size_told}

-- every name has at most 128 bytes: paper 01's limit, which is tested before an expression is marked
pub record NamesWithin (e : List ℕ) : Type 0 where
  pub short : (j : ℕ) → j < node_count e → (node_at e j).kind < 2 → length (node_at e j).text ≤ 128

-- t is a table's image, e an expression's with short names, and i one of its nodes
pub record Markable (t e : List ℕ) (i : ℕ) : Type 0 where
  pub table : Is table t
  pub names : NamesWithin e
  pub node : HasNode e i

-- r is what binding the tree at node i answers, measured
abbrev pub Marks : List ℕ → List ℕ → ℕ → Result Measured Refusal → Type 0
Marks t e i r = (v : TableSchema) → Holds table t v → (x : Expr) → Root (node_at e) i x → r ≡ told (mapped measured (bind_expression v x))

-- r is what binding the expression e answers: the mark, and the length of the bound image
abbrev pub Sizes : List ℕ → List ℕ → Result BoundExpression Refusal → Type 0
Sizes t e r = (v : TableSchema) → Holds table t v → (x : Expr) → Holds expression e x → r ≡ size_told (bind_expression v x)

-- ---- what an answer tells

told_is : (a : Answer BoundExpr) {m : Measured} → Ok m ≡ told (mapped measured a) → (b : BoundExpr) × (a ≡ given b) × (measured b ≡ m)
told_is (given b) h = (b, refl, cc)
told_is (refused r) h = absurd (let z : ◌≡◌ {A = ℕ} 0 1 = cc in omega arith)

told_refused : (a : Answer BoundExpr) {q : Refusal} → Err q ≡ told (mapped measured a) → a ≡ refused q
told_refused (given b) h = absurd (let z : ◌≡◌ {A = ℕ} 0 1 = cc in omega arith)
told_refused (refused r) h = cc

size_is : (a : Answer BoundExpr) {m : BoundExpression} → Ok m ≡ size_told a
    → (b : BoundExpr) × (a ≡ given b) × (mark_of b ≡ m.mark) × (length (bound_expression.write b) ≡ m.len)
size_is (given b) h = (b, refl, cc, cc)
size_is (refused r) h = absurd (let z : ◌≡◌ {A = ℕ} 0 1 = cc in omega arith)

size_refused : (a : Answer BoundExpr) {q : Refusal} → Err q ≡ size_told a → a ≡ refused q
size_refused (given b) h = absurd (let z : ◌≡◌ {A = ℕ} 0 1 = cc in omega arith)
size_refused (refused r) h = cc

module _ (t e : List ℕ) {v : TableSchema} (h : Holds table t v) where
  module _ (i : ℕ) (x : Expr) (g : Root (node_at e) i x) {r : Result Measured Refusal} (s : Marks t e i r) where
    pub marked_is : {m : Measured} → r ≡ Ok m → (b : BoundExpr) × (bind_expression v x ≡ given b) × (measured b ≡ m)
    marked_is p = told_is (bind_expression v x) (sym p ∙ s v h x g)

    pub marked_refused : {q : Refusal} → r ≡ Err q → bind_expression v x ≡ refused q
    marked_refused p = told_refused (bind_expression v x) (sym p ∙ s v h x g)

  module _ {x : Expr} (g : Holds expression e x) {r : Result BoundExpression Refusal} (s : Sizes t e r) where
    pub sized_is : {m : BoundExpression} → r ≡ Ok m
        → (b : BoundExpr) × (bind_expression v x ≡ given b) × (mark_of b ≡ m.mark) × (length (bound_expression.write b) ≡ m.len)
    sized_is p = size_is (bind_expression v x) (sym p ∙ s v h x g)

    pub sized_refused : {q : Refusal} → r ≡ Err q → bind_expression v x ≡ refused q
    sized_refused p = size_refused (bind_expression v x) (sym p ∙ s v h x g)
