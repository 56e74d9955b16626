-- What is judged of an assignment by itself, beside the rules' steps, and how far a loop over them has come.
-- Assumes nothing.
use Rattle.std.specs.Prelude.{◌≡◌, Bool, true, false, ◌||◌, ℕ, ◌+◌, ◌≤◌, length, take, drop}
use Rattle.std.proofs.Math.Path.{refl, sym, ap, ap₂}
use Rattle.std.proofs.Common.{◌∙◌, subst, arith, drop_of_length-le, length-append}
use mathlib.Core.List.{List, [], ◌∷◌, ◌++◌, map, append-nil, append_assoc}
use Rattle.std.proofs.Math.Option.{Option, some}
use Rattle.bytes_format.specs.Format.{Format}
use Rattle.bytes_format.proofs.Formats.{list_of}
use Rattle.image_bound.specs.Layout as layout
use Rattle.image_bound.specs.Bundles.{bodies, bodies_snoc, list_length}
use Rattle.bind_repeats.specs.declared.Of.TheVariants as of
use Rattle.bind_repeats.specs.Repeats.{alike, is_at, first_repeated, any_last, take_next, drop_next, drop_map, Reached, reached_none, reached_turn, reached_on}
use Rattle.bind_repeats.specs.Entries.{entry}
use Rattle.bind_table.specs.Steps.{classed, step_on, step_off, steps_joined, test_on, test_off}
use Rattle.rules.specs.declared.Class.{Class}
use Rattle.rules.specs.declared.Class.TheVariants.{SchemaMismatch, ConstraintViolation}
use Rattle.rules.specs.declared.ColumnId.{ColumnId}
use Rattle.rules.specs.declared.Refusal.{Refusal}
use Rattle.rules.specs.Answers.{Answer, given, refused, refuse_if, found, ◌>>=◌, ◌>>◌, Verdict, fine, flaw, judged}
use Rattle.rules.specs.Analyze.{target_name, assignment, assignments}
use Rattle.rules.specs.Bound.{BoundColumnRef, BoundExpr, BoundAssignment, mark_of}
use Rattle.rules.specs.Fits.{fit}
use Rattle.rules.specs.Lists.{Text, any}
use Rattle.rules.specs.Lookup.{column_by_name, in_key}
use Rattle.rules.specs.Marking.{bind_expression}
use Rattle.rules.specs.Statements.{Assignment, Expr}
use Rattle.rules.specs.Tables.{TableSchema, same_id, sound_table}
use Rattle.rules.proofs.Theorems.Steps.{step, step_past}
use Rattle.bind_update.specs.Columns.{columns_told}
use Rattle.bind_update.specs.Targets.{target_column, column_named_lem, fitting_value}
use Rattle.bind_update.specs.Assigned.{assigned, assign_to, judge_assignment}

-- the rules' steps
abbrev assign_from : List ColumnId → TableSchema → Assignment → BoundColumnRef → Answer BoundAssignment
assign_from before t a c = do
  refuse_if (any (same_id c.column_id) before) ConstraintViolation
  refuse_if (in_key t c.column_id) ConstraintViolation
  x ← bind_expression t a.value
  judged (fit (mark_of x) c)
  given (assigned c x)

assign_joined : (before : List ColumnId) (t : TableSchema) (a : Assignment) → assignment t before a ≡ (target_column t a.target >>= assign_from before t a)
unfolding assignment
assign_joined before t a = steps_joined (target_name a.target) (λ name. found (column_by_name t name) SchemaMismatch) (assign_from before t a)

pub assignment_judged : (t : TableSchema) (before : List ColumnId) (a : Assignment) (repeated : Bool)
    → ((c : BoundColumnRef) → target_column t a.target ≡ given c → repeated ≡ any (same_id c.column_id) before)
    → assignment t before a ≡ judge_assignment repeated t a
assignment_judged t before a repeated h = assign_joined before t a ∙ go (target_column t a.target) h
  where
    last : (c : BoundColumnRef) (y : Answer BoundExpr)
        → (y >>= (λ x. judged (fit (mark_of x) c) >> given (assigned c x))) ≡ ((y >>= (λ x. judged (fit (mark_of x) c) >> given x)) >>= (λ x. given (assigned c x)))
    last c (refused r) = refl
    last c (given x) = fits (fit (mark_of x) c)
      where
        fits : (j : Verdict Unit) → (judged j >> given (assigned c x)) ≡ ((judged j >> given x) >>= (λ x. given (assigned c x)))
        fits (fine u) = refl
        fits (flaw k) = refl

    go : (d : Answer BoundColumnRef) → ((c : BoundColumnRef) → d ≡ given c → repeated ≡ any (same_id c.column_id) before)
        → (d >>= assign_from before t a) ≡ (d >>= (λ c. refuse_if repeated ConstraintViolation >> assign_to t c a.value))
    go (refused r) k = refl
    go (given c) k =
        ap₂ (λ (b : Bool) (y : Answer BoundAssignment). refuse_if b ConstraintViolation >> (refuse_if (in_key t c.column_id) ConstraintViolation >> y))
        (sym (k c refl)) (last c (bind_expression t a.value))

module _ (t : TableSchema) (c : BoundColumnRef) (e : Expr) where
  pub assign_key : in_key t c.column_id ≡ true → assign_to t c e ≡ refused (classed ConstraintViolation)
  assign_key k = test_off _ _ k

  module _ (k : in_key t c.column_id ≡ false) where
    pub assign_value : {q : Refusal} → fitting_value t c e ≡ refused q → assign_to t c e ≡ refused q
    assign_value v = test_on _ _ k ∙ step_off _ v

    pub assign_is : {x : BoundExpr} → fitting_value t c e ≡ given x → assign_to t c e ≡ given (assigned c x)
    assign_is v = test_on _ _ k ∙ step_on _ v

module _ (repeated : Bool) (t : TableSchema) (a : Assignment) where
  pub judged_target : {k : Class} → target_column t a.target ≡ refused (classed k) → judge_assignment repeated t a ≡ refused (classed k)
  judged_target e = step_off _ e

  module _ {c : BoundColumnRef} (e : target_column t a.target ≡ given c) where
    pub judged_repeated : repeated ≡ true → judge_assignment repeated t a ≡ refused (classed ConstraintViolation)
    judged_repeated r = step_on _ e ∙ test_off _ _ r

    pub judged_assigned : repeated ≡ false → judge_assignment repeated t a ≡ assign_to t c a.value
    judged_assigned r = step_on _ e ∙ test_on _ _ r

-- one that is bound was not repeated, and its target is the column
pub judged_given : (repeated : Bool) (t : TableSchema) (a : Assignment) {b : BoundAssignment} → judge_assignment repeated t a ≡ given b
    → (repeated ≡ false) × (target_column t a.target ≡ given b.column)
judged_given repeated t a {b} h =
    step (target_column t a.target) _ h (λ c e k.
    step_past repeated ConstraintViolation _ k (λ r m.
    step_past (in_key t c.column_id) ConstraintViolation _ m (λ n o.
    step (fitting_value t c a.value) _ o (λ x v w.
    let z : c ≡ b.column = cc in (r, e ∙ ap given z)))))

-- ---- the assignments in their turn

-- the names that targets are compared by
abbrev pub names : List Assignment → List (Option Text)
names xs = map (entry of.Targets) xs

-- a name is among the names ns exactly if its column's id is among the ids before
pub record Tells (t : TableSchema) (before : List ColumnId) (ns : List (Option Text)) : Type 0 where
  pub at : (n : Text) (c : BoundColumnRef) → column_by_name t n ≡ some c → any (same_id c.column_id) before ≡ any (alike (some n)) ns

tells_none : (t : TableSchema) → Tells t [] []
tells_none t = record { at = λ n c e. refl }

tells_more : {t : TableSchema} {before : List ColumnId} {ns : List (Option Text)} → sound_table t ≡ true → Tells t before ns
    → (m : Text) {d : BoundColumnRef} → column_by_name t m ≡ some d → Tells t (d.column_id ∷ before) (ns ++ (some m ∷ []))
tells_more {t} {before} {ns} s h m {d} e = record {
  at = λ n c k. ap₂ (λ (a b : Bool). a || b) (columns_told t s n m k e) (h.at n c k) ∙ sym (any_last (alike (some n)) ns (some m));
}

-- a loop that has come to assignment i: those before it are bound to `done`
pub record Going (t : TableSchema) (xs : List Assignment) (i : ℕ) : Type 0 where
  pub done : List BoundAssignment
  pub before : List ColumnId
  pub is : assignments t [] xs ≡ (assignments t before (drop i xs) >>= (λ rest. given (done ++ rest)))
  pub told : Tells t before (take i (names xs))
  pub reached : Reached (names xs) i

pub going_none : (t : TableSchema) (xs : List Assignment) → Going t xs 0
going_none t xs = record { done = []; before = []; is = go (assignments t [] xs); told = tells_none t; reached = reached_none (names xs) }
  where
    go : (a : Answer (List BoundAssignment)) → a ≡ (a >>= (λ rest. given rest))
    go (given bs) = refl
    go (refused r) = refl

module _ {t : TableSchema} {xs : List Assignment} {i : ℕ} (s : sound_table t ≡ true) (g : Going t xs i) {a : Assignment} {m : List Assignment} (d : drop i xs ≡ a ∷ m) where
  here : drop i (names xs) ≡ entry of.Targets a ∷ names m
  here = drop_map (entry of.Targets) i xs ∙ ap names d

  -- the search for repeats tells what the rules ask
  turn_judged : assignment t g.before a ≡ judge_assignment (is_at i (first_repeated (names xs))) t a
  turn_judged = assignment_judged t g.before a (is_at i (first_repeated (names xs))) (λ c e.
      let n = column_named_lem t a.target e in
      reached_turn g.reached here ∙ ap (λ (o : Option Text). any (alike o) (take i (names xs))) n.1 ∙ sym (g.told.at n.0 c n.2))

  turned : assignments t [] xs
      ≡ (judge_assignment (is_at i (first_repeated (names xs))) t a >>= (λ b. assignments t (b.column.column_id ∷ g.before) m >>= (λ rest. given ((g.done ++ (b ∷ [])) ++ rest))))
  unfolding assignments
  turned =
      g.is ∙ ap (λ (l : List Assignment). assignments t g.before l >>= (λ rest. given (g.done ++ rest))) d
      ∙ go (assignment t g.before a)
      ∙ ap (λ (y : Answer BoundAssignment). y >>= (λ b. assignments t (b.column.column_id ∷ g.before) m >>= (λ rest. given ((g.done ++ (b ∷ [])) ++ rest)))) turn_judged
    where
      more : (b : BoundAssignment) (y : Answer (List BoundAssignment))
          → ((y >>= (λ bs. given (b ∷ bs))) >>= (λ rest. given (g.done ++ rest))) ≡ (y >>= (λ rest. given ((g.done ++ (b ∷ [])) ++ rest)))
      more b (given bs) = ap given (sym (append_assoc g.done (b ∷ []) bs))
      more b (refused r) = refl

      go : (y : Answer BoundAssignment)
          → ((y >>= (λ b. assignments t (b.column.column_id ∷ g.before) m >>= (λ bs. given (b ∷ bs)))) >>= (λ rest. given (g.done ++ rest)))
          ≡ (y >>= (λ b. assignments t (b.column.column_id ∷ g.before) m >>= (λ rest. given ((g.done ++ (b ∷ [])) ++ rest))))
      go (given b) = more b (assignments t (b.column.column_id ∷ g.before) m)
      go (refused r) = refl

  -- an assignment that is refused is the answer
  pub going_off : {r : Refusal} → judge_assignment (is_at i (first_repeated (names xs))) t a ≡ refused r → assignments t [] xs ≡ refused r
  going_off e = turned ∙ step_off _ e

  -- after one that is bound the rest is
  pub going_on : {b : BoundAssignment} → judge_assignment (is_at i (first_repeated (names xs))) t a ≡ given b → Going t xs (i + 1)
  going_on {b} e =
      let k = judged_given (is_at i (first_repeated (names xs))) t a e in
      let n = column_named_lem t a.target k.1 in
      record {
        done = g.done ++ (b ∷ []);
        before = b.column.column_id ∷ g.before;
        is =
            turned ∙ step_on _ e
            ∙ ap (λ (l : List Assignment). assignments t (b.column.column_id ∷ g.before) l >>= (λ rest. given ((g.done ++ (b ∷ [])) ++ rest))) (sym (drop_next i xs d));
        told = subst (Tells t (b.column.column_id ∷ g.before)) (sym (take_next i (names xs) here ∙ ap (λ (o : Option Text). take i (names xs) ++ (o ∷ [])) n.1)) (tells_more s g.told n.0 n.2);
        reached = reached_on g.reached here (sym (reached_turn g.reached here) ∙ k.0);
      }

-- no assignment is left
pub going_end : {t : TableSchema} {xs : List Assignment} {i : ℕ} (g : Going t xs i) → length xs ≤ i → assignments t [] xs ≡ given g.done
unfolding assignments
going_end {t} {xs} {i} g h =
    g.is ∙ ap (λ (l : List Assignment). assignments t g.before l >>= (λ rest. given (g.done ++ rest))) (drop_of_length-le xs {i = i} h)
    ∙ ap given (append-nil g.done)

-- ---- how long the image of what is bound so far is

last_part_length : {A : Type 0} (f : Format A) (vs : List A) (v : A)
    → length ((list_of 4 f).write (vs ++ (v ∷ []))) ≡ length ((list_of 4 f).write vs) + (4 + length (f.write v))
last_part_length f vs v =
    omega (arith, list_length f (vs ++ (v ∷ [])), list_length f vs, length-append vs (v ∷ []), ap length (bodies_snoc f vs v), length-append (bodies f vs) (f.write v))

-- the loop has come to assignment i, and its sum is the length of the list so far
pub record Summed (t : TableSchema) (xs : List Assignment) (i sum : ℕ) : Type 0 where
  pub going : Going t xs i
  pub long : sum ≡ length ((list_of 4 layout.assignment).write going.done)

pub summed_none : (t : TableSchema) (xs : List Assignment) → Summed t xs 0 4
unfolding going_none
summed_none t xs = record { going = going_none t xs; long = refl }

module _ {t : TableSchema} {xs : List Assignment} {i sum : ℕ} (s : sound_table t ≡ true) (g : Summed t xs i sum) {a : Assignment} {m : List Assignment} (d : drop i xs ≡ a ∷ m) where
  pub summed_on : {b : BoundAssignment} {k : ℕ} → judge_assignment (is_at i (first_repeated (names xs))) t a ≡ given b → k ≡ length ((layout.assignment).write b)
      → Summed t xs (i + 1) (sum + (4 + k))
  unfolding going_on
  summed_on {b} e h = record { going = going_on s g.going d e; long = ap₂ (λ (x y : ℕ). x + (4 + y)) g.long h ∙ sym (last_part_length layout.assignment g.going.done b) }
