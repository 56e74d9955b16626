-- An UPDATE within the limits: its names are short, its assignments few.
-- Assumes nothing.
use Rattle.std.specs.Prelude.{◌≡◌, refl, Bool, ◌&&◌, List, [], ◌∷◌, ◌++◌, ℕ, zero, suc, ◌-◌, ◌≤◌, length, take, drop}
use Rattle.std.proofs.Common.{sym, ap, ◌∙◌, subst, arith}
use Rattle.std.proofs.Math.Bool.{true, and-true}
use borrow.Author.Tests.{leb-true}
use Rattle.bytes_format.proofs.Formats.{list_of}
use Rattle.bytes_bundle.specs.Bundle.{Stepped}
use Rattle.bytes_bundle.specs.Decides.{and_of}
use Rattle.bytes_bundle.specs.Held.{Is, Holds, is_held, held, held_once}
use Rattle.bytes_bundle.specs.Numbered.{IsPart, valued, valued_is}
use Rattle.image_expression.specs.Expression.{expression}
use Rattle.image_expression.specs.Names.{Within}
use Rattle.image_parts.specs.Layout.{object_name, condition, assignment_target, assignment, updating}
use Rattle.bind_where.specs.Short.{ShortExpression, short_expression}
use Rattle.bind_where.specs.There.{condition_names, ShortCondition, condition_within_lem}
use Rattle.bind_repeats.specs.declared.Of.TheVariants as of
use Rattle.bind_repeats.specs.Entries.{object_in, target_in, name_in, short_name, ShortIn, AllShort}
use Rattle.bind_table.specs.Short.{ShortName, short_name_lem, all_front, all_back, held_within_lem}
use Rattle.rules.specs.Lists.{all}
use Rattle.rules.specs.Limits.{at_most, gather, if_there, expression_names, object_names, table_names, target_names, assignment_names, held_by_update, held_within}
use Rattle.rules.specs.Statements.{ObjectName, plain, qualified, Target, target, tuple, Assignment, Update}

-- ---- all of a list

module _ {A B : Type 0} (p : B → Bool) (f : A → List B) where
  gathered : (l : List A) → all p (gather f l) ≡ true → all (λ x. all p (f x)) l ≡ true
  gathered [] e = refl
  gathered (x ∷ l) e =
      ap (λ (b : Bool). b && all (λ x. all p (f x)) l) (all_front p (f x) (gather f l) e) ∙ gathered l (all_back p (f x) (gather f l) e)

module _ {A : Type 0} (p : A → Bool) where
  -- each
  all_turn : (i : ℕ) (l : List A) {x : A} {m : List A} → all p l ≡ true → drop i l ≡ x ∷ m → p x ≡ true
  all_turn zero l {x} {m} a e = (and_of (p x) (all p m) (ap (all p) (sym e) ∙ a)).0
  all_turn (suc i) [] {x} a e = absurd (omega (arith, ap length e))
  all_turn (suc i) (y ∷ l) a e = all_turn i l (and_of (p y) (all p l) a).1 e

  all_as : (q : A → Bool) → ((x : A) → p x ≡ true → q x ≡ true) → (l : List A) → all p l ≡ true → all q l ≡ true
  all_as q h [] e = refl
  all_as q h (x ∷ l) e = let k = and_of (p x) (all p l) e in ap (λ (b : Bool). b && all q l) (h x k.0) ∙ all_as q h l k.1

-- ---- what the code may rely on

-- the names of an assignment are short
abbrev pub ShortNames : Assignment → Bool
ShortNames a = all Within (assignment_names a)

pub record ShortAssignment (s : List ℕ) : Type 0 where
  pub is : Is assignment s
  pub short : (a : Assignment) → Holds assignment s a → ShortNames a ≡ true

pub record ShortAssignments (s : List ℕ) : Type 0 where
  pub is : Is (list_of 2 assignment) s
  pub few : (xs : List Assignment) → Holds (list_of 2 assignment) s xs → length xs ≤ 64
  pub short : (xs : List Assignment) → Holds (list_of 2 assignment) s xs → all ShortNames xs ≡ true

pub record Limited (u : List ℕ) : Type 0 where
  pub within : (v : Update) → Holds updating u v → held_within (held_by_update v) ≡ true

-- ---- a target

short_object : (o : ObjectName) → all Within (object_names o) ≡ true → short_name (object_in o) ≡ true
short_object (plain n) e = (and_of (Within n) true e).0
short_object qualified e = refl

short_target : (g : Target) → all Within (target_names g) ≡ true → short_name (target_in g) ≡ true
short_target (target o) e = short_object o e
short_target tuple e = refl

short_plain : (o : ObjectName) → short_name (object_in o) ≡ true → all Within (object_names o) ≡ true
short_plain (plain n) e = and-true (Within n) ∙ e
short_plain qualified e = refl

-- its name
pub target_short : {s p : List ℕ} {o : ObjectName} → ShortIn assignment_target target_in s → Holds assignment_target s (target o) → Holds object_name p o → ShortName p
target_short {o = o} h w k = short_name_lem k (short_plain o (h.short (target o) w))

-- ---- an assignment

module _ {s : List ℕ} (h : ShortAssignment s) where
  pub assignment_target_lem : {p : List ℕ} → ((a : Assignment) → Holds assignment s a → Holds assignment_target p a.target) → ShortIn assignment_target target_in p
  assignment_target_lem {p} k = held h.is (λ a e. record {
    is = is_held {f = assignment_target} (k a e);
    short = λ g q.
        ap (λ (x : Target). short_name (target_in x)) (held_once assignment_target q (k a e))
        ∙ short_target a.target (all_front Within (target_names a.target) (expression_names a.value) (h.short a e));
  })

  pub assignment_value : {p : List ℕ} → ((a : Assignment) → Holds assignment s a → Holds expression p a.value) → ShortExpression p
  assignment_value k = held h.is (λ a e.
      short_expression (k a e) (all_back Within (target_names a.target) (expression_names a.value) (h.short a e)))

-- ---- the assignments

module _ {s : List ℕ} (h : ShortAssignments s) where
  pub assignment_short : {i : ℕ} {p : List ℕ} → IsPart 2 s i p → ShortAssignment p
  assignment_short {i} {p} d = record {
    is = valued_is assignment d h.is;
    short = λ a k. held h.is (λ xs q.
        let t = valued assignment d q in
        ap ShortNames (held_once assignment k t.holds) ∙ all_turn ShortNames i xs (h.short xs q) t.rest);
  }

  pub assignments_part : {i at e : ℕ} → Stepped 2 s i at e → ShortAssignment (take (e - at) (drop at s))
  assignments_part {i} {at} {e} d = assignment_short {i = i} (record { few = omega (arith, d.next.few); is = d.is })

  -- the same of a part by its number
  pub assignments_entry : {i : ℕ} {p : List ℕ} → IsPart 2 s i p → ShortAssignment p
  assignments_entry {i} d = record {
    is = valued_is assignment d h.is;
    short = λ a k. held h.is (λ xs q.
        let t = valued assignment d q in
        ap ShortNames (held_once assignment k t.holds) ∙ all_turn ShortNames i xs (h.short xs q) t.rest);
  }

  pub assignments_targets : AllShort of.Targets s
  assignments_targets = record {
    is = h.is;
    short = λ xs k. all_as ShortNames (λ a. short_name (name_in of.Targets a))
        (λ a e. short_target a.target (all_front Within (target_names a.target) (expression_names a.value) e)) xs (h.short xs k);
  }

-- ---- the whole

module _ (v : Update) (w : held_within (held_by_update v) ≡ true) where
  behind_table : all Within (gather assignment_names v.assignments ++ gather expression_names (if_there v.condition)) ≡ true
  unfolding held_by_update
  behind_table =
      all_back Within (table_names v.table) (gather assignment_names v.assignments ++ gather expression_names (if_there v.condition))
      (held_within_lem (held_by_update v) w).names

  update_few : length v.assignments ≤ 64
  unfolding held_by_update
  update_few = leb-true (length v.assignments) 64 (and_of (at_most 64 (length v.assignments)) true (held_within_lem (held_by_update v) w).lists).0

  update_assigned : all ShortNames v.assignments ≡ true
  update_assigned =
      gathered Within assignment_names v.assignments
      (all_front Within (gather assignment_names v.assignments) (gather expression_names (if_there v.condition)) behind_table)

  update_conditioned : condition_names v.condition ≡ true
  update_conditioned = all_back Within (gather assignment_names v.assignments) (gather expression_names (if_there v.condition)) behind_table

pub update_assignments : {u p : List ℕ} → Limited u → Is updating u → ((v : Update) → Holds updating u v → Holds (list_of 2 assignment) p v.assignments) → ShortAssignments p
update_assignments {u} {p} l i k = held i (λ v e.
    let w = l.within v e in
    record {
      is = is_held {f = list_of 2 assignment} (k v e);
      few = λ xs q. subst (λ (ys : List Assignment). length ys ≤ 64) (held_once (list_of 2 assignment) {s = p} (k v e) q) (update_few v w);
      short = λ xs q. ap (all ShortNames) (held_once (list_of 2 assignment) {s = p} q (k v e)) ∙ update_assigned v w;
    })

pub update_condition : {u p : List ℕ} → Limited u → Is updating u → ((v : Update) → Holds updating u v → Holds condition p v.condition) → ShortCondition p
update_condition {u} {p} l i k = held i (λ v e. condition_within_lem p (k v e) (update_conditioned v (l.within v e)))
