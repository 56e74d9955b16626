-- What an UPDATE and its assignments hold, by the bytes that the accessors look at.
-- Assumes nothing.
use Rattle.std.specs.Prelude.{◌≡◌, refl, List, [], ℕ, ◌<◌, length, get_or, eqb}
use Rattle.std.proofs.Common.{subst}
use Rattle.std.proofs.Math.Option.{some}
use Rattle.bytes_format.specs.Ways.{some_code}
use Rattle.bytes_format.proofs.Formats.{mark, both, alone, list_of}
use Rattle.bytes_bundle.specs.Bundle.{parts_of, IsRecord}
use Rattle.bytes_bundle.specs.Laws.{some_there, via_record_there, via_record_value}
use Rattle.bytes_bundle.specs.Fields.{both_spot, field_value}
use Rattle.bytes_bundle.specs.Heads.{mark_spot}
use Rattle.bytes_bundle.specs.Values.{mark_is, both_value}
use Rattle.bytes_bundle.specs.Cases.{ChoiceHas, choice_has}
use Rattle.rules.specs.Statements.{Target, Assignment, Update}
use Rattle.image_expression.specs.Expression.{expression}
use Rattle.image_parts.specs.Layout.{table_with_joins, condition, target_cases, which_target, target_made, assignment_target, assignment, updating}
use Rattle.image_update.specs.Shapes.{assignment_parts, update_parts}
use Rattle.bytes_bundle.specs.Held.{Is, Holds}

-- ---- an assignment

-- 0 a tuple, 1 an object name
abbrev pub target_no : Target → ℕ
target_no t = some_code target_cases (which_target t)

pub target_has : (s : List ℕ) (v : Target) → Holds assignment_target s v → ChoiceHas target_cases which_target s v
unfolding assignment_target
target_has s v e = choice_has target_cases which_target target_made refl refl s e

pub record AssignmentHas (s : List ℕ) (v : Assignment) : Type 0 where
  pub whole : IsRecord 2 2 s
  pub target : Holds assignment_target (get_or (parts_of 2 s) 0 []) v.target
  pub value : Holds expression (get_or (parts_of 2 s) 1 []) v.value

pub assignment_has : (s : List ℕ) (v : Assignment) → Holds assignment s v → AssignmentHas s v
unfolding assignment
assignment_has s v e =
    let a = via_record_value 2 assignment_parts s _ e in
    subst (AssignmentHas s) a.2 (record { whole = via_record_there 2 assignment_parts s _ e; target = a.1.0; value = a.1.1.0 })

-- ---- the whole

pub record UpdateMarks (s : List ℕ) (v : Update) : Type 0 where
  pub wide : length s ≡ 3
  pub from : eqb (get_or s 0 0) 1 ≡ v.from
  pub returning : eqb (get_or s 1 0) 1 ≡ v.returning
  pub conflict : eqb (get_or s 2 0) 1 ≡ v.conflict

update_marks : (s : List ℕ) (v : Update) → (alone (both mark (both mark mark))).read s ≡ some (v.from, (v.returning, v.conflict)) → UpdateMarks s v
update_marks s v e =
    let k = field_value (both_spot mark_spot (both_spot mark_spot mark_spot)) s e in
    let a = both_value mark_spot (both_spot mark_spot mark_spot) 0 s k.1 in
    let b = both_value mark_spot mark_spot 1 s a.1 in
    record {
      wide = k.0;
      from = mark_is (get_or s 0 0) a.0;
      returning = mark_is (get_or s 1 0) b.0;
      conflict = mark_is (get_or s 2 0) b.1;
    }

pub record UpdateHas (s : List ℕ) (v : Update) : Type 0 where
  pub whole : IsRecord 2 4 s
  pub marks : UpdateMarks (get_or (parts_of 2 s) 0 []) v
  pub table : Holds table_with_joins (get_or (parts_of 2 s) 1 []) v.table
  pub assignments : Holds (list_of 2 assignment) (get_or (parts_of 2 s) 2 []) v.assignments
  pub condition : Holds condition (get_or (parts_of 2 s) 3 []) v.condition

pub update_has : (s : List ℕ) (v : Update) → Holds updating s v → UpdateHas s v
unfolding updating
update_has s v e =
    let a = via_record_value 2 update_parts s _ e in
    let k = a.1 in
    subst (UpdateHas s) a.2 (record {
      whole = via_record_there 2 update_parts s _ e;
      marks = update_marks _ _ k.0;
      table = k.1.0;
      assignments = k.1.1.0;
      condition = k.1.1.1.0;
    })

-- ---- what the accessors may rely on

pub target_wide : {s : List ℕ} → Is assignment_target s → 0 < length s
target_wide {s} i = some_there (assignment_target.read s) i.there (λ v e. (target_has s v e).wide)

pub assignment_whole : {s : List ℕ} → Is assignment s → IsRecord 2 2 s
assignment_whole {s} i = some_there (assignment.read s) i.there (λ v e. (assignment_has s v e).whole)

pub update_whole : {s : List ℕ} → Is updating s → IsRecord 2 4 s
update_whole {s} i = some_there (updating.read s) i.there (λ v e. (update_has s v e).whole)

pub update_wide : {s : List ℕ} → Is updating s → length (get_or (parts_of 2 s) 0 []) ≡ 3
update_wide {s} i = some_there (updating.read s) i.there (λ v e. (update_has s v e).marks.wide)
