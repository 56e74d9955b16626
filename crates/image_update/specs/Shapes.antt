-- Whether bytes are an UPDATE or a part of it: a test for each thing that the code looks at.
-- Assumes nothing.
use Rattle.std.specs.Prelude.{◌≡◌, refl, ◌&&◌, ◌||◌, List, [], ℕ, length, drop, get_or, ltb, eqb}
use Rattle.bytes_format.proofs.Formats.{mark, alone, both, end, ◌and◌, list_of}
use Rattle.image_expression.specs.Expression.{expression}
use Rattle.bytes_bundle.specs.Bundle.{is_there, parts_of, is_record}
use Rattle.bytes_bundle.specs.Decides.{Decides}
use Rattle.bytes_bundle.specs.Laws.{Places, part, part_as, done, record_tests, via_record_decided}
use Rattle.bytes_bundle.specs.Heads.{Chosen, sum_chosen, bare_or_case, are_marks, one_mark, more_marks, marks_are}
use Rattle.image_parts.specs.Layout.{object_name, table_with_joins, condition, target_cases, which_target, target_made, assignment_target, assignment, updating}

pub target_chosen : (s : List ℕ) → Chosen (is_there (assignment_target.read s)) s target_cases
unfolding assignment_target
target_chosen s = sum_chosen target_cases which_target target_made refl refl s

pub is_target_lem : (s : List ℕ)
    → is_there (assignment_target.read s)
    ≡ ((eqb (length s) 1 && eqb (get_or s 0 0) 0) || (ltb 0 (length s) && (eqb (get_or s 0 0) 1 && is_there (object_name.read (drop 1 s)))))
is_target_lem s = bare_or_case (target_chosen s)

abbrev pub assignment_parts : Places (assignment_target and expression and end)
assignment_parts = part assignment_target (part expression done)

pub assignment_decided : (s : List ℕ) → Decides (is_there (assignment.read s)) (record_tests 2 assignment_parts s)
unfolding assignment
assignment_decided s = via_record_decided 2 assignment_parts s _

pub is_assignment_lem : (s : List ℕ)
    → is_there (assignment.read s)
    ≡ (is_record 2 2 s && (is_there (assignment_target.read (get_or (parts_of 2 s) 0 [])) && is_there (expression.read (get_or (parts_of 2 s) 1 []))))
is_assignment_lem s = (assignment_decided s).is

abbrev pub update_parts : Places (alone (both mark (both mark mark)) and table_with_joins and list_of 2 assignment and condition and end)
update_parts =
    part_as (alone (both mark (both mark mark))) (are_marks 3) (marks_are (more_marks (more_marks one_mark)))
    (part table_with_joins (part (list_of 2 assignment) (part condition done)))

pub update_decided : (s : List ℕ) → Decides (is_there (updating.read s)) (record_tests 2 update_parts s)
unfolding updating
update_decided s = via_record_decided 2 update_parts s _

pub is_update_lem : (s : List ℕ)
    → is_there (updating.read s)
    ≡ (is_record 2 4 s && (are_marks 3 (get_or (parts_of 2 s) 0 []) && (is_there (table_with_joins.read (get_or (parts_of 2 s) 1 []))
    && (is_there ((list_of 2 assignment).read (get_or (parts_of 2 s) 2 [])) && is_there (condition.read (get_or (parts_of 2 s) 3 []))))))
is_update_lem s = (update_decided s).is
