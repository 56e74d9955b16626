-- Whether bytes are a DELETE or a part of it: a test for each thing that the code looks at.
-- Assumes nothing.
use Rattle.std.specs.Prelude.{◌≡◌, refl, ◌&&◌, ◌||◌, List, [], ℕ, length, drop, get_or, ltb, eqb}
use Rattle.bytes_format.proofs.Formats.{mark, alone, both, end, ◌and◌}
use Rattle.bytes_bundle.specs.Bundle.{is_there, parts_of, is_record}
use Rattle.bytes_bundle.specs.Decides.{Decides}
use Rattle.bytes_bundle.specs.Laws.{Places, part, part_as, done, record_tests, via_record_decided}
use Rattle.bytes_bundle.specs.Heads.{Chosen, sum_chosen, bare_bare_or_case, are_marks, one_mark, more_marks, marks_are}
use Rattle.image_parts.specs.Layout.{table_with_joins, condition, delete_from_cases, which_delete_from, delete_from_made, delete_from, deletion}

pub delete_from_chosen : (s : List ℕ) → Chosen (is_there (delete_from.read s)) s delete_from_cases
unfolding delete_from
delete_from_chosen s = sum_chosen delete_from_cases which_delete_from delete_from_made refl refl s

pub is_delete_from_lem : (s : List ℕ)
    → is_there (delete_from.read s)
    ≡ ((eqb (length s) 1 && ltb (get_or s 0 0) 2) || (ltb 0 (length s) && (eqb (get_or s 0 0) 2 && is_there (table_with_joins.read (drop 1 s)))))
is_delete_from_lem s = bare_bare_or_case (delete_from_chosen s)

abbrev pub delete_parts : Places (alone (both mark (both mark (both mark (both mark mark)))) and delete_from and condition and end)
delete_parts =
    part_as (alone (both mark (both mark (both mark (both mark mark))))) (are_marks 5) (marks_are (more_marks (more_marks (more_marks (more_marks one_mark)))))
    (part delete_from (part condition done))

pub delete_decided : (s : List ℕ) → Decides (is_there (deletion.read s)) (record_tests 2 delete_parts s)
unfolding deletion
delete_decided s = via_record_decided 2 delete_parts s _

pub is_delete_lem : (s : List ℕ)
    → is_there (deletion.read s)
    ≡ (is_record 2 3 s && (are_marks 5 (get_or (parts_of 2 s) 0 []) && (is_there (delete_from.read (get_or (parts_of 2 s) 1 [])) && is_there (condition.read (get_or (parts_of 2 s) 2 [])))))
is_delete_lem s = (delete_decided s).is
