-- Whether bytes are a query or a part of it: a test for each thing that the code looks at.
-- Assumes nothing.
use Rattle.std.specs.Prelude.{◌≡◌, refl, ◌&&◌, ◌||◌, List, [], ℕ, length, drop, get_or, ltb, eqb}
use Rattle.bytes_format.proofs.Formats.{mark, alone, end, ◌and◌, list_of}
use Rattle.bytes_bundle.specs.Bundle.{is_there, parts_of, is_record}
use Rattle.bytes_bundle.specs.Decides.{Decides}
use Rattle.bytes_bundle.specs.Laws.{Places, part, part_as, done, record_tests, via_record_decided}
use Rattle.bytes_bundle.specs.Heads.{Marked, via_marked, Chosen, sum_chosen, bare_or_case, bare_bare_or_case, are_marks, one_mark, marks_are}
use Rattle.image_parts.specs.Layout.{
  item_cases,
  which_item,
  item_made,
  name,
  table_with_joins,
  item,
  from_cases,
  which_from,
  from_made,
  select_from,
  condition,
  select,
  query_body_cases,
  which_query_body,
  query_body_made,
  query_body,
  selection,
}

pub item_chosen : (s : List ℕ) → Chosen (is_there (item.read s)) s item_cases
unfolding item
item_chosen s = sum_chosen item_cases which_item item_made refl refl s

pub is_item_lem : (s : List ℕ)
    → is_there (item.read s)
    ≡ ((eqb (length s) 1 && ltb (get_or s 0 0) 2) || (ltb 0 (length s) && (eqb (get_or s 0 0) 2 && is_there (name.read (drop 1 s)))))
is_item_lem s = bare_bare_or_case (item_chosen s)

pub select_from_chosen : (s : List ℕ) → Chosen (is_there (select_from.read s)) s from_cases
unfolding select_from
select_from_chosen s = sum_chosen from_cases which_from from_made refl refl s

pub is_select_from_lem : (s : List ℕ)
    → is_there (select_from.read s)
    ≡ ((eqb (length s) 1 && eqb (get_or s 0 0) 0) || (ltb 0 (length s) && (eqb (get_or s 0 0) 1 && is_there (table_with_joins.read (drop 1 s)))))
is_select_from_lem s = bare_or_case (select_from_chosen s)

abbrev pub select_parts : Places (alone mark and select_from and list_of 2 item and condition and end)
select_parts = part_as (alone mark) (are_marks 1) (marks_are one_mark) (part select_from (part (list_of 2 item) (part condition done)))

pub select_decided : (s : List ℕ) → Decides (is_there (select.read s)) (record_tests 2 select_parts s)
unfolding select
select_decided s = via_record_decided 2 select_parts s _

pub is_select_lem : (s : List ℕ)
    → is_there (select.read s)
    ≡ (is_record 2 4 s && (are_marks 1 (get_or (parts_of 2 s) 0 []) && (is_there (select_from.read (get_or (parts_of 2 s) 1 []))
    && (is_there ((list_of 2 item).read (get_or (parts_of 2 s) 2 [])) && is_there (condition.read (get_or (parts_of 2 s) 3 []))))))
is_select_lem s = (select_decided s).is

pub query_body_chosen : (s : List ℕ) → Chosen (is_there (query_body.read s)) s query_body_cases
unfolding query_body
query_body_chosen s = sum_chosen query_body_cases which_query_body query_body_made refl refl s

pub is_query_body_lem : (s : List ℕ)
    → is_there (query_body.read s)
    ≡ ((eqb (length s) 1 && eqb (get_or s 0 0) 0) || (ltb 0 (length s) && (eqb (get_or s 0 0) 1 && is_there (select.read (drop 1 s)))))
is_query_body_lem s = bare_or_case (query_body_chosen s)

pub query_marked : (s : List ℕ) → Marked (is_there (selection.read s)) s (is_there (query_body.read (drop 1 s)))
unfolding selection
query_marked s = via_marked query_body _ s

pub is_query_lem : (s : List ℕ) → is_there (selection.read s) ≡ (ltb 0 (length s) && (ltb (get_or s 0 0) 2 && is_there (query_body.read (drop 1 s))))
is_query_lem s = (query_marked s).is
