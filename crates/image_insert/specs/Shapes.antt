-- Whether bytes are a part of an INSERT: a test for each thing that the code looks at.
-- Assumes nothing.
use Rattle.std.specs.Prelude.{◌≡◌, refl, Bool, true, ◌&&◌, ◌||◌, List, [], ◌∷◌, ℕ, length, drop, get_or, ltb, eqb}
use Rattle.std.proofs.Common.{sym, arith}
use Rattle.std.proofs.Math.Option.{none}
use Rattle.bytes_format.specs.Format.{Format}
use Rattle.bytes_format.specs.Ways.{optional_read}
use Rattle.bytes_format.proofs.Formats.{alone, mark, headed, optional, list_of, end, ◌and◌}
use Rattle.bytes_bundle.specs.Bundle.{is_there, parts_of, is_record}
use Rattle.bytes_bundle.specs.Decides.{Decides}
use Rattle.bytes_bundle.specs.Laws.{Places, part, part_as, done, record_tests, via_record_decided}
use Rattle.bytes_bundle.specs.Fields.{optional_some}
use Rattle.bytes_bundle.specs.Heads.{Marked, via_marked, headed_marked, Chosen, sum_chosen, bare_or_case, are_marks, marks_are, one_mark}
use Rattle.rules.specs.Statements.{Expr}
use Rattle.image_expression.specs.Expression.{expression}
use Rattle.image_parts.specs.Layout.{
  name,
  object_name,
  source_body_cases,
  which_source_body,
  source_body_made,
  source_body,
  source,
  insertion,
}

-- ---- the source

-- what VALUES has behind its code
abbrev pub values_form : Format (Bool × List (List Expr))
values_form = headed mark (λ m. list_of 2 (list_of 2 expression))

pub values_marked : (s : List ℕ) → Marked (is_there (values_form.read s)) s (is_there ((list_of 2 (list_of 2 expression)).read (drop 1 s)))
values_marked s = headed_marked (list_of 2 (list_of 2 expression)) s

pub are_values_lem : (s : List ℕ)
    → is_there (values_form.read s) ≡ (ltb 0 (length s) && (ltb (get_or s 0 0) 2 && is_there ((list_of 2 (list_of 2 expression)).read (drop 1 s))))
are_values_lem s = (values_marked s).is

pub source_body_chosen : (s : List ℕ) → Chosen (is_there (source_body.read s)) s source_body_cases
unfolding source_body
source_body_chosen s = sum_chosen source_body_cases which_source_body source_body_made refl refl s

pub is_source_body_lem : (s : List ℕ)
    → is_there (source_body.read s)
    ≡ ((eqb (length s) 1 && eqb (get_or s 0 0) 0) || (ltb 0 (length s) && (eqb (get_or s 0 0) 1 && is_there (values_form.read (drop 1 s)))))
is_source_body_lem s = bare_or_case (source_body_chosen s)

pub source_marked : (s : List ℕ) → Marked (is_there (source.read s)) s (is_there (source_body.read (drop 1 s)))
unfolding source
source_marked s = via_marked source_body _ s

pub is_source_lem : (s : List ℕ) → is_there (source.read s) ≡ (ltb 0 (length s) && (ltb (get_or s 0 0) 2 && is_there (source_body.read (drop 1 s))))
is_source_lem s = (source_marked s).is

abbrev pub source_not_empty : source.read [] ≡ none
unfolding source
source_not_empty = refl

pub no_source : (s : List ℕ) → length s ≡ 0 → true ≡ is_there (optional_read source s)
no_source [] h = refl
no_source (b ∷ s) h = absurd (omega arith)

pub some_source : (s : List ℕ) → (length s ≡ 0 → ⊥) → is_there (source.read s) ≡ is_there (optional_read source s)
some_source s h = sym (optional_some source source_not_empty s (omega arith))

-- ---- the whole

abbrev pub insert_parts : Places (alone mark and object_name and list_of 2 name and optional source source_not_empty and end)
insert_parts = part_as (alone mark) (are_marks 1) (marks_are one_mark) (part object_name (part (list_of 2 name) (part (optional source source_not_empty) done)))

pub insert_decided : (s : List ℕ) → Decides (is_there (insertion.read s)) (record_tests 2 insert_parts s)
unfolding insertion
insert_decided s = via_record_decided 2 insert_parts s _

pub is_insert_lem : (s : List ℕ)
    → is_there (insertion.read s)
    ≡ (is_record 2 4 s && (are_marks 1 (get_or (parts_of 2 s) 0 []) && (is_there (object_name.read (get_or (parts_of 2 s) 1 []))
    && (is_there ((list_of 2 name).read (get_or (parts_of 2 s) 2 [])) && is_there (optional_read source (get_or (parts_of 2 s) 3 []))))))
is_insert_lem s = (insert_decided s).is
