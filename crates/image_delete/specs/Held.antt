-- What a DELETE holds, by the bytes that the accessors look at.
-- Assumes nothing.
use Rattle.std.specs.Prelude.{◌≡◌, refl, List, [], ℕ, ◌<◌, length, get_or, eqb}
use Rattle.std.proofs.Common.{subst}
use Rattle.std.proofs.Math.Option.{some}
use Rattle.bytes_format.specs.Ways.{some_code}
use Rattle.bytes_format.proofs.Formats.{mark, both, alone}
use Rattle.bytes_bundle.specs.Bundle.{parts_of, IsRecord}
use Rattle.bytes_bundle.specs.Laws.{some_there, via_record_there, via_record_value}
use Rattle.bytes_bundle.specs.Fields.{Spot, both_spot, field_value}
use Rattle.bytes_bundle.specs.Heads.{mark_spot}
use Rattle.bytes_bundle.specs.Values.{mark_is, both_value}
use Rattle.bytes_bundle.specs.Cases.{ChoiceHas, choice_has}
use Rattle.rules.specs.Statements.{DeleteFrom, Delete}
use Rattle.image_parts.specs.Layout.{condition, delete_from_cases, which_delete_from, delete_from_made, delete_from, deletion}
use Rattle.image_delete.specs.Shapes.{delete_parts}
use Rattle.bytes_bundle.specs.Held.{Is, Holds}

-- 0 without the keyword FROM, 1 another number of tables than one, 2 the table
abbrev pub delete_from_no : DeleteFrom → ℕ
delete_from_no f = some_code delete_from_cases (which_delete_from f)

pub delete_from_has : (s : List ℕ) (v : DeleteFrom) → Holds delete_from s v → ChoiceHas delete_from_cases which_delete_from s v
unfolding delete_from
delete_from_has s v e = choice_has delete_from_cases which_delete_from delete_from_made refl refl s e

-- ---- the whole

pub record DeleteMarks (s : List ℕ) (v : Delete) : Type 0 where
  pub wide : length s ≡ 5
  pub tables : eqb (get_or s 0 0) 1 ≡ v.tables
  pub using_clause : eqb (get_or s 1 0) 1 ≡ v.using_clause
  pub returning : eqb (get_or s 2 0) 1 ≡ v.returning
  pub order_by : eqb (get_or s 3 0) 1 ≡ v.order_by
  pub limit : eqb (get_or s 4 0) 1 ≡ v.limit

abbrev two : Spot (both mark mark)
two = both_spot mark_spot mark_spot

abbrev three : Spot (both mark (both mark mark))
three = both_spot mark_spot two

abbrev four : Spot (both mark (both mark (both mark mark)))
four = both_spot mark_spot three

delete_marks : (s : List ℕ) (v : Delete)
    → (alone (both mark (both mark (both mark (both mark mark))))).read s ≡ some (v.tables, (v.using_clause, (v.returning, (v.order_by, v.limit)))) → DeleteMarks s v
delete_marks s v e =
    let k = field_value (both_spot mark_spot four) s e in
    let a = both_value mark_spot four 0 s k.1 in
    let b = both_value mark_spot three 1 s a.1 in
    let c = both_value mark_spot two 2 s b.1 in
    let d = both_value mark_spot mark_spot 3 s c.1 in
    record {
      wide = k.0;
      tables = mark_is (get_or s 0 0) a.0;
      using_clause = mark_is (get_or s 1 0) b.0;
      returning = mark_is (get_or s 2 0) c.0;
      order_by = mark_is (get_or s 3 0) d.0;
      limit = mark_is (get_or s 4 0) d.1;
    }

pub record DeleteHas (s : List ℕ) (v : Delete) : Type 0 where
  pub whole : IsRecord 2 3 s
  pub marks : DeleteMarks (get_or (parts_of 2 s) 0 []) v
  pub from : Holds delete_from (get_or (parts_of 2 s) 1 []) v.from
  pub condition : Holds condition (get_or (parts_of 2 s) 2 []) v.condition

pub delete_has : (s : List ℕ) (v : Delete) → Holds deletion s v → DeleteHas s v
unfolding deletion
delete_has s v e =
    let a = via_record_value 2 delete_parts s _ e in
    let k = a.1 in
    subst (DeleteHas s) a.2 (record {
      whole = via_record_there 2 delete_parts s _ e;
      marks = delete_marks _ _ k.0;
      from = k.1.0;
      condition = k.1.1.0;
    })

-- ---- what the accessors may rely on

pub delete_from_wide : {s : List ℕ} → Is delete_from s → 0 < length s
delete_from_wide {s} i = some_there (delete_from.read s) i.there (λ v e. (delete_from_has s v e).wide)

pub delete_whole : {s : List ℕ} → Is deletion s → IsRecord 2 3 s
delete_whole {s} i = some_there (deletion.read s) i.there (λ v e. (delete_has s v e).whole)

pub delete_wide : {s : List ℕ} → Is deletion s → length (get_or (parts_of 2 s) 0 []) ≡ 5
delete_wide {s} i = some_there (deletion.read s) i.there (λ v e. (delete_has s v e).marks.wide)
