-- What a query and its parts hold, by the bytes that the accessors look at.
-- Assumes nothing.
use Rattle.std.specs.Prelude.{◌≡◌, refl, List, [], ℕ, ◌<◌, length, get_or}
use Rattle.std.proofs.Common.{subst}
use Rattle.bytes_format.specs.Ways.{some_code}
use Rattle.bytes_format.proofs.Formats.{list_of}
use Rattle.bytes_bundle.specs.Bundle.{parts_of, IsRecord}
use Rattle.bytes_bundle.specs.Laws.{some_there, via_record_there, via_record_value}
use Rattle.bytes_bundle.specs.Values.{LoneMark, lone_mark, MarkedHas, via_marked_value}
use Rattle.bytes_bundle.specs.Cases.{ChoiceHas, choice_has}
use Rattle.rules.specs.Statements.{Item, From, Select, QueryBody, Query}
use Rattle.image_parts.specs.Layout.{
  item_cases,
  which_item,
  item_made,
  item,
  from_cases,
  which_from,
  from_made,
  select_from,
  condition,
  select,
  query_body_cases,
  which_query_body,
  query_body_made,
  query_body,
  selection,
}
use Rattle.image_select.specs.Shapes.{select_parts}
use Rattle.bytes_bundle.specs.Held.{Is, Holds}

-- ---- sums, by the places of their cases

-- 0 any other, 1 `*`, 2 a column
abbrev pub item_no : Item → ℕ
item_no i = some_code item_cases (which_item i)

pub item_has : (s : List ℕ) (v : Item) → Holds item s v → ChoiceHas item_cases which_item s v
unfolding item
item_has s v e = choice_has item_cases which_item item_made refl refl s e

-- 0 another number of tables than one, 1 the table
abbrev pub from_no : From → ℕ
from_no f = some_code from_cases (which_from f)

pub from_has : (s : List ℕ) (v : From) → Holds select_from s v → ChoiceHas from_cases which_from s v
unfolding select_from
from_has s v e = choice_has from_cases which_from from_made refl refl s e

-- 0 no plain SELECT, 1 a SELECT
abbrev pub body_no : QueryBody → ℕ
body_no b = some_code query_body_cases (which_query_body b)

pub body_has : (s : List ℕ) (v : QueryBody) → Holds query_body s v → ChoiceHas query_body_cases which_query_body s v
unfolding query_body
body_has s v e = choice_has query_body_cases which_query_body query_body_made refl refl s e

-- ---- a SELECT

pub record SelectHas (s : List ℕ) (v : Select) : Type 0 where
  pub whole : IsRecord 2 4 s
  pub features : LoneMark (get_or (parts_of 2 s) 0 []) v.features
  pub from : Holds select_from (get_or (parts_of 2 s) 1 []) v.from
  pub items : Holds (list_of 2 item) (get_or (parts_of 2 s) 2 []) v.items
  pub condition : Holds condition (get_or (parts_of 2 s) 3 []) v.condition

pub select_has : (s : List ℕ) (v : Select) → Holds select s v → SelectHas s v
unfolding select
select_has s v e =
    let a = via_record_value 2 select_parts s _ e in
    let k = a.1 in
    subst (SelectHas s) a.2 (record {
      whole = via_record_there 2 select_parts s _ e;
      features = lone_mark _ k.0;
      from = k.1.0;
      items = k.1.1.0;
      condition = k.1.1.1.0;
    })

-- ---- the query

pub query_has : (s : List ℕ) (v : Query) → Holds selection s v → MarkedHas query_body s v.clauses v.body
unfolding selection
query_has s v e =
    let a = via_marked_value query_body s _ e in
    subst (λ (q : Query). MarkedHas query_body s q.clauses q.body) a.2 a.1

-- ---- what the accessors may rely on

pub item_wide : {s : List ℕ} → Is item s → 0 < length s
item_wide {s} i = some_there (item.read s) i.there (λ v e. (item_has s v e).wide)

pub from_wide : {s : List ℕ} → Is select_from s → 0 < length s
from_wide {s} i = some_there (select_from.read s) i.there (λ v e. (from_has s v e).wide)

pub body_wide : {s : List ℕ} → Is query_body s → 0 < length s
body_wide {s} i = some_there (query_body.read s) i.there (λ v e. (body_has s v e).wide)

pub query_wide : {s : List ℕ} → Is selection s → 0 < length s
query_wide {s} i = some_there (selection.read s) i.there (λ v e. (query_has s v e).wide)

pub select_whole : {s : List ℕ} → Is select s → IsRecord 2 4 s
select_whole {s} i = some_there (select.read s) i.there (λ v e. (select_has s v e).whole)

pub select_marks : {s : List ℕ} → Is select s → length (get_or (parts_of 2 s) 0 []) ≡ 1
select_marks {s} i = some_there (select.read s) i.there (λ v e. (select_has s v e).features.wide)
