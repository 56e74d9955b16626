-- A query within the limits: its names are short, its items few.
-- Assumes nothing.
use Rattle.std.specs.Prelude.{◌≡◌, Bool, List, [], ◌∷◌, ◌++◌, ℕ, zero, suc, ◌-◌, ◌≤◌, length, take, drop}
use Rattle.std.proofs.Common.{sym, ap, ◌∙◌, subst, arith}
use Rattle.std.proofs.Math.Bool.{true}
use borrow.Author.Tests.{leb-true}
use Rattle.bytes_format.proofs.Formats.{list_of}
use Rattle.bytes_bundle.specs.Bundle.{parts_of, Stepped}
use Rattle.bytes_bundle.specs.Decides.{and_of}
use Rattle.bytes_bundle.specs.Held.{Is, Holds, is_held, held, held_once, list_count, turn, part_is}
use Rattle.bytes_bundle.specs.Ahead.{HoldEach, FirstHeld, hold_first, list_holds}
use Rattle.bytes_bundle.specs.Numbered.{IsPart, valued, valued_is}
use Rattle.image_expression.specs.Names.{Within}
use Rattle.bind_where.specs.There.{ShortCondition, condition_names, condition_within_lem}
use Rattle.bind_table.specs.Short.{ShortText, ShortTable, short_text, short_table, all_front, all_back, held_within_lem, select_short}
use Rattle.rules.specs.Lists.{all}
use Rattle.rules.specs.Limits.{at_most, gather, if_there, expression_names, from_names, item_names, held_by_select, held_by_body, held_within}
use Rattle.rules.specs.Statements.{Name, TableWithJoins, Item, star, column, other_item, From, one, not_one, Select, QueryBody, plain_select, not_plain, Query}
use Rattle.image_select.specs.Held.{item_no, from_no, body_no}
use Rattle.image_parts.specs.Layout.{name, table_with_joins, item, select_from, condition, select, query_body, selection}

pub record QueryWithin (q : List ℕ) : Type 0 where
  pub is : Is selection q
  pub within : (v : Query) → Holds selection q v → held_within (held_by_body v.body) ≡ true

pub record SelectWithin (s : List ℕ) : Type 0 where
  pub is : Is select s
  pub within : (v : Select) → Holds select s v → held_within (held_by_select v) ≡ true

pub record ItemsWithin (s : List ℕ) : Type 0 where
  pub is : Is (list_of 2 item) s
  pub few : (xs : List Item) → Holds (list_of 2 item) s xs → length xs ≤ 64
  pub short : (xs : List Item) → Holds (list_of 2 item) s xs → all Within (gather item_names xs) ≡ true

pub record ItemWithin (s : List ℕ) : Type 0 where
  pub is : Is item s
  pub short : (x : Item) → Holds item s x → all Within (item_names x) ≡ true

-- ---- its body

-- b is a plain SELECT
pub record Plain (b : List ℕ) : Type 0 where
  pub value : Select
  pub whole : Holds query_body b (plain_select value)

-- by the code
pub plain : {b : List ℕ} {k : ℕ} → Is query_body b → ((v : QueryBody) → Holds query_body b v → k ≡ body_no v) → (k ≡ 0 → ⊥) → Plain b
plain {b} i code a = held i go
  where
    go : (v : QueryBody) → Holds query_body b v → Plain b
    go (plain_select s) h = record { value = s; whole = h }
    go not_plain h = absurd (a (code not_plain h))

pub plain_within : {q b s : List ℕ} → QueryWithin q → ((v : Query) → Holds selection q v → Holds query_body b v.body) → (w : Plain b) → Holds select s w.value → SelectWithin s
plain_within {q} {b} {s} l k w h = held l.is (λ v e. record {
  is = is_held {f = select} h;
  within = λ x g.
      ap (λ (y : Select). held_within (held_by_select y)) (held_once select g h)
      ∙ ap (λ (y : QueryBody). held_within (held_by_body y)) (held_once query_body w.whole (k v e)) ∙ l.within v e;
})

-- ---- its table

-- f is one table
pub record Sole (f : List ℕ) : Type 0 where
  pub value : TableWithJoins
  pub whole : Holds select_from f (one value)

pub sole : {f : List ℕ} {k : ℕ} → Is select_from f → ((v : From) → Holds select_from f v → k ≡ from_no v) → (k ≡ 0 → ⊥) → Sole f
sole {f} i code a = held i go
  where
    go : (v : From) → Holds select_from f v → Sole f
    go (one t) h = record { value = t; whole = h }
    go not_one h = absurd (a (code not_one h))

pub select_table : {s f p : List ℕ} → SelectWithin s → ((v : Select) → Holds select s v → Holds select_from f v.from) → (w : Sole f)
    → Holds table_with_joins p w.value → ShortTable p
select_table l k w h = held l.is (λ v e.
    short_table h (ap (λ (x : From). all Within (from_names x)) (held_once select_from w.whole (k v e)) ∙ select_short v (l.within v e)))

-- ---- its items and its condition

module _ (v : Select) (w : held_within (held_by_select v) ≡ true) where
  behind_table : all Within (gather item_names v.items ++ gather expression_names (if_there v.condition)) ≡ true
  unfolding held_by_select
  behind_table =
      all_back Within (from_names v.from) (gather item_names v.items ++ gather expression_names (if_there v.condition))
      (held_within_lem (held_by_select v) w).names

  items_short : all Within (gather item_names v.items) ≡ true
  items_short = all_front Within (gather item_names v.items) (gather expression_names (if_there v.condition)) behind_table

  condition_short : condition_names v.condition ≡ true
  condition_short = all_back Within (gather item_names v.items) (gather expression_names (if_there v.condition)) behind_table

  items_few : length v.items ≤ 64
  unfolding held_by_select
  items_few = leb-true (length v.items) 64 (and_of (at_most 64 (length v.items)) true (held_within_lem (held_by_select v) w).lists).0

module _ {s : List ℕ} (l : SelectWithin s) (p : List ℕ) where
  pub select_items : ((v : Select) → Holds select s v → Holds (list_of 2 item) p v.items) → ItemsWithin p
  select_items k = held l.is (λ v e.
      let w = l.within v e in
      record {
        is = is_held {f = list_of 2 item} {s = p} (k v e);
        few = λ xs h. subst (λ (ys : List Item). length ys ≤ 64) (held_once (list_of 2 item) {s = p} (k v e) h) (items_few v w);
        short = λ xs h. ap (λ (ys : List Item). all Within (gather item_names ys)) (held_once (list_of 2 item) {s = p} h (k v e)) ∙ items_short v w;
      })

  pub select_condition : ((v : Select) → Holds select s v → Holds condition p v.condition) → ShortCondition p
  select_condition k = held l.is (λ v e. condition_within_lem p (k v e) (condition_short v (l.within v e)))

pub few_items : {s : List ℕ} → ItemsWithin s → length (parts_of 2 s) ≤ 64
few_items {s} l = held {f = list_of 2 item} {s = s} l.is (λ xs h. omega (arith, list_count item s h, l.few xs h))

-- ---- one item

-- what holds of all that is gathered holds of what one of them has
all_gather : {A B : Type 0} (p : B → Bool) (f : A → List B) (i : ℕ) (l : List A) {x : A} {m : List A} → all p (gather f l) ≡ true → drop i l ≡ x ∷ m → all p (f x) ≡ true
all_gather p f zero [] h e = absurd (omega (arith, ap length e))
all_gather p f (suc i) [] h e = absurd (omega (arith, ap length e))
all_gather {A} p f zero (y ∷ l) {x} {m} h e = all_front p (f x) (gather f m) (ap (λ (k : List A). all p (gather f k)) (sym e) ∙ h)
all_gather p f (suc i) (y ∷ l) h e = all_gather p f i l (all_back p (f y) (gather f l) h) e

pub item_within_lem : {s : List ℕ} {i at e : ℕ} → ItemsWithin s → Stepped 2 s i at e → ItemWithin (take (e - at) (drop at s))
item_within_lem {s} {i} l d = record {
  is = part_is {f = item} d l.is;
  short = λ x h. held {f = list_of 2 item} {s = s} l.is (λ xs k.
      let t = turn {f = item} d k in
      ap (λ (y : Item). all Within (item_names y)) (held_once item h t.holds) ∙ all_gather Within item_names i xs (l.short xs k) t.rest);
}

-- parts that hold items whose names are short
pub record ItemsLeft (ps : List (List ℕ)) : Type 0 where
  pub items : List Item
  pub each : HoldEach item ps items
  pub short : all Within (gather item_names items) ≡ true

pub items_left : {s : List ℕ} {ps : List (List ℕ)} → ItemsWithin s → ps ≡ parts_of 2 s → ItemsLeft ps
items_left {s} l e = held {f = list_of 2 item} {s = s} l.is (λ xs h. let k = list_holds 2 item s h in record { items = xs; each = rw e k; short = l.short xs h })

module _ {p : List ℕ} {ps qs : List (List ℕ)} (l : ItemsLeft ps) (e : ps ≡ p ∷ qs) where
  first : FirstHeld item p qs l.items
  first = hold_first (rw e at l.each)

  here : all Within (item_names first.value ++ gather item_names first.others) ≡ true
  here = ap (λ (xs : List Item). all Within (gather item_names xs)) (sym first.is) ∙ l.short

  pub item_here : ItemWithin p
  item_here = record {
    is = is_held {f = item} first.holds;
    short = λ x h.
        ap (λ (y : Item). all Within (item_names y)) (held_once item h first.holds)
        ∙ all_front Within (item_names first.value) (gather item_names first.others) here;
  }

  pub items_behind : ItemsLeft qs
  items_behind = record { items = first.others; each = first.each; short = all_back Within (item_names first.value) (gather item_names first.others) here }

-- the same of a part by its number
pub items_within_part : {s : List ℕ} {i : ℕ} {p : List ℕ} → ItemsWithin s → IsPart 2 s i p → ItemWithin p
items_within_part {s} {i} l d = record {
  is = valued_is item d l.is;
  short = λ x h. held {f = list_of 2 item} {s = s} l.is (λ xs k.
      let t = valued item d k in
      ap (λ (y : Item). all Within (item_names y)) (held_once item h t.holds) ∙ all_gather Within item_names i xs (l.short xs k) t.rest);
}

-- s is a name
pub record Called (s : List ℕ) : Type 0 where
  pub value : Name
  pub whole : Holds item s (column value)

pub called : {s : List ℕ} {k : ℕ} → Is item s → ((x : Item) → Holds item s x → k ≡ item_no x) → (k ≡ 0 → ⊥) → (k ≡ 1 → ⊥) → Called s
called {s} i code a b = held i go
  where
    go : (x : Item) → Holds item s x → Called s
    go star h = absurd (b (code star h))
    go (column n) h = record { value = n; whole = h }
    go other_item h = absurd (a (code other_item h))

pub called_short : {s p : List ℕ} → ItemWithin s → (w : Called s) → Holds name p w.value → ShortText p
called_short l w h = record {
  short = λ n k.
      subst (λ (m : Name). length m.text ≤ 128) (held_once name h k)
      (short_text w.value (and_of (Within w.value) true (l.short (column w.value) w.whole)).0);
}
