-- The items of a SELECT that are bound to columns: what they ask of the writers, and a loop over them.
-- Assumes nothing.
use Rattle.std.specs.Prelude.{◌≡◌, refl, List, [], ◌∷◌, ◌++◌, ℕ, ◌+◌, ◌^◌, ◌≤◌, ◌<◌, length, drop}
use Rattle.std.proofs.Common.{sym, ap, ap₂, ◌∙◌, subst, arith, length-append, drop_of_length-le}
use Rattle.std.proofs.Math.Option.{some}
use Rattle.bytes_format.proofs.Formats.{list_of}
use Rattle.bytes_bundle.specs.Held.{Holds, held_once}
use Rattle.image_bound.specs.Columns.{bound_column_ref}
use Rattle.image_catalogue.specs.Layout.{table}
use Rattle.rules.specs.declared.Class.TheVariants.{SchemaMismatch}
use Rattle.rules.specs.Answers.{given}
use Rattle.rules.specs.Analyze.{item, projection}
use Rattle.rules.specs.Bound.{BoundColumnRef}
use Rattle.rules.specs.Lookup.{column_by_name}
use Rattle.rules.specs.Names.{canonical}
use Rattle.rules.specs.Statements.{Name, Item, star, column, other_item}
use Rattle.rules.specs.Tables.{TableSchema}
use Rattle.rules.proofs.Theorems.Answered.{never_given}
use Rattle.rules.proofs.Theorems.Steps.{step, step_found}
use Rattle.image_select.specs.Held.{item_no}
use Rattle.bind_select.specs.Within.{ItemsWithin, ItemWithin, called_short}
use Rattle.image_parts.specs.Layout as layout
use Rattle.write_select_columns.specs.Columns.{NameRoom, one_room}
use Rattle.write_select_columns.specs.Laid.{Room, room_as, Laid, Partly, partly_none, partly_room, partly_more, partly_all}

-- ---- what the functions ask for

-- the item in i is bound to columns of the table in t
pub record ItemGives (t i : List ℕ) : Type 0 where
  pub schema : TableSchema
  pub holds : Holds table t schema
  pub value : Item
  pub reads : Holds layout.item i value
  pub columns : List BoundColumnRef
  pub gives : item schema value ≡ given columns

-- and these have room
pub record ItemRoom (t i : List ℕ) (row to : ℕ) (o : List ℕ) : Type 0 where
  pub within : ItemWithin i
  pub made : ItemGives t i
  pub room : Room bound_column_ref made.columns row to o

-- the same of all items
pub record ItemsGive (t s : List ℕ) : Type 0 where
  pub schema : TableSchema
  pub holds : Holds table t schema
  pub value : List Item
  pub reads : Holds (list_of 2 layout.item) s value
  pub columns : List BoundColumnRef
  pub gives : projection schema value ≡ given columns

-- these are not so many that their number would wrap
pub record ItemsFew (t s : List ℕ) : Type 0 where
  pub made : ItemsGive t s
  pub few : length made.columns < 2 ^ 64

pub record ItemsRoom (t s : List ℕ) (row to : ℕ) (o : List ℕ) : Type 0 where
  pub within : ItemsWithin s
  pub made : ItemsGive t s
  pub room : Room bound_column_ref made.columns row to o

pub record ProjectionRoom (t s : List ℕ) (at : ℕ) (o : List ℕ) : Type 0 where
  pub within : ItemsWithin s
  pub made : ItemsGive t s
  pub room : at + length ((list_of 4 bound_column_ref).write made.columns) ≤ length o

-- ---- an item that is bound

pub given_same : {A : Type 0} {a b : A} → given a ≡ given b → a ≡ b
given_same h = cc

-- a name
pub record NamedGiven (t : TableSchema) (n : Name) (cs : List BoundColumnRef) : Type 0 where
  pub value : BoundColumnRef
  pub gives : column_by_name t (canonical n) ≡ some value
  pub is : value ∷ [] ≡ cs

pub named_given : (t : TableSchema) (n : Name) {cs : List BoundColumnRef} → item t (column n) ≡ given cs → NamedGiven t n cs
unfolding item
named_given t n h = step_found (column_by_name t (canonical n)) SchemaMismatch _ h (λ c e k. record { value = c; gives = e; is = given_same k })

-- an item that is bound and is no `*` is a name
pub record AsName (x : Item) : Type 0 where
  pub value : Name
  pub is : x ≡ column value

pub as_name : (t : TableSchema) (x : Item) {cs : List BoundColumnRef} → (item_no x ≡ 1 → ⊥) → item t x ≡ given cs → AsName x
unfolding item
as_name t star k h = absurd (k refl)
as_name t (column n) k h = record { value = n; is = refl }
as_name t other_item k h = absurd (never_given h)

-- its one column
pub only_column : (t : TableSchema) (x : Item) {cs : List BoundColumnRef} (w : AsName x) → item t x ≡ given cs → NamedGiven t w.value cs
only_column t x w h = named_given t w.value (ap (item t) (sym w.is) ∙ h)

-- what it asks of the writer of a name
pub named_room : {t i : List ℕ} (p : List ℕ) {row to : ℕ} {o : List ℕ} (w : ItemRoom t i row to o) → AsName w.made.value
    → ((m : Name) → Holds layout.item i (column m) → Holds layout.name p m) → (row + 4 ≤ to) × NameRoom t p to o
named_room {i = i} p w n k =
    let m = w.made in
    let h : Holds layout.item i (column n.value) = m.reads ∙ ap some n.is in
    let g = only_column m.schema m.value n m.gives in
    let r = one_room g.value (room_as (sym g.is) w.room) in (
      r.0,
      record {
        schema = m.schema;
        holds = m.holds;
        value = n.value;
        reads = k n.value h;
        short = called_short w.within (record { value = n.value; whole = h }) (k n.value h);
        column = g.value;
        gives = g.gives;
        room = r.1;
      },
    )

-- what is bound is bound once
pub items_same : {t s : List ℕ} (w : ItemsGive t s) (v : TableSchema) (xs : List Item) {cs : List BoundColumnRef} → Holds table t v → Holds (list_of 2 layout.item) s xs
    → projection v xs ≡ given cs → w.columns ≡ cs
items_same {s = s} w v xs hv hx h =
    given_same (sym w.gives ∙ ap₂ projection (held_once table w.holds hv) (held_once (list_of 2 layout.item) {s = s} w.reads hx) ∙ h)

-- ---- the items one by one

pub record ItemTurn (t : TableSchema) (x : Item) (m : List Item) (cs : List BoundColumnRef) : Type 0 where
  pub first : List BoundColumnRef
  pub rest : List BoundColumnRef
  pub gives : item t x ≡ given first
  pub behind : projection t m ≡ given rest
  pub is : first ++ rest ≡ cs

pub item_turn : (t : TableSchema) (x : Item) (m : List Item) {l : List Item} {cs : List BoundColumnRef} → projection t l ≡ given cs → l ≡ x ∷ m → ItemTurn t x m cs
unfolding projection
item_turn t x m h e =
    step (item t x) _ (ap (projection t) (sym e) ∙ h) (λ a p k.
    step (projection t m) _ k (λ b q j.
    record { first = a; rest = b; gives = p; behind = q; is = given_same j }))

no_items : (t : TableSchema) {l : List Item} {cs : List BoundColumnRef} → projection t l ≡ given cs → l ≡ [] → [] ≡ cs
unfolding projection
no_items t h e = given_same (ap (projection t) (sym e) ∙ h)

-- the items from number i on, which give `rest`
pub record Left (t : TableSchema) (xs : List Item) (i : ℕ) (rest : List BoundColumnRef) : Type 0 where
  pub gives : projection t (drop i xs) ≡ given rest

pub left_end : (t : TableSchema) (xs : List Item) {i : ℕ} {rest : List BoundColumnRef} → Left t xs i rest → length xs ≤ i → rest ≡ []
left_end t xs {i} l h = sym (no_items t l.gives (drop_of_length-le xs {i = i} h))

-- ---- counted

pub record Counted (t : TableSchema) (xs : List Item) (cs : List BoundColumnRef) (i sum : ℕ) : Type 0 where
  pub rest : List BoundColumnRef
  pub left : Left t xs i rest
  pub count : sum + length rest ≡ length cs

pub counted_none : (t : TableSchema) (xs : List Item) {cs : List BoundColumnRef} → projection t xs ≡ given cs → Counted t xs cs 0 0
counted_none t xs {cs} h = record { rest = cs; left = record { gives = h }; count = omega arith }

module _ (t : TableSchema) (xs : List Item) {cs : List BoundColumnRef} {i sum : ℕ} (k : Counted t xs cs i sum) where
  module _ (x : Item) (d : drop i xs ≡ x ∷ drop (i + 1) xs) where
    pub counted_turn : ItemTurn t x (drop (i + 1) xs) k.rest
    counted_turn = item_turn t x (drop (i + 1) xs) k.left.gives d

    pub counted_fits : sum + length counted_turn.first ≤ length cs
    counted_fits = omega (arith, k.count, length-append counted_turn.first counted_turn.rest, ap length counted_turn.is)

    pub counted_more : {n : ℕ} → n ≡ length counted_turn.first → Counted t xs cs (i + 1) (sum + n)
    counted_more h = record {
      rest = counted_turn.rest;
      left = record { gives = counted_turn.behind };
      count = omega (arith, h, k.count, length-append counted_turn.first counted_turn.rest, ap length counted_turn.is);
    }

  pub counted_all : length xs ≤ i → sum ≡ length cs
  counted_all h = omega (arith, k.count, ap length (left_end t xs k.left h))

-- ---- written

pub record Put (t : TableSchema) (xs : List Item) (cs : List BoundColumnRef) (i : ℕ) (o : List ℕ) (row to row' to' : ℕ) (o' : List ℕ) : Type 0 where
  pub rest : List BoundColumnRef
  pub left : Left t xs i rest
  pub partly : Partly bound_column_ref cs rest o row to row' to' o'

pub put_none : (t : TableSchema) (xs : List Item) {cs : List BoundColumnRef} {o : List ℕ} {row to : ℕ} → projection t xs ≡ given cs → row ≤ to → Put t xs cs 0 o row to row to o
put_none t xs {cs} h l = record { rest = cs; left = record { gives = h }; partly = partly_none cs l }

module _ (t : TableSchema) (xs : List Item) {cs : List BoundColumnRef} {i : ℕ} {o o₁ : List ℕ} {row to row₁ to₁ : ℕ} (p : Put t xs cs i o row to row₁ to₁ o₁) where
  module _ (x : Item) (d : drop i xs ≡ x ∷ drop (i + 1) xs) where
    pub put_turn : ItemTurn t x (drop (i + 1) xs) p.rest
    put_turn = item_turn t x (drop (i + 1) xs) p.left.gives d

    module _ (r : Room bound_column_ref cs row to o) where
      pub put_room : Room bound_column_ref put_turn.first row₁ to₁ o₁
      put_room = partly_room put_turn.first put_turn.rest put_turn.is r p.partly

      pub put_more : {o₂ : List ℕ} {row₂ to₂ : ℕ} → Laid bound_column_ref put_turn.first o₁ row₁ to₁ row₂ to₂ o₂ → Put t xs cs (i + 1) o row to row₂ to₂ o₂
      put_more b = record {
        rest = put_turn.rest;
        left = record { gives = put_turn.behind };
        partly = partly_more put_turn.first put_turn.rest put_turn.is r p.partly b;
      }

  pub put_all : length xs ≤ i → Laid bound_column_ref cs o row to row₁ to₁ o₁
  put_all h = partly_all (subst (λ (l : List BoundColumnRef). Partly bound_column_ref cs l o row to row₁ to₁ o₁) (left_end t xs p.left h) p.partly)
