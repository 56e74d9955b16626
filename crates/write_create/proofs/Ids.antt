-- The ids of a key, gathered one by one.
-- Assumes nothing.
use mathlib.Core.Path.{◌≡◌, sym, ap, ap₂, ◌∙◌, subst}
use mathlib.Core.Bool.{Bool, true, false, ◌||◌, or-false, or_assoc}
use mathlib.Core.List.{List, [], ◌∷◌, ◌++◌, map}
use mathlib.Core.Option.{Option, none, some, some-injective, none-ne-some}
use Prim.Native.Nat.{ℕ, ◌+◌, ◌≤◌, ◌<◌}
use native.Mathlib.Numerals.{add-one}
use native.Mathlib.Omega.{arith}
use lib.ListN.{length, get_or, take, drop, set, replicate, drop_of_length-le, length-drop, get_or-replicate}
use lib.Seq.{take-suc, take-suc-set, length-take-le}
use Rattle.bytes_format.proofs.Formats.{list_of}
use Rattle.bytes_bundle.specs.Held.{Holds, held, list_count}
use Rattle.bind_repeats.specs.Repeats.{drop_next}
use Rattle.bind_repeats.specs.Entries.{ShortIn}
use Rattle.rules.specs.declared.ColumnId.{ColumnId}
use Rattle.rules.specs.declared.Class.TheVariants.{SchemaMismatch, ConstraintViolation}
use Rattle.rules.specs.Lists.{Text, any, find}
use Rattle.rules.specs.Answers.{Answer, given, refuse_if, found, ◌>>◌}
use Rattle.rules.specs.Names.{canonical}
use Rattle.rules.specs.Tables.{ColumnSchema, same_id, column_named}
use Rattle.rules.specs.Statements.{Name, ColumnDefinition}
use Rattle.rules.proofs.Theorems.Answered.{never_given, bind_given}
use Rattle.rules.specs.Analyze.{key_ids}
use Rattle.image_parts.specs.Layout.{name, column_definition}
use Rattle.std.specs.Prelude as rust
use Rattle.bind_create.specs.Defined.{schema, schemas, key_of, keys_length}
use Rattle.bind_create.specs.Keys.{FindsColumn, ColumnFound}
use Rattle.bind_create.specs.Within.{FewColumns}
use Rattle.write_create.specs.Parts.{id_at, Marked, KeyMarks}

-- ---- the columns that ids stand for

any_last : {A : Type 0} (p : A → Bool) (l : List A) (x : A) → any p (l ++ (x ∷ [])) ≡ (any p l || p x)
any_last p [] x = or-false (p x)
any_last p (y ∷ l) x = ap (λ (b : Bool). p y || b) (any_last p l x) ∙ sym (or_assoc (p y) (any p l) (p x))

pub no_marks : KeyMarks (replicate 64 false) []
no_marks i h = get_or-replicate 64 i false false h

-- one id more
pub marks_more : (ids : List ColumnId) (k : ℕ) (z : ColumnId) {old new : List Bool} → k < length ids → KeyMarks old (take k ids) → Marked old (get_or ids k z) new
    → KeyMarks new (take (k + 1) ids)
marks_more ids k z {old} {new} h m s i l =
    s.is i l ∙ ap (λ (b : Bool). b || same_id (id_at i) (get_or ids k z)) (m i l) ∙ sym (any_last (same_id (id_at i)) (take k ids) (get_or ids k z))
    ∙ ap (any (same_id (id_at i))) (sym (take-suc ids k z h) ∙ ap (λ (n : ℕ). take n ids) (sym (add-one k)))

-- ---- the id of a name

-- the place is that of a column
pub place_few : {s n : List ℕ} {r : rust.Option ℕ} {i : ℕ} → FewColumns s → ShortIn name some n
    → ((cs : List ColumnDefinition) (w : Name) → Holds (list_of 2 column_definition) s cs → Holds name n w → FindsColumn cs (canonical w) r) → r ≡ rust.Some i → i < 64
place_few {s} {n} {r} {i} f q g e =
    held f.short.is (λ cs h. held q.is (λ w k.
    let c = subst (FindsColumn cs (canonical w)) e (g cs w h k) in
    omega (arith, f.few, list_count column_definition s h, ap length c.here, length-drop i cs)))

pub place_id : (cs : List ColumnDefinition) (w : Text) {i : ℕ} {c : ColumnSchema} → ColumnFound cs w i → find (column_named w) (schemas 0 cs) ≡ some c → id_at i ≡ c.id
unfolding schema
place_id cs w {i} {c} f e = ap (λ (x : ColumnSchema). x.id) (some-injective (schema i f.column) c (sym f.is ∙ e))

pub no_place : {o : Option ColumnSchema} {c : ColumnSchema} → o ≡ none → o ≡ some c → ⊥
no_place {c = c} n e = none-ne-some c (sym n ∙ e)

-- ---- the next id

-- a name of an bound key stands for a column, and the rest goes on with its id
pub record KeyStep (cs : List ColumnSchema) (before : List ColumnId) (n : Text) (ns : List Text) (l : List ColumnId) : Type 0 where
  pub column : ColumnSchema
  pub is : find (column_named n) cs ≡ some column
  pub rest : key_ids cs (before ++ (column.id ∷ [])) ns ≡ given l

pub key_step : (cs : List ColumnSchema) (before : List ColumnId) (n : Text) (ns : List Text) {l : List ColumnId} → key_ids cs before (n ∷ ns) ≡ given l → KeyStep cs before n ns l
unfolding key_ids
key_step cs before n ns {l} e =
    let a = bind_given (found (find (column_named n) cs) SchemaMismatch) (λ c. refuse_if (any (same_id c.id) before) ConstraintViolation >> key_ids cs (before ++ (c.id ∷ [])) ns) l e in
    record { column = a.0; is = there (find (column_named n) cs) a.1; rest = past (any (same_id a.0.id) before) a.2 }
  where
    there : (o : Option ColumnSchema) {c : ColumnSchema} → found o SchemaMismatch ≡ given c → o ≡ some c
    there none e = absurd (never_given e)
    there (some x) e = cc

    past : (b : Bool) {r : Answer (List ColumnId)} → (refuse_if b ConstraintViolation >> r) ≡ given l → r ≡ given l
    past true e = absurd (never_given e)
    past false e = e

pub key_over : (cs : List ColumnSchema) (before : List ColumnId) {l : List ColumnId} → key_ids cs before [] ≡ given l → before ≡ l
unfolding key_ids
key_over cs before {l} e = cc

pub ids_more : (ids : List ColumnId) (k : ℕ) (r id : ColumnId) → k < length ids → r ≡ id → take (k + 1) (set ids k r) ≡ take k ids ++ (id ∷ [])
ids_more ids k r id h e =
    ap (λ (n : ℕ). take n (set ids k r)) (add-one k) ∙ take-suc-set ids k r h ∙ ap (λ (x : ColumnId). take k ids ++ (x ∷ [])) e

-- with the ids so far, the names that are left make the ids of all
pub names_more : (cs : List ColumnSchema) (ids : List ColumnId) (k : ℕ) (ns : List Name) {v : Name} {m : List Name} {l : List ColumnId} {r : ColumnId}
    → key_ids cs (take k ids) (map canonical (drop k ns)) ≡ given l → drop k ns ≡ v ∷ m → k < length ids
    → ((c : ColumnSchema) → find (column_named (canonical v)) cs ≡ some c → r ≡ c.id)
    → key_ids cs (take (k + 1) (set ids k r)) (map canonical (drop (k + 1) ns)) ≡ given l
names_more cs ids k ns {v} {m} {r = r} e d h g =
    let s = key_step cs (take k ids) (canonical v) (map canonical m) (ap (λ (x : List Name). key_ids cs (take k ids) (map canonical x)) (sym d) ∙ e) in
    ap₂ (λ (x : List ColumnId) (y : List Name). key_ids cs x (map canonical y)) (ids_more ids k r s.column.id h (g s.column s.is)) (drop_next k ns d) ∙ s.rest

-- no name is left
pub names_over : (cs : List ColumnSchema) (ids : List ColumnId) (k : ℕ) (ns : List Name) {l : List ColumnId}
    → key_ids cs (take k ids) (map canonical (drop k ns)) ≡ given l → length ns ≤ k → k ≤ length ids → take (length l) ids ≡ l
names_over cs ids k ns {l} e h g =
    let o : take k ids ≡ l = key_over cs (take k ids) (ap (λ (x : List Name). key_ids cs (take k ids) (map canonical x)) (sym (drop_of_length-le ns {i = k} h)) ∙ e) in
    let n : length l ≡ k = sym (ap length o) ∙ length-take-le k ids g in
    ap (λ (m : ℕ). take m ids) n ∙ o

-- a key of one name
pub one_id : (cs : List ColumnSchema) (n : Text) (ids : List ColumnId) {l : List ColumnId} {r : ColumnId} → key_ids cs [] (n ∷ []) ≡ given l → 0 < length ids
    → ((c : ColumnSchema) → find (column_named n) cs ≡ some c → r ≡ c.id) → take (length l) (set ids 0 r) ≡ l
one_id cs n ids {r = r} e h g =
    let s = key_step cs [] n [] e in
    ap (λ (m : ℕ). take m (set ids 0 r)) (keys_length cs [] (n ∷ []) e)
    ∙ ids_more ids 0 r s.column.id h (g s.column s.is) ∙ key_over cs (s.column.id ∷ []) s.rest

-- a key of given names
module _ (cs : List ColumnSchema) {names : Option (List Text)} {ns : List Text} {l : List ColumnId} (n : names ≡ some ns) (e : key_of cs names ≡ given l) where
  pub key_names : key_ids cs [] ns ≡ given l
  key_names = sym (ap (key_of cs) n) ∙ e

  pub key_count : length l ≡ length ns
  key_count = omega (arith, keys_length cs [] ns key_names)

-- no key was given
pub no_key : (cs : List ColumnSchema) {names : Option (List Text)} {l : List ColumnId} → names ≡ none → key_of cs names ≡ given l → ⊥
no_key cs n e = never_given (sym (ap (key_of cs) n) ∙ e)
