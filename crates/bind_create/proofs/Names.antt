-- The columns that names stand for, and the names of a key one after the other.
-- Assumes nothing.
use mathlib.Core.Path.{◌≡◌, refl, sym, ap, ap₂, ◌∙◌}
use mathlib.Core.Bool.{Bool, true, false, ◌&&◌, ◌||◌, true≢false}
use mathlib.Core.List.{List, [], ◌∷◌, ◌++◌, map}
use mathlib.Core.Option.{none, some, some-injective, none-ne-some}
use Prim.Native.Nat.{ℕ, zero, suc, ◌+◌, ◌≤◌}
use native.Mathlib.Omega.{arith}
use lib.Dec.{eqb}
use lib.ListN.{length, take, drop, get_or, length-append, drop_of_length-le}
use borrow.Author.Tests.{eqb-true, eq-eqb}
use Rattle.bytes_bundle.specs.Decides.{and_of}
use Rattle.image_catalogue.specs.Entries.{find_hit, find_miss}
use Rattle.bind_repeats.specs.declared.Of.TheVariants as of
use Rattle.bind_repeats.specs.Entries.{entry}
use Rattle.bind_repeats.specs.Repeats.{alike, first_repeated, is_at, any_last, take_next, drop_next, drop_map, Reached, reached_none, reached_turn, reached_on}
use Rattle.bind_table.specs.Steps.{found_on, found_off, test_on, test_off}
use Rattle.rules.specs.declared.ColumnId.{ColumnId}
use Rattle.rules.specs.declared.Class.TheVariants.{SchemaMismatch, ConstraintViolation}
use Rattle.rules.specs.Lists.{Text, same, any, find}
use Rattle.rules.specs.Answers.{Answer, given, refuse, refuse_if, found, ◌>>=◌, ◌>>◌}
use Rattle.rules.specs.Names.{canonical}
use Rattle.rules.specs.Tables.{ColumnSchema, same_id, column_named}
use Rattle.rules.specs.Statements.{Name, ColumnDefinition}
use Rattle.rules.specs.Analyze.{key_ids}
use Rattle.bind_create.specs.Defined.{schema, schemas, room_for}

-- ---- texts

pub same_true : (a b : Text) → same a b ≡ true → a ≡ b
same_true [] [] e = refl
same_true [] (y ∷ b) e = absurd (true≢false (sym e))
same_true (x ∷ a) [] e = absurd (true≢false (sym e))
same_true (x ∷ a) (y ∷ b) e = let h = and_of (eqb x y) (same a b) e in ap₂ (λ (z : ℕ) (l : Text). z ∷ l) (eqb-true x y h.0) (same_true a b h.1)

pub same_itself : (a : Text) → same a a ≡ true
same_itself [] = refl
same_itself (x ∷ a) = ap₂ (λ (b c : Bool). b && c) (eq-eqb x x refl) (same_itself a)

-- ---- the column that a name finds

pub record FoundAt (n : Text) (i : ℕ) (cs : List ColumnDefinition) (c : ColumnSchema) : Type 0 where
  pub place : ℕ
  pub column : ColumnDefinition
  pub rest : List ColumnDefinition
  pub here : drop place cs ≡ column ∷ rest
  pub is : c ≡ schema (i + place) column
  pub named : same n (canonical column.name) ≡ true

named_is : (n : Text) (i : ℕ) (v : ColumnDefinition) → column_named n (schema i v) ≡ same n (canonical v.name)
unfolding schema
named_is n i v = refl

module _ (n : Text) (i : ℕ) (v : ColumnDefinition) (cs : List ColumnDefinition) where
  pub schemas_hit : same n (canonical v.name) ≡ true → find (column_named n) (schemas i (v ∷ cs)) ≡ some (schema i v)
  unfolding schemas
  schemas_hit e = find_hit (column_named n) (schema i v) (schemas (i + 1) cs) (named_is n i v ∙ e)

  pub schemas_miss : same n (canonical v.name) ≡ false → find (column_named n) (schemas i (v ∷ cs)) ≡ find (column_named n) (schemas (i + 1) cs)
  unfolding schemas
  schemas_miss e = find_miss (column_named n) (schema i v) (schemas (i + 1) cs) (named_is n i v ∙ e)

pub schemas_over : (n : Text) (i : ℕ) → find (column_named n) (schemas i []) ≡ none
unfolding schemas
schemas_over n i = refl

pub found_at : (n : Text) (i : ℕ) (cs : List ColumnDefinition) {c : ColumnSchema} → find (column_named n) (schemas i cs) ≡ some c → FoundAt n i cs c
found_at n i [] {c} e = absurd (none-ne-some c (sym (schemas_over n i) ∙ e))
found_at n i (v ∷ cs) {c} e = go (found_at n (i + 1) cs) (same n (canonical v.name)) refl
  where
    go : (find (column_named n) (schemas (i + 1) cs) ≡ some c → FoundAt n (i + 1) cs c) → (b : Bool) → same n (canonical v.name) ≡ b → FoundAt n i (v ∷ cs) c
    go f true h =
        let z : i ≡ i + 0 = omega arith in
        record {
          place = 0;
          column = v;
          rest = cs;
          here = refl;
          is = sym (some-injective (schema i v) c (sym (schemas_hit n i v cs h) ∙ e)) ∙ ap (λ (k : ℕ). schema k v) z;
          named = h;
        }
    go f false h =
        let r = f (sym (schemas_miss n i v cs h) ∙ e) in
        let z : i + 1 + r.place ≡ i + suc r.place = omega arith in
        record {
          place = suc r.place;
          column = r.column;
          rest = r.rest;
          here = r.here;
          is = r.is ∙ ap (λ (k : ℕ). schema k r.column) z;
          named = r.named;
        }

-- a column's own name finds one
pub find_there : (i j : ℕ) (cs : List ColumnDefinition) {v : ColumnDefinition} {m : List ColumnDefinition} → drop j cs ≡ v ∷ m
    → (c : ColumnSchema) × (find (column_named (canonical v.name)) (schemas i cs) ≡ some c)
find_there i zero [] e = absurd (omega (arith, ap length e))
find_there i (suc j) [] e = absurd (omega (arith, ap length e))
find_there i zero (u ∷ cs) {v} {m} e = (schema i v, ap (λ (l : List ColumnDefinition). find (column_named (canonical v.name)) (schemas i l)) e ∙ schemas_hit (canonical v.name) i v m (same_itself (canonical v.name)))
find_there i (suc j) (u ∷ cs) {v} e = go (find_there (i + 1) j cs e) (same (canonical v.name) (canonical u.name)) refl
  where
    go : ((c : ColumnSchema) × (find (column_named (canonical v.name)) (schemas (i + 1) cs) ≡ some c)) → (b : Bool) → same (canonical v.name) (canonical u.name) ≡ b
        → (c : ColumnSchema) × (find (column_named (canonical v.name)) (schemas i (u ∷ cs)) ≡ some c)
    go r true h = (schema i u, schemas_hit (canonical v.name) i u cs h)
    go r false h = (r.0, schemas_miss (canonical v.name) i u cs h ∙ r.1)

-- the ids of columns are the same exactly if the names are
pub ids_same : (cs : List ColumnDefinition) (n m : Text) {c d : ColumnSchema} → find (column_named n) (schemas 0 cs) ≡ some c → find (column_named m) (schemas 0 cs) ≡ some d
    → same_id c.id d.id ≡ same n m
unfolding schema
ids_same cs n m {c} {d} e f = go (found_at n 0 cs e) (found_at m 0 cs f) (same n m) refl (same_id c.id d.id) refl
  where
    go : FoundAt n 0 cs c → FoundAt m 0 cs d → (s : Bool) → same n m ≡ s → (t : Bool) → same_id c.id d.id ≡ t → t ≡ s
    go a b true h true k = refl
    go a b false h false k = refl
    go a b true h false k =
        let z : c ≡ d = some-injective c d (sym e ∙ ap (λ (x : Text). find (column_named x) (schemas 0 cs)) (same_true n m h) ∙ f) in
        absurd (true≢false (sym (eq-eqb c.id.0 c.id.0 refl) ∙ ap (λ (x : ColumnSchema). same_id c.id x.id) z ∙ k))
    go a b false h true k =
        let z : a.place ≡ b.place = omega (arith, eqb-true c.id.0 d.id.0 k, ap (λ (x : ColumnSchema). x.id.0) a.is, ap (λ (x : ColumnSchema). x.id.0) b.is) in
        let y : a.column ≡ b.column = ap (λ (l : List ColumnDefinition). get_or l 0 a.column) (sym a.here ∙ ap (λ (j : ℕ). drop j cs) z ∙ b.here) in
        let x : n ≡ m = same_true n (canonical a.column.name) a.named ∙ ap (λ (v : ColumnDefinition). canonical v.name) y ∙ sym (same_true m (canonical b.column.name) b.named) in
        absurd (true≢false (sym (same_itself n) ∙ ap (same n) x ∙ h))

-- ---- names of a key, one after the other

-- the names before k stand for columns, each for its own
pub record NamesTo (cs : List ColumnDefinition) (ns : List Name) (k : ℕ) : Type 0 where
  pub ids : List ColumnId
  pub is : key_ids (schemas 0 cs) [] (map canonical ns) ≡ key_ids (schemas 0 cs) ids (map canonical (drop k ns))
  pub count : length ids ≡ k
  pub reached : Reached (map (entry of.Names) ns) k
  pub same : (n : Text) (c : ColumnSchema) → find (column_named n) (schemas 0 cs) ≡ some c → any (same_id c.id) ids ≡ any (alike (some n)) (take k (map (entry of.Names) ns))

pub names_none : (cs : List ColumnDefinition) (ns : List Name) → NamesTo cs ns 0
names_none cs ns = record { ids = []; is = refl; count = refl; reached = reached_none (map (entry of.Names) ns); same = λ n c e. refl }

module _ {cs : List ColumnDefinition} {ns : List Name} {k : ℕ} (t : NamesTo cs ns k) {v : Name} {m : List Name} (d : drop k ns ≡ v ∷ m) where
  turned : drop k (map (entry of.Names) ns) ≡ some (canonical v) ∷ map (entry of.Names) m
  turned = drop_map (entry of.Names) k ns ∙ ap (map (entry of.Names)) d

  abbrev after : ColumnSchema → Answer (List ColumnId)
  after c = refuse_if (any (same_id c.id) t.ids) ConstraintViolation >> key_ids (schemas 0 cs) (t.ids ++ (c.id ∷ [])) (map canonical m)

  one_left : key_ids (schemas 0 cs) [] (map canonical ns) ≡ (found (find (column_named (canonical v)) (schemas 0 cs)) SchemaMismatch >>= after)
  unfolding key_ids
  one_left = t.is ∙ ap (λ (l : List Name). key_ids (schemas 0 cs) t.ids (map canonical l)) d

  pub names_unknown : find (column_named (canonical v)) (schemas 0 cs) ≡ none → key_ids (schemas 0 cs) [] (map canonical ns) ≡ refuse SchemaMismatch
  names_unknown e = one_left ∙ found_off SchemaMismatch after e

  module _ {c : ColumnSchema} (e : find (column_named (canonical v)) (schemas 0 cs) ≡ some c) where
    -- the rules' test of the id is the search's place
    repeated_is : any (same_id c.id) t.ids ≡ is_at k (first_repeated (map (entry of.Names) ns))
    repeated_is = t.same (canonical v) c e ∙ sym (reached_turn t.reached turned)

    pub names_repeated : is_at k (first_repeated (map (entry of.Names) ns)) ≡ true → key_ids (schemas 0 cs) [] (map canonical ns) ≡ refuse ConstraintViolation
    names_repeated h = one_left ∙ found_on SchemaMismatch after e ∙ test_off _ _ (repeated_is ∙ h)

    pub names_on : is_at k (first_repeated (map (entry of.Names) ns)) ≡ false → NamesTo cs ns (k + 1)
    names_on h = record {
      ids = t.ids ++ (c.id ∷ []);
      is =
          one_left ∙ found_on SchemaMismatch after e ∙ test_on _ _ (repeated_is ∙ h)
          ∙ ap (λ (l : List Name). key_ids (schemas 0 cs) (t.ids ++ (c.id ∷ [])) (map canonical l)) (sym (drop_next k ns d));
      count = length-append t.ids (c.id ∷ []) ∙ ap (λ (n : ℕ). n + 1) t.count;
      reached = reached_on t.reached turned (sym (reached_turn t.reached turned) ∙ h);
      same = λ n b f.
          any_last (same_id b.id) t.ids c.id ∙ ap₂ (λ (x y : Bool). x || y) (ids_same cs n (canonical v) f e) (t.same n b f)
          ∙ sym (any_last (alike (some n)) (take k (map (entry of.Names) ns)) (some (canonical v)))
          ∙ ap (any (alike (some n))) (sym (take_next k (map (entry of.Names) ns) turned));
    }

pub names_end : {cs : List ColumnDefinition} {ns : List Name} {k : ℕ} (t : NamesTo cs ns k) → length ns ≤ k → key_ids (schemas 0 cs) [] (map canonical ns) ≡ given t.ids
unfolding key_ids
names_end {cs} {ns} {k} t h = t.is ∙ ap (λ (l : List Name). key_ids (schemas 0 cs) t.ids (map canonical l)) (drop_of_length-le ns {i = k} h)

-- one name
pub one_name : (cs : List ColumnSchema) (n : Text) {c : ColumnSchema} → find (column_named n) cs ≡ some c → key_ids cs [] (n ∷ []) ≡ given (c.id ∷ [])
unfolding key_ids
one_name cs n e = found_on SchemaMismatch _ e

-- ---- the room of the columns

pub room_next : (c : ColumnDefinition) (cs : List ColumnDefinition) → room_for (c ∷ cs) ≡ 26 + length c.name.text + room_for cs
unfolding room_for
room_next c cs = refl

pub room_end : room_for [] ≡ 4
unfolding room_for
room_end = refl
