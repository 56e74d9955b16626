-- The target columns of an INSERT one by one, and the columns that it must not leave out.
-- Assumes nothing.
use Rattle.std.specs.Prelude.{◌≡◌, refl, Bool, true, false, not, ◌&&◌, ◌||◌, ℕ, zero, suc, ◌+◌, ◌-◌, ◌≤◌, ◌<◌, eqb, length, drop, set, Option as Maybe, Some, None}
use Rattle.std.proofs.Math.Path.{sym, ap, ap₂, subst}
use Rattle.std.proofs.Common.{◌∙◌, add-one, arith, drop_of_length-le, leb-true, eqb-true, eq-eqb, ne_eqb}
use mathlib.Core.List.{List, [], ◌∷◌, ◌++◌, map, map-append}
use Rattle.std.proofs.Math.Option.{Option, none, some, some-injective}
use Rattle.std.proofs.Math.ListN.{take}
use Rattle.std.proofs.Math.Seq.{take-suc-set}
use Rattle.std.proofs.lemmas.Bool.{eqb-false}
use Rattle.bytes_format.specs.Format.{Format}
use Rattle.bytes_format.proofs.Formats.{list_of}
use Rattle.bytes_bundle.specs.Bundle.{parts_of, Stepped}
use Rattle.bytes_bundle.specs.Decides.{and_of}
use Rattle.bytes_bundle.specs.Held.{Is, Holds, is_held, held, held_once, list_count}
use Rattle.bytes_bundle.specs.Ahead.{HoldEach, FirstHeld, hold_first, list_holds}
use Rattle.bytes_bundle.specs.Numbered.{IsPart, valued, valued_is}
use Rattle.image_catalogue.specs.Layout.{table}
use Rattle.catalogue_lookup.specs.declared.Column.{Column}
use Rattle.catalogue_lookup.specs.Finds.{ColumnIs, FindsColumn}
use Rattle.image_catalogue.specs.Entries.{find_hit, find_miss}
use Rattle.image_parts.specs.Layout.{name}
use Rattle.rules.specs.declared.Class.TheVariants.{SchemaMismatch, ConstraintViolation}
use Rattle.rules.specs.declared.Refusal.{Refusal}
use Rattle.rules.specs.Lists.{Text, same, any, all, find}
use Rattle.rules.specs.Answers.{given, refused, ◌>>=◌}
use Rattle.rules.specs.Tables.{ColumnSchema, TableSchema}
use Rattle.rules.specs.Bound.{BoundColumnRef}
use Rattle.rules.specs.Lookup.{bound_columns, ref_named, column_by_name, in_key}
use Rattle.rules.specs.Names.{canonical}
use Rattle.rules.specs.Statements.{Name}
use Rattle.rules.specs.Analyze.{insert_columns, missing}
use Rattle.image_bound.specs.Columns.{bound_column_ref}
use Rattle.bind_repeats.specs.declared.Of.TheVariants as of
use Rattle.bind_repeats.specs.Repeats.{alike, is_at, any_last, any_plain, take_next, drop_map, take_map, Reached, reached_none, reached_turn, reached_on}
use Rattle.bind_repeats.specs.Entries.{entry, short_name, AllShort, FindsRepeat, entries_plain}
use Rattle.std.specs.Prelude.{Result}
use Rattle.std.specs.Prelude.{Ok, Err}
use Rattle.bind_table.specs.Told.{sized}
use Rattle.bind_table.specs.Steps.{classed, test_on, test_off, found_on, found_off}
use Rattle.bind_table.specs.Short.{ShortText}
use Rattle.bind_table.specs.Tables.{canonical_length}
use Rattle.bind_insert_columns.specs.declared.Need.{Need}
use Rattle.bind_insert_columns.specs.declared.Need.TheVariants as need
use Rattle.bind_insert_columns.specs.Coded.{code_of, column_code, Coded}
use Rattle.bind_insert_columns.specs.Grown.{Grown, grown_none, grown_more, grown_end, grown_refused, grown_given}

-- ---- texts

pub same_sym : (a b : Text) → same a b ≡ same b a
same_sym [] [] = refl
same_sym [] (y ∷ b) = refl
same_sym (x ∷ a) [] = refl
same_sym (x ∷ a) (y ∷ b) = ap₂ (λ (p q : Bool). p && q) (go (eqb x y) refl) (same_sym a b)
  where
    go : (b : Bool) → eqb x y ≡ b → eqb x y ≡ eqb y x
    go true q = q ∙ sym (eq-eqb y x (sym (eqb-true x y q)))
    go false q = q ∙ sym (ne_eqb y x (λ e. eqb-false x y q (sym e)))

same_length : (a b : Text) → same a b ≡ true → length a ≡ length b
same_length [] [] e = refl
same_length [] (y ∷ b) e = let z : ◌≡◌ {A = ℕ} 0 1 = cc in absurd (omega arith)
same_length (x ∷ a) [] e = let z : ◌≡◌ {A = ℕ} 0 1 = cc in absurd (omega arith)
same_length (x ∷ a) (y ∷ b) e = ap suc (same_length a b (and_of (eqb x y) (same a b) e).1)

-- what is found passes
find_passes : {A : Type 0} (p : A → Bool) (l : List A) {x : A} → find p l ≡ some x → p x ≡ true
find_passes p [] e = let z : ◌≡◌ {A = ℕ} 0 1 = cc in absurd (omega arith)
find_passes {A} p (y ∷ l) {x} e = go (λ h. find_passes p l h) (p y) refl
  where
    go : (find p l ≡ some x → p x ≡ true) → (b : Bool) → p y ≡ b → p x ≡ true
    go f true q = ap p (some-injective x y (sym e ∙ find_hit p y l q)) ∙ q
    go f false q = f (sym (find_miss p y l q) ∙ e)

-- a column's name is as long as the name that it was found by
pub column_named_lem : (v : TableSchema) (n : Text) {b : BoundColumnRef} → column_by_name v n ≡ some b → length b.name ≡ length n
unfolding column_by_name
column_named_lem v n {b} e = sym (same_length n b.name (find_passes (ref_named n) (bound_columns v) e))

-- ---- the names

-- s holds the names of at most 64 columns, each within the limit
pub record Targets (s : List ℕ) : Type 0 where
  pub names : AllShort of.Names s
  pub few : length (parts_of 2 s) ≤ 64

all_turn : {A : Type 0} (p : A → Bool) (i : ℕ) (l : List A) {x : A} {m : List A} → all p l ≡ true → drop i l ≡ x ∷ m → p x ≡ true
all_turn p zero [] h e = absurd (omega (arith, ap length e))
all_turn p (suc i) [] h e = absurd (omega (arith, ap length e))
all_turn p zero (y ∷ l) {x} {m} h e = (and_of (p x) (all p m) (ap (all p) (sym e) ∙ h)).0
all_turn p (suc i) (y ∷ l) h e = all_turn p i l (and_of (p y) (all p l) h).1 e

pub name_at : {s p : List ℕ} {i : ℕ} → AllShort of.Names s → IsPart 2 s i p → Is name p × ShortText p
name_at {i = i} a d = (
  valued_is name d a.is,
  record {
    short = λ w h. held a.is (λ ns k.
        let t = valued name d k in
        leb-true (length w.text) 128 (all_turn (λ (n : Name). short_name (some n)) i ns (a.short ns k) (t.rest ∙ ap (λ (n : Name). n ∷ drop (i + 1) ns) (held_once name t.holds h))));
  },
)

pub name_part : {s : List ℕ} {i at e : ℕ} → AllShort of.Names s → Stepped 2 s i at e → Is name (take (e - at) (drop at s)) × ShortText (take (e - at) (drop at s))
name_part {i = i} a d = name_at {i = i} a (record { few = omega (arith, d.next.few); is = d.is })

-- parts that hold names within the limit
pub record NamesLeft (ps : List (List ℕ)) : Type 0 where
  pub names : List Name
  pub each : HoldEach name ps names
  pub short : all (λ (n : Name). short_name (some n)) names ≡ true

pub names_left : {s : List ℕ} {ps : List (List ℕ)} → AllShort of.Names s → ps ≡ parts_of 2 s → NamesLeft ps
names_left {s} a e = held a.is (λ ns h. let k = list_holds 2 name s h in record { names = ns; each = rw e k; short = a.short ns h })

module _ {p : List ℕ} {ps qs : List (List ℕ)} (l : NamesLeft ps) (e : ps ≡ p ∷ qs) where
  first : FirstHeld name p qs l.names
  first = hold_first (rw e at l.each)

  both : (short_name (some first.value) ≡ true) × (all (λ (n : Name). short_name (some n)) first.others ≡ true)
  both = and_of (short_name (some first.value)) (all (λ (n : Name). short_name (some n)) first.others) (ap (all (λ (n : Name). short_name (some n))) (sym first.is) ∙ l.short)

  pub name_here : Is name p × ShortText p
  name_here = (
    is_held {f = name} first.holds,
    record { short = λ w h. leb-true (length w.text) 128 (ap (λ (n : Name). short_name (some n)) (held_once name h first.holds) ∙ both.0) },
  )

  pub names_behind : NamesLeft qs
  names_behind = record { names = first.others; each = first.each; short = both.1 }

-- the text of such a name
pub text_within : {p s : List ℕ} → Is name p × ShortText p → ((v : Name) → Holds name p v → s ≡ v.text) → length s ≤ 128
text_within a f = held a.0 (λ v h. subst (λ (s : List ℕ). length s ≤ 128) (sym (f v h)) (a.1.short v h))

-- the name of the column that was found by such a name
pub column_within : {t p : List ℕ} {r : Maybe Column} {c : Column} → Is table t → Is name p × ShortText p → ((v : Name) → Holds name p v → FindsColumn t (canonical v) r)
    → r ≡ Some c → length c.name.now ≤ 128
column_within i a look q = held i (λ v ht. held a.0 (λ n h.
    let o = subst (ColumnIs (column_by_name v (canonical n))) q (look n h v ht) in
    omega (arith, ap length o.2.name, column_named_lem v (canonical n) o.1, canonical_length n, a.1.short n h)))

-- ---- a column among the names

-- whether a text is one of the names
abbrev pub is_among : Text → List Name → Bool
is_among s ns = any (λ (n : Name). same s (canonical n)) ns

pub among : (s : Text) (ns : List Name) → is_among s ns ≡ any (same s) (map canonical ns)
among s [] = refl
among s (n ∷ ns) = ap (λ (b : Bool). same s (canonical n) || b) (among s ns)

-- a column that an INSERT must not leave out
abbrev pub needed : Need → TableSchema → ColumnSchema → Bool
needed need.Key v c = in_key v c.id
needed need.NotNull v c = not c.nullable

abbrev pub lacking : Need → TableSchema → List Name → ColumnSchema → Bool
lacking k v ns c = needed k v c && missing (map canonical ns) c

-- what a part that every value has holds
pub listed : {A B : Type 0} {f : Format A} {g : Format B} {F : A → B} {s p : List ℕ} → Is f s → ((v : A) → Holds f s v → Holds g p (F v)) → Is g p
listed {g = g} i k = held i (λ v h. is_held {f = g} (k v h))

-- ---- the target columns

module _ (t : TableSchema) (before : List Text) (n : Text) (ns : List Text) where
  pub columns_repeated : any (same n) before ≡ true → insert_columns t before (n ∷ ns) ≡ refused (classed ConstraintViolation)
  unfolding insert_columns
  columns_repeated e = test_off _ _ e

  module _ (e : any (same n) before ≡ false) where
    pub columns_unknown : column_by_name t n ≡ none → insert_columns t before (n ∷ ns) ≡ refused (classed SchemaMismatch)
    unfolding insert_columns
    columns_unknown h = test_on _ _ e ∙ found_off _ _ h

    pub columns_next : {c : BoundColumnRef} → column_by_name t n ≡ some c → insert_columns t before (n ∷ ns) ≡ (insert_columns t (n ∷ before) ns >>= (λ cs. given (c ∷ cs)))
    unfolding insert_columns
    columns_next h = test_on _ _ e ∙ found_on _ _ h

pub columns_done : (t : TableSchema) (before : List Text) → insert_columns t before [] ≡ given []
unfolding insert_columns
columns_done t before = refl

-- as they are compared
abbrev texts : List Name → List Text
texts ns = map canonical ns

-- the first i columns are bound: their bytes stand in the array
pub record Passed (v : TableSchema) (ns : List Name) (codes : List ℕ) (i total : ℕ) : Type 0 where
  pub reached : Reached (map (entry of.Names) ns) i
  pub before : List Text
  pub same_before : (p : Text → Bool) → any p before ≡ any p (take i (texts ns))
  pub grown : Grown bound_column_ref (insert_columns v [] (texts ns)) (insert_columns v before (texts (drop i ns))) i total
  pub coded : take i codes ≡ map column_code grown.done

pub record Binding (t s codes : List ℕ) (i total : ℕ) : Type 0 where
  pub at : (v : TableSchema) (ns : List Name) → Holds table t v → Holds (list_of 2 name) s ns → Passed v ns codes i total

-- the columns, whose bytes the array begins with, and whose list has n bytes
pub record Given (v : TableSchema) (ns : List Name) (codes : List ℕ) (n : ℕ) : Type 0 where
  pub value : List BoundColumnRef
  pub gives : insert_columns v [] (texts ns) ≡ given value
  pub count : length value ≡ length ns
  pub coded : Coded codes value
  pub long : n ≡ length ((list_of 4 bound_column_ref).write value)

-- what is said when all are looked at
pub record ColumnsBound (v : TableSchema) (ns : List Name) (codes : List ℕ) (r : Result ℕ Refusal) : Type 0 where
  pub is : r ≡ sized (list_of 4 bound_column_ref) (insert_columns v [] (texts ns))
  pub bound : (n : ℕ) → r ≡ Ok n → Given v ns codes n

pub bound_off : {v : TableSchema} {ns : List Name} {codes : List ℕ} {r : Result ℕ Refusal} {k : Refusal} → r ≡ Err k
    → Err k ≡ sized (list_of 4 bound_column_ref) (insert_columns v [] (texts ns)) → ColumnsBound v ns codes r
bound_off q h = record { is = q ∙ h; bound = λ n e. let z : ◌≡◌ {A = ℕ} 0 1 = cc in absurd (omega arith) }

pub binding : {t s codes : List ℕ} → Binding t s codes 0 4
binding = record {
  at = λ v ns h k. record {
    reached = reached_none (map (entry of.Names) ns);
    before = [];
    same_before = λ p. refl;
    grown = grown_none bound_column_ref (insert_columns v [] (texts ns));
    coded = refl;
  };
}

module _ {t s codes part : List ℕ} {i total : ℕ} (w : Binding t s codes i total) (d : IsPart 2 s i part) {place : Maybe ℕ} (f : FindsRepeat of.Names s place) where
  module _ (v : TableSchema) (ns : List Name) (ht : Holds table t v) (hs : Holds (list_of 2 name) s ns) where
    abbrev p : Passed v ns codes i total
    p = w.at v ns ht hs

    abbrev n : Name
    n = (valued name d hs).value

    rest : texts (drop i ns) ≡ canonical n ∷ texts (drop (i + 1) ns)
    rest = ap texts (valued name d hs).rest

    turned : drop i (map (entry of.Names) ns) ≡ some (canonical n) ∷ map (entry of.Names) (drop (i + 1) ns)
    turned = drop_map (entry of.Names) i ns ∙ ap (map (entry of.Names)) (valued name d hs).rest

    -- the place tells whether the name repeats one before it
    repeats : is_at i place ≡ any (same (canonical n)) p.before
    repeats =
        ap (is_at i) (f ns hs) ∙ reached_turn p.reached turned ∙ looked
        ∙ sym (p.same_before (same (canonical n)))
      where
        looked : any (alike (some (canonical n))) (take i (map (entry of.Names) ns)) ≡ any (same (canonical n)) (take i (texts ns))
        looked =
            ap (λ (l : List (Option Text)). any (alike (some (canonical n))) (take i l)) (entries_plain ns)
            ∙ ap (any (alike (some (canonical n)))) (take_map some i (texts ns)) ∙ any_plain (canonical n) (take i (texts ns))

  pub bind_repeated : is_at i place ≡ true → (v : TableSchema) (ns : List Name) → Holds table t v → Holds (list_of 2 name) s ns
      → Err (classed ConstraintViolation) ≡ sized (list_of 4 bound_column_ref) (insert_columns v [] (texts ns))
  bind_repeated q v ns ht hs =
      let g = p v ns ht hs in
      grown_refused g.grown
      (ap (insert_columns v g.before) (rest v ns ht hs) ∙ columns_repeated v g.before _ _ (sym (repeats v ns ht hs) ∙ q))

  module _ (q : is_at i place ≡ false) {r : Maybe Column} (look : (m : Name) → Holds name part m → FindsColumn t (canonical m) r) where
    pub bind_unknown : r ≡ None → (v : TableSchema) (ns : List Name) → Holds table t v → Holds (list_of 2 name) s ns
        → Err (classed SchemaMismatch) ≡ sized (list_of 4 bound_column_ref) (insert_columns v [] (texts ns))
    bind_unknown x v ns ht hs =
        let g = p v ns ht hs in
        let o = subst (ColumnIs (column_by_name v (canonical (n v ns ht hs)))) x (look (n v ns ht hs) (valued name d hs).holds v ht) in
        grown_refused g.grown
        (ap (insert_columns v g.before) (rest v ns ht hs) ∙ columns_unknown v g.before _ _ (sym (repeats v ns ht hs) ∙ q) o)

    -- one column more: its byte, and its length
    pub bind_more : {c : Column} {code m : ℕ} → r ≡ Some c → code ≡ code_of c.ty c.nullable
        → ((b : BoundColumnRef) → length b.name ≡ length c.name.now → m ≡ length (bound_column_ref.write b))
        → i < length codes → Binding t s (set codes i code) (i + 1) (total + (4 + m))
    unfolding column_code
    bind_more {c} {code} {m} x y long few = record {
      at = λ v ns ht hs.
          let g = p v ns ht hs in
          let k = n v ns ht hs in
          let o = subst (ColumnIs (column_by_name v (canonical k))) x (look k (valued name d hs).holds v ht) in
          let b = o.0 in
          let none = sym (repeats v ns ht hs) ∙ q in
          let z : code ≡ column_code b = y ∙ ap₂ code_of o.2.ty o.2.nullable in
          record {
            reached = reached_on g.reached (turned v ns ht hs) (sym (reached_turn g.reached (turned v ns ht hs)) ∙ sym (ap (is_at i) (f ns hs)) ∙ q);
            before = canonical k ∷ g.before;
            same_before = λ l.
                ap (λ (a : Bool). l (canonical k) || a) (g.same_before l) ∙ sym (any_last l (take i (texts ns)) (canonical k))
                ∙ ap (any l) (sym (take_next i (texts ns) (drop_map canonical i ns ∙ rest v ns ht hs)));
            grown =
                grown_more g.grown (insert_columns v (canonical k ∷ g.before) (texts (drop (i + 1) ns))) b
                (ap (insert_columns v g.before) (rest v ns ht hs) ∙ columns_next v g.before _ _ none o.1)
                (long b (ap length (sym o.2.name)));
            coded =
                ap (λ (j : ℕ). take j (set codes i code)) (add-one i) ∙ take-suc-set codes i code few
                ∙ ap₂ (λ (l : List ℕ) (a : ℕ). l ++ a ∷ []) g.coded z ∙ sym (map-append column_code g.grown.done (b ∷ []));
          };
    }

module _ {t s codes : List ℕ} {i total : ℕ} (w : Binding t s codes i total) (a : i ≤ length (parts_of 2 s)) (l : length (parts_of 2 s) ≤ i) where
  pub bind_end : (v : TableSchema) (ns : List Name) → Holds table t v → Holds (list_of 2 name) s ns → ColumnsBound v ns codes (Ok total)
  bind_end v ns ht hs =
      let g = w.at v ns ht hs in
      let z : length ns ≤ i = omega (arith, l, list_count name s hs) in
      let e : length ns ≡ i = omega (arith, z, a, list_count name s hs) in
      let q : insert_columns v g.before (texts (drop i ns)) ≡ given [] = ap (λ (l : List Name). insert_columns v g.before (texts l)) (drop_of_length-le ns {i = i} z) ∙ columns_done v g.before in
      record {
        is = grown_given g.grown q;
        bound = λ m h. record {
          value = g.grown.done;
          gives = grown_end g.grown q;
          count = g.grown.count ∙ sym e;
          coded = record { is = ap (λ (j : ℕ). take j codes) g.grown.count ∙ g.coded };
          long = let y : m ≡ total = cc in y ∙ g.grown.long;
        };
      }
