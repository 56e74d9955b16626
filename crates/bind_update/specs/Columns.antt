-- Columns of a sound table are told apart by their ids exactly as by the names that they were found by.
-- Assumes nothing.
use Rattle.std.specs.Prelude.{◌≡◌, refl, Bool, true, false, not, ◌&&◌, ◌||◌, List, [], ◌∷◌, ℕ, suc, eqb}
use Rattle.std.proofs.Common.{sym, ap, ap₂, ◌∙◌, true≢false, eqb-true, eq-eqb}
use Rattle.std.proofs.Math.Bool.{or-true}
use Rattle.std.proofs.Math.Option.{some, none-ne-some, some-injective}
use Rattle.std.proofs.lemmas.Bool.{not-true}
use Rattle.bytes_bundle.specs.Decides.{and_of, all_of}
use Rattle.catalogue_sound.specs.Sound.{has_id, same_column_name, same_column_id, sound_table_decided}
use Rattle.bind_table.specs.Given.{find_passes, same_is}
use Rattle.rules.specs.Lists.{Text, same, is_empty, any, all, find, distinct}
use Rattle.rules.specs.Bound.{BoundColumnRef}
use Rattle.rules.specs.Lookup.{bound_column, bound_columns_from, bound_columns, ref_named, column_by_name}
use Rattle.rules.specs.Obeys.{same_column}
use Rattle.rules.specs.Tables.{ColumnSchema, TableSchema, same_id, is_key_column, sound_table}

-- ---- found in a list whose entries can be told apart

module _ {A : Type 0} where
  -- one that was found is there
  find_any : (p q : A → Bool) (l : List A) {y : A} → find p l ≡ some y → q y ≡ true → any q l ≡ true
  find_any p q [] {y} e h = absurd (none-ne-some y e)
  find_any p q (x ∷ l) {y} e h = go (p x) (find_any p q l) e
    where
      go : (b : Bool) → (find p l ≡ some y → q y ≡ true → any q l ≡ true) → elim b [ true ↦ some x | false ↦ find p l ] ≡ some y → (q x || any q l) ≡ true
      go true below k = ap (λ (b : Bool). b || any q l) (ap q (some-injective x y k) ∙ h)
      go false below k = ap (λ (b : Bool). q x || b) (below k h) ∙ or-true (q x)

  module _ (alike : A → A → Bool) (turned : (x y : A) → alike x y ≡ true → alike y x ≡ true) (p q : A → Bool) where
    -- two that are alike are one
    find_alike : (l : List A) {x y : A} → distinct alike l ≡ true → find p l ≡ some x → find q l ≡ some y → alike x y ≡ true → x ≡ y
    find_alike [] {x} {y} d e f h = absurd (none-ne-some x e)
    find_alike (z ∷ l) {x} {y} d e f h =
        let k = and_of (not (any (alike z) l)) (distinct alike l) d in
        go (p z) (q z) (find_alike l k.1) (not-true (any (alike z) l) k.0) e f
      where
        go : (a b : Bool) → (find p l ≡ some x → find q l ≡ some y → alike x y ≡ true → x ≡ y) → any (alike z) l ≡ false
            → elim a [ true ↦ some z | false ↦ find p l ] ≡ some x → elim b [ true ↦ some z | false ↦ find q l ] ≡ some y → x ≡ y
        go true true below n e f = sym (some-injective z x e) ∙ some-injective z y f
        go true false below n e f =
            absurd (true≢false (sym (find_any q (alike z) l f (ap (λ (w : A). alike w y) (some-injective z x e) ∙ h)) ∙ n))
        go false true below n e f =
            absurd (true≢false (sym (find_any p (alike z) l e (ap (λ (w : A). alike w x) (some-injective z y f) ∙ turned x y h)) ∙ n))
        go false false below n e f = below e f h

-- ---- the columns of a table as they are bound

any_bound : (t : TableSchema) (n : ℕ) (id : ℕ) (cs : List ColumnSchema)
    → any (λ (d : BoundColumnRef). eqb id d.column_id.0) (bound_columns_from t n cs) ≡ any (λ (d : ColumnSchema). eqb id d.id.0) cs
unfolding bound_columns_from bound_column
any_bound t n id [] = refl
any_bound t n id (c ∷ cs) = ap (λ (b : Bool). eqb id c.id.0 || b) (any_bound t (suc n) id cs)

distinct_bound : (t : TableSchema) (n : ℕ) (cs : List ColumnSchema) → distinct same_column (bound_columns_from t n cs) ≡ distinct same_column_id cs
unfolding bound_columns_from bound_column
distinct_bound t n [] = refl
distinct_bound t n (c ∷ cs) = ap₂ (λ (a b : Bool). not a && b) (any_bound t (suc n) c.id.0 cs) (distinct_bound t (suc n) cs)

sound_ids : (t : TableSchema) → sound_table t ≡ true → distinct same_column (bound_columns t) ≡ true
unfolding bound_columns
sound_ids t h =
    let a = all_of (all has_id t.columns ∷ not (is_empty t.key) ∷ distinct same_id t.key ∷ all (is_key_column t.columns) t.key ∷ []) in
    let k = and_of (distinct same_column_name t.columns) (distinct same_column_id t.columns && a) (sym (sound_table_decided t).is ∙ h) in
    distinct_bound t 0 t.columns ∙ (and_of (distinct same_column_id t.columns) a k.1).0

same_refl : (a : Text) → same a a ≡ true
same_refl [] = refl
same_refl (x ∷ a) = ap₂ (λ (b c : Bool). b && c) (eq-eqb x x refl) (same_refl a)

-- two names of columns of a sound table are the same exactly if the columns have the same id
pub columns_told : (t : TableSchema) → sound_table t ≡ true → (m n : Text) {c d : BoundColumnRef} → column_by_name t m ≡ some c → column_by_name t n ≡ some d
    → same_id c.column_id d.column_id ≡ same m n
unfolding column_by_name
columns_told t s m n {c} {d} e f = go (same_id c.column_id d.column_id) refl (same m n) refl
  where
    name : (k : Text) {b : BoundColumnRef} → column_by_name t k ≡ some b → k ≡ b.name
    name k {b} h = same_is k b.name (find_passes (ref_named k) (bound_columns t) h)

    go : (i : Bool) → same_id c.column_id d.column_id ≡ i → (j : Bool) → same m n ≡ j → i ≡ j
    go true p true q = refl
    go false p false q = refl
    go true p false q =
        let z : c ≡ d = find_alike same_column (λ x y h. eq-eqb y.column_id.0 x.column_id.0 (sym (eqb-true x.column_id.0 y.column_id.0 h))) (ref_named m) (ref_named n) (bound_columns t) (sound_ids t s) e f p in
        let w : m ≡ n = name m e ∙ ap (λ (b : BoundColumnRef). b.name) z ∙ sym (name n f) in
        sym (same_refl m) ∙ ap (same m) w ∙ q
    go false p true q =
        let w : m ≡ n = same_is m n q in
        let z : c ≡ d = some-injective c d (sym e ∙ ap (column_by_name t) w ∙ f) in
        sym p ∙ ap (λ (b : BoundColumnRef). same_id c.column_id b.column_id) (sym z) ∙ eq-eqb c.column_id.0 c.column_id.0 refl
