-- What is known of a table that was found: it is one of the catalogue's, so it is sound, and its name is as short as the name in the statement.
-- Assumes nothing.
use Rattle.std.specs.Prelude.{◌≡◌, Bool, false, ◌&&◌, List, [], ◌∷◌, ℕ, ◌≤◌, eqb}
use Rattle.std.proofs.Math.Path.{refl, ap}
use Rattle.std.proofs.Common.{sym, ap₂, ◌∙◌, subst, arith, eqb-true}
use Rattle.std.proofs.Math.Bool.{true}
use Rattle.std.proofs.lemmas.Bool.{false≢true}
use Rattle.std.proofs.Math.Option.{Option, none, some, none-ne-some, some-injective}
use Rattle.std.proofs.Math.ListN.{length}
use Rattle.bytes_format.proofs.Formats.{list_of}
use Rattle.bytes_bundle.specs.Decides.{and_of}
use Rattle.bytes_bundle.specs.Fields.{checked_value}
use Rattle.bytes_bundle.specs.Held.{Holds}
use Rattle.image_catalogue.specs.Layout.{table, catalogue}
use Rattle.catalogue_sound.specs.Sound.{same_table_name, same_table_id}
use Rattle.image_expression.specs.Names.{Within}
use Rattle.rules.specs.declared.Class.{Class}
use Rattle.rules.specs.declared.Class.TheVariants.{SchemaMismatch, UnsupportedSql}
use Rattle.rules.specs.Lists.{Text, same, all, find, distinct}
use Rattle.rules.specs.Limits.{object_names, relation_names, table_names}
use Rattle.rules.specs.Answers.{Answer, given, found, ◌>>=◌}
use Rattle.rules.specs.Names.{canonical, simple_name}
use Rattle.rules.specs.Statements.{ObjectName, plain, qualified, Relation, direct, indirect, TableWithJoins}
use Rattle.rules.specs.Tables.{TableSchema, Catalogue, table_named, table_by_name, sound_table, sound}
use Rattle.rules.specs.Analyze.{relation_name, resolve_direct_table}
use Rattle.rules.proofs.Theorems.Answered.{never_given}
use Rattle.rules.proofs.Theorems.Steps.{step, step_past}
use Rattle.bind_table.specs.Short.{short_plain}
use Rattle.bind_table.specs.Tables.{named_table, canonical_length}

found_some : {A : Type 0} (k : Class) (o : Option A) {a : A} → found o k ≡ given a → o ≡ some a
found_some k none h = absurd (never_given h)
found_some k (some b) h = cc

-- ---- what is found in a list

module _ {A : Type 0} (p : A → Bool) where
  -- it passes the test
  pub find_passes : (l : List A) {y : A} → find p l ≡ some y → p y ≡ true
  find_passes [] {y} e = absurd (none-ne-some y e)
  find_passes (x ∷ l) {y} e = go (p x) refl (find_passes l) e
    where
      go : (b : Bool) → p x ≡ b → (find p l ≡ some y → p y ≡ true) → elim b [ true ↦ some x | false ↦ find p l ] ≡ some y → p y ≡ true
      go true q below h = subst (λ (z : A). p z ≡ true) (some-injective x y h) q
      go false q below h = below h

  -- and what holds of all holds of it
  pub find_all : (q : A → Bool) (l : List A) {y : A} → find p l ≡ some y → all q l ≡ true → q y ≡ true
  find_all q [] {y} e a = absurd (none-ne-some y e)
  find_all q (x ∷ l) {y} e a = go (p x) (find_all q l) e (and_of (q x) (all q l) a)
    where
      go : (b : Bool) → (find p l ≡ some y → all q l ≡ true → q y ≡ true) → elim b [ true ↦ some x | false ↦ find p l ] ≡ some y
          → (q x ≡ true) × (all q l ≡ true) → q y ≡ true
      go true below h k = subst (λ (z : A). q z ≡ true) (some-injective x y h) k.0
      go false below h k = below h k.1

pub same_is : (a b : Text) → same a b ≡ true → a ≡ b
same_is [] [] h = refl
same_is [] (y ∷ b) h = absurd (false≢true h)
same_is (x ∷ a) [] h = absurd (false≢true h)
same_is (x ∷ a) (y ∷ b) h =
    let k = and_of (eqb x y) (same a b) h in
    ap₂ (λ (z : ℕ) (l : Text). z ∷ l) (eqb-true x y k.0) (same_is a b k.1)

-- ---- a table

module _ (cat : Catalogue) (s : Text) {t : TableSchema} where
  found_sound : sound cat ≡ true → table_by_name cat s ≡ some t → sound_table t ≡ true
  unfolding sound table_by_name
  found_sound h e = find_all (table_named s) sound_table cat e (and_of (distinct same_table_name cat && distinct same_table_id cat) (all sound_table cat) h).1

  found_name : table_by_name cat s ≡ some t → s ≡ t.name
  unfolding table_by_name
  found_name e = same_is s t.name (find_passes (table_named s) cat e)

module _ (cat : Catalogue) (o : ObjectName) {t : TableSchema} (g : named_table cat o ≡ given t) where
  pub named_sound : sound cat ≡ true → sound_table t ≡ true
  named_sound h = step (simple_name o) _ g (λ s e k. found_sound cat s h (found_some SchemaMismatch (table_by_name cat s) k))

  pub named_short : all Within (object_names o) ≡ true → length t.name ≤ 128
  unfolding simple_name
  named_short h = go o g h
    where
      go : (o : ObjectName) → named_table cat o ≡ given t → all Within (object_names o) ≡ true → length t.name ≤ 128
      go (plain n) e a = omega (arith, ap length (found_name cat (canonical n) (found_some SchemaMismatch (table_by_name cat (canonical n)) e)), canonical_length n, short_plain n a)
      go qualified e a = absurd (never_given e)

module _ (cat : Catalogue) (w : TableWithJoins) {t : TableSchema} (g : resolve_direct_table cat w ≡ given t) where
  -- it was found by its name
  resolved_named : (C : Type 0) → ((m : Bool) (o : ObjectName) → w.relation ≡ direct m o → named_table cat o ≡ given t → C) → C
  unfolding resolve_direct_table relation_name
  resolved_named C k = step_past w.joins UnsupportedSql _ g (λ j e. go w.relation refl e)
    where
      go : (r : Relation) → w.relation ≡ r → (relation_name r >>= (λ s. found (table_by_name cat s) SchemaMismatch)) ≡ given t → C
      go (direct m o) q e = step (relation_name (direct m o)) _ e (λ s x y. step_past m UnsupportedSql (simple_name o) x (λ z n. k m o q (ap (λ (a : Answer Text). a >>= (λ s. found (table_by_name cat s) SchemaMismatch)) n ∙ y)))
      go indirect q e = absurd (never_given e)

  pub resolved_sound : sound cat ≡ true → sound_table t ≡ true
  resolved_sound h = resolved_named (sound_table t ≡ true) (λ m o q e. named_sound cat o e h)

  pub resolved_short : all Within (table_names w) ≡ true → length t.name ≤ 128
  resolved_short h =
      resolved_named (length t.name ≤ 128) (λ m o q e. named_short cat o e (sym (ap (λ (r : Relation). all Within (relation_names r)) q) ∙ h))

-- ---- of the bytes of a catalogue

pub catalogue_sound : (s : List ℕ) {cat : Catalogue} → Holds catalogue s cat → sound cat ≡ true
unfolding catalogue
catalogue_sound s h = (checked_value (list_of 2 table) sound s h).1
