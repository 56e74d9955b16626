-- What is told of bytes before the rules are asked: the number of a refusal of paper 01, 5 to 8, or 0 where there is none. Of a statement alone, of
-- a catalogue alone, and of both.
-- Assumes nothing.
use Rattle.std.specs.Prelude.{◌≡◌, Bool, true, not, ◌&&◌, List, ℕ, eqb, length}
use Rattle.std.proofs.Math.Path.{refl, sym, ap, ap₂}
use Rattle.std.proofs.Common.{◌∙◌, ne_eqb, eq-eqb, arith}
use Rattle.std.proofs.Math.Bool.{false, cond}
use Rattle.std.proofs.lemmas.Bool.{false≢true}
use Rattle.std.proofs.Math.Option.{Option, none, some, map}
use Rattle.bytes_bundle.specs.Bundle.{is_there}
use Rattle.bytes_bundle.specs.Held.{Is, Holds}
use Rattle.rules.specs.Tables.{Catalogue}
use Rattle.rules.specs.Statements.{Statement}
use Rattle.rules.specs.Limits.{statement_within, catalogue_within, names_beyond_ascii}
use Rattle.rules.specs.Heard.{refuses, answers, received}
use Rattle.image_parts.specs.Layout as statement-layout
use Rattle.image_parts.specs.Layout.{statement}
use Rattle.image_catalogue.specs.Layout as catalogue-layout
use Rattle.image_catalogue.specs.Layout.{catalogue}
use Rattle.op_reply.specs.Leaves.{refusal}
use Rattle.op_received.specs.Entry.{sized, read_statement, read_catalogue}

-- 5, then 7, then 8
abbrev pub of_statement : ℕ → Option Statement → ℕ
of_statement size none = 5
of_statement size (some s) = cond (statement_within size s) (cond (names_beyond_ascii s) 8 0) 7

unfoldable pub told_of_statement : List ℕ → ℕ
told_of_statement s = of_statement (length s) (statement.read s)

-- 6, then 7
abbrev pub of_catalogue : ℕ → Option Catalogue → ℕ
of_catalogue size none = 6
of_catalogue size (some c) = cond (catalogue_within size c) 0 7

unfoldable pub told_of_catalogue : List ℕ → ℕ
told_of_catalogue s = of_catalogue (length s) (catalogue.read s)

-- 5, 6, 7, 8 of both, as the rules receive them
unfoldable pub told_of_both : List ℕ → List ℕ → ℕ
told_of_both s c = refusal (received (read_statement s) (read_catalogue c))

-- ---- each number, where it is told

module _ (s : List ℕ) where
  -- as the code tests it
  pub absent : {k : ℕ} → k ≡ cond (is_there (statement.read s)) 0 5 → (k ≡ 0 → ⊥) → k ≡ 5
  absent e n = go (is_there (statement.read s)) e n
    where
      go : (b : Bool) {k : ℕ} → k ≡ cond b 0 5 → (k ≡ 0 → ⊥) → k ≡ 5
      go true e n = absurd (n e)
      go false e n = e

  pub there : ◌≡◌ {A = ℕ} 0 (cond (is_there (statement.read s)) 0 5) → Is statement s
  there e = record { there = go (is_there (statement.read s)) e }
    where
      go : (b : Bool) → ◌≡◌ {A = ℕ} 0 (cond b 0 5) → b ≡ true
      go true e = refl
      go false e = absurd (omega arith)

  pub absent_told : {k : ℕ} → k ≡ cond (is_there (statement.read s)) 0 5 → (k ≡ 0 → ⊥) → k ≡ told_of_statement s
  unfolding told_of_statement
  absent_told e n = go (statement.read s) e n
    where
      go : (m : Option Statement) {k : ℕ} → k ≡ cond (is_there m) 0 5 → (k ≡ 0 → ⊥) → k ≡ of_statement (length s) m
      go none e n = e
      go (some v) e n = absurd (n e)

  pub judged_told : {v : Statement} → Holds statement s v → of_statement (length s) (some v) ≡ told_of_statement s
  unfolding told_of_statement
  judged_told h = sym (ap (of_statement (length s)) h)

  pub no_catalogue_lem : is_there (catalogue.read s) ≡ false → 6 ≡ told_of_catalogue s
  unfolding told_of_catalogue
  no_catalogue_lem h = go (catalogue.read s) h
    where
      go : (m : Option Catalogue) → is_there m ≡ false → 6 ≡ of_catalogue (length s) m
      go none e = refl
      go (some c) e = absurd (false≢true (sym e))

  module _ {c : Catalogue} (h : Holds catalogue s c) where
    pub judged_catalogue : {b : Bool} → b ≡ catalogue_within (length s) c → cond b 0 7 ≡ told_of_catalogue s
    unfolding told_of_catalogue
    judged_catalogue e = ap (λ (t : Bool). cond t 0 7) e ∙ sym (ap (of_catalogue (length s)) h)

-- ---- what is told of both, by what is told of each: no statement, then whatever the catalogue is refused for, then whatever the statement is

abbrev pub joined : ℕ → ℕ → ℕ
joined a b = cond (eqb a 5) 5 (cond (eqb b 0) a b)

module _ (s c : List ℕ) where
  both_there : (w x b : Bool) (p : Statement × Catalogue)
      → refusal (cond (not (w && x)) (refuses 7) (cond b (refuses 8) (answers p))) ≡ joined (cond w (cond b 8 0) 7) (cond x 0 7)
  both_there true true true p = refl
  both_there true true false p = refl
  both_there true false true p = refl
  both_there true false false p = refl
  both_there false true b p = refl
  both_there false false b p = refl

  no_tables : (w b : Bool) → 6 ≡ joined (cond w (cond b 8 0) 7) 6
  no_tables true true = refl
  no_tables true false = refl
  no_tables false b = refl

  both_joined : told_of_both s c ≡ joined (told_of_statement s) (told_of_catalogue c)
  unfolding told_of_both told_of_statement told_of_catalogue read_statement read_catalogue statement-layout.decode catalogue-layout.decode
  both_joined = go (statement.read s) (catalogue.read c)
    where
      go : (m : Option Statement) (n : Option Catalogue)
          → refusal (received (map (sized s) m) (map (sized c) n)) ≡ joined (of_statement (length s) m) (of_catalogue (length c) n)
      go none n = refl
      go (some v) none = no_tables (statement_within (length s) v) (names_beyond_ascii v)
      go (some v) (some t) = both_there (statement_within (length s) v) (catalogue_within (length c) t) (names_beyond_ascii v) (v, t)

  -- as the code joins them
  pub absent_first : {k : ℕ} → k ≡ cond (is_there (statement.read s)) 0 5 → (k ≡ 0 → ⊥) → k ≡ told_of_both s c
  absent_first {k} e n =
      let p : k ≡ told_of_statement s = absent_told s e n in
      let f : k ≡ 5 = absent s e n in
      sym (both_joined ∙ simp (← p, f))

  not_absent : (v : Statement) → of_statement (length s) (some v) ≡ 5 → ⊥
  not_absent v e = go (statement_within (length s) v) (names_beyond_ascii v) e
    where
      go : (w b : Bool) → ◌≡◌ {A = ℕ} (cond w (cond b 8 0) 7) 5 → ⊥
      go true true e = omega arith
      go true false e = omega arith
      go false b e = omega arith

  module _ {v : Statement} (h : Holds statement s v) {b : ℕ} (q : b ≡ told_of_catalogue c) where
    joined_told : told_of_both s c ≡ cond (eqb b 0) (of_statement (length s) (some v)) b
    joined_told =
        both_joined
        ∙ ap₂ joined (sym (judged_told s h)) (sym q)
        ∙ ap (λ (t : Bool). cond t 5 (cond (eqb b 0) (of_statement (length s) (some v)) b)) (ne_eqb (of_statement (length s) (some v)) 5 (not_absent v))

    pub catalogue_next : (b ≡ 0 → ⊥) → b ≡ told_of_both s c
    catalogue_next m = sym (joined_told ∙ ap (λ (t : Bool). cond t (of_statement (length s) (some v)) b) (ne_eqb b 0 m))

    pub statement_last : b ≡ 0 → of_statement (length s) (some v) ≡ told_of_both s c
    statement_last e = sym (joined_told ∙ ap (λ (t : Bool). cond t (of_statement (length s) (some v)) b) (eq-eqb b 0 e))
