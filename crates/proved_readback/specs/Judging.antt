-- What an answer tells of the images that it was given for.
-- Assumes nothing.
use Rattle.std.specs.Prelude.{◌≡◌, Bool, true, false, cond, List, ℕ, leb}
use Rattle.std.proofs.Common.{sym, ap, ◌∙◌}
use Rattle.std.proofs.Math.Option.{Option, none, some, map}
use Rattle.image_parts.specs.Layout as statement
use Rattle.image_catalogue.specs.Layout as catalogue
use Rattle.rules.specs.Tables.{Catalogue}
use Rattle.rules.specs.Statements.{Statement}
use Rattle.rules.specs.Heard.{Outcome, refuses, answers, Read, received, fitted}
use Rattle.rules.proofs.Theorems.Answered.{never_some}
use Rattle.rules.proofs.Theorems.Steps.{never_answers}
use Rattle.rules.proofs.Theorems.Order.{received_clear}
use Rattle.op_received.specs.Entry.{sized, read_statement, read_catalogue}

-- ---- what was read

read_is : {A : Type 0} (s : List ℕ) (o : Option A) {r : Read A} → map (sized s) o ≡ some r → o ≡ some r.value
read_is s none h = absurd (never_some h)
read_is s (some a) {r} h = let e : sized s a ≡ r = cc in ap (λ x. some x.value) e

read_statement_lem : (s : List ℕ) {r : Read Statement} → read_statement s ≡ some r → statement.decode s ≡ some r.value
unfolding read_statement
read_statement_lem s h = read_is s (statement.decode s) h

read_catalogue_lem : (s : List ℕ) {r : Read Catalogue} → read_catalogue s ≡ some r → catalogue.decode s ≡ some r.value
unfolding read_catalogue
read_catalogue_lem s h = read_is s (catalogue.decode s) h

-- the images of which an answer is given
pub record Judged (s c : List ℕ) (v : Statement) (cat : Catalogue) : Type 0 where
  pub is_statement : statement.decode s ≡ some v
  pub is_catalogue : catalogue.decode c ≡ some cat

pub judged_of : (s c : List ℕ) (p : Statement × Catalogue) → received (read_statement s) (read_catalogue c) ≡ answers p → Judged s c p.0 p.1
judged_of s c p h =
    let k = (received_clear (read_statement s) (read_catalogue c) p).0 h in
    record {
      is_statement = read_statement_lem s k.within.images.is_statement ∙ ap some (sym k.is_statement);
      is_catalogue = read_catalogue_lem c k.within.images.is_catalogue ∙ ap some (sym k.is_catalogue);
    }

-- ---- what was answered

pub answers_same : {A : Type 0} {a b : A} → answers a ≡ answers b → a ≡ b
answers_same h = cc

pub fitted_answers : {A : Type 0} (size : A → ℕ) (room : ℕ) (o : Outcome A) {a : A} → fitted size room o ≡ answers a → o ≡ answers a
fitted_answers size room (refuses k) h = h
fitted_answers size room (answers b) {a} h = go (leb (size b) room) h
  where
    go : (t : Bool) → cond t (answers b) (refuses 9) ≡ answers a → answers b ≡ answers a
    go true q = q
    go false q = absurd (never_answers q)

-- a statement that has an image has a kind that has one
pub kind_ok : (v : Statement) → statement.HasImage v → (statement.kind).Ok v.kind
unfolding statement.HasImage statement.statement
kind_ok v h = h.2.1.0
