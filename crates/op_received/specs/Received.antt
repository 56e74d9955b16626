-- What is known once both images are received: what each holds.
-- Assumes nothing.
use Rattle.std.specs.Prelude.{◌≡◌, Bool, cond, not, ◌&&◌, List, ℕ, length}
use Rattle.std.proofs.Math.Path.{refl, ap₂}
use Rattle.std.proofs.Common.{◌∙◌, arith}
use Rattle.std.proofs.Math.Bool.{true, false}
use Rattle.std.proofs.Math.Option.{Option, none, some, map}
use Rattle.bytes_bundle.specs.Held.{Holds}
use Rattle.rules.specs.Tables.{Catalogue}
use Rattle.rules.specs.Statements.{Statement}
use Rattle.rules.specs.Limits.{statement_within, catalogue_within, names_beyond_ascii}
use Rattle.rules.specs.Heard.{refuses, answers, received}
use Rattle.image_parts.specs.Layout as statement-layout
use Rattle.image_parts.specs.Layout.{statement}
use Rattle.image_catalogue.specs.Layout as catalogue-layout
use Rattle.image_catalogue.specs.Layout.{catalogue}
use Rattle.op_reply.specs.Leaves.{refusal}
use Rattle.op_received.specs.Entry.{sized, read_statement, read_catalogue}
use Rattle.op_received.specs.Told.{told_of_both}

-- the rules are asked of these
pub record Received (s c : List ℕ) : Type 0 where
  pub value : Statement
  pub tables : Catalogue
  pub holds : Holds statement s value
  pub lists : Holds catalogue c tables
  pub within : statement_within (length s) value ≡ true
  pub asked : received (read_statement s) (read_catalogue c) ≡ answers (value, tables)

module _ (s c : List ℕ) where
  pub both_received : told_of_both s c ≡ 0 → Received s c
  unfolding told_of_both read_statement read_catalogue statement-layout.decode catalogue-layout.decode
  both_received h = go (statement.read s) (catalogue.read c) refl refl h
    where
      go : (m : Option Statement) (n : Option Catalogue) → statement.read s ≡ m → catalogue.read c ≡ n
          → refusal (received (map (sized s) m) (map (sized c) n)) ≡ 0 → Received s c
      go none n p q h = absurd (omega arith)
      go (some v) none p q h = absurd (omega arith)
      go (some v) (some t) p q h = cases (statement_within (length s) v) (catalogue_within (length c) t) (names_beyond_ascii v) refl refl refl h
        where
          cases : (w x b : Bool) → statement_within (length s) v ≡ w → catalogue_within (length c) t ≡ x → names_beyond_ascii v ≡ b
              → refusal {A = Statement × Catalogue} (cond (not (w && x)) (refuses 7) (cond b (refuses 8) (answers (v, t)))) ≡ 0 → Received s c
          cases true true false e f g h = record {
            value = v;
            tables = t;
            holds = p;
            lists = q;
            within = e;
            asked =
                ap₂ (λ (m : Option Statement) (n : Option Catalogue). received (map (sized s) m) (map (sized c) n)) p q
                ∙ simp (e, f, g);
          }
          cases true true true e f g h = absurd (omega arith)
          cases true false b e f g h = absurd (omega arith)
          cases false x b e f g h = absurd (omega arith)
