-- A condition that may be there, with names within the limit: what it is where the code has seen whether it is there.
-- Assumes nothing.
use Rattle.std.specs.Prelude.{◌≡◌, refl, Bool, true, false, List, [], ℕ}
use Rattle.std.proofs.Common.{sym, ap, ◌∙◌, true≢false}
use Rattle.std.proofs.lemmas.Bool.{false≢true}
use Rattle.std.proofs.Math.Option.{Option, none, some}
use Rattle.bytes_bundle.specs.Bundle.{is_there}
use Rattle.bytes_bundle.specs.Held.{Is, Holds, is_held, held, held_once}
use Rattle.image_expression.specs.Expression.{expression}
use Rattle.image_expression.specs.Names.{Within}
use Rattle.bind_table.specs.Short.{all_front}
use Rattle.rules.specs.Limits.{gather, if_there, expression_names}
use Rattle.rules.specs.Lists.{all}
use Rattle.rules.specs.Statements.{Expr}
use Rattle.image_parts.specs.Layout.{condition}
use Rattle.image_parts.specs.NamesHeld.{condition_holds}
use Rattle.bind_where.specs.Short.{ShortExpression, short_condition}

-- the names of a condition, if it is there
abbrev pub condition_names : Option Expr → Bool
condition_names o = all Within (gather expression_names (if_there o))

pub record ShortCondition (e : List ℕ) : Type 0 where
  pub is : Is condition e
  pub short : (o : Option Expr) → Holds condition e o → condition_names o ≡ true

pub condition_within_lem : (e : List ℕ) {o : Option Expr} → Holds condition e o → condition_names o ≡ true → ShortCondition e
condition_within_lem e h n = record { is = is_held {f = condition} {s = e} h; short = λ o k. ap condition_names (held_once condition {s = e} k h) ∙ n }

-- a condition that is there
pub record There (e : List ℕ) : Type 0 where
  pub value : Expr
  pub holds : Holds condition e (some value)

-- by what the code has seen
module _ (e : List ℕ) {b : Bool} (k : (o : Option Expr) → Holds condition e o → b ≡ is_there o) where
  pub absent : b ≡ false → (o : Option Expr) → Holds condition e o → o ≡ none
  absent f none h = refl
  absent f (some x) h = absurd (true≢false (sym (k (some x) h) ∙ f))

  pub present : Is condition e → b ≡ true → There e
  present i t = held {f = condition} {s = e} i go
    where
      go : (o : Option Expr) → Holds condition e o → There e
      go none h = absurd (false≢true (sym (k none h) ∙ t))
      go (some x) h = record { value = x; holds = h }

module _ {e : List ℕ} (w : There e) where
  pub there_is : (o : Option Expr) → Holds condition e o → o ≡ some w.value
  there_is o h = held_once condition {s = e} h w.holds

  pub there_reads : Holds expression e w.value
  there_reads = condition_holds e w.value w.holds

  pub there_short : ShortCondition e → ShortExpression e
  there_short s = short_condition w.holds (all_front Within (expression_names w.value) [] (s.short (some w.value) w.holds))
