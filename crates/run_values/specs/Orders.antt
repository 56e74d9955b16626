-- How two values of an ordered kind stand to each other, in the rules' words.
-- Assumes nothing.
use Rattle.std.specs.Prelude.{◌≡◌, false}
use Rattle.std.proofs.Math.Option.{none, some}
use Rattle.std.specs.declared.cmp.Ordering.{Ordering}
use Rattle.std.specs.Ordering.{is_eq, is_lt, is_gt}
use Rattle.rules.specs.Bound.{Value}
use Rattle.rules.specs.Evaluate.{is_null, as_bool, equal, less}

pub record Ordered (p q : Value) (o : Ordering) : Type 0 where
  pub alike : equal p q ≡ some (is_eq o)
  pub below : less p q ≡ some (is_lt o)
  pub above : less q p ≡ some (is_gt o)
  pub no_bool : as_bool p ≡ none
  pub left : is_null p ≡ false
  pub right : is_null q ≡ false
