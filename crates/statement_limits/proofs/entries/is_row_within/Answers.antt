-- `statement_limits::entries::is_row_within` meets its contract.
use borrow.Author.Rules.{rules}
use Rattle.image_expression.specs.Expression.{expression}
use Rattle.statement_limits.specs.Lists.{list_takes, list_told}
use Rattle.statement_limits.specs.Within.{expression_within, row_within}
use Rattle.statement_limits.proofs.entries.is_row_within.Goals as goal

pub is_list_within-requires-clause-takes : goal.is_list_within-requires-clause-takes
is_list_within-requires-clause-takes c = list_takes expression _ c.requires (λ x i. search rules)

pub returns : goal.returns
unfolding row_within
returns c = list_told expression expression_within 64 _ c.is_list_within.ensures (λ x b k v h. search rules)
