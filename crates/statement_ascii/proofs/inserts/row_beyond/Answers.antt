-- `statement_ascii::inserts::row_beyond` meets its contract.
use borrow.Author.Rules.{rules}
use Rattle.bytes_bundle.specs.Chains.{list_callable, list_looked}
use Rattle.image_expression.specs.Expression.{expression}
use Rattle.rules.specs.Limits.{expression_names}
use Rattle.statement_ascii.specs.Beyond.{gather_looks}
use Rattle.statement_ascii.proofs.inserts.row_beyond.Goals as goal

pub any-requires-clause-callable : goal.any-requires-clause-callable
any-requires-clause-callable c = list_callable expression 2 _ _ c.iter.ensures c.requires (λ x b q k. search rules) (λ x i. search rules)

pub returns : goal.returns
returns c = list_looked expression (gather_looks expression_names) 2 _ _ c.iter.ensures _ _ c.any.ensures.ran (λ x b q k. search rules)
