-- `image_statement::raw_of` meets its contract.
use borrow.Author.Rules.{rules}
use mathlib.Core.Path.{◌∙◌}
use Rattle.image_statement.specs.Held.{statement_has, statement_whole}
use Rattle.image_statement.proofs.raw_of.Goals as goal

pub part-requires : goal.part-requires
part-requires c = let r = statement_whole c.requires in search rules

pub returns : goal.returns
returns c = λ v h. c.part.ensures ∙ (statement_has _ v h).raw
