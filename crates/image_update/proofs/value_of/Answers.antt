-- `image_update::value_of` meets its contract.
use borrow.Author.Rules.{rules}
use Rattle.bytes_bundle.specs.Held.{same}
use Rattle.image_update.specs.Held.{assignment_has, assignment_whole}
use Rattle.image_expression.specs.Expression.{expression}
use Rattle.image_update.proofs.value_of.Goals as goal

pub part-requires : goal.part-requires
part-requires c = let r = assignment_whole c.requires in search rules

pub returns : goal.returns
returns c = λ v h. same expression c.part.ensures (assignment_has _ v h).value
