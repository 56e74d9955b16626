-- `image_catalogue::entry_name` meets its contract.
use borrow.Author.Rules.{rules}
use Rattle.image_catalogue.proofs.entry_name.Goals as goal

pub part-requires : goal.part-requires
part-requires c = let r = c.requires in search rules

pub returns : goal.returns
returns c = c.part.ensures
