-- `span` meets its contract: a node of an image is there.
use Rattle.image_expression.specs.Laws.{has_room}
use Rattle.image_expression.proofs.Known.{known}
use Rattle.image_expression.proofs.span.Goals as goal

pub span-requires : goal.span-requires
span-requires c = has_room (known c.type_inv.s) c.requires
