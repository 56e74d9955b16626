-- `kind` meets its contract: a node of an image is there.
use Rattle.image_expression.specs.Laws.{has_room}
use Rattle.image_expression.proofs.Known.{known}
use Rattle.image_expression.proofs.kind.Goals as goal

pub kind-requires : goal.kind-requires
kind-requires c = has_room (known c.type_inv.s) c.requires
