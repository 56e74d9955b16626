-- `text` meets its contract: the content of a node of an image is there.
use Rattle.image_expression.specs.Laws.{has_content}
use Rattle.image_expression.proofs.Known.{known}
use Rattle.image_expression.proofs.text.Goals as goal

pub text-requires : goal.text-requires
text-requires c = has_content (known c.type_inv.s) c.requires
