-- `nodes` meets its contract: an image has a count.
use native.Mathlib.Omega.{arith}
use Rattle.image_expression.specs.Laws.{image_laid}
use Rattle.image_expression.proofs.Known.{known}
use Rattle.image_expression.proofs.nodes.Goals as goal

pub count-requires : goal.count-requires
count-requires c = let d = image_laid (known c.type_inv.s) c.requires in omega (arith, d.room)
