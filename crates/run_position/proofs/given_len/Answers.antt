-- `run_position::given_len` meets its contract.
use mathlib.Core.Path.{ap, ◌∙◌}
use lib.ListN.{length}
use Rattle.image_value.specs.Parts.{value}
use Rattle.rules.specs.Bound.{Value}
use Rattle.run_position.specs.Drawing.{comes_some, comes_value}
use Rattle.run_position.proofs.given_len.Goals as goal

pub unwrap-requires : goal.unwrap-requires
unwrap-requires c = comes_some c.work_out.result c.work_out.ensures.comes c.requires.1

pub returns : goal.returns
returns c = (
  c.worth_len.ensures.bounded (rw c.unwrap.ensures at c.work_out.ensures.short),
  λ u d. c.worth_len.ensures.exact ∙ ap (λ (v : Value). length (value.write v)) (comes_value c.work_out.result c.work_out.ensures.comes c.unwrap.ensures d),
)
