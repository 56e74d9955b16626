-- `image_value::text_of` meets its contract.
use native.Mathlib.Omega.{arith}
use mathlib.Core.Path.{◌∙◌}
use Rattle.image_value.specs.Values.{behind_code, text_has, text_wide}
use Rattle.image_value.proofs.text_of.Goals as goal

pub slice_bounds-result-count : goal.slice_bounds-result-count
slice_bounds-result-count c = omega (arith, text_wide c.requires)

pub slice_bounds-result-start : goal.slice_bounds-result-start
slice_bounds-result-start c = omega (arith, text_wide c.requires)

pub returns : goal.returns
returns c = λ t h. let s = c.args.v.now in behind_code s ∙ text_has s t h
