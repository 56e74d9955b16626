-- `bind_create::inline_key` meets its contract.
use mathlib.Core.Path.{sym, ap}
use mathlib.Core.Bool.{Bool, cond}
use Rattle.bind_create.specs.declared.Key.TheVariants.{Column}
use Rattle.bind_create.proofs.inline_key.Goals as goal

pub returns-then-is_key : goal.returns-then-is_key
returns-then-is_key c = sym (ap (λ (b : Bool). cond b (Column c.args.i) c.args.key) c.if-is_key.true)

pub returns : goal.returns
returns c = sym (ap (λ (b : Bool). cond b (Column c.args.i) c.args.key) c.if-is_key.false)
