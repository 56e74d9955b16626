-- `statement_ascii::selects::body_beyond` meets its contract.
use Rattle.statement_ascii.specs.Beyond.{Beyond}
use Rattle.bytes_bundle.specs.Looks.{Inside, inside_is, inside_says}
use Rattle.statement_limits.specs.Cases.{no_select, select_inside}
use Rattle.rules.specs.Limits.{Held, held_by_select, held_by_body}
use Rattle.image_parts.specs.Layout.{select, query_body}
use mathlib.Core.Path.{sym, ap, ◌∙◌}
use Rattle.statement_ascii.proofs.selects.body_beyond.Goals.{After-select_of}
use Rattle.statement_ascii.proofs.selects.body_beyond.Goals as goal

inner : (c : After-select_of) → Inside query_body select held_by_body held_by_select c.args.b.now c.select_of.result.now
inner c = select_inside (λ v h. sym (c.body_code.ensures v h) ∙ c.if-body_code-ne1.false) c.select_of.ensures

pub returns-then-body_code-ne1 : goal.returns-then-body_code-ne1
returns-then-body_code-ne1 c = λ v h. sym (ap (λ (h : Held). Beyond h.names) (no_select v (λ e. c.if-body_code-ne1.true (c.body_code.ensures v h ∙ e))))

pub select_beyond-requires : goal.select_beyond-requires
select_beyond-requires c = inside_is (inner (goal.at.select_beyond-requires c).After-select_of) c.requires

pub returns : goal.returns
returns c = inside_says (inner (goal.at.returns c).After-select_of) (λ (h : Held). Beyond h.names) c.select_beyond.ensures
