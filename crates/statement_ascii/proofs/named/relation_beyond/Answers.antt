-- `statement_ascii::named::relation_beyond` meets its contract.
use Rattle.statement_ascii.specs.Beyond.{Beyond}
use Rattle.bytes_bundle.specs.Looks.{Inside, inside_is, inside_says}
use Rattle.statement_limits.specs.Cases.{no_relation, relation_inside, is_direct_lem}
use Rattle.rules.specs.Limits.{object_names, relation_names}
use Rattle.image_parts.specs.Layout.{object_name, relation}
use mathlib.Core.Path.{sym, ap, ◌∙◌}
use Rattle.statement_ascii.proofs.named.relation_beyond.Goals.{After-relation_name}
use Rattle.statement_ascii.proofs.named.relation_beyond.Goals as goal

inner : (c : After-relation_name) → Inside relation object_name relation_names object_names c.args.s.now c.relation_name.result.now
inner c = relation_inside (λ v h. is_direct_lem v (sym (c.relation_code.ensures v h) ∙ c.if-relation_code-ne1.false)) c.relation_name.ensures

pub returns-then-relation_code-ne1 : goal.returns-then-relation_code-ne1
returns-then-relation_code-ne1 c = λ v h. sym (ap Beyond (no_relation v (λ e. c.if-relation_code-ne1.true (c.relation_code.ensures v h ∙ e))))

pub relation_name-requires : goal.relation_name-requires
relation_name-requires c = record { there = c.requires.there; case = λ v h. is_direct_lem v (sym (c.relation_code.ensures v h) ∙ c.if-relation_code-ne1.false) }

pub object_name_beyond-requires : goal.object_name_beyond-requires
object_name_beyond-requires c = inside_is (inner (goal.at.object_name_beyond-requires c).After-relation_name) c.requires

pub returns : goal.returns
returns c = inside_says (inner (goal.at.returns c).After-relation_name) Beyond c.object_name_beyond.ensures
