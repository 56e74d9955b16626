-- `statement_limits::names::is_table_within` meets its contract.
use Rattle.bytes_bundle.specs.Held.{is_held, held}
use Rattle.image_parts.specs.Layout.{relation}
use Rattle.statement_limits.proofs.names.is_table_within.Goals as goal

pub is_relation_within-requires : goal.is_relation_within-requires
is_relation_within-requires c = held c.requires (λ v h. is_held {f = relation} (c.relation_of.ensures v h))

pub returns : goal.returns
returns c = λ v h. c.is_relation_within.ensures v.relation (c.relation_of.ensures v h)
