-- `statement_limits::selects::is_query_within` meets its contract.
use Rattle.bytes_bundle.specs.Held.{is_held, held}
use Rattle.image_parts.specs.Layout.{query_body}
use Rattle.statement_limits.proofs.selects.is_query_within.Goals as goal

pub is_body_within-requires : goal.is_body_within-requires
is_body_within-requires c = held c.requires (λ v h. is_held {f = query_body} (c.body_of.ensures v h))

pub returns : goal.returns
returns c = λ v h. c.is_body_within.ensures v.body (c.body_of.ensures v h)
