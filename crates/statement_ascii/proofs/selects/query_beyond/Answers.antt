-- `statement_ascii::selects::query_beyond` meets its contract.
use Rattle.bytes_bundle.specs.Held.{is_held, held}
use Rattle.image_parts.specs.Layout.{query_body}
use Rattle.statement_ascii.proofs.selects.query_beyond.Goals as goal

pub body_beyond-requires : goal.body_beyond-requires
body_beyond-requires c = held c.requires (λ v h. is_held {f = query_body} (c.body_of.ensures v h))

pub returns : goal.returns
returns c = λ v h. c.body_beyond.ensures v.body (c.body_of.ensures v h)
