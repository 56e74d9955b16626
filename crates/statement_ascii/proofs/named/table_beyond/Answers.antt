-- `statement_ascii::named::table_beyond` meets its contract.
use Rattle.bytes_bundle.specs.Held.{is_held, held}
use Rattle.image_parts.specs.Layout.{relation}
use Rattle.statement_ascii.proofs.named.table_beyond.Goals as goal

pub relation_beyond-requires : goal.relation_beyond-requires
relation_beyond-requires c = held c.requires (λ v h. is_held {f = relation} (c.relation_of.ensures v h))

pub returns : goal.returns
returns c = λ v h. c.relation_beyond.ensures v.relation (c.relation_of.ensures v h)
