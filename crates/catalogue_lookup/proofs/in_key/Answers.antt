-- `catalogue_lookup::in_key` meets its contract.
use Rattle.bytes_bundle.specs.Held.{is_held, held}
use Rattle.bytes_format.proofs.Formats.{alone, list_of}
use Rattle.rules.specs.Lookup.{in_key}
use Rattle.image_value.specs.Parts.{column_id}
use Rattle.catalogue_lookup.proofs.in_key.Goals as goal

pub has_id-requires : goal.has_id-requires
has_id-requires c = held c.requires (λ v h. is_held {f = list_of 2 (alone column_id)} (c.key.ensures v h))

pub returns : goal.returns
unfolding in_key
returns c = λ v h. c.has_id.ensures v.key (c.key.ensures v h)
