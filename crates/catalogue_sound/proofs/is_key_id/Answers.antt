-- `catalogue_sound::is_key_id` meets its contract.
use Rattle.rules.specs.Tables.{is_key_column}
use mathlib.Core.Path.{ap, ◌∙◌}
use Rattle.catalogue_sound.proofs.is_key_id.Goals as goal

pub key_id-requires : goal.key_id-requires
key_id-requires c = c.requires.0

pub returns : goal.returns
returns c = λ k h cs g. c.is_key_column.ensures cs g ∙ ap (is_key_column cs) (c.key_id.ensures k h)
