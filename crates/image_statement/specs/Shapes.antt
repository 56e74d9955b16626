-- Whether bytes are a statement, or what is behind its raw text: a test for each thing that the code looks at.
-- Assumes nothing.
use Rattle.std.specs.Prelude.{refl, List, ℕ}
use Rattle.bytes_format.proofs.Formats.{text, end, ◌and◌}
use Rattle.bytes_utf8.specs.Decide.{is_utf8}
use Rattle.bytes_bundle.specs.Bundle.{is_there}
use Rattle.bytes_bundle.specs.Decides.{Decides}
use Rattle.bytes_bundle.specs.Laws.{Places, part, part_as, done, record_tests, via_record_decided}
use Rattle.bytes_bundle.specs.Fields.{text_is}
use Rattle.bytes_bundle.specs.Heads.{Chosen, sum_chosen}
use Rattle.image_parts.specs.Layout.{kind_cases, which_kind, kind_made, kind, statement}

pub kind_chosen : (s : List ℕ) → Chosen (is_there (kind.read s)) s kind_cases
unfolding kind
kind_chosen s = sum_chosen kind_cases which_kind kind_made refl refl s

abbrev pub statement_parts : Places (text and kind and end)
statement_parts = part_as text is_utf8 text_is (part kind done)

pub statement_decided : (s : List ℕ) → Decides (is_there (statement.read s)) (record_tests 2 statement_parts s)
unfolding statement
statement_decided s = via_record_decided 2 statement_parts s _
