-- `write_insert::rows_in` meets its contract.
use Rattle.bytes_bundle.specs.Held.{is_held}
use Rattle.image_parts.specs.Layout.{source, insertion}
use Rattle.write_insert.specs.Written.{rows_held, rows_shown}
use Rattle.write_insert.proofs.rows_in.Goals as goal

pub source_of-requires : goal.source_of-requires
source_of-requires c = is_held {f = insertion} c.requires.reads

pub body_of-requires : goal.body_of-requires
body_of-requires c = let w = c.requires in is_held {f = source} (c.source_of.ensures w.statement w.source w.reads w.there)

pub rows_of-requires : goal.rows_of-requires
rows_of-requires c =
    let w = c.requires in
    let b = c.body_of.result.now in
    rows_shown b (rows_held b w.is (c.body_of.ensures w.source (c.source_of.ensures w.statement w.source w.reads w.there)))

pub returns : goal.returns
returns c = record {
  at = λ w q m rows h there is. c.rows_of.ensures m rows (rows_held c.body_of.result.now is (c.body_of.ensures q (c.source_of.ensures w q h there)));
}
