-- `image_statement::is_statement` meets its contract.
use Rattle.bytes_bundle.specs.Bundle.{IsRecord}
use Rattle.bytes_bundle.specs.Decides.{on, last, failed, passed}
use Rattle.bytes_bundle.specs.Laws.{is_record_lem}
use Rattle.bytes_bundle.specs.Heads.{fails, is_a, told}
use Rattle.image_statement.specs.Shapes.{statement_decided}
use Rattle.bytes_utf8.specs.Decide.{is_utf8}
use Rattle.image_parts.specs.Layout.{kind}
use borrow.Author.Rules.{rules}
use Rattle.image_statement.proofs.is_statement.Goals.{Else-not-is_record}
use Rattle.std.proofs.Common.{ap}
use Rattle.std.proofs.Common.{not}
use Rattle.image_statement.proofs.is_statement.Goals as goal

pub returns-then-not-is_record : goal.returns-then-not-is_record
returns-then-not-is_record c = fails (statement_decided c.args.s.now) 0 (failed c.is_record.ensures (ap not c.if-not-is_record.true))

-- behind the first test
shaped : (c : Else-not-is_record) → IsRecord 2 2 c.args.s.now
shaped c = is_record_lem (passed c.is_record.ensures (ap not c.if-not-is_record.false))

pub part-requires : goal.part-requires
part-requires c = let i = shaped (goal.at.part-requires c).Else-not-is_record in search rules

pub returns-then-not-is_utf8 : goal.returns-then-not-is_utf8
returns-then-not-is_utf8 c =
    fails (statement_decided c.args.s.now) 1
    (failed (told is_utf8 c.is_utf8.ensures c.part.ensures) (ap not c.if-not-is_utf8.true))

pub part-requires-2 : goal.part-requires-2
part-requires-2 c = let i = shaped (goal.at.part-requires-2 c).Else-not-is_record in search rules

pub returns : goal.returns
returns c =
    last (on (on (statement_decided c.args.s.now) (passed c.is_record.ensures (ap not c.if-not-is_record.false)))
    (passed (told is_utf8 c.is_utf8.ensures c.part.ensures) (ap not c.if-not-is_utf8.false)))
    (told (is_a kind) c.is_kind.ensures c.part-2.ensures)
