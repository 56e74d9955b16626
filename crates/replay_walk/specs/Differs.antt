-- What a record is of says by which operation the answer of a case is judged.
-- Assumes nothing: this is a definition.
use Rattle.std.specs.Prelude.{Bool, not, List, ℕ}
use Rattle.op_received.specs.Entry.{bind_bytes, run_bytes}
use Rattle.replay_record.specs.declared.Of.{Of}
use Rattle.replay_record.specs.declared.Of.TheVariants.{Binds, Runs}
use Rattle.replay_record.specs.Layout.{answer, room, part}
use Rattle.replay_record.specs.Agrees.{is_recorded}

unfoldable pub differs : Of → List ℕ → Bool
differs Binds s = not (is_recorded (bind_bytes (part 3 0 s) (part 3 1 s) (room s)) (answer s) (part 3 2 s))
differs Runs s = not (is_recorded (run_bytes (part 4 0 s) (part 4 1 s) (part 4 2 s) (room s)) (answer s) (part 4 3 s))
