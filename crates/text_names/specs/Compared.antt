-- A name of the statement, as the code has it: whether it is quoted, and its bytes.
-- Assumes nothing: these are definitions.
use Rattle.std.specs.Prelude.{Bool, cond, map, ℕ}
use Rattle.rules.specs.Lists.{Text, same}
use Rattle.rules.specs.Statements.{Name}
use Rattle.rules.specs.Names.{fold}

abbrev pub named : Bool → Text → Name
named quoted text = record { quoted = quoted; text = text }

-- a byte of a name as it is compared
abbrev pub compared_byte : Bool → ℕ → ℕ
compared_byte quoted b = cond quoted b (fold b)

-- two texts, with the bytes of each so taken
abbrev pub agreeing : Bool → Bool → Text → Text → Bool
agreeing q1 q2 a b = same (map (compared_byte q1) a) (map (compared_byte q2) b)
