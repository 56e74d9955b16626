-- Names. "Quoted names keep their bytes. Unquoted ones fold A to Z only." "Object names of other than one part: 3."
-- Assumes nothing: these are definitions.
use Rattle.std.specs.Prelude.{Bool, cond, not, ◌&&◌, map, ℕ, ◌+◌, leb}
use Rattle.rules.specs.declared.Class.TheVariants.{UnsupportedSql}
use Rattle.rules.specs.Lists.{Text, any}
use Rattle.rules.specs.Answers.{Answer, given, refuse}
use Rattle.rules.specs.Statements.{Name, ObjectName, plain, qualified}

-- A to Z become a to z, and every other byte stays
abbrev pub fold : ℕ → ℕ
fold b = cond (leb 0x41 b && leb b 0x5A) (b + 0x20) b

-- the form that is compared with the catalogue's names: `normalize_identifier` of the Rust
unfoldable pub canonical : Name → Text
canonical n = cond n.quoted n.text (map fold n.text)

unfoldable pub simple_name : ObjectName → Answer Text
simple_name (plain n) = given (canonical n)
simple_name qualified = refuse UnsupportedSql

-- number 8: "an unquoted name in the statement holds a byte of 128 or more"
unfoldable pub beyond_ascii : Name → Bool
beyond_ascii n = not n.quoted && any (leb 128) n.text
