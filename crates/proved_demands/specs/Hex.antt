-- Bytes from hexadecimal digits, for examples.
-- Assumes nothing: these are definitions.
use Rattle.std.specs.Prelude.{cond, List, [], ◌∷◌, ℕ, ◌+◌, ◌-◌, ◌*◌, leb}
use Prim.Native.Char.{code}
use Prim.Native.String.{String, [] as end-of-string, ◌∷◌ as ◌then◌}

abbrev pub digit : ℕ → ℕ
digit c = cond (leb c 0x39) (c - 0x30) (c - 0x57)

-- two digits, 0 to 9 and a to f, are a byte
abbrev pub hex : String → List ℕ
hex end-of-string = []
hex (a then end-of-string) = []
hex (a then (b then s)) = (digit (code a) * 16 + digit (code b)) ∷ hex s
