-- A byte that is a character of its own and no white space: ASCII past the space.
-- Assumes nothing: this is a definition.
use Rattle.std.specs.Prelude.{ℕ, ◌≤◌, ◌<◌}

abbrev pub Plain : ℕ → Type 0
Plain b = (33 ≤ b) × (b < 128)
