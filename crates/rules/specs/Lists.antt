-- Lists, looked through from the front.
-- Assumes nothing: these are definitions.
use Rattle.std.specs.Prelude.{Bool, true, false, not, ◌&&◌, ◌||◌, List, [], ◌∷◌, ℕ, eqb}
use Rattle.std.proofs.Math.Option.{Option, none, some}
use Prim.Native.Char.{code}
use Prim.Native.String.{String, [] as end-of-string, ◌∷◌ as ◌then◌}

-- a text is a list of bytes
abbrev pub Text : Type 0
Text = List ℕ

-- the bytes of a text in ASCII
abbrev pub ascii : String → Text
ascii end-of-string = []
ascii (c then s) = code c ∷ ascii s

-- two texts are the same, byte for byte
abbrev pub same : Text → Text → Bool
same [] [] = true
same [] (y ∷ b) = false
same (x ∷ a) [] = false
same (x ∷ a) (y ∷ b) = eqb x y && same a b

abbrev pub is_some : {A : Type 0} → Option A → Bool
is_some none = false
is_some (some a) = true

module _ {A : Type 0} where
  abbrev pub is_empty : List A → Bool
  is_empty [] = true
  is_empty (x ∷ l) = false

  abbrev pub any : (A → Bool) → List A → Bool
  any p [] = false
  any p (x ∷ l) = p x || any p l

  abbrev pub all : (A → Bool) → List A → Bool
  all p [] = true
  all p (x ∷ l) = p x && all p l

  -- the first that passes
  abbrev pub find : (A → Bool) → List A → Option A
  find p [] = none
  find p (x ∷ l) = let t = find p l in elim (p x) [ true ↦ some x | false ↦ t ]

  -- no two are alike
  abbrev pub distinct : (A → A → Bool) → List A → Bool
  distinct alike [] = true
  distinct alike (x ∷ l) = not (any (alike x) l) && distinct alike l
