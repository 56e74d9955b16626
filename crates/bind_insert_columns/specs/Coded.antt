-- The type and the nullability of a target column as one byte, and the bytes of all of them in an array: what a row's values are held against.
-- Assumes nothing.
use Rattle.std.specs.Prelude.{◌≡◌, Bool, List, [], ◌∷◌, map, ℕ, zero, suc, ◌+◌, ◌%◌, ◌<◌, length, take, drop, get_or}
use Rattle.std.proofs.Math.Path.{refl}
use Rattle.std.proofs.Common.{sym, ap, ◌∙◌, arith, length-drop, get_or-take}
use Rattle.std.proofs.Math.Bool.{true, false}
use Rattle.std.proofs.Math.Dec.{leb}
use Rattle.image_value.specs.Parts.{data_type_no}
use Rattle.rules.specs.declared.DataType.{DataType}
use Rattle.rules.specs.declared.DataType.TheVariants as data-type
use Rattle.rules.specs.Bound.{BoundColumnRef}

-- ---- one column

abbrev pub null_no : Bool → ℕ
null_no false = 0
null_no true = 4

abbrev pub code_of : DataType → Bool → ℕ
code_of t n = data_type_no t + null_no n

unfoldable pub column_code : BoundColumnRef → ℕ
column_code c = code_of c.ty c.nullable

pub code_nullable : (t : DataType) {n : Bool} → n ≡ true → data_type_no t + 4 ≡ code_of t n
code_nullable t e = ap (λ (b : Bool). code_of t b) (sym e)

pub code_not_null : (t : DataType) {n : Bool} → n ≡ false → data_type_no t ≡ code_of t n
code_not_null t {n} e = let z : code_of t n ≡ data_type_no t + 0 = ap (code_of t) e in omega (arith, z)

module _ (c : BoundColumnRef) where
  pub code_int : column_code c % 4 ≡ 0 → data-type.Int ≡ c.ty
  unfolding column_code
  code_int h = go c.ty c.nullable h
    where
      go : (t : DataType) (n : Bool) → code_of t n % 4 ≡ 0 → data-type.Int ≡ t
      go data-type.Int n h = refl
      go data-type.Text true h = absurd (omega arith)
      go data-type.Text false h = absurd (omega arith)
      go data-type.Bool true h = absurd (omega arith)
      go data-type.Bool false h = absurd (omega arith)

  pub code_text : column_code c % 4 ≡ 1 → data-type.Text ≡ c.ty
  unfolding column_code
  code_text h = go c.ty c.nullable h
    where
      go : (t : DataType) (n : Bool) → code_of t n % 4 ≡ 1 → data-type.Text ≡ t
      go data-type.Int true h = absurd (omega arith)
      go data-type.Int false h = absurd (omega arith)
      go data-type.Text n h = refl
      go data-type.Bool true h = absurd (omega arith)
      go data-type.Bool false h = absurd (omega arith)

  pub code_bool : (column_code c % 4 ≡ 0 → ⊥) → (column_code c % 4 ≡ 1 → ⊥) → data-type.Bool ≡ c.ty
  unfolding column_code
  code_bool h k = go c.ty c.nullable h k
    where
      go : (t : DataType) (n : Bool) → (code_of t n % 4 ≡ 0 → ⊥) → (code_of t n % 4 ≡ 1 → ⊥) → data-type.Bool ≡ t
      go data-type.Int true h k = absurd (h refl)
      go data-type.Int false h k = absurd (h refl)
      go data-type.Text true h k = absurd (k refl)
      go data-type.Text false h k = absurd (k refl)
      go data-type.Bool n h k = refl

  pub code_null : leb 4 (column_code c) ≡ c.nullable
  unfolding column_code
  code_null = go c.ty c.nullable
    where
      go : (t : DataType) (n : Bool) → leb 4 (code_of t n) ≡ n
      go data-type.Int true = refl
      go data-type.Int false = refl
      go data-type.Text true = refl
      go data-type.Text false = refl
      go data-type.Bool true = refl
      go data-type.Bool false = refl

-- ---- all of them

-- the array begins with the columns' bytes
pub record Coded (codes : List ℕ) (cs : List BoundColumnRef) : Type 0 where
  pub is : take (length cs) codes ≡ map column_code cs

pub coded_at : {codes : List ℕ} {cs : List BoundColumnRef} {c : BoundColumnRef} {l : List BoundColumnRef} (j : ℕ)
    → Coded codes cs → drop j cs ≡ c ∷ l → get_or codes j 0 ≡ column_code c
coded_at {codes} {cs} {c} {l} j k d = sym (get_or-take (length cs) codes j 0 few) ∙ ap (λ (m : List ℕ). get_or m j 0) k.is ∙ go j cs d
  where
    few : j < length cs
    few = omega (arith, length-drop j cs, ap length d)

    go : (j : ℕ) (cs : List BoundColumnRef) → drop j cs ≡ c ∷ l → get_or (map column_code cs) j 0 ≡ column_code c
    go zero [] d = absurd (omega (arith, ap length d))
    go (suc j) [] d = absurd (omega (arith, ap length d))
    go zero (b ∷ cs) d = ap (λ (m : List BoundColumnRef). get_or (map column_code m) 0 0) d
    go (suc j) (b ∷ cs) d = go j cs d
