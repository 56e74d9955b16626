-- Images. A `Format A` writes a value as bytes and reads a value that FILLS its bytes: nothing is left over. What it writes it reads back (`there`),
-- and what it reads is what it would write (`back`). So a layout made of formats has one image for each value and one value for each image.
-- `Formats.antt` has the formats by name.
-- Assumes nothing.
use Rattle.std.specs.Prelude.{◌≡◌, refl, true, List, [], ◌∷◌, map, ℕ, zero, suc, ◌<◌, length, leb}
use Rattle.std.proofs.Common.{sym, ◌∙◌, ap}
use Rattle.std.proofs.Math.Option.{Option, none, some, none-ne-some, some-injective}
use Rattle.std.proofs.Math.ListN.{get_elem?}
use Rattle.bytes_wire.specs.Le.{Bytes}

pub record Format (A : Type 0) : Type 1 where
  pub write : A → List ℕ
  pub read : List ℕ → Option A
  -- the values that have an image: each number fits its field, each text is UTF-8
  pub Ok : A → Type 0
  pub there : (a : A) → Ok a → read (write a) ≡ some a
  pub back : (s : List ℕ) (a : A) → Bytes s → read s ≡ some a → (s ≡ write a) × Ok a
  pub bytes : (a : A) → Ok a → Bytes (write a)

-- a format whose images all have one length: what can stand in front of something else
pub record Fixed (A : Type 0) : Type 1 where
  pub width : ℕ
  pub form : Format A
  pub wide : (a : A) → form.Ok a → length (form.write a) ≡ width

-- P of each element
abbrev pub Every : {A : Type 0} → (A → Type 0) → List A → Type 0
Every P [] = Unit {0}
Every P (a ∷ l) = P a × Every P l

-- a value as parts, each with bytes of its own
pub record Parts (A : Type 0) : Type 1 where
  pub split : A → List (List ℕ)
  pub join : List (List ℕ) → Option A
  pub Ok : A → Type 0
  pub there : (a : A) → Ok a → join (split a) ≡ some a
  pub back : (l : List (List ℕ)) (a : A) → Every Bytes l → join l ≡ some a → (l ≡ split a) × Ok a
  pub bytes : (a : A) → Ok a → Every Bytes (split a)

-- a value as a code below `count` and what follows it; what follows is read by the code
pub record Coded (T : Type 0) : Type 1 where
  pub count : ℕ
  pub code : T → ℕ
  pub write : T → List ℕ
  pub read : ℕ → List ℕ → Option T
  pub Ok : T → Type 0
  pub there : (t : T) → Ok t → read (code t) (write t) ≡ some t
  pub back : (i : ℕ) (s : List ℕ) (t : T) → Bytes s → read i s ≡ some t → (i ≡ code t) × (s ≡ write t) × Ok t
  pub bytes : (t : T) → Ok t → (code t < count) × Bytes (write t)

-- i, i + 1 .., n numbers
abbrev pub count_from : ℕ → ℕ → List ℕ
count_from i zero = []
count_from i (suc n) = i ∷ count_from (suc i) n

-- a type of finitely many values in a row: `index` is a value's place there
pub record Enum (A : Type 0) : Type 0 where
  pub all : List A
  pub index : A → ℕ
  pub found : (a : A) → get_elem? all (index a) ≡ some a
  pub order : map index all ≡ count_from 0 (length all)
  pub few : leb (length all) 256 ≡ true

-- ---- whole images

module _ {A : Type 0} (f : Format A) where
  -- s is the image of v
  pub record Image (s : List ℕ) (v : A) : Type 0 where
    pub bytes : s ≡ f.write v
    pub ok : f.Ok v

  pub image_read : {s : List ℕ} {v : A} → Image s v → f.read s ≡ some v
  image_read {v = v} i = ap f.read i.bytes ∙ f.there v i.ok

  pub read_image : {s : List ℕ} {v : A} → Bytes s → f.read s ≡ some v → Image s v
  read_image {s} {v} b e = let k = f.back s v b e in record { bytes = k.0; ok = k.1 }

  pub no_image : {s : List ℕ} {v : A} → f.read s ≡ none → Image s v → ⊥
  no_image {v = v} e i = none-ne-some v (sym e ∙ image_read i)

  -- one value for each image
  pub unique : {s : List ℕ} {v w : A} → Image s v → Image s w → v ≡ w
  unique {v = v} {w = w} i j = some-injective v w (sym (image_read i) ∙ image_read j)

  -- one image for each value
  pub one_image : {s t : List ℕ} {v : A} → Image s v → Image t v → s ≡ t
  one_image i j = i.bytes ∙ sym j.bytes

  pub injective : (v w : A) → f.Ok v → f.Ok w → f.write v ≡ f.write w → v ≡ w
  injective v w h k e = unique {s = f.write v} (record { bytes = refl; ok = h }) (record { bytes = e; ok = k })
