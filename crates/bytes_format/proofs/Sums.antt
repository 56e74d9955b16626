-- Codes: one byte that says which case of a type follows. A data type gets its format so:
--     cases : List (Case T)                     a case for each constructor, in the order of the codes: case text Name ∷ case nothing (λ u. Other) ∷ []
--     which : T → Some cases                    which case a value is: which (Name s) = nth cases 0 s
--     made_which : (t : T) → made cases (which t) ≡ t        a `refl` for each constructor
--     choice (sum cases which made_which refl) refl : Format T
-- Assumes nothing.
use Rattle.std.specs.Prelude.{◌≡◌, true, ◌⊎◌, List, [], ◌∷◌, ◌++◌, ◌+◌, length, leb}
use Rattle.std.proofs.Math.Option.{some}
use Rattle.bytes_format.specs.Format.{Format, Fixed, Coded, Enum}
use Rattle.bytes_format.specs.Ways as W
use Rattle.bytes_format.proofs.Laws as L
pub use Rattle.bytes_format.specs.Ways.{Case, Some, nth, made, spread}

-- one byte, the code, and what follows it
abbrev pub choice : {T : Type 0} (c : Coded T) → leb c.count 256 ≡ true → Format T
choice c few = record {
  write = λ t. c.code t ∷ c.write t;
  read = W.choice_read c;
  Ok = c.Ok;
  there = c.there;
  back = L.choice_back c;
  bytes = L.choice_bytes c few;
}

-- codes with nothing behind them
abbrev pub kinds : {A : Type 0} → Enum A → Coded A
kinds e = record {
  count = length e.all;
  code = e.index;
  write = λ a. [];
  read = W.kind_read e;
  Ok = λ a. Unit {0};
  there = λ a h. e.found a;
  back = L.kind_back e;
  bytes = L.kind_bytes e;
}

-- a field between the code and what follows
abbrev pub beside : {A T : Type 0} → Fixed A → Coded T → Coded (A × T)
beside f c = record {
  count = c.count;
  code = λ p. c.code p.1;
  write = λ p. f.form.write p.0 ++ c.write p.1;
  read = W.beside_read f c;
  Ok = λ p. f.form.Ok p.0 × c.Ok p.1;
  there = L.beside_there f c;
  back = L.beside_back f c;
  bytes = L.beside_bytes f c;
}

-- the same codes for a type whose values are those of A
abbrev pub recode : {A T : Type 0} (c : Coded A) (f : A → T) (g : T → A) → ((t : T) → f (g t) ≡ t) → ((a : A) → g (f a) ≡ a) → Coded T
recode c f g fg gf = record {
  count = c.count;
  code = λ t. c.code (g t);
  write = λ t. c.write (g t);
  read = λ i s. W.next (c.read i s) (λ a. some (f a));
  Ok = λ t. c.Ok (g t);
  there = L.recode_there c f g fg;
  back = L.recode_back c f g gf;
  bytes = λ t h. c.bytes (g t) h;
}

-- the codes of A, and behind them those of B
abbrev pub either : {A B : Type 0} → Coded A → Coded B → Coded (A ⊎ B)
either c d = record {
  count = c.count + d.count;
  code = W.either_code c d;
  write = W.either_write c d;
  read = W.either_read c d;
  Ok = W.EitherOk c d;
  there = L.either_there c d;
  back = L.either_back c d;
  bytes = L.either_bytes c d;
}

-- ---- a code for each constructor

-- what follows the code, and the constructor
abbrev pub case : {A T : Type 0} → Format A → (A → T) → Case T
case {A} f k = record { Content = A; form = f; make = k }

abbrev pub some_of : {T : Type 0} (l : List (Case T)) → Coded (Some l)
some_of l = record {
  count = length l;
  code = W.some_code l;
  write = W.some_write l;
  read = W.some_read l;
  Ok = W.SomeOk l;
  there = L.some_there l;
  back = L.some_back l;
  bytes = L.some_bytes l;
}

abbrev pub sum : {T : Type 0} (l : List (Case T)) (which : T → Some l) → ((t : T) → made l (which t) ≡ t) → spread l (λ x. which (made l x)) ≡ spread l (λ x. x) → Coded T
sum l which mw wm = recode (some_of l) (made l) which mw (L.spread_one l (λ x. which (made l x)) (λ x. x) wm)
