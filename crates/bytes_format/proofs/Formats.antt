-- The formats by name. docs/IMAGES.md says what each is; `Ways.antt` has how they write and read, `Laws.antt` their laws.
-- Assumes nothing.
use Rattle.std.specs.Prelude.{◌≡◌, refl, Bool, true, false, cond, List, [], ◌∷◌, map, ℕ, ◌+◌, ◌*◌, ◌^◌, ◌<◌, length, ℤ}
use Rattle.std.proofs.Common.{ap, to_z, of_z, to_z-of_z}
use Rattle.std.proofs.Math.Option.{Option, none, some}
use Rattle.std.proofs.lemmas.List.{length-map}
use Rattle.std.specs.Int.Signed.{mag}
use Rattle.std.specs.Int.{w64}
use mir.ValLaws.{of_z_fits}
use Rattle.bytes_wire.specs.Le.{Bytes, le, length_le, cons_bytes}
use Rattle.bytes_utf8.specs.Decide.{is_utf8}
use Rattle.bytes_format.specs.Format.{Format, Fixed, Parts, Every, Enum}
use Rattle.bytes_format.specs.Ways as W
use Rattle.bytes_format.proofs.Laws as L

-- ---- fields

-- a text: UTF-8, to the end of its part
abbrev pub text : Format (List ℕ)
text = record {
  write = λ s. s;
  read = λ s. cond (is_utf8 s) (some s) none;
  Ok = λ s. is_utf8 s ≡ true;
  there = L.text_there;
  back = L.text_back;
  bytes = L.text_bytes;
}

-- no bytes
abbrev pub nothing : Format (Unit {0})
nothing = record {
  write = λ u. [];
  read = W.nothing_read;
  Ok = λ u. Unit {0};
  there = λ u h. refl;
  back = L.nothing_back;
  bytes = λ u h. L.nil_bytes;
}

-- a number of k bytes
abbrev pub number : ℕ → Fixed ℕ
number k = record {
  width = k;
  form = record {
    write = le k;
    read = W.number_read k;
    Ok = λ n. n < 256 ^ k;
    there = L.number_there k;
    back = L.number_back k;
    bytes = λ n h. L.le_bytes k n;
  };
  wide = λ n h. length_le k n;
}

-- k bytes as they are
abbrev pub raw : ℕ → Fixed (List ℕ)
raw k = record {
  width = k;
  form = record {
    write = λ s. s;
    read = W.raw_read k;
    Ok = λ s. (length s ≡ k) × Bytes s;
    there = L.raw_there k;
    back = L.raw_back k;
    bytes = λ s h. h.1;
  };
  wide = λ s h. h.0;
}

-- a code with nothing behind it: a value's place among all
abbrev pub code : {A : Type 0} → Enum A → Fixed A
code e = record {
  width = 1;
  form = record {
    write = λ a. e.index a ∷ [];
    read = W.code_read e;
    Ok = λ a. Unit {0};
    there = λ a h. e.found a;
    back = L.code_back e;
    bytes = λ a h. cons_bytes (L.index_small e a) L.nil_bytes;
  };
  wide = λ a h. refl;
}

abbrev pub bools : Enum Bool
bools = record { all = false ∷ true ∷ []; index = W.bool_index; found = L.bool_found; order = refl; few = refl }

-- a mark: 0 for no, 1 for yes
abbrev pub mark : Fixed Bool
mark = code bools

-- a field with nothing behind it
abbrev pub alone : {A : Type 0} → Fixed A → Format A
alone f = f.form

-- ---- the same bytes for other values

-- those values of A for which f gives a B
module _ {A B : Type 0} (c : Format A) (f : A → Option B) (g : B → A) (Ok' : B → Type 0)
    (fg : (b : B) → Ok' b → f (g b) ≡ some b) (ok : (b : B) → Ok' b → c.Ok (g b)) (gf : (a : A) (b : B) → c.Ok a → f a ≡ some b → (a ≡ g b) × Ok' b) where
  abbrev pub refine : Format B
  refine = record {
    write = λ b. c.write (g b);
    read = λ s. W.next (c.read s) f;
    Ok = Ok';
    there = L.refine_there c f g Ok' fg ok gf;
    back = L.refine_back c f g Ok' fg ok gf;
    bytes = λ b h. c.bytes (g b) (ok b h);
  }

-- a type whose values are those of A
abbrev pub via : {A B : Type 0} (c : Format A) (f : A → B) (g : B → A) → ((b : B) → f (g b) ≡ b) → ((a : A) → c.Ok a → g (f a) ≡ a) → Format B
via c f g fg gf = refine c (λ a. some (f a)) g (λ b. c.Ok (g b)) (λ b h. ap some (fg b)) (λ b h. h) (L.via_back c f g gf)

-- only values that pass a test
abbrev pub checked : {A : Type 0} → Format A → (A → Bool) → Format A
checked c test = refine c (λ a. cond (test a) (some a) none) (λ a. a) (λ a. c.Ok a × (test a ≡ true)) (λ a h. rw h.1) (λ a h. h.0) (L.checked_back c test)

-- the same for a field
module _ {A B : Type 0} (c : Fixed A) (f : A → Option B) (g : B → A) (Ok' : B → Type 0)
    (fg : (b : B) → Ok' b → f (g b) ≡ some b) (ok : (b : B) → Ok' b → c.form.Ok (g b)) (gf : (a : A) (b : B) → c.form.Ok a → f a ≡ some b → (a ≡ g b) × Ok' b) where
  abbrev pub refine_field : Fixed B
  refine_field = record { width = c.width; form = refine c.form f g Ok' fg ok gf; wide = λ b h. c.wide (g b) (ok b h) }

abbrev pub checked_field : {A : Type 0} → Fixed A → (A → Bool) → Fixed A
checked_field c test = record { width = c.width; form = checked c.form test; wide = λ a h. c.wide a h.0 }

abbrev pub via_field : {A B : Type 0} (c : Fixed A) (f : A → B) (g : B → A) → ((b : B) → f (g b) ≡ b) → ((a : A) → c.form.Ok a → g (f a) ≡ a) → Fixed B
via_field c f g fg gf = record { width = c.width; form = via c.form f g fg gf; wide = λ b h. c.wide (g b) h }

-- a signed number of 8 bytes, two's complement
abbrev pub int64 : Fixed ℤ
int64 = refine_field (number 8) (λ n. some (to_z w64 n)) (of_z w64) (λ z. mag z < 2 ^ 63)
    (λ z h. ap some (to_z-of_z {w = w64} (record { sfits = h }))) (λ z h. (of_z_fits w64 z (record { sfits = h })).fits) L.int64_back

-- ---- one thing behind another

-- a field, and a format that depends on it fills the rest
abbrev pub headed : {A : Type 0} {B : A → Type 0} → Fixed A → ((a : A) → Format (B a)) → Format ((a : A) × B a)
headed f g = record {
  write = W.headed_write f g;
  read = W.headed_read f g;
  Ok = W.HeadedOk f g;
  there = L.headed_there f g;
  back = L.headed_back f g;
  bytes = L.headed_bytes f g;
}

-- two fields
abbrev pub both : {A B : Type 0} → Fixed A → Fixed B → Fixed (A × B)
both f g = record { width = f.width + g.width; form = headed f (λ a. g.form); wide = L.both_wide f g }

-- n fields of one kind
abbrev pub row : {A : Type 0} → Fixed A → ℕ → Fixed (List A)
row f n = record {
  width = n * f.width;
  form = record {
    write = W.row_write f;
    read = W.row_read f n;
    Ok = λ l. (length l ≡ n) × Every f.form.Ok l;
    there = λ l h. rw (← h.0) (L.row_there f l h.1);
    back = L.row_back f n;
    bytes = λ l h. L.row_bytes_lem f l h.1;
  };
  wide = λ l h. rw (← h.0) (L.row_wide f l h.1);
}

-- pieces of the lengths ns, one behind the other
abbrev pub cut : List ℕ → Format (List (List ℕ))
cut ns = record {
  write = W.joined;
  read = W.cut_read ns;
  Ok = λ l. (map length l ≡ ns) × Every Bytes l;
  there = λ l h. rw (← h.0) (L.cut_there l);
  back = L.cut_back_lem ns;
  bytes = λ l h. L.joined_bytes l h.1;
}

-- nothing at all, or a value; a value has no empty image
abbrev pub optional : {A : Type 0} (f : Format A) → f.read [] ≡ none → Format (Option A)
optional f z = record {
  write = W.optional_write f;
  read = W.optional_read f;
  Ok = W.OptionalOk f;
  there = L.optional_there f z;
  back = L.optional_back f;
  bytes = L.optional_bytes f;
}

-- ---- bundles, with counts of w bytes

-- no more parts
abbrev pub end : Parts (Unit {0})
end = record {
  split = λ u. [];
  join = W.end_join;
  Ok = λ u. Unit {0};
  there = L.end_there;
  back = L.end_back;
  bytes = λ u h. tt;
}

-- a part and the others
infixr 30 ◌and◌
abbrev pub ◌and◌ : {A B : Type 0} → Format A → Parts B → Parts (A × B)
f and p = record {
  split = λ x. f.write x.0 ∷ p.split x.1;
  join = W.and_join f p;
  Ok = λ x. f.Ok x.0 × p.Ok x.1;
  there = L.and_there f p;
  back = L.and_back f p;
  bytes = λ x h. (f.bytes x.0 h.0, p.bytes x.1 h.1);
}

-- a part for each element
abbrev pub each : {A : Type 0} → Format A → Parts (List A)
each f = record {
  split = map f.write;
  join = W.each_join f;
  Ok = Every f.Ok;
  there = L.each_there f;
  back = L.each_back f;
  bytes = L.each_bytes f;
}

-- how many parts, the length of each, the parts
abbrev pub pieces : ℕ → Format (List (List ℕ))
pieces w = refine (headed (number w) (λ n. headed (row (number w) n) cut)) (λ p. some p.1.1) (λ l. (length l, (map length l, l)))
    (W.PiecesOk w)
    (λ l h. refl)
    (λ l h. (h.0, ((length-map l length, L.lengths_fit w l h.1), (refl, h.2))))
    (L.pieces_back w)

abbrev pub bundle : {A : Type 0} → ℕ → Parts A → Format A
bundle w p = refine (pieces w) p.join p.split
    (λ a. (length (p.split a) < 256 ^ w) × Every (λ s. length s < 256 ^ w) (p.split a) × p.Ok a)
    (λ a h. p.there a h.2)
    (λ a h. (h.0, h.1, p.bytes a h.2))
    (L.bundle_back w p)

abbrev pub list_of : {A : Type 0} → ℕ → Format A → Format (List A)
list_of w f = bundle w (each f)

abbrev pub record_of : {A : Type 0} → ℕ → Parts A → Format A
record_of w p = bundle w p
