-- The laws of the formats of `Formats.antt`.
-- Assumes nothing.
use Rattle.std.specs.Prelude.{◌≡◌, refl, Bool, true, false, cond, ◌⊎◌, List, [], ◌∷◌, ◌++◌, map, ℕ, zero, suc, ◌+◌, ◌-◌, ◌*◌, ◌^◌, ◌≤◌, ◌<◌, length, take, drop, leb, ltb, eqb, ℤ}
use Rattle.std.proofs.Common.{sym, ap, ap₂, ◌∙◌, subst, inl, inr, zero-mul, suc-mul, mod-lt, arith, length-append, take-append-drop, take_at, drop_at, length-take-le, lit<, le-leb, leb-true, eq-eqb, eqb-true, lt-ltb, le-ltb, ltb-false, to_z, of_z}
use Rattle.std.proofs.Math.Option.{Option, none, some, none-ne-some, some-injective}
use Rattle.std.proofs.Math.ListN.{get_elem?}
use Rattle.std.proofs.lemmas.List.{length-map}
use Rattle.std.specs.Int.Signed.{mag}
use Rattle.std.specs.Int.{w64}
use mir.ValLaws.{to_z-Fits, of_z-to_z}
use Rattle.bytes_wire.specs.Le.{Bytes, le, num, length_le, num_le, le_num, num_lt, drop_bytes, take_bytes, cons_bytes, tail_bytes}
use Rattle.bytes_utf8.specs.Utf8.{Three, Three.e0, Three.e1_ec, Three.ed, Three.ee_ef, Four, Four.f0, Four.f1_f3, Four.f4, Utf8, Utf8.none, Utf8.one, Utf8.two, Utf8.three, Utf8.four}
use Rattle.bytes_utf8.specs.Decide.{is_utf8, utf8_of}
use Rattle.bytes_format.specs.Format.{Format, Fixed, Parts, Coded, Every, Enum, count_from}
use Rattle.bytes_format.specs.Ways.{next, joined, raw_read, number_read, nothing_read, code_read, bool_index, headed_write, headed_read, HeadedOk, row_write, row_read, cut_read, PiecesOk, optional_write, optional_read, OptionalOk, end_join, and_join, each_join, choice_read, kind_read, beside_read, either_code, either_write, either_read, EitherOk, Case, Some, Spread, spread, some_code, some_write, some_read, SomeOk}

-- ---- what a step that succeeded tells

pub cond_some : {Y : Type 0} (t : Bool) (o : Option Y) {y : Y} → cond t o none ≡ some y → (t ≡ true) × (o ≡ some y)
cond_some true o e = (refl, e)
cond_some false o {y} e = absurd (none-ne-some y e)

pub next_some : {X Y C : Type 0} (o : Option X) (f : X → Option Y) {y : Y} → next o f ≡ some y → ((x : X) → o ≡ some x → f x ≡ some y → C) → C
next_some none f {y} e k = absurd (none-ne-some y e)
next_some (some x) f e k = k x refl e

-- ---- bytes

pub nil_bytes : Bytes []
nil_bytes = record { at = λ i. lit< tt }

pub append_bytes : {s t : List ℕ} → Bytes s → Bytes t → Bytes (s ++ t)
append_bytes {s = []} p q = q
append_bytes {s = b ∷ s} p q = cons_bytes (p.at 0) (append_bytes (tail_bytes p) q)

pub joined_bytes : (l : List (List ℕ)) → Every Bytes l → Bytes (joined l)
joined_bytes [] h = nil_bytes
joined_bytes (s ∷ l) h = append_bytes h.0 (joined_bytes l h.1)

pub le_bytes : (k n : ℕ) → Bytes (le k n)
le_bytes zero n = nil_bytes
le_bytes (suc k) n = cons_bytes (mod-lt n (lit< tt)) (le_bytes k _)

three_small : {a b c : ℕ} → Three a b c → (a < 256) × ((b < 256) × (c < 256))
three_small (e0 h) = omega arith
three_small (e1_ec h) = omega arith
three_small (ed h) = omega arith
three_small (ee_ef h) = omega arith

four_small : {a b c d : ℕ} → Four a b c d → (a < 256) × ((b < 256) × ((c < 256) × (d < 256)))
four_small (f0 h) = omega arith
four_small (f1_f3 h) = omega arith
four_small (f4 h) = omega arith

utf8_bytes : {s : List ℕ} → Utf8 s → Bytes s
utf8_bytes none = nil_bytes
utf8_bytes (one h r) = cons_bytes (omega arith) (utf8_bytes r)
utf8_bytes (two h r) = cons_bytes (omega arith) (cons_bytes (omega arith) (utf8_bytes r))
utf8_bytes (three h r) = let k = three_small h in cons_bytes k.0 (cons_bytes k.1.0 (cons_bytes k.1.1 (utf8_bytes r)))
utf8_bytes (four h r) = let k = four_small h in cons_bytes k.0 (cons_bytes k.1.0 (cons_bytes k.1.1.0 (cons_bytes k.1.1.1 (utf8_bytes r))))

-- ---- fields

pub text_there : (s : List ℕ) → is_utf8 s ≡ true → cond (is_utf8 s) (some s) none ≡ some s
text_there s h = rw h

pub text_back : (s a : List ℕ) → Bytes s → cond (is_utf8 s) (some s) none ≡ some a → (s ≡ a) × (is_utf8 a ≡ true)
text_back s a b e =
    let p = cond_some (is_utf8 s) (some s) e in
    let q : s ≡ a = some-injective s a p.1 in
    (q, rw (← q) p.0)

pub text_bytes : (s : List ℕ) → is_utf8 s ≡ true → Bytes s
text_bytes s h = utf8_bytes (utf8_of s h)

module _ (k : ℕ) where
  pub raw_there : (s : List ℕ) → (length s ≡ k) × Bytes s → raw_read k s ≡ some s
  raw_there s h = rw (eq-eqb (length s) k h.0)

  pub raw_back : (s a : List ℕ) → Bytes s → raw_read k s ≡ some a → (s ≡ a) × ((length a ≡ k) × Bytes a)
  raw_back s a b e =
      let p = cond_some (eqb (length s) k) (some s) e in
      let q : s ≡ a = some-injective s a p.1 in
      (q, (rw (← q) (eqb-true (length s) k p.0), rw (← q) b))

  pub number_there : (n : ℕ) → n < 256 ^ k → number_read k (le k n) ≡ some n
  number_there n h = rw (eq-eqb (length (le k n)) k (length_le k n), num_le k n h)

  pub number_back : (s : List ℕ) (n : ℕ) → Bytes s → number_read k s ≡ some n → (s ≡ le k n) × (n < 256 ^ k)
  number_back s n b e =
      let p = cond_some (eqb (length s) k) (some (num s)) e in
      let l : length s ≡ k = eqb-true (length s) k p.0 in
      subst (λ (m : ℕ). (s ≡ le k m) × (m < 256 ^ k)) (some-injective (num s) n p.1)
      (sym (le_num s b) ∙ ap (λ (j : ℕ). le j (num s)) l, rw l at (num_lt s b))

pub nothing_back : (s : List ℕ) (u : Unit {0}) → Bytes s → nothing_read s ≡ some u → (s ≡ []) × Unit {0}
nothing_back [] u b e = (refl, tt)
nothing_back (x ∷ s) u b e = absurd (none-ne-some u e)

-- the place of what stands at a place
place : {A : Type 0} (index : A → ℕ) (l : List A) (from i : ℕ) (a : A) → map index l ≡ count_from from (length l) → get_elem? l i ≡ some a → (index a ≡ from + i) × (i < length l)
place index [] from i a m e = absurd (none-ne-some a e)
place index (x ∷ l) from zero a m e =
    let p : x ≡ a = some-injective x a e in
    let q : index x ≡ from = cc in
    (omega (arith, ap index p), omega arith)
place index (x ∷ l) from (suc i) a m e =
    let q : map index l ≡ count_from (suc from) (length l) = cc in
    let r = place index l (suc from) i a q e in
    (omega arith, omega arith)

module _ {A : Type 0} (e : Enum A) where
  pub at_place : (i : ℕ) (a : A) → get_elem? e.all i ≡ some a → (e.index a ≡ i) × (i < length e.all)
  at_place i a h = let p = place e.index e.all 0 i a e.order h in (omega arith, p.1)

  pub index_small : (a : A) → e.index a < 256
  index_small a = omega (arith, at_place (e.index a) a (e.found a), leb-true (length e.all) 256 e.few)

  pub code_back : (s : List ℕ) (a : A) → Bytes s → code_read e s ≡ some a → (s ≡ e.index a ∷ []) × Unit {0}
  code_back [] a b h = absurd (none-ne-some a h)
  code_back (x ∷ []) a b h = (ap (λ (i : ℕ). i ∷ []) (sym (at_place x a h).0), tt)
  code_back (x ∷ y ∷ s) a b h = absurd (none-ne-some a h)

pub bool_found : (b : Bool) → get_elem? (false ∷ true ∷ []) (bool_index b) ≡ some b
bool_found false = refl
bool_found true = refl

pub int64_back : (n : ℕ) (z : ℤ) → n < 256 ^ 8 → some (to_z w64 n) ≡ some z → (n ≡ of_z w64 z) × (mag z < 2 ^ 63)
int64_back n z h e =
    let p : to_z w64 n ≡ z = some-injective (to_z w64 n) z e in
    (sym (of_z-to_z w64 n (record { fits = h })) ∙ ap (of_z w64) p, rw p at (to_z-Fits w64 n (record { fits = h })).sfits)

-- ---- one thing behind another

-- a header is as wide as its bytes
pub header_front : {A : Type 0} (f : Fixed A) (s : List ℕ) (a : A) → Bytes s → f.form.read (take f.width s) ≡ some a → (take f.width s ≡ f.form.write a) × f.form.Ok a
header_front f s a b e = f.form.back (take f.width s) a (take_bytes f.width b) e

module _ {A : Type 0} {B : A → Type 0} (f : Fixed A) (g : (a : A) → Format (B a)) where
  pub headed_there : (p : (a : A) × B a) → HeadedOk f g p → headed_read f g (headed_write f g p) ≡ some p
  headed_there p h =
      let w : length (f.form.write p.0) ≡ f.width = f.wide p.0 h.0 in
      rw (take_at (f.form.write p.0) ((g p.0).write p.1) f.width w, drop_at (f.form.write p.0) ((g p.0).write p.1) f.width w, f.form.there p.0 h.0, (g p.0).there p.1 h.1)

  pub headed_back : (s : List ℕ) (p : (a : A) × B a) → Bytes s → headed_read f g s ≡ some p → (s ≡ headed_write f g p) × HeadedOk f g p
  headed_back s p b e =
      next_some (f.form.read (take f.width s)) (λ a. next ((g a).read (drop f.width s)) (λ y. some (a, y))) e
      (λ a e₁ h. next_some ((g a).read (drop f.width s)) (λ y. some (a, y)) h (λ y e₂ k.
      let m = header_front f s a b e₁ in
      let q = (g a).back (drop f.width s) y (drop_bytes f.width b) e₂ in
      subst (λ (z : (a : A) × B a). (s ≡ headed_write f g z) × HeadedOk f g z) (some-injective (a, y) p k)
      (sym (take-append-drop f.width s) ∙ ap₂ (λ (x z : List ℕ). x ++ z) m.0 q.0, (m.1, q.1))))

  pub headed_bytes : (p : (a : A) × B a) → HeadedOk f g p → Bytes (headed_write f g p)
  headed_bytes p h = append_bytes (f.form.bytes p.0 h.0) ((g p.0).bytes p.1 h.1)

pub both_wide : {A B : Type 0} (f : Fixed A) (g : Fixed B) (p : A × B) → HeadedOk f (λ a. g.form) p → length (headed_write f (λ a. g.form) p) ≡ f.width + g.width
both_wide f g p h = length-append (f.form.write p.0) (g.form.write p.1) ∙ ap₂ (λ (x y : ℕ). x + y) (f.wide p.0 h.0) (g.wide p.1 h.1)

module _ {A : Type 0} (f : Fixed A) where
  pub row_wide : (l : List A) → Every f.form.Ok l → length (row_write f l) ≡ length l * f.width
  row_wide [] h = sym (zero-mul f.width)
  row_wide (a ∷ l) h = omega (arith, length-append (f.form.write a) (row_write f l), f.wide a h.0, row_wide l h.1, suc-mul (length l) f.width)

  pub row_there : (l : List A) → Every f.form.Ok l → row_read f (length l) (row_write f l) ≡ some l
  row_there [] h = refl
  row_there (a ∷ l) h =
      let w : length (f.form.write a) ≡ f.width = f.wide a h.0 in
      rw (take_at (f.form.write a) (row_write f l) f.width w, drop_at (f.form.write a) (row_write f l) f.width w, f.form.there a h.0, row_there l h.1)

  pub row_back : (n : ℕ) (s : List ℕ) (l : List A) → Bytes s → row_read f n s ≡ some l → (s ≡ row_write f l) × ((length l ≡ n) × Every f.form.Ok l)
  row_back zero [] l b e = subst (λ (z : List A). ([] ≡ row_write f z) × ((length z ≡ zero) × Every f.form.Ok z)) (some-injective [] l e) (refl, (refl, tt))
  row_back zero (x ∷ s) l b e = absurd (none-ne-some l e)
  row_back (suc n) s l b e =
      next_some (f.form.read (take f.width s)) (λ a. next (row_read f n (drop f.width s)) (λ m. some (a ∷ m))) e
      (λ a e₁ h. next_some (row_read f n (drop f.width s)) (λ m. some (a ∷ m)) h (λ m e₂ k.
      let p = header_front f s a b e₁ in
      let q = row_back n (drop f.width s) m (drop_bytes f.width b) e₂ in
      subst (λ (z : List A). (s ≡ row_write f z) × ((length z ≡ suc n) × Every f.form.Ok z)) (some-injective (a ∷ m) l k)
      (sym (take-append-drop f.width s) ∙ ap₂ (λ (x z : List ℕ). x ++ z) p.0 q.0, (ap suc q.1.0, (p.1, q.1.1)))))

  pub row_bytes_lem : (l : List A) → Every f.form.Ok l → Bytes (row_write f l)
  row_bytes_lem [] h = nil_bytes
  row_bytes_lem (a ∷ l) h = append_bytes (f.form.bytes a h.0) (row_bytes_lem l h.1)

pub cut_there : (l : List (List ℕ)) → cut_read (map length l) (joined l) ≡ some l
cut_there [] = refl
cut_there (s ∷ l) =
    let w : length s ≤ length (s ++ joined l) = omega (arith, length-append s (joined l)) in
    rw (le-leb (length s) (length (s ++ joined l)) w, take_at s (joined l) (length s) refl, drop_at s (joined l) (length s) refl, cut_there l)

pub cut_back_lem : (ns s : List ℕ) (l : List (List ℕ)) → Bytes s → cut_read ns s ≡ some l → (s ≡ joined l) × ((map length l ≡ ns) × Every Bytes l)
cut_back_lem [] [] l b e = subst (λ (z : List (List ℕ)). ([] ≡ joined z) × ((map length z ≡ []) × Every Bytes z)) (some-injective [] l e) (refl, (refl, tt))
cut_back_lem [] (x ∷ s) l b e = absurd (none-ne-some l e)
cut_back_lem (n ∷ ns) s l b e =
    let p = cond_some (leb n (length s)) (next (cut_read ns (drop n s)) (λ m. some (take n s ∷ m))) e in
    next_some (cut_read ns (drop n s)) (λ m. some (take n s ∷ m)) p.1 (λ m e₁ k.
    let q = cut_back_lem ns (drop n s) m (drop_bytes n b) e₁ in
    subst (λ (z : List (List ℕ)). (s ≡ joined z) × ((map length z ≡ n ∷ ns) × Every Bytes z)) (some-injective (take n s ∷ m) l k)
    (sym (take-append-drop n s) ∙ ap (λ (x : List ℕ). take n s ++ x) q.0, (ap₂ (λ (x : ℕ) (y : List ℕ). x ∷ y) (length-take-le n s (leb-true n (length s) p.0)) q.1.0, (take_bytes n b, q.1.1))))

-- ---- a format for other values

module _ {A B : Type 0} (c : Format A) (f : A → Option B) (g : B → A) (Ok' : B → Type 0)
    (fg : (b : B) → Ok' b → f (g b) ≡ some b) (ok : (b : B) → Ok' b → c.Ok (g b)) (gf : (a : A) (b : B) → c.Ok a → f a ≡ some b → (a ≡ g b) × Ok' b) where
  pub refine_there : (b : B) → Ok' b → next (c.read (c.write (g b))) f ≡ some b
  refine_there b h = rw (c.there (g b) (ok b h)) (fg b h)

  pub refine_back : (s : List ℕ) (b : B) → Bytes s → next (c.read s) f ≡ some b → (s ≡ c.write (g b)) × Ok' b
  refine_back s b w e =
      next_some (c.read s) f e (λ a e₁ h.
      let k = c.back s a w e₁ in
      let m = gf a b k.1 h in
      (k.0 ∙ ap c.write m.0, m.1))

pub via_back : {A B : Type 0} (c : Format A) (f : A → B) (g : B → A) (gf : (a : A) → c.Ok a → g (f a) ≡ a)
    → (a : A) (b : B) → c.Ok a → some (f a) ≡ some b → (a ≡ g b) × c.Ok (g b)
via_back c f g gf a b h e =
    let p : a ≡ g b = sym (gf a h) ∙ ap g (some-injective (f a) b e) in
    (p, rw p at h)

pub checked_back : {A : Type 0} (c : Format A) (test : A → Bool) (a b : A) → c.Ok a → cond (test a) (some a) none ≡ some b → (a ≡ b) × (c.Ok b × (test b ≡ true))
checked_back c test a b h e =
    let p = cond_some (test a) (some a) e in
    let q : a ≡ b = some-injective a b p.1 in
    (q, (rw q at h, rw (← q) p.0))

-- ---- nothing at all, or a value

module _ {A : Type 0} (f : Format A) where
  pub optional_there : f.read [] ≡ none → (o : Option A) → OptionalOk f o → optional_read f (optional_write f o) ≡ some o
  optional_there z none h = refl
  optional_there z (some a) h = go (f.write a) (f.there a h)
    where
      go : (s : List ℕ) → f.read s ≡ some a → optional_read f s ≡ some (some a)
      go [] e = absurd (none-ne-some a (sym z ∙ e))
      go (x ∷ s) e = rw e

  pub optional_back : (s : List ℕ) (o : Option A) → Bytes s → optional_read f s ≡ some o → (s ≡ optional_write f o) × OptionalOk f o
  optional_back [] o b e = subst (λ (z : Option A). ([] ≡ optional_write f z) × OptionalOk f z) (some-injective none o e) (refl, tt)
  optional_back (x ∷ s) o b e =
      next_some (f.read (x ∷ s)) (λ a. some (some a)) e (λ a e₁ h.
      subst (λ (z : Option A). (x ∷ s ≡ optional_write f z) × OptionalOk f z) (some-injective (some a) o h) (f.back (x ∷ s) a b e₁))

  pub optional_bytes : (o : Option A) → OptionalOk f o → Bytes (optional_write f o)
  optional_bytes none h = nil_bytes
  optional_bytes (some a) h = f.bytes a h

-- ---- parts

pub end_there : (u : Unit {0}) → Unit {0} → end_join [] ≡ some u
end_there u h = refl

pub end_back : (l : List (List ℕ)) (u : Unit {0}) → Every Bytes l → end_join l ≡ some u → (l ≡ []) × Unit {0}
end_back [] u b e = (refl, tt)
end_back (s ∷ l) u b e = absurd (none-ne-some u e)

module _ {A B : Type 0} (f : Format A) (p : Parts B) where
  pub and_there : (x : A × B) → f.Ok x.0 × p.Ok x.1 → and_join f p (f.write x.0 ∷ p.split x.1) ≡ some x
  and_there x h = rw (f.there x.0 h.0, p.there x.1 h.1)

  pub and_back : (l : List (List ℕ)) (x : A × B) → Every Bytes l → and_join f p l ≡ some x → (l ≡ f.write x.0 ∷ p.split x.1) × (f.Ok x.0 × p.Ok x.1)
  and_back [] x b e = absurd (none-ne-some x e)
  and_back (s ∷ l) x b e =
      next_some (f.read s) (λ a. next (p.join l) (λ y. some (a, y))) e
      (λ a e₁ h. next_some (p.join l) (λ y. some (a, y)) h (λ y e₂ k.
      let m = f.back s a b.0 e₁ in
      let q = p.back l y b.1 e₂ in
      subst (λ (z : A × B). (s ∷ l ≡ f.write z.0 ∷ p.split z.1) × (f.Ok z.0 × p.Ok z.1)) (some-injective (a, y) x k)
      (ap₂ (λ (u : List ℕ) (v : List (List ℕ)). u ∷ v) m.0 q.0, (m.1, q.1))))

module _ {A : Type 0} (f : Format A) where
  pub each_there : (l : List A) → Every f.Ok l → each_join f (map f.write l) ≡ some l
  each_there [] h = refl
  each_there (a ∷ l) h = rw (f.there a h.0, each_there l h.1)

  pub each_back : (l : List (List ℕ)) (x : List A) → Every Bytes l → each_join f l ≡ some x → (l ≡ map f.write x) × Every f.Ok x
  each_back [] x b e = subst (λ (z : List A). ([] ≡ map f.write z) × Every f.Ok z) (some-injective [] x e) (refl, tt)
  each_back (s ∷ l) x b e =
      next_some (f.read s) (λ a. next (each_join f l) (λ m. some (a ∷ m))) e
      (λ a e₁ h. next_some (each_join f l) (λ m. some (a ∷ m)) h (λ m e₂ k.
      let p = f.back s a b.0 e₁ in
      let q = each_back l m b.1 e₂ in
      subst (λ (z : List A). (s ∷ l ≡ map f.write z) × Every f.Ok z) (some-injective (a ∷ m) x k)
      (ap₂ (λ (u : List ℕ) (v : List (List ℕ)). u ∷ v) p.0 q.0, (p.1, q.1))))

  pub each_bytes : (l : List A) → Every f.Ok l → Every Bytes (map f.write l)
  each_bytes [] h = tt
  each_bytes (a ∷ l) h = (f.bytes a h.0, each_bytes l h.1)

-- every length fits a count
pub lengths_fit : (w : ℕ) (l : List (List ℕ)) → Every (λ s. length s < 256 ^ w) l → Every (λ n. n < 256 ^ w) (map length l)
lengths_fit w [] h = tt
lengths_fit w (s ∷ l) h = (h.0, lengths_fit w l h.1)

pub fit_lengths : (w : ℕ) (l : List (List ℕ)) → Every (λ n. n < 256 ^ w) (map length l) → Every (λ s. length s < 256 ^ w) l
fit_lengths w [] h = tt
fit_lengths w (s ∷ l) h = (h.0, fit_lengths w l h.1)

-- ---- bundles

module _ (w : ℕ) where
  -- a count, as many lengths, as many pieces
  pub pieces_back : (p : ℕ × (List ℕ × List (List ℕ))) (l : List (List ℕ))
      → (p.0 < 256 ^ w) × (((length p.1.0 ≡ p.0) × Every (λ n. n < 256 ^ w) p.1.0) × ((map length p.1.1 ≡ p.1.0) × Every Bytes p.1.1))
      → some p.1.1 ≡ some l → (p ≡ (length l, (map length l, l))) × PiecesOk w l
  pieces_back p l h e =
      subst (λ (z : List (List ℕ)). (p ≡ (length z, (map length z, z))) × PiecesOk w z) (some-injective p.1.1 l e)
      (let a : map length p.1.1 ≡ p.1.0 = h.1.1.0 in
      let n : p.0 ≡ length p.1.1 = sym h.1.0.0 ∙ ap length (sym a) ∙ length-map p.1.1 length in
      (ap₂ (λ (x : ℕ) (y : List ℕ). (x, (y, p.1.1))) n (sym a), (rw (← n) h.0, fit_lengths w p.1.1 (rw a h.1.0.1), h.1.1.1)))

  pub bundle_back : {A : Type 0} (p : Parts A) (l : List (List ℕ)) (a : A) → PiecesOk w l → p.join l ≡ some a
      → (l ≡ p.split a) × ((length (p.split a) < 256 ^ w) × Every (λ s. length s < 256 ^ w) (p.split a) × p.Ok a)
  bundle_back p l a h e =
      let k = p.back l a h.2 e in
      (k.0, (rw k.0 at h.0, rw k.0 at h.1, k.1))

-- ---- codes

module _ {T : Type 0} (c : Coded T) where
  pub choice_back : (s : List ℕ) (t : T) → Bytes s → choice_read c s ≡ some t → (s ≡ c.code t ∷ c.write t) × c.Ok t
  choice_back [] t b e = absurd (none-ne-some t e)
  choice_back (i ∷ s) t b e = let k = c.back i s t (tail_bytes b) e in (ap₂ (λ (x : ℕ) (l : List ℕ). x ∷ l) k.0 k.1, k.2)

  pub choice_bytes : leb c.count 256 ≡ true → (t : T) → c.Ok t → Bytes (c.code t ∷ c.write t)
  choice_bytes few t h = let k = c.bytes t h in cons_bytes (omega (arith, leb-true c.count 256 few)) k.1

module _ {A : Type 0} (e : Enum A) where
  pub kind_back : (i : ℕ) (s : List ℕ) (a : A) → Bytes s → kind_read e i s ≡ some a → (i ≡ e.index a) × (s ≡ []) × Unit {0}
  kind_back i [] a b h = (sym (at_place e i a h).0, refl, tt)
  kind_back i (x ∷ s) a b h = absurd (none-ne-some a h)

  pub kind_bytes : (a : A) → Unit {0} → (e.index a < length e.all) × Bytes []
  kind_bytes a h = ((at_place e (e.index a) a (e.found a)).1, nil_bytes)

-- what follows one code
pub after : {T : Type 0} → Coded T → ℕ → Format T
after c i = record {
  write = c.write;
  read = c.read i;
  Ok = λ t. (i ≡ c.code t) × c.Ok t;
  there = λ t h. rw h.0 (c.there t h.1);
  back = λ s t b e. let k = c.back i s t b e in (k.1, (k.0, k.2));
  bytes = λ t h. (c.bytes t h.1).1;
}

module _ {A T : Type 0} (f : Fixed A) (c : Coded T) where
  pub beside_there : (p : A × T) → f.form.Ok p.0 × c.Ok p.1 → beside_read f c (c.code p.1) (f.form.write p.0 ++ c.write p.1) ≡ some p
  unfolding after
  beside_there p h = headed_there f (λ a. after c (c.code p.1)) p (h.0, (refl, h.1))

  pub beside_back : (i : ℕ) (s : List ℕ) (p : A × T) → Bytes s → beside_read f c i s ≡ some p → (i ≡ c.code p.1) × (s ≡ f.form.write p.0 ++ c.write p.1) × (f.form.Ok p.0 × c.Ok p.1)
  unfolding after
  beside_back i s p b e = let k = headed_back f (λ a. after c i) s p b e in (k.1.1.0, k.0, (k.1.0, k.1.1.1))

  pub beside_bytes : (p : A × T) → f.form.Ok p.0 × c.Ok p.1 → (c.code p.1 < c.count) × Bytes (f.form.write p.0 ++ c.write p.1)
  beside_bytes p h = let k = c.bytes p.1 h.1 in (k.0, append_bytes (f.form.bytes p.0 h.0) k.1)

module _ {A T : Type 0} (c : Coded A) (f : A → T) (g : T → A) where
  pub recode_there : ((t : T) → f (g t) ≡ t) → (t : T) → c.Ok (g t) → next (c.read (c.code (g t)) (c.write (g t))) (λ a. some (f a)) ≡ some t
  recode_there fg t h = rw (c.there (g t) h) (ap some (fg t))

  pub recode_back : ((a : A) → g (f a) ≡ a) → (i : ℕ) (s : List ℕ) (t : T) → Bytes s → next (c.read i s) (λ a. some (f a)) ≡ some t
      → (i ≡ c.code (g t)) × (s ≡ c.write (g t)) × c.Ok (g t)
  recode_back gf i s t b e =
      next_some (c.read i s) (λ a. some (f a)) e (λ a e₁ h.
      let p : a ≡ g t = sym (gf a) ∙ ap g (some-injective (f a) t h) in
      rw p at (c.back i s a b e₁))

module _ {A B : Type 0} (c : Coded A) (d : Coded B) where
  pub either_there : (x : A ⊎ B) → EitherOk c d x → either_read c d (either_code c d x) (either_write c d x) ≡ some x
  either_there (inl a) h = rw (lt-ltb (c.code a) c.count (c.bytes a h).0, c.there a h)
  either_there (inr b) h =
      let z : c.count + d.code b - c.count ≡ d.code b = omega arith in
      rw (le-ltb (c.count + d.code b) c.count (omega arith), z, d.there b h)

  pub either_back : (i : ℕ) (s : List ℕ) (x : A ⊎ B) → Bytes s → either_read c d i s ≡ some x → (i ≡ either_code c d x) × (s ≡ either_write c d x) × EitherOk c d x
  either_back i s x b = go (ltb i c.count) refl
    where
      Is : A ⊎ B → Type 0
      Is y = (i ≡ either_code c d y) × (s ≡ either_write c d y) × EitherOk c d y

      go : (t : Bool) → ltb i c.count ≡ t → cond t (next (c.read i s) (λ a. some (inl a))) (next (d.read (i - c.count) s) (λ b. some (inr b))) ≡ some x → Is x
      go true e h = next_some (c.read i s) (λ a. some (inl a)) h (λ a e₁ k. subst Is (some-injective (inl a) x k) (c.back i s a b e₁))
      go false e h =
          next_some (d.read (i - c.count) s) (λ y. some (inr y)) h (λ y e₁ k.
          let m = d.back (i - c.count) s y b e₁ in
          subst Is (some-injective (inr y) x k) (omega (arith, ltb-false i c.count e), m.1, m.2))

  pub either_bytes : (x : A ⊎ B) → EitherOk c d x → (either_code c d x < c.count + d.count) × Bytes (either_write c d x)
  either_bytes (inl a) h = let k = c.bytes a h in (omega arith, k.1)
  either_bytes (inr b) h = let k = d.bytes b h in (omega arith, k.1)

-- ---- cases

module _ {T : Type 0} where
  pub spread_one : {X : Type 0} (l : List (Case T)) (f g : Some l → X) → spread l f ≡ spread l g → (x : Some l) → f x ≡ g x
  spread_one [] f g e x = absurd x
  spread_one {X} (c ∷ l) f g e (inl x) = ap (λ (p : Spread (c ∷ l) X). p.0 x) e
  spread_one {X} (c ∷ l) f g e (inr y) = spread_one l (λ z. f (inr z)) (λ z. g (inr z)) (ap (λ (p : Spread (c ∷ l) X). p.1) e) y

  pub some_there : (l : List (Case T)) (x : Some l) → SomeOk l x → some_read l (some_code l x) (some_write l x) ≡ some x
  some_there [] x h = absurd x
  some_there (c ∷ l) (inl x) h = rw (c.form.there x h)
  some_there (c ∷ l) (inr y) h = rw (some_there l y h)

  pub some_back : (l : List (Case T)) (i : ℕ) (s : List ℕ) (x : Some l) → Bytes s → some_read l i s ≡ some x → (i ≡ some_code l x) × (s ≡ some_write l x) × SomeOk l x
  some_back [] i s x b e = absurd x
  some_back (c ∷ l) zero s x b e =
      next_some (c.form.read s) (λ y. some (inl y)) e (λ y e₁ h.
      let k = c.form.back s y b e₁ in
      subst (λ (z : Some (c ∷ l)). (zero ≡ some_code (c ∷ l) z) × (s ≡ some_write (c ∷ l) z) × SomeOk (c ∷ l) z) (some-injective (inl y) x h) (refl, k.0, k.1))
  some_back (c ∷ l) (suc i) s x b e =
      next_some (some_read l i s) (λ y. some (inr y)) e (λ y e₁ h.
      let k = some_back l i s y b e₁ in
      subst (λ (z : Some (c ∷ l)). (suc i ≡ some_code (c ∷ l) z) × (s ≡ some_write (c ∷ l) z) × SomeOk (c ∷ l) z) (some-injective (inr y) x h) (ap suc k.0, k.1, k.2))

  pub some_bytes : (l : List (Case T)) (x : Some l) → SomeOk l x → (some_code l x < length l) × Bytes (some_write l x)
  some_bytes [] x h = absurd x
  some_bytes (c ∷ l) (inl x) h = (omega arith, c.form.bytes x h)
  some_bytes (c ∷ l) (inr y) h = let k = some_bytes l y h in (omega arith, k.1)
