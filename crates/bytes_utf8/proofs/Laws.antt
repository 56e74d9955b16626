-- The library's UTF-8, which is what some characters are encoded to, and the grammar's: bytes are the one exactly where they are the other.
-- Assumes nothing.
use Rattle.std.proofs.Common.{◌≡◌, refl, sym, ap₂, subst, ◌∙◌, ℕ, ◌+◌, ◌-◌, ◌*◌, ◌/◌, ◌%◌, ◌≤◌, ◌<◌, Bool, true, false, ltb, List, [], ◌∷◌, ◌++◌, arith, ltb-true, ltb-false, ◌&&◌, Ok, Err, MatchResult, is_ok, ⊎_elim}
use Rattle.std.specs.Str.{IsUtf8}
use Rattle.std.specs.Char.{encode_utf8}
use Rattle.std.proofs.Math.Utf8.{scalar, scalars, encodes, low_scalar, scalar_cases}
use Rattle.std.proofs.lemmas.Bool.{false≢true}
use Rattle.std.proofs.lemmas.Bool.Decides.{nat_tests}
use Rattle.std.specs.declared.result.Result.{Result}
use Rattle.bytes_utf8.specs.Utf8.{In, Two, Three.e0, Three.e1_ec, Three.ed, Three.ee_ef, Four.f0, Four.f1_f3, Four.f4, Utf8, Utf8.none, Utf8.one, Utf8.two, Utf8.three, Utf8.four}
use Rattle.bytes_utf8.specs.Decide.{is_utf8, decided}

-- ---- a character by how many bytes it has

encode_one : (c : ℕ) → c < 0x80 → encode_utf8 c ≡ c ∷ []
unfolding encode_utf8
encode_one c h = grind (arith, nat_tests)

encode_two : (c : ℕ) → 0x80 ≤ c → c < 0x800 → encode_utf8 c ≡ (192 + c / 64) ∷ (128 + c % 64) ∷ []
unfolding encode_utf8
encode_two c l h = grind (arith, nat_tests)

encode_three : (c : ℕ) → 0x800 ≤ c → c < 0x1_0000 → encode_utf8 c ≡ (224 + c / 4096) ∷ (128 + (c / 64) % 64) ∷ (128 + c % 64) ∷ []
unfolding encode_utf8
encode_three c l h = grind (arith, nat_tests)

encode_four : (c : ℕ) → 0x1_0000 ≤ c → encode_utf8 c ≡ (240 + c / 262144) ∷ (128 + (c / 4096) % 64) ∷ (128 + (c / 64) % 64) ∷ (128 + c % 64) ∷ []
unfolding encode_utf8
encode_four c l = grind (arith, nat_tests)

high_scalar : (c : ℕ) → 0xE000 ≤ c → c < 0x11_0000 → scalar c ≡ true
high_scalar c l h = grind (arith, nat_tests)

-- ---- what the grammar has is what some characters are encoded to

put : (c : ℕ) (bs rest : List ℕ) → scalar c ≡ true → encode_utf8 c ≡ bs → IsUtf8 rest → IsUtf8 (bs ++ rest)
put c bs rest sc e (cs, (all, is)) = (c ∷ cs, (simp (sc, all), ap₂ ◌++◌ e is))

-- two lists of bytes that are equal byte by byte
two_bytes : {a b x y : ℕ} → x ≡ a → y ≡ b → ◌≡◌ {A = List ℕ} (x ∷ y ∷ []) (a ∷ b ∷ [])
two_bytes p q = ap₂ (λ (i j : ℕ). i ∷ j ∷ []) p q

put_two : {a b : ℕ} {s : List ℕ} → Two a b → IsUtf8 s → IsUtf8 (a ∷ b ∷ s)
put_two {a} {b} {s} h u =
    let c : ℕ = (a - 0xc0) * 64 + (b - 0x80) in
    put c (a ∷ b ∷ []) s (low_scalar c (omega arith))
    (encode_two c (omega arith) (omega arith) ∙ two_bytes (omega arith) (omega arith)) u

-- the number of a character of three bytes, and of four
abbrev code3 : ℕ → ℕ → ℕ → ℕ
code3 a b c = (a - 0xe0) * 4096 + (b - 0x80) * 64 + (c - 0x80)

abbrev code4 : ℕ → ℕ → ℕ → ℕ → ℕ
code4 a b c d = (a - 0xf0) * 262144 + (b - 0x80) * 4096 + (c - 0x80) * 64 + (d - 0x80)

put_three : {a b c : ℕ} {s : List ℕ} → In 0xe0 0xef a → In 0x80 0xbf b → In 0x80 0xbf c
    → 0x800 ≤ code3 a b c → scalar (code3 a b c) ≡ true → IsUtf8 s → IsUtf8 (a ∷ b ∷ c ∷ s)
put_three {a = a} {b = b} {c = c} {s = s} p q r l sc u =
    let n : ℕ = code3 a b c in
    let x : 224 + n / 4096 ≡ a = omega arith in
    let y : 128 + (n / 64) % 64 ≡ b = omega arith in
    let z : 128 + n % 64 ≡ c = omega arith in
    put n (a ∷ b ∷ c ∷ []) s sc (encode_three n l (omega arith) ∙ ap₂ ◌∷◌ x (two_bytes y z)) u

put_four : {a b c d : ℕ} {s : List ℕ} → In 0xf0 0xf4 a → In 0x80 0xbf b → In 0x80 0xbf c → In 0x80 0xbf d
    → 0x1_0000 ≤ code4 a b c d → code4 a b c d < 0x11_0000 → IsUtf8 s → IsUtf8 (a ∷ b ∷ c ∷ d ∷ s)
put_four {a} {b} {c} {d} {s} p q r t l h u =
    let n : ℕ = code4 a b c d in
    let x : 240 + n / 262144 ≡ a = omega arith in
    let y : 128 + (n / 4096) % 64 ≡ b = omega arith in
    let z : 128 + (n / 64) % 64 ≡ c = omega arith in
    let w : 128 + n % 64 ≡ d = omega arith in
    put n (a ∷ b ∷ c ∷ d ∷ []) s (high_scalar n (omega arith) h)
    (encode_four n l ∙ ap₂ ◌∷◌ x (ap₂ ◌∷◌ y (two_bytes z w))) u

encoded : {s : List ℕ} → Utf8 s → IsUtf8 s
encoded none = ([], (refl, refl))
encoded (one {a} {s} p r) = put a (a ∷ []) s (low_scalar a (omega arith)) (encode_one a (omega arith)) (encoded r)
encoded (two p r) = put_two p (encoded r)
encoded (three {a} {b} {c} (e0 p) r) = put_three (omega arith) (omega arith) (omega arith) (omega arith) (low_scalar (code3 a b c) (omega arith)) (encoded r)
encoded (three {a} {b} {c} (e1_ec p) r) = put_three (omega arith) (omega arith) (omega arith) (omega arith) (low_scalar (code3 a b c) (omega arith)) (encoded r)
encoded (three {a} {b} {c} (ed p) r) = put_three (omega arith) (omega arith) (omega arith) (omega arith) (low_scalar (code3 a b c) (omega arith)) (encoded r)
encoded (three {a} {b} {c} (ee_ef p) r) =
    put_three (omega arith) (omega arith) (omega arith) (omega arith) (high_scalar (code3 a b c) (omega arith) (omega arith)) (encoded r)
encoded (four (f0 p) r) = put_four (omega arith) (omega arith) (omega arith) (omega arith) (omega arith) (omega arith) (encoded r)
encoded (four (f1_f3 p) r) = put_four (omega arith) (omega arith) (omega arith) (omega arith) (omega arith) (omega arith) (encoded r)
encoded (four (f4 p) r) = put_four (omega arith) (omega arith) (omega arith) (omega arith) (omega arith) (omega arith) (encoded r)

-- ---- and what characters are encoded to, the grammar has

-- of two numbers the first is the less, or it is not
by_lt : {C : Type 0} (m n : ℕ) → (m < n → C) → (n ≤ m → C) → C
by_lt {C} m n f g = go (ltb m n) refl
  where
    go : (b : Bool) → ltb m n ≡ b → C
    go true e = f (ltb-true m n e)
    go false e = g (ltb-false m n e)

has_three : (c : ℕ) (s : List ℕ) → scalar c ≡ true → 0x800 ≤ c → c < 0x1_0000 → Utf8 s
    → Utf8 ((224 + c / 4096) ∷ (128 + (c / 64) % 64) ∷ (128 + c % 64) ∷ s)
has_three c s sc l h u =
    ⊎_elim
    (λ below.
    by_lt c 0x1000 (λ k. three (e0 (omega arith)) u) λ m.
    by_lt c 0xD000 (λ k. three (e1_ec (omega arith)) u) λ n. three (ed (omega arith)) u)
    (λ above. three (ee_ef (omega arith)) u) (scalar_cases c sc)

has_four : (c : ℕ) (s : List ℕ) → c < 0x11_0000 → 0x1_0000 ≤ c → Utf8 s
    → Utf8 ((240 + c / 262144) ∷ (128 + (c / 4096) % 64) ∷ (128 + (c / 64) % 64) ∷ (128 + c % 64) ∷ s)
has_four c s h l u =
    by_lt c 0x4_0000 (λ k. four (f0 (omega arith)) u) λ m.
    by_lt c 0x10_0000 (λ k. four (f1_f3 (omega arith)) u) λ n. four (f4 (omega arith)) u

under : (c : ℕ) → scalar c ≡ true → c < 0x11_0000
under c sc = ⊎_elim (λ below. omega arith) (λ above. above.1) (scalar_cases c sc)

has : (c : ℕ) (s : List ℕ) → scalar c ≡ true → Utf8 s → Utf8 (encode_utf8 c ++ s)
has c s sc u =
    by_lt c 0x80 (λ k. let p : In 0x00 0x7f c = omega arith in rw (encode_one c k) (one p u)) λ l.
    by_lt c 0x800
    (λ k. let p : Two (192 + c / 64) (128 + c % 64) = omega arith in rw (encode_two c l k) (two p u)) λ m.
    by_lt c 0x1_0000 (λ k. rw (encode_three c m k) (has_three c s sc m k u)) λ n.
    rw (encode_four c n) (has_four c s (under c sc) n u)

both_true : (p q : Bool) → (p && q) ≡ true → (p ≡ true) × (q ≡ true)
both_true true q e = (refl, e)
both_true false q e = absurd (false≢true e)

decoded : (cs : List ℕ) → scalars cs ≡ true → Utf8 (encodes cs)
decoded [] e = none
decoded (c ∷ cs) e = let p = both_true (scalar c) (scalars cs) e in has c (encodes cs) p.0 (decoded cs p.1)

-- ---- the library's answer

pub told : {T E : Type 0} (r : Result T E) (s : List ℕ) (P : T → Type 0) (Q : E → Type 0)
    → MatchResult r (λ t. P t × IsUtf8 s) (λ e. (IsUtf8 s → ⊥) × Q e) → is_ok r ≡ is_utf8 s
told (Ok t) s P Q (p, (cs, (all, is))) = decided true s (λ e. subst Utf8 is (decoded cs all)) (λ e. absurd (false≢true (sym e)))
told (Err x) s P Q (bad, q) = decided false s (λ e. absurd (false≢true e)) (λ e u. bad (encoded u))
