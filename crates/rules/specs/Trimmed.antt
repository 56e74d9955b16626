-- Dispatch by the raw text. "trim Unicode White_Space at both ends (..), drop one final `;` if there, trim again. The trimmed text is a
-- part of the raw text. If it equals SHOW TRANSACTIONS but for ASCII case, that is the answer, before the kind is looked at."
-- Assumes nothing: these are definitions.
use Rattle.std.specs.Prelude.{ℕ, zero, suc, ◌+◌, ◌-◌, ◌*◌, Bool, true, false, cond, ◌||◌, ◌&&◌, List, [], ◌∷◌, map, leb, ltb, eqb, length, get_or, take, drop}
use Rattle.rules.specs.Lists.{Text, ascii, same}
use Rattle.rules.specs.Names.{fold}

pub record Range : Type 0 where
  pub first : ℕ
  pub last : ℕ

abbrev pub ◌to◌ : ℕ → ℕ → Range
◌to◌ a b = record { first = a; last = b }

-- "U+0009 to 000D, 0020, 0085, 00A0, 1680, 2000 to 200A, 2028, 2029, 202F, 205F, 3000"
abbrev pub white_space : List Range
white_space =
    ◌to◌ 0x9 0xD ∷ ◌to◌ 0x20 0x20 ∷ ◌to◌ 0x85 0x85 ∷ ◌to◌ 0xA0 0xA0 ∷ ◌to◌ 0x1680 0x1680 ∷ ◌to◌ 0x2000 0x200A ∷ ◌to◌ 0x2028 0x2029
    ∷ ◌to◌ 0x202F 0x202F ∷ ◌to◌ 0x205F 0x205F ∷ ◌to◌ 0x3000 0x3000 ∷ []

unfoldable pub within : List Range → ℕ → Bool
within [] c = false
within (r ∷ rs) c = leb r.first c && leb c r.last || within rs c

-- whether a code point is white space
abbrev pub white : ℕ → Bool
white c = within white_space c

-- ---- code points in UTF-8, of one byte, two or three. One of four bytes is no white space

abbrev pub goes_on : ℕ → Bool
goes_on b = leb 128 b && ltb b 192

unfoldable pub white1 : ℕ → Bool
white1 a = ltb a 128 && white a

unfoldable pub white2 : ℕ → ℕ → Bool
white2 a b = goes_on b && (leb 192 a && ltb a 224) && white ((a - 192) * 64 + (b - 128))

unfoldable pub white3 : ℕ → ℕ → ℕ → Bool
white3 a b c = goes_on b && goes_on c && (leb 224 a && ltb a 240) && white ((a - 224) * 4096 + (b - 128) * 64 + (c - 128))

-- of n bytes: 1, 2 or 3 where there are as many and they are white space, else 0
unfoldable pub width : ℕ → Bool → Bool → Bool → ℕ
width n p q r = cond (ltb n 1) 0 (cond p 1 (cond (ltb n 2) 0 (cond q 2 (cond (ltb n 3) 0 (cond r 3 0)))))

-- how many bytes the white space at the front takes, and at the back
abbrev pub front_width : Text → ℕ
front_width s = width (length s) (white1 (get_or s 0 0)) (white2 (get_or s 0 0) (get_or s 1 0)) (white3 (get_or s 0 0) (get_or s 1 0) (get_or s 2 0))

abbrev pub last_but : ℕ → Text → ℕ
last_but k s = get_or s (length s - k) 0

abbrev pub back_width : Text → ℕ
back_width s = width (length s) (white1 (last_but 1 s)) (white2 (last_but 2 s) (last_but 1 s)) (white3 (last_but 3 s) (last_but 2 s) (last_but 1 s))

-- ---- trimming: white space is cut off until there is none. Each cut takes a byte at least, so the length is cuts enough

module _ (width : Text → ℕ) (cut : Text → Text) where
  unfoldable pub off : ℕ → Text → Text
  off zero s = s
  off (suc n) s = let t = off n (cut s) in elim (eqb (width s) 0) [ true ↦ s | false ↦ t ]

abbrev pub cut_front : Text → Text
cut_front s = drop (front_width s) s

abbrev pub cut_back : Text → Text
cut_back s = take (length s - back_width s) s

abbrev pub trimmed_front : Text → Text
trimmed_front s = off front_width cut_front (length s) s

abbrev pub trimmed_back : Text → Text
trimmed_back s = off back_width cut_back (length s) s

abbrev pub trimmed : Text → Text
trimmed s = trimmed_back (trimmed_front s)

-- one final `;` is dropped, if it is there
unfoldable pub without_semicolon : Text → Text
without_semicolon s = cond (ltb 0 (length s) && eqb (last_but 1 s) 0x3B) (take (length s - 1) s) s

unfoldable pub dispatched : Text → Text
dispatched s = trimmed (without_semicolon (trimmed s))

unfoldable pub is_show_transactions : Text → Bool
is_show_transactions raw = same (map fold (dispatched raw)) (map fold (ascii "SHOW TRANSACTIONS"))
