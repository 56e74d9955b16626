-- The bytes of a number, folded together and written one after the other.
-- Assumes nothing.
use Rattle.std.proofs.Common.{◌≡◌, refl, sym, ap, ◌∙◌, ℕ, suc, ◌+◌, ◌-◌, ◌*◌, ◌/◌, ◌%◌, ◌^◌, ◌≤◌, ◌<◌, List, [], ◌∷◌, ◌++◌, reverse, bit_or, length, take, drop, set, length-take, append_assoc, append-nil, add-one, arith}
use Rattle.std.specs.List.{fold}
use Rattle.std.proofs.lemmas.Grind.{or_after_shift}
use Rattle.std.proofs.lemmas.List.{reverse-append}
use Rattle.std.proofs.lemmas.List.Edits.{sets-eq, paste_all}
use Rattle.std.proofs.lemmas.List.Sums.{fold_push}
use Rattle.std.proofs.lemmas.Slice.{put_mid-paste}
use lib.Seq.{take-suc-set, take_all}
use borrow.Rule.Slice.PartMut.{put_mid}
use Rattle.bytes_wire.specs.Le.{le, num, Bytes, Got, num_below, tail_bytes, take_bytes, drop_bytes}
use Rattle.bytes_wire.specs.Sets.{Wrote}

-- ---- the highest byte first, each a byte further up

abbrev pub joined : ℕ → ℕ → ℕ
joined v b = bit_or (v * 2 ^ 8 % 2 ^ 64) b

pub fold_is : (s : List ℕ) → Bytes s → length s ≤ 8 → fold joined 0 (reverse s) ≡ num s
fold_is [] h l = refl
fold_is (b ∷ s) h l =
    let small = num_below s 7 (tail_bytes h) (omega arith) in
    ap (fold joined 0) (reverse-append (b ∷ []) s)
    ∙ fold_push joined 0 (reverse s) b
    ∙ ap (λ (v : ℕ). joined v b) (fold_is s (tail_bytes h) (omega arith))
    ∙ or_after_shift (num s) 256 (2 ^ 64) b refl (h.at 0) (omega arith)

pub got : (s : List ℕ) (at k r : ℕ) → Bytes s → k ≤ 8 → at + k ≤ length s → r ≡ fold joined 0 (reverse (take k (drop at s))) → Got s at k r
got s at k r b h l e =
    let part : Bytes (take k (drop at s)) = take_bytes k (drop_bytes at b) in
    let is = e ∙ fold_is (take k (drop at s)) part (omega (arith, length-take k (drop at s))) in
    record { is = is; fits = rw is (num_below (take k (drop at s)) k part (omega (arith, length-take k (drop at s)))) }

-- ---- a part of a slice, written

pub part_written : (o x y : List ℕ) (at n k : ℕ) → n ≡ k → length x ≡ k → y ≡ x → at + k ≤ length o → Wrote o at x (at + k) (put_mid at n o y)
part_written o x y at n k m l e h = record {
  end = ap (λ (j : ℕ). at + j) (sym l);
  is = rw m (put_mid-paste at k o y x k e refl (sym l)) ∙ paste_all o at x k (sym l)
      ∙ ap (λ (j : ℕ). take at o ++ (x ++ drop (at + j) o)) (sym l) ∙ sym (append_assoc (take at o) x (drop (at + length x) o))
      ∙ sym (sets-eq x o at (rw l h));
}

-- the next byte of v, behind the i bytes that are written
pub next_byte : (part : List ℕ) (i k v : ℕ) → i < length part → i < k
    → take (i + 1) (set part i (v % 256)) ++ le (k - (i + 1)) (v / 256) ≡ take i part ++ le (k - i) v
next_byte part i k v h l =
    let one : k - i ≡ suc (k - (i + 1)) = omega arith in
    rw (add-one, take-suc-set part i (v % 256) h, one, append_assoc) (rw add-one refl)

pub all_written : (part : List ℕ) (i k v w : ℕ) → length part ≡ k → k ≤ i → take i part ++ le (k - i) v ≡ le k w → part ≡ le k w
all_written part i k v w e h p =
    let none : k - i ≡ 0 = omega arith in
    simp (none, take_all i part (omega arith), append-nil) at p
