-- The laws of the layout: what bytes_format's reader of nodes gives, by positions. Only this file and the proofs of src/layout.rt look into `node_at`.
-- Assumes nothing.
use Rattle.std.proofs.Math.Path.{◌≡◌, refl, sym, ap, subst}
use Rattle.std.proofs.Common.{◌∙◌, zero-add, suc-add, eq-or-lt_of_le, length-append, take-take, get_or-drop, length-take-le}
use Rattle.std.specs.Prelude.{true, false, take, drop, get_or, eqb}
use Rattle.std.proofs.Math.Option.{some, some-injective}
use Rattle.std.proofs.Math.Logic.{⊎_elim}
use mathlib.Core.List.{List, [], ◌∷◌, map}
use Prim.Native.Nat.{ℕ, zero, suc, ◌+◌, ◌-◌, ◌*◌, ◌<◌, ◌≤◌}
use native.Mathlib.Omega.{arith}
use Rattle.std.proofs.Math.ListN.{length, length-take, length-drop}
use Rattle.std.proofs.Math.Seq.{take-nil, drop-drop, drop-length}
use borrow.Author.Tests.{le-leb, eq-eqb, eqb-true, leb-true, leb-false}
use Rattle.bytes_wire.specs.Le.{Bytes, num, take_bytes, drop_bytes, cons_bytes}
use Rattle.bytes_format.specs.Format.{Format, Fixed}
use Rattle.bytes_format.specs.Ways.{next, joined, number_read, headed_read, row_read, cut_read}
use Rattle.bytes_format.proofs.Laws.{cond_some, next_some, row_back, row_wide}
use Rattle.bytes_format.proofs.Formats.{number, row, headed}
use Rattle.bytes_format.specs.Nodes.{sums, steps, cut_at_read, mend}
use Rattle.bytes_format.proofs.NodeLaws.{cut_at_back}
use Rattle.bytes_format.proofs.Run.{node, cut_at, node_list}
use Rattle.image_expression.specs.Place.{Node, node_count, end_at, start_at, node_at, behind, all_there, AllThere, Room, Content}

-- ---- well laid

pub record Laid (s : List ℕ) : Type 0 where
  -- the nodes are there
  pub room : AllThere s
  -- no end falls
  pub rising : (j : ℕ) → j < node_count s → start_at s j ≤ end_at s j
  -- the contents fill the rest
  pub filled : 5 * node_count s + 2 + start_at s (node_count s) ≡ length s

-- the nodes from i on, as bytes_format has them: an image of the label, and the span
abbrev pub images : (ℕ → Node) → ℕ → ℕ → List (List ℕ × ℕ)
images v i zero = []
images v i (suc n) = ((v i).kind ∷ (v i).text, (v i).span) ∷ images v (suc i) n

-- ---- lists

drop_take : (m n : ℕ) (l : List ℕ) → drop m (take (m + n) l) ≡ take n (drop m l)
drop_take zero n l = ap (λ (k : ℕ). take k l) (zero-add n)
drop_take (suc m) n [] = rw (suc-add m n) (sym (take-nil n))
drop_take (suc m) n (x ∷ l) = rw (suc-add m n) (drop_take m n l)

sum_of : List ℕ → ℕ
sum_of [] = 0
sum_of (n ∷ l) = n + sum_of l

joined_length : (l : List (List ℕ)) → length (joined l) ≡ sum_of (map length l)
unfolding sum_of
joined_length [] = refl
joined_length (x ∷ l) = length-append x (joined l) ∙ ap (λ (n : ℕ). length x + n) (joined_length l)

-- ---- rows

abbrev Row : Type 0
Row = List ℕ × (ℕ × ℕ)

abbrev contents : List Row → Format (List (List ℕ))
contents rs = cut_at (map (λ (r : Row). r.1.1) rs)

abbrev body : ℕ → Format (List Row × List (List ℕ))
body n = headed (row (node 1 2) n) contents

headed_some : {A B C : Type 0} (f : Fixed A) (g : A → Format B) (s : List ℕ) (p : A × B) → headed_read f g s ≡ some p
    → ((a : A) → f.form.read (take f.width s) ≡ some a → (b : B) → (g a).read (drop f.width s) ≡ some b → C) → C
headed_some f g s p e k =
    next_some (f.form.read (take f.width s)) (λ a. next ((g a).read (drop f.width s)) (λ b. some (a, b))) e
    (λ a e₁ h. next_some ((g a).read (drop f.width s)) (λ b. some (a, b)) h (λ b e₂ _. k a e₁ b e₂))

row_of : List ℕ → Row
row_of u = (get_or u 0 0 ∷ [], (num (take 2 (drop 1 u)), num (take 2 (drop 3 u))))

row_read_lem : (u : List ℕ) → 5 ≤ length u → (node 1 2).form.read (take 5 u) ≡ some (row_of u)
unfolding row_of
row_read_lem [] h = absurd (omega arith)
row_read_lem (a ∷ []) h = absurd (omega arith)
row_read_lem (a ∷ b ∷ []) h = absurd (omega arith)
row_read_lem (a ∷ b ∷ c ∷ []) h = absurd (omega arith)
row_read_lem (a ∷ b ∷ c ∷ d ∷ []) h = absurd (omega arith)
row_read_lem (a ∷ b ∷ c ∷ d ∷ e ∷ u) h = refl

module _ (s : List ℕ) where
  abbrev row_at : ℕ → Row
  row_at i = ((node_at s i).kind ∷ [], ((node_at s i).span, end_at s i))

  row_at_lem : (i : ℕ) → row_of (drop (5 * i + 2) s) ≡ row_at i
  unfolding row_of node_at end_at
  row_at_lem i =
      let k : 5 * i + 2 + 0 ≡ 5 * i + 2 = omega arith in
      let p : 5 * i + 2 + 1 ≡ 5 * i + 3 = omega arith in
      let q : 5 * i + 2 + 3 ≡ 5 * i + 5 = omega arith in
      rw (get_or-drop (5 * i + 2) s 0 0, drop-drop 1 (5 * i + 2) s, drop-drop 3 (5 * i + 2) s, k, p, q)

  abbrev rows_at : ℕ → ℕ → List Row
  rows_at i zero = []
  rows_at i (suc n) = row_at i ∷ rows_at (suc i) n

  rows_read : (i n : ℕ) → 5 * (i + n) + 2 ≤ length s → row_read (node 1 2) n (take (n * 5) (drop (5 * i + 2) s)) ≡ some (rows_at i n)
  rows_read i zero h = refl
  rows_read i (suc n) h =
      let w : suc n * 5 ≡ 5 + n * 5 = omega arith in
      let m : 5 ≤ 5 + n * 5 = omega arith in
      let q : 5 * i + 2 + 5 ≡ 5 * suc i + 2 = omega arith in
      let l : 5 ≤ length (drop (5 * i + 2) s) = omega (arith, length-drop (5 * i + 2) s) in
      let r : (node 1 2).form.read (take 5 (drop (5 * i + 2) s)) ≡ some (row_at i) = row_read_lem (drop (5 * i + 2) s) l ∙ ap some (row_at_lem i) in
      rw (w, take-take 5 (5 + n * 5) (drop (5 * i + 2) s) m, r, drop_take 5 (n * 5) (drop (5 * i + 2) s), drop-drop 5 (5 * i + 2) s, q, rows_read (suc i) n (omega arith))

  -- ---- contents

  abbrev ends_at : ℕ → ℕ → List ℕ
  ends_at i zero = []
  ends_at i (suc n) = end_at s i ∷ ends_at (suc i) n

  rows_ends : (i n : ℕ) → map (λ (r : Row). r.1.1) (rows_at i n) ≡ ends_at i n
  rows_ends i zero = refl
  rows_ends i (suc n) = ap (λ (l : List ℕ). end_at s i ∷ l) (rows_ends (suc i) n)

  abbrev lengths_at : ℕ → ℕ → List ℕ
  lengths_at i zero = []
  lengths_at i (suc n) = (end_at s i - start_at s i) ∷ lengths_at (suc i) n

  -- no end falls from node i to node i + n
  abbrev Rising : ℕ → ℕ → Type 0
  Rising i n = (j : ℕ) → i ≤ j → j < i + n → start_at s j ≤ end_at s j

  rising_next : (i n : ℕ) → Rising i (suc n) → Rising (suc i) n
  rising_next i n h j lo hi = h j (omega arith) (omega arith)

  start_at_lem : {i j : ℕ} → i ≡ j → start_at s i ≡ start_at s j
  start_at_lem e = ap (start_at s) e

  rises : (i n : ℕ) → Rising i n → start_at s i ≤ start_at s (i + n)
  unfolding start_at
  rises i zero h = omega (arith, start_at_lem {i = i + 0} {j = i} (omega arith))
  rises i (suc n) h =
      let l = h i (omega arith) (omega arith) in
      let r : end_at s i ≤ start_at s (suc i + n) = rises (suc i) n (rising_next i n h) in
      omega (arith, start_at_lem {i = suc i + n} {j = i + suc n} (omega arith))

  steps_at : (i n : ℕ) → Rising i n → steps (start_at s i) (ends_at i n) ≡ some (lengths_at i n)
  unfolding start_at
  steps_at i zero h = refl
  steps_at i (suc n) h =
      let l = h i (omega arith) (omega arith) in
      rw (le-leb (start_at s i) (end_at s i) l, steps_at (suc i) n (rising_next i n h))

  abbrev texts_at : ℕ → ℕ → List (List ℕ)
  texts_at i zero = []
  texts_at i (suc n) = (node_at s i).text ∷ texts_at (suc i) n

  cut_texts : (i n : ℕ) → Rising i n → 5 * node_count s + 2 + start_at s (i + n) ≡ length s
      → cut_read (lengths_at i n) (drop (5 * node_count s + 2 + start_at s i) s) ≡ some (texts_at i n)
  unfolding start_at node_at
  cut_texts i zero h f =
      let e : 5 * node_count s + 2 + start_at s i ≡ length s = omega (arith, start_at_lem {i = i + 0} {j = i} (omega arith)) in
      rw (e, drop-length s)
  cut_texts i (suc n) h f =
      let l = h i (omega arith) (omega arith) in
      let g = start_at_lem {i = suc i + n} {j = i + suc n} (omega arith) in
      let r : end_at s i ≤ start_at s (suc i + n) = rises (suc i) n (rising_next i n h) in
      let m : end_at s i - start_at s i ≤ length (drop (5 * node_count s + 2 + start_at s i) s) = omega (arith, length-drop (5 * node_count s + 2 + start_at s i) s) in
      let e : 5 * node_count s + 2 + start_at s i + (end_at s i - start_at s i) ≡ 5 * node_count s + 2 + end_at s i = omega arith in
      rw (le-leb _ _ m, drop-drop (end_at s i - start_at s i) (5 * node_count s + 2 + start_at s i) s, e, cut_texts (suc i) n (rising_next i n h) (omega arith))

  mend_at : (i n : ℕ) → mend (rows_at i n) (texts_at i n) ≡ images (node_at s) i n
  mend_at i zero = refl
  mend_at i (suc n) = ap (λ (l : List (List ℕ × ℕ)). ((node_at s i).kind ∷ (node_at s i).text, (node_at s i).span) ∷ l) (mend_at (suc i) n)

  -- ---- the nodes, read

  count_read : 2 ≤ length s → number_read 2 (take 2 s) ≡ some (node_count s)
  unfolding node_count
  count_read h = rw (eq-eqb (length (take 2 s)) 2 (length-take-le 2 s h))

  contents_read : Laid s → cut_at_read (map (λ (r : Row). r.1.1) (rows_at 0 (node_count s))) (drop (node_count s * 5) (drop 2 s)) ≡ some (texts_at 0 (node_count s))
  unfolding start_at
  contents_read h =
      let n = node_count s in
      let e : 2 + n * 5 ≡ 5 * n + 2 + 0 = omega arith in
      let z : 0 + n ≡ n = omega arith in
      rw (rows_ends 0 n, steps_at 0 n (λ j lo hi. h.rising j (omega arith)), drop-drop (n * 5) 2 s, e)
      (cut_texts 0 n (λ j lo hi. h.rising j (omega arith)) (rw z h.filled))

  pub nodes_read : Laid s → (node_list 1 2).read s ≡ some (images (node_at s) 0 (node_count s))
  nodes_read h =
      let n = node_count s in
      let a : number_read 2 (take 2 s) ≡ some n = count_read (omega (arith, h.room)) in
      let r : row_read (node 1 2) n (take (n * 5) (drop 2 s)) ≡ some (rows_at 0 n) = rows_read 0 n (omega (arith, h.room)) in
      rw (a, r, contents_read h) (ap some (mend_at 0 n))

  -- ---- what reading nodes tells

  count_back : (n : ℕ) → number_read 2 (take 2 s) ≡ some n → (2 ≤ length s) × (n ≡ node_count s)
  unfolding node_count
  count_back n e =
      let p = cond_some (eqb (length (take 2 s)) 2) (some (num (take 2 s))) e in
      (omega (arith, eqb-true (length (take 2 s)) 2 p.0, length-take 2 s), sym (some-injective (num (take 2 s)) n p.1))

  rows_back : Bytes s → (n : ℕ) (rs : List Row) → 2 ≤ length s → row_read (node 1 2) n (take (n * 5) (drop 2 s)) ≡ some rs → (5 * n + 2 ≤ length s) × (rs ≡ rows_at 0 n)
  rows_back b n rs h e =
      let k = row_back (node 1 2) n (take (n * 5) (drop 2 s)) rs (take_bytes (n * 5) (drop_bytes 2 b)) e in
      let w : length (take (n * 5) (drop 2 s)) ≡ length rs * 5 = ap length k.0 ∙ row_wide (node 1 2) rs k.1.1 in
      let m : 5 * n + 2 ≤ length s = omega (arith, k.1.0, length-take (n * 5) (drop 2 s), length-drop 2 s) in
      (m, some-injective rs (rows_at 0 n) (sym e ∙ rows_read 0 n (omega arith)))

  sums_rise : (i n : ℕ) (ls : List ℕ) → sums (start_at s i) ls ≡ ends_at i n → Rising i n × (start_at s (i + n) ≡ start_at s i + sum_of ls)
  unfolding start_at sum_of
  sums_rise i zero [] e = ((λ j lo hi. absurd (omega arith)), omega (arith, start_at_lem {i = i + 0} {j = i} (omega arith)))
  sums_rise i zero (x ∷ ls) e = let z : ◌≡◌ {A = ℕ} 0 1 = cc in absurd (omega arith)
  sums_rise i (suc n) [] e = let z : ◌≡◌ {A = ℕ} 0 1 = cc in absurd (omega arith)
  sums_rise i (suc n) (x ∷ ls) e =
      let p : start_at s i + x ≡ end_at s i = cc in
      let q : sums (start_at s i + x) ls ≡ ends_at (suc i) n = cc in
      let r = sums_rise (suc i) n ls (rw p at q) in
      let g = start_at_lem {i = suc i + n} {j = i + suc n} (omega arith) in
      (go p r.0, omega (arith, r.1))
    where
      go : start_at s i + x ≡ end_at s i → Rising (suc i) n → Rising i (suc n)
      go p f j lo hi = ⊎_elim (λ (q : i ≡ j). subst (λ (k : ℕ). start_at s k ≤ end_at s k) q (omega arith)) (λ (l : i < j). f j l (omega arith)) (eq-or-lt_of_le lo)

  contents_back : Bytes s → 5 * node_count s + 2 ≤ length s → (cs : List (List ℕ)) → cut_at_read (map (λ (r : Row). r.1.1) (rows_at 0 (node_count s))) (drop (node_count s * 5) (drop 2 s)) ≡ some cs → Laid s
  unfolding start_at
  contents_back b h cs e =
      let n = node_count s in
      let k = cut_at_back (map (λ (r : Row). r.1.1) (rows_at 0 n)) (drop (n * 5) (drop 2 s)) cs (drop_bytes (n * 5) (drop_bytes 2 b)) e in
      let r = sums_rise 0 n (map length cs) (k.1.0 ∙ rows_ends 0 n) in
      record {
        room = h;
        rising = λ j l. r.0 j (omega arith) (omega arith);
        filled = omega (arith, r.1, start_at_lem {i = 0 + n} {j = n} (omega arith), joined_length cs, ap length k.0, length-drop (n * 5) (drop 2 s), length-drop 2 s);
      }

  pub read_laid : Bytes s → (l : List (List ℕ × ℕ)) → (node_list 1 2).read s ≡ some l → Laid s
  read_laid b l e =
      next_some (headed_read (number 2) body s) (λ p. some (mend p.1.0 p.1.1)) e (λ p e₁ h.
      headed_some (number 2) body s p e₁ (λ n e₂ q e₃.
      headed_some (row (node 1 2) n) contents (drop 2 s) q e₃ (λ rs e₄ cs e₅.
      let c = count_back n e₂ in
      let r = rows_back b n rs c.0 e₄ in
      let m : cut_at_read (map (λ (x : Row). x.1.1) (rows_at 0 n)) (drop (n * 5) (drop 2 s)) ≡ some cs = rw r.1 at e₅ in
      contents_back b (rw c.1 at r.0) cs (rw c.1 at m))))

pub there_true : (s : List ℕ) → all_there s ≡ true → AllThere s
there_true s h = leb-true (5 * node_count s + 2) (length s) h

pub there_false : (s : List ℕ) → all_there s ≡ false → AllThere s → ⊥
there_false s h k = omega (arith, leb-false (5 * node_count s + 2) (length s) h)

pub laid_room : {s : List ℕ} → Laid s → (i : ℕ) → i < node_count s → Room s i
laid_room d i h = record { nodes = d.room; within = h }

pub laid_content : {s : List ℕ} → Laid s → (i : ℕ) → i < node_count s → Content s i
unfolding behind start_at
laid_content {s} d i h =
    let r : end_at s i ≤ start_at s (suc i + (node_count s - suc i)) = rises s (suc i) (node_count s - suc i) (λ j lo hi. d.rising j (omega arith)) in
    record {
      node = laid_room d i h;
      rising = d.rising i h;
      inside = omega (arith, r, start_at_lem s {i = suc i + (node_count s - suc i)} {j = node_count s} (omega arith), d.filled);
    }

-- a content starts where the one before it ends
pub start_next : (s : List ℕ) (i : ℕ) → 1 ≤ i → start_at s i ≡ end_at s (i - 1)
unfolding start_at
start_next s zero h = absurd (omega arith)
start_next s (suc i) h = let e : suc i - 1 ≡ i = omega arith in rw e

-- the last content ends where the bytes end
pub last_end : (s : List ℕ) → Laid s → 1 ≤ node_count s → end_at s (node_count s - 1) ≡ behind s
unfolding behind
last_end s d h = omega (arith, start_next s (node_count s) h, d.filled)

pub lay : (s : List ℕ) → AllThere s → 1 ≤ node_count s → ((j : ℕ) → j < node_count s → start_at s j ≤ end_at s j) → end_at s (node_count s - 1) ≡ behind s → Laid s
unfolding behind
lay s room one rise e = record { room = room; rising = rise; filled = omega (arith, start_next s (node_count s) one) }

pub text_empty : (s : List ℕ) (i : ℕ) → end_at s i ≡ start_at s i → (node_at s i).text ≡ []
unfolding node_at
text_empty s i h = let e : end_at s i - start_at s i ≡ 0 = omega arith in rw e

-- a node's content as the part of the bytes that it is
pub text_part : (s : List ℕ) (i n from to : ℕ) → n ≡ node_count s → from ≡ start_at s i → to ≡ end_at s i
    → take (5 * n + 2 + to - (5 * n + 2 + from)) (drop (5 * n + 2 + from) s) ≡ (node_at s i).text
unfolding node_at
text_part s i n from to p q r = let e : 5 * n + 2 + to - (5 * n + 2 + from) ≡ to - from = omega arith in rw (e, p, q, r)

pub text_length : (s : List ℕ) (i : ℕ) → Content s i → length (node_at s i).text ≡ end_at s i - start_at s i
unfolding node_at behind
text_length s i c =
    length-take-le (end_at s i - start_at s i) (drop (5 * node_count s + 2 + start_at s i) s)
    (omega (arith, length-drop (5 * node_count s + 2 + start_at s i) s, c.inside, c.rising, c.node.nodes))

-- a node's kind and content are bytes
pub node_bytes_lem : (s : List ℕ) → Bytes s → (i : ℕ) → Bytes ((node_at s i).kind ∷ (node_at s i).text)
unfolding node_at
node_bytes_lem s b i = cons_bytes (b.at (5 * i + 2)) (take_bytes (end_at s i - start_at s i) (drop_bytes (5 * node_count s + 2 + start_at s i) b))
