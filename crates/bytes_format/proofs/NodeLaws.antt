-- The laws of `Nodes.antt`, for `Run.antt`.
-- Assumes nothing.
use Rattle.std.specs.Prelude.{◌≡◌, List, [], ◌∷◌, ◌++◌, map, ℕ, suc, ◌+◌, ◌-◌, ◌^◌, ◌≤◌, ◌<◌, length, leb, eqb}
use Rattle.std.proofs.Math.Path.{refl}
use Rattle.std.proofs.Common.{sym, ap, ap₂, ◌∙◌, subst, append_assoc, append-nil, arith, length-drop, take-append-drop, take_at, drop_at, length-take-le, le-leb, leb-true, eq-eqb, eqb-true}
use Rattle.std.proofs.Math.Option.{some, none-ne-some, some-injective}
use Rattle.std.proofs.Math.ListN.{length-append}
use Rattle.std.proofs.lemmas.List.{length-map}
use Rattle.bytes_wire.specs.Le.{Bytes, drop_bytes, take_bytes}
use Rattle.tree.specs.Tree.{Tree, Tree.leaf, Tree.un, Tree.bin, size}
use Rattle.bytes_format.specs.Format.{Format, Every}
use Rattle.bytes_format.specs.Ways.{next, joined, cut_read}
use Rattle.bytes_format.proofs.Laws.{cond_some, next_some, cut_there, cut_back_lem, append_bytes}
use Rattle.bytes_format.specs.Nodes.{Labels, Label, Label.leaf_label, Label.un_label, Label.bin_label, nodes_of, spanned, push, grow, only, tree_of, Holds, total, sums, steps, content_length, rows_of, contents_of, content_total, mend, NodeOk, images_of, labels_of, cut_at_read, RunOk, run_read, run_write}

-- ---- trees and their nodes

module _ {L U B : Type 0} where
  spanned_on : (t : Tree L U B) (st : List (Tree L U B)) → spanned t (size t) st ≡ some (t ∷ st)
  spanned_on t st = rw (eq-eqb (size t) (size t) refl)

  grow_on : (t : Tree L U B) (r : List (Label L U B × ℕ)) (st : List (Tree L U B)) → grow (nodes_of t ++ r) st ≡ grow r (t ∷ st)
  grow_on (leaf l) r st = rw (spanned_on (leaf l) st)
  grow_on (un o a) r st =
      ap (λ (l : List (Label L U B × ℕ)). grow l st) (append_assoc (nodes_of a) ((un_label o, size (un o a)) ∷ []) r)
      ∙ grow_on a ((un_label o, size (un o a)) ∷ r) st ∙ rw (spanned_on (un o a) st)
  grow_on (bin o a b) r st =
      ap (λ (l : List (Label L U B × ℕ)). grow l st)
      (append_assoc (nodes_of a ++ nodes_of b) ((bin_label o, size (bin o a b)) ∷ []) r ∙ append_assoc (nodes_of a) (nodes_of b) ((bin_label o, size (bin o a b)) ∷ r))
      ∙ grow_on a (nodes_of b ++ (bin_label o, size (bin o a b)) ∷ r) st ∙ grow_on b ((bin_label o, size (bin o a b)) ∷ r) (a ∷ st) ∙ rw (spanned_on (bin o a b) st)

  pub tree_there : (t : Tree L U B) → tree_of (nodes_of t) ≡ some t
  tree_there t = ap (λ (l : List (Label L U B × ℕ)). tree_of l) (sym (append-nil (nodes_of t))) ∙ rw (grow_on t [] [])

  -- the nodes of a stack, the last tree on top
  abbrev stack_nodes : List (Tree L U B) → List (Label L U B × ℕ)
  stack_nodes [] = []
  stack_nodes (t ∷ st) = stack_nodes st ++ nodes_of t

  spanned_back : (t : Tree L U B) (n : ℕ) (st st' : List (Tree L U B)) → spanned t n st ≡ some st' → (n ≡ size t) × (t ∷ st ≡ st')
  spanned_back t n st st' e =
      let p = cond_some (eqb n (size t)) (some (t ∷ st)) e in
      (eqb-true n (size t) p.0, some-injective (t ∷ st) st' p.1)

  push_back : (x : Label L U B) (n : ℕ) (st st' : List (Tree L U B)) → push x n st ≡ some st' → stack_nodes st ++ (x, n) ∷ [] ≡ stack_nodes st'
  push_back (leaf_label l) n st st' e =
      let p = spanned_back (leaf l) n st st' e in
      ap (λ (m : ℕ). stack_nodes st ++ (leaf_label l, m) ∷ []) p.0 ∙ ap stack_nodes p.1
  push_back (un_label o) n [] st' e = absurd (none-ne-some st' e)
  push_back (un_label o) n (a ∷ st) st' e =
      let p = spanned_back (un o a) n st st' e in
      ap (λ (m : ℕ). stack_nodes st ++ nodes_of a ++ (un_label o, m) ∷ []) p.0 ∙ append_assoc (stack_nodes st) (nodes_of a) ((un_label o, size (un o a)) ∷ []) ∙ ap stack_nodes p.1
  push_back (bin_label o) n [] st' e = absurd (none-ne-some st' e)
  push_back (bin_label o) n (b ∷ []) st' e = absurd (none-ne-some st' e)
  push_back (bin_label o) n (b ∷ a ∷ st) st' e =
      let p = spanned_back (bin o a b) n st st' e in
      ap (λ (m : ℕ). stack_nodes st ++ nodes_of a ++ nodes_of b ++ (bin_label o, m) ∷ []) p.0
      ∙ ap (λ (l : List (Label L U B × ℕ)). l ++ (bin_label o, size (bin o a b)) ∷ []) (append_assoc (stack_nodes st) (nodes_of a) (nodes_of b))
      ∙ append_assoc (stack_nodes st) (nodes_of a ++ nodes_of b) ((bin_label o, size (bin o a b)) ∷ []) ∙ ap stack_nodes p.1

  grow_back : (l : List (Label L U B × ℕ)) (st st' : List (Tree L U B)) → grow l st ≡ some st' → stack_nodes st ++ l ≡ stack_nodes st'
  grow_back [] st st' e = append-nil (stack_nodes st) ∙ ap stack_nodes (some-injective st st' e)
  grow_back (x ∷ l) st st' e =
      next_some (push x.0 x.1 st) (grow l) e (λ m e₁ h.
      sym (append_assoc (stack_nodes st) (x ∷ []) l) ∙ ap (λ (z : List (Label L U B × ℕ)). z ++ l) (push_back x.0 x.1 st m e₁) ∙ grow_back l m st' h)

  only_back : (st : List (Tree L U B)) (t : Tree L U B) → only st ≡ some t → st ≡ t ∷ []
  only_back [] t e = absurd (none-ne-some t e)
  only_back (u ∷ []) t e = ap (λ (z : Tree L U B). z ∷ []) (some-injective u t e)
  only_back (u ∷ v ∷ st) t e = absurd (none-ne-some t e)

  pub tree_back : (l : List (Label L U B × ℕ)) (t : Tree L U B) → tree_of l ≡ some t → l ≡ nodes_of t
  tree_back l t e = next_some (grow l []) only e (λ st e₁ h. grow_back l [] st e₁ ∙ ap stack_nodes (only_back st t h))

  pub nodes_length : (t : Tree L U B) → length (nodes_of t) ≡ size t
  unfolding size
  nodes_length (leaf l) = refl
  nodes_length (un o a) = length-append (nodes_of a) ((un_label o, size (un o a)) ∷ []) ∙ omega (arith, nodes_length a)
  nodes_length (bin o a b) =
      length-append (nodes_of a ++ nodes_of b) ((bin_label o, size (bin o a b)) ∷ []) ∙ omega (arith, length-append (nodes_of a) (nodes_of b), nodes_length a, nodes_length b)

-- ---- facts of each element

module _ {A : Type 0} (P : A → Type 0) where
  every_append : (l m : List A) → Every P l → Every P m → Every P (l ++ m)
  every_append [] m p q = q
  every_append (a ∷ l) m p q = (p.0, every_append l m p.1 q)

  every_parts : (l m : List A) → Every P (l ++ m) → Every P l × Every P m
  every_parts [] m h = (tt, h)
  every_parts (a ∷ l) m h = let k = every_parts l m h.1 in ((h.0, k.0), k.1)

  every_on : (Q : A → Type 0) (l : List A) → ((a : A) → P a → Q a) → Every P l → Every Q l
  every_on Q [] f h = tt
  every_on Q (a ∷ l) f h = (f a h.0, every_on Q l f h.1)

module _ {L U B : Type 0} where
  module _ (P : Label L U B → Type 0) where
    abbrev At : Label L U B × ℕ → Type 0
    At x = P x.0

    pub holds_every : (t : Tree L U B) → Holds P t → Every (λ x. P x.0) (nodes_of t)
    holds_every (leaf l) h = (h, tt)
    holds_every (un o a) h = every_append At (nodes_of a) ((un_label o, size (un o a)) ∷ []) (holds_every a h.0) (h.1, tt)
    holds_every (bin o a b) h =
        every_append At (nodes_of a ++ nodes_of b) ((bin_label o, size (bin o a b)) ∷ [])
        (every_append At (nodes_of a) (nodes_of b) (holds_every a h.0) (holds_every b h.1.0)) (h.1.1, tt)

    pub every_holds : (t : Tree L U B) → Every (λ x. P x.0) (nodes_of t) → Holds P t
    every_holds (leaf l) h = h.0
    every_holds (un o a) h = let k = every_parts At (nodes_of a) ((un_label o, size (un o a)) ∷ []) h in (every_holds a k.0, k.1.0)
    every_holds (bin o a b) h =
        let k = every_parts At (nodes_of a ++ nodes_of b) ((bin_label o, size (bin o a b)) ∷ []) h in
        let m = every_parts At (nodes_of a) (nodes_of b) k.0 in
        (every_holds a m.0, (every_holds b m.1, k.1.0))

  -- no span is larger than the root's
  pub spans_le : (n : ℕ) (t : Tree L U B) → size t ≤ n → Every (λ x. x.1 ≤ n) (nodes_of t)
  unfolding size
  spans_le n (leaf l) h = (h, tt)
  spans_le n (un o a) h = every_append (λ x. x.1 ≤ n) (nodes_of a) ((un_label o, size (un o a)) ∷ []) (spans_le n a (omega arith)) (h, tt)
  spans_le n (bin o a b) h =
      every_append (λ x. x.1 ≤ n) (nodes_of a ++ nodes_of b) ((bin_label o, size (bin o a b)) ∷ [])
      (every_append (λ x. x.1 ≤ n) (nodes_of a) (nodes_of b) (spans_le n a (omega arith)) (spans_le n b (omega arith))) (h, tt)

  module _ (k : ℕ) (f : Format (Label L U B)) where
    content_append : (l m : List (Label L U B × ℕ)) → content_total k (images_of f (l ++ m)) ≡ content_total k (images_of f l) + content_total k (images_of f m)
    content_append [] m = omega arith
    content_append (x ∷ l) m = omega (arith, content_append l m)

    pub content_total_lem : (t : Tree L U B) → content_total k (images_of f (nodes_of t)) ≡ total (λ x. length (f.write x) - k) t
    content_total_lem (leaf l) = omega arith
    content_total_lem (un o a) = content_append (nodes_of a) ((un_label o, size (un o a)) ∷ []) ∙ omega (arith, content_total_lem a)
    content_total_lem (bin o a b) =
        content_append (nodes_of a ++ nodes_of b) ((bin_label o, size (bin o a b)) ∷ []) ∙ omega (arith, content_append (nodes_of a) (nodes_of b), content_total_lem a, content_total_lem b)

-- ---- contents and their ends

steps_there : (from : ℕ) (ns : List ℕ) → steps from (sums from ns) ≡ some ns
steps_there from [] = refl
steps_there from (n ∷ ns) =
    let e : from + n - from ≡ n = omega arith in
    rw (le-leb from (from + n) (omega arith), steps_there (from + n) ns, e)

steps_back : (from : ℕ) (es ns : List ℕ) → steps from es ≡ some ns → es ≡ sums from ns
steps_back from [] ns e = ap (sums from) (some-injective [] ns e)
steps_back from (x ∷ es) ns e =
    let p = cond_some (leb from x) (next (steps x es) (λ m. some ((x - from) ∷ m))) e in
    next_some (steps x es) (λ m. some ((x - from) ∷ m)) p.1 (λ m e₁ h.
    let d : from + (x - from) ≡ x = omega (arith, leb-true from x p.0) in
    subst (λ (z : List ℕ). x ∷ es ≡ sums from z) (some-injective ((x - from) ∷ m) ns h)
    (rw d (ap (λ (l : List ℕ). x ∷ l) (steps_back x es m e₁))))

pub cut_at_there : (ends : List ℕ) (l : List (List ℕ)) → sums 0 (map length l) ≡ ends → cut_at_read ends (joined l) ≡ some l
cut_at_there ends l h = rw (← h, steps_there 0 (map length l)) (cut_there l)

pub cut_at_back : (ends s : List ℕ) (l : List (List ℕ)) → Bytes s → cut_at_read ends s ≡ some l → (s ≡ joined l) × ((sums 0 (map length l) ≡ ends) × Every Bytes l)
cut_at_back ends s l b e =
    next_some (steps 0 ends) (λ ns. cut_read ns s) e (λ ns e₁ h.
    let k = cut_back_lem ns s l b h in
    (k.0, (ap (sums 0) k.1.0 ∙ sym (steps_back 0 ends ns e₁), k.1.1)))

-- ---- rows and contents of nodes

module _ (k : ℕ) where
  pub mend_rows : (from : ℕ) (l : List (List ℕ × ℕ)) → mend (rows_of k from l) (contents_of k l) ≡ l
  mend_rows from [] = refl
  mend_rows from (x ∷ l) =
      ap₂ (λ (s : List ℕ) (m : List (List ℕ × ℕ)). (s, x.1) ∷ m) (take-append-drop k x.0) (mend_rows (from + content_length k x) l)

  pub rows_length : (from : ℕ) (l : List (List ℕ × ℕ)) → length (rows_of k from l) ≡ length l
  rows_length from [] = refl
  rows_length from (x ∷ l) = ap suc (rows_length (from + content_length k x) l)

  pub rows_ends : (from : ℕ) (l : List (List ℕ × ℕ)) → sums from (map length (contents_of k l)) ≡ map (λ r. r.1.1) (rows_of k from l)
  rows_ends from [] = refl
  rows_ends from (x ∷ l) = rw (length-drop k x.0) (ap (λ (m : List ℕ). (from + content_length k x) ∷ m) (rows_ends (from + content_length k x) l))

  module _ (w : ℕ) where
    abbrev pub RowOk : List ℕ × (ℕ × ℕ) → Type 0
    RowOk r = ((length r.0 ≡ k) × Bytes r.0) × ((r.1.0 < 256 ^ w) × (r.1.1 < 256 ^ w))

    pub rows_ok : (from : ℕ) (l : List (List ℕ × ℕ)) → from + content_total k l < 256 ^ w → Every (NodeOk k w) l → Every RowOk (rows_of k from l)
    rows_ok from [] t h = tt
    rows_ok from (x ∷ l) t h =
        let n = h.0 in
        (((length-take-le k x.0 n.0, take_bytes k n.2), (n.1, omega arith)), rows_ok (from + content_length k x) l (omega arith) h.1)

    pub contents_bytes : (l : List (List ℕ × ℕ)) → Every (NodeOk k w) l → Every Bytes (contents_of k l)
    contents_bytes [] h = tt
    contents_bytes (x ∷ l) h = (drop_bytes k h.0.2, contents_bytes l h.1)

    -- rows and contents that go together are those of nodes
    pub record Mended (from : ℕ) (rs : List (List ℕ × (ℕ × ℕ))) (cs : List (List ℕ)) : Type 0 where
      pub rows : rs ≡ rows_of k from (mend rs cs)
      pub contents : cs ≡ contents_of k (mend rs cs)
      pub small : from + content_total k (mend rs cs) < 256 ^ w
      pub nodes : Every (NodeOk k w) (mend rs cs)

    pub mended : (from : ℕ) (rs : List (List ℕ × (ℕ × ℕ))) (cs : List (List ℕ)) → from < 256 ^ w → Every RowOk rs → sums from (map length cs) ≡ map (λ r. r.1.1) rs → Every Bytes cs
        → Mended from rs cs
    mended from [] [] f h e b = record { rows = refl; contents = refl; small = omega arith; nodes = tt }
    mended from [] (c ∷ cs) f h e b = let z : ◌≡◌ {A = ℕ} 0 1 = cc in absurd (omega arith)
    mended from (r ∷ rs) [] f h e b = let z : ◌≡◌ {A = ℕ} 0 1 = cc in absurd (omega arith)
    mended from (r ∷ rs) (c ∷ cs) f h e b =
        let n = h.0 in
        let d : length (r.0 ++ c) - k ≡ length c = omega (arith, length-append r.0 c, n.0.0) in
        let x : from + length c ≡ r.1.1 = cc in
        let y : sums (from + length c) (map length cs) ≡ map (λ r. r.1.1) rs = cc in
        let m = mended (from + length c) rs cs (rw x n.1.1) h.1 y b.1 in
        record {
          rows = rw (d, take_at r.0 c k n.0.0, x) (ap (λ (l : List (List ℕ × (ℕ × ℕ))). r ∷ l) (rw x at m.rows));
          contents = rw (drop_at r.0 c k n.0.0) (ap (λ (l : List (List ℕ)). c ∷ l) m.contents);
          small = rw d (omega (arith, m.small));
          nodes = ((omega (arith, length-append r.0 c, n.0.0), n.1.0, append_bytes n.0.1 b.0), m.nodes);
        }

    -- the count, the rows and the contents
    pub node_list_ok : (l : List (List ℕ × ℕ)) → content_total k l < 256 ^ w → Every (NodeOk k w) l
        → ((length (rows_of k 0 l) ≡ length l) × Every RowOk (rows_of k 0 l)) × ((sums 0 (map length (contents_of k l)) ≡ map (λ r. r.1.1) (rows_of k 0 l)) × Every Bytes (contents_of k l))
    node_list_ok l t h = ((rows_length 0 l, rows_ok 0 l (omega arith) h), (rows_ends 0 l, contents_bytes l h))

    pub node_list_back : (p : ℕ × (List (List ℕ × (ℕ × ℕ)) × List (List ℕ))) (l : List (List ℕ × ℕ))
        → (p.0 < 256 ^ w) × (((length p.1.0 ≡ p.0) × Every RowOk p.1.0) × ((sums 0 (map length p.1.1) ≡ map (λ r. r.1.1) p.1.0) × Every Bytes p.1.1))
        → some (mend p.1.0 p.1.1) ≡ some l
        → (p ≡ (length l, (rows_of k 0 l, contents_of k l))) × ((length l < 256 ^ w) × (content_total k l < 256 ^ w) × Every (NodeOk k w) l)
    node_list_back p l h e =
        let m = mended 0 p.1.0 p.1.1 (omega (arith, h.0)) h.1.0.1 h.1.1.0 h.1.1.1 in
        let n : p.0 ≡ length (mend p.1.0 p.1.1) = sym h.1.0.0 ∙ ap length m.rows ∙ rows_length 0 (mend p.1.0 p.1.1) in
        subst (λ (z : List (List ℕ × ℕ)). (p ≡ (length z, (rows_of k 0 z, contents_of k z))) × ((length z < 256 ^ w) × (content_total k z < 256 ^ w) × Every (NodeOk k w) z))
        (some-injective (mend p.1.0 p.1.1) l e)
        (λ i. (n i, (m.rows i, m.contents i)), (rw (← n) h.0, omega (arith, m.small), m.nodes))

-- ---- labels and their images

module _ {X : Type 0} (f : Format X) where
  labels_there : (l : List (X × ℕ)) → Every (λ x. f.Ok x.0) l → labels_of f (images_of f l) ≡ some l
  labels_there [] h = refl
  labels_there (x ∷ l) h = rw (f.there x.0 h.0, labels_there l h.1)

  labels_back : (k w : ℕ) (l : List (List ℕ × ℕ)) (m : List (X × ℕ)) → Every (NodeOk k w) l → labels_of f l ≡ some m → (l ≡ images_of f m) × Every (λ x. f.Ok x.0) m
  labels_back k w [] m b e = subst (λ (z : List (X × ℕ)). ([] ≡ images_of f z) × Every (λ x. f.Ok x.0) z) (some-injective [] m e) (refl, tt)
  labels_back k w (x ∷ l) m b e =
      next_some (f.read x.0) (λ a. next (labels_of f l) (λ n. some ((a, x.1) ∷ n))) e
      (λ a e₁ h. next_some (labels_of f l) (λ n. some ((a, x.1) ∷ n)) h (λ n e₂ g.
      let p = f.back x.0 a b.0.2 e₁ in
      let q = labels_back k w l n b.1 e₂ in
      subst (λ (z : List (X × ℕ)). (x ∷ l ≡ images_of f z) × Every (λ y. f.Ok y.0) z) (some-injective ((a, x.1) ∷ n) m g)
      (ap₂ (λ (u : List ℕ) (v : List (List ℕ × ℕ)). (u, x.1) ∷ v) p.0 q.0, (p.1, q.1))))

nodes_ok : {X : Type 0} (lb : Labels X) (w n : ℕ) (m : List (X × ℕ)) → n < 256 ^ w → Every (λ x. lb.form.Ok x.0) m → Every (λ x. x.1 ≤ n) m → Every (NodeOk lb.head w) (images_of lb.form m)
nodes_ok lb w n [] f h s = tt
nodes_ok lb w n (x ∷ m) f h s = ((lb.front x.0 h.0, omega arith, lb.form.bytes x.0 h.0), nodes_ok lb w n m f h.1 s.1)

-- ---- runs

module _ {L U B : Type 0} (w : ℕ) (lb : Labels (Label L U B)) where
  pub run_there : (t : Tree L U B) → RunOk w lb t → run_read w lb (run_write w lb t) ≡ some t
  run_there t h = rw (labels_there lb.form (nodes_of t) (holds_every lb.form.Ok t h.2)) (tree_there t)

  run_length : (t : Tree L U B) → length (run_write w lb t) ≡ size t
  run_length t = length-map (nodes_of t) (λ x. (lb.form.write x.0, x.1)) ∙ nodes_length t

  pub run_ok : (t : Tree L U B) → RunOk w lb t → (length (run_write w lb t) < 256 ^ w) × (content_total lb.head (run_write w lb t) < 256 ^ w) × Every (NodeOk lb.head w) (run_write w lb t)
  run_ok t h = (
    omega (arith, run_length t, h.0),
    omega (arith, content_total_lem lb.head lb.form t, h.1),
    nodes_ok lb w (size t) (nodes_of t) h.0 (holds_every lb.form.Ok t h.2) (spans_le (size t) t (omega arith)),
  )

  pub run_back : (l : List (List ℕ × ℕ)) (t : Tree L U B) → (length l < 256 ^ w) × (content_total lb.head l < 256 ^ w) × Every (NodeOk lb.head w) l → run_read w lb l ≡ some t
      → (l ≡ run_write w lb t) × RunOk w lb t
  run_back l t h e =
      next_some (labels_of lb.form l) tree_of e (λ m e₁ g.
      let p = labels_back lb.form lb.head w l m h.2 e₁ in
      let q : m ≡ nodes_of t = tree_back m t g in
      let r : l ≡ run_write w lb t = p.0 ∙ ap (images_of lb.form) q in (
        r,
        (
          omega (arith, run_length t, ap length r, h.0),
          omega (arith, content_total_lem lb.head lb.form t, ap (content_total lb.head) r, h.1),
          every_holds lb.form.Ok t (rw q at p.1),
        ),
      ))
