-- What the reader tests at each node, and that those tests tell an image from other bytes.
-- Assumes nothing.
use Rattle.std.specs.Prelude.{◌≡◌, refl, Bool, true, cond, not, ◌&&◌, List, [], ℕ, zero, suc, ◌+◌, ◌-◌, ◌<◌, ◌≤◌, length, leb, ltb, eqb}
use Rattle.std.specs.List.{list_all, range_with_len}
use Rattle.std.proofs.Common.{◌∙◌, below_more, subst}
use Rattle.std.proofs.Math.Path.{sym, ap}
use Rattle.std.proofs.Math.Bool.{false}
use Rattle.std.proofs.lemmas.Bool.{false≢true}
use Rattle.std.proofs.Math.Option.{Option, none, some}
use native.Mathlib.Omega.{arith}
use Rattle.std.proofs.Math.Decide.{dec_lt}
use borrow.Author.Tests.{le-leb, lt-leb, leb-false, lt-ltb, le-ltb, ltb-true, ltb-false, eq-eqb, ne_eqb, eqb-true, eqb-false, not-true, not-false}
use Rattle.bytes_wire.specs.Le.{Bytes}
use Rattle.bytes_utf8.specs.Decide.{is_utf8}
use Rattle.tree.specs.Tree.{leaf, un, bin, size}
use Rattle.rules.specs.Lists.{is_some}
use Rattle.rules.specs.Statements.{Expr}
use Rattle.image_expression.specs.Expression.{expression}
use Rattle.image_expression.specs.Place.{Node, node_count, end_at, start_at, node_at, behind, all_there, AllThere, Room, Content, leaf_of, un_of, bin_of, top, Root, HasTree}
use Rattle.image_expression.specs.Heads.{leaf_range, un_range, bin_range, leaf_kind_lem, leaf_text_lem, un_kind_lem, bin_kind_lem, no_text}
use Rattle.image_expression.specs.Trees.{kind_of, span_of, text_of, size_pos, root_span, each_root}
use Rattle.image_expression.specs.Layout.{Laid, there_true, there_false, laid_content, last_end, lay, text_length, text_empty}
use Rattle.image_expression.specs.Images.{Image, image_parts}
use Rattle.image_expression.specs.Laws.{image_root, is_expression}

-- ---- the tests

-- the content lies where it may, and is what the kind may hold: UTF-8 for a name, a number or a string, and nothing for the others
unfoldable pub content_ok : List ℕ → ℕ → Bool
content_ok s i =
    cond (ltb (end_at s i) (start_at s i)) false
    (cond (ltb (behind s) (end_at s i)) false
    (cond (ltb (node_at s i).kind 4) (is_utf8 (node_at s i).text) (eqb (end_at s i) (start_at s i))))

-- by the kind and the spans, with n = 1 for a leaf and one more than the operands' spans for the others
unfoldable pub shape_ok : (ℕ → Node) → ℕ → Bool
shape_ok v i =
    cond (ltb (v i).kind 9) (eqb (v i).span 1)
    (cond (leb 30 (v i).kind) false
    (cond (eqb i 0) false
    (cond (ltb (v i).kind 16) (eqb (v i).span ((v (i - 1)).span + 1))
    (cond (leb i (v (i - 1)).span) false
    (eqb (v i).span ((v (i - 1 - (v (i - 1)).span)).span + (v (i - 1)).span + 1))))))

-- ---- truth values

-- what a test that succeeded tells, by the way that it went
cond_true : {C : Type 0} (t a b : Bool) → cond t a b ≡ true → (t ≡ true → a ≡ true → C) → (t ≡ false → b ≡ true → C) → C
cond_true true a b e f g = f refl e
cond_true false a b e f g = g refl e

pub false_true : {C : Type 0} → false ≡ true → C
false_true e = absurd (false≢true e)

-- ---- contents

-- how the test goes, by what the numbers are
module _ (s : List ℕ) (i : ℕ) where
  pub content_falls : end_at s i < start_at s i → content_ok s i ≡ false
  unfolding content_ok
  content_falls a = rw (lt-ltb (end_at s i) (start_at s i) a)

  module _ (a : start_at s i ≤ end_at s i) where
    pub content_outside : behind s < end_at s i → content_ok s i ≡ false
    unfolding content_ok
    content_outside b = rw (le-ltb (end_at s i) (start_at s i) a, lt-ltb (behind s) (end_at s i) b)

    module _ (b : end_at s i ≤ behind s) where
      pub content_text : (node_at s i).kind < 4 → content_ok s i ≡ is_utf8 (node_at s i).text
      unfolding content_ok
      content_text k = rw (le-ltb (end_at s i) (start_at s i) a, le-ltb (behind s) (end_at s i) b, lt-ltb (node_at s i).kind 4 k)

      pub content_plain : 4 ≤ (node_at s i).kind → content_ok s i ≡ eqb (end_at s i) (start_at s i)
      unfolding content_ok
      content_plain k = rw (le-ltb (end_at s i) (start_at s i) a, le-ltb (behind s) (end_at s i) b, le-ltb (node_at s i).kind 4 k)

pub record Contained (s : List ℕ) (i : ℕ) : Type 0 where
  pub rising : start_at s i ≤ end_at s i
  pub inside : end_at s i ≤ behind s
  pub utf8 : is_utf8 (node_at s i).text ≡ true
  pub plain : 4 ≤ (node_at s i).kind → (node_at s i).text ≡ []

pub contained : (s : List ℕ) (i : ℕ) → content_ok s i ≡ true → Contained s i
unfolding content_ok is_utf8
contained s i e =
    cond_true (ltb (end_at s i) (start_at s i)) false _ e (λ _ f. false_true f) (λ a e₁.
    cond_true (ltb (behind s) (end_at s i)) false _ e₁ (λ _ f. false_true f) (λ b e₂.
    let rise : start_at s i ≤ end_at s i = ltb-false (end_at s i) (start_at s i) a in
    let here : end_at s i ≤ behind s = ltb-false (behind s) (end_at s i) b in
    cond_true (ltb (node_at s i).kind 4) _ _ e₂
    (λ c u. record { rising = rise; inside = here; utf8 = u; plain = λ h. absurd (omega (arith, ltb-true (node_at s i).kind 4 c)) })
    (λ c z.
    let q : (node_at s i).text ≡ [] = text_empty s i (eqb-true (end_at s i) (start_at s i) z) in
    record { rising = rise; inside = here; utf8 = ap is_utf8 q; plain = λ h. q })))

-- only leaves of the kinds 0 to 3 have a content
plain_at : (v : ℕ → Node) (i : ℕ) (e : Expr) → Root v i e → 4 ≤ (v i).kind → (v i).text ≡ []
unfolding Root top
plain_at v i (leaf l) h k = ap text_of h ∙ no_text l (omega (arith, ap kind_of h))
plain_at v i (un o a) h k = ap text_of h.0
plain_at v i (bin o a b) h k = ap text_of h.0

pub content_complete : (s : List ℕ) (e : Expr) → Image s e → (i : ℕ) → i < node_count s → content_ok s i ≡ true
content_complete s e m i h = go (dec_lt (node_at s i).kind 4)
  where
    c : Content s i
    c = laid_content m.laid i h

    empty : (node_at s i).text ≡ [] → end_at s i ≡ start_at s i
    empty z = omega (arith, text_length s i c, ap length z, c.rising)

    go : Dec ((node_at s i).kind < 4) → content_ok s i ≡ true
    go (yes k) = content_text s i c.rising c.inside k ∙ m.texts i h
    go (no k) =
        let t = each_root (node_at s) 0 e m.lies i (omega arith) (omega (arith, m.many)) in
        let lo : 4 ≤ (node_at s i).kind = omega arith in
        content_plain s i c.rising c.inside lo ∙ eq-eqb (end_at s i) (start_at s i) (empty (plain_at (node_at s) i t.tree t.root lo))

-- ---- shapes

-- how the test goes, by what the numbers are
module _ (v : ℕ → Node) (i : ℕ) where
  pub shape_leaf : (v i).kind < 9 → shape_ok v i ≡ eqb (v i).span 1
  unfolding shape_ok
  shape_leaf k = rw (lt-ltb (v i).kind 9 k)

  pub shape_high : 30 ≤ (v i).kind → shape_ok v i ≡ false
  unfolding shape_ok
  shape_high k = rw (le-ltb (v i).kind 9 (omega arith), le-leb 30 (v i).kind k)

  module _ (hi : (v i).kind < 30) where
    pub shape_first : 9 ≤ (v i).kind → i ≡ 0 → shape_ok v i ≡ false
    unfolding shape_ok
    shape_first lo z = rw (le-ltb (v i).kind 9 lo, lt-leb 30 (v i).kind hi, eq-eqb i 0 z)

    module _ (room : i ≡ 0 → ⊥) where
      pub shape_one : 9 ≤ (v i).kind → (v i).kind < 16 → shape_ok v i ≡ eqb (v i).span ((v (i - 1)).span + 1)
      unfolding shape_ok
      shape_one lo k = rw (le-ltb (v i).kind 9 lo, lt-leb 30 (v i).kind hi, ne_eqb i 0 room, lt-ltb (v i).kind 16 k)

      pub shape_under : 16 ≤ (v i).kind → i ≤ (v (i - 1)).span → shape_ok v i ≡ false
      unfolding shape_ok
      shape_under lo l =
          rw (le-ltb (v i).kind 9 (omega arith), lt-leb 30 (v i).kind hi, ne_eqb i 0 room, le-ltb (v i).kind 16 lo, le-leb i (v (i - 1)).span l)

      pub shape_two : 16 ≤ (v i).kind → (v (i - 1)).span < i → shape_ok v i ≡ eqb (v i).span ((v (i - 1 - (v (i - 1)).span)).span + (v (i - 1)).span + 1)
      unfolding shape_ok
      shape_two lo l =
          rw (le-ltb (v i).kind 9 (omega arith), lt-leb 30 (v i).kind hi, ne_eqb i 0 room, le-ltb (v i).kind 16 lo, lt-leb i (v (i - 1)).span l)

module _ (v : ℕ → Node) (i : ℕ) where
  pub shape_complete : (e : Expr) → Root v i e → shape_ok v i ≡ true
  unfolding Root top size
  shape_complete (leaf l) h = shape_leaf v i (omega (arith, leaf_range l, ap kind_of h)) ∙ eq-eqb (v i).span 1 (ap span_of h)
  shape_complete (un o a) h =
      let k : (9 ≤ (v i).kind) × ((v i).kind < 16) = omega (arith, un_range o, ap kind_of h.0) in
      shape_one v i (omega arith) (λ z. omega (arith, h.1)) k.0 k.1 ∙ eq-eqb (v i).span ((v (i - 1)).span + 1) (omega (arith, ap span_of h.0, root_span v (i - 1) a h.2))
  shape_complete (bin o a b) h =
      let k : (16 ≤ (v i).kind) × ((v i).kind < 30) = omega (arith, bin_range o, ap kind_of h.0) in
      let q : (v (i - 1)).span ≡ size b = root_span v (i - 1) b h.3 in
      let l : (v (i - 1 - (v (i - 1)).span)).span ≡ size a = rw q (root_span v (i - 1 - size b) a h.2) in
      shape_two v i k.1 (λ z. omega (arith, h.1)) k.0 (omega (arith, h.1))
      ∙ eq-eqb (v i).span ((v (i - 1 - (v (i - 1)).span)).span + (v (i - 1)).span + 1) (omega (arith, ap span_of h.0))

  leaf_tree : (v i).kind < 9 → (4 ≤ (v i).kind → (v i).text ≡ []) → (v i).span ≡ 1 → HasTree v i
  unfolding Root top
  leaf_tree k p n =
      let x = leaf_kind_lem (v i).kind (v i).text k in
      let y = leaf_text_lem (v i).kind (v i).text p in
      record { tree = leaf (leaf_of (v i).kind (v i).text); root = λ j. record { kind = sym x j; span = n j; text = sym y j } }

  un_tree : 9 ≤ (v i).kind → (v i).kind < 16 → (v i).text ≡ [] → 1 ≤ i → HasTree v (i - 1) → (v i).span ≡ (v (i - 1)).span + 1 → HasTree v i
  unfolding Root top size
  un_tree lo hi p room a n =
      let x = un_kind_lem (v i).kind lo hi in
      let y : (v i).span ≡ size a.tree + 1 = omega (arith, root_span v (i - 1) a.tree a.root) in
      record { tree = un (un_of (v i).kind) a.tree; root = ((λ j. record { kind = sym x j; span = y j; text = p j }), room, a.root) }

  bin_tree : 16 ≤ (v i).kind → (v i).kind < 30 → (v i).text ≡ [] → (v (i - 1)).span < i → HasTree v (i - 1) → HasTree v (i - 1 - (v (i - 1)).span)
      → (v i).span ≡ (v (i - 1 - (v (i - 1)).span)).span + (v (i - 1)).span + 1 → HasTree v i
  unfolding Root top size
  bin_tree lo hi p room b a n =
      let x = bin_kind_lem (v i).kind lo hi in
      let q : (v (i - 1)).span ≡ size b.tree = root_span v (i - 1) b.tree b.root in
      let y : (v i).span ≡ size a.tree + size b.tree + 1 = omega (arith, root_span v (i - 1 - (v (i - 1)).span) a.tree a.root) in
      record {
        tree = bin (bin_of (v i).kind) a.tree b.tree;
        root = ((λ j. record { kind = sym x j; span = y j; text = p j }), omega arith, rw q at a.root, b.root);
      }

  -- where each node before it is the root of a tree, and its content is what its kind may hold
  pub shape_sound : ((j : ℕ) → j < i → HasTree v j) → (4 ≤ (v i).kind → (v i).text ≡ []) → shape_ok v i ≡ true → HasTree v i
  unfolding shape_ok
  shape_sound t p e =
      let k = (v i).kind in
      let r = (v (i - 1)).span in
      cond_true (ltb k 9) _ _ e (λ a n. leaf_tree (ltb-true k 9 a) p (eqb-true (v i).span 1 n)) (λ a e₁.
      let lo : 9 ≤ k = ltb-false k 9 a in
      cond_true (leb 30 k) false _ e₁ (λ _ f. false_true f) (λ b e₂.
      cond_true (eqb i 0) false _ e₂ (λ _ f. false_true f) (λ c e₃.
      let room : 1 ≤ i = omega (arith, eqb-false i 0 c) in
      cond_true (ltb k 16) _ _ e₃
      (λ d n. un_tree lo (ltb-true k 16 d) (p (omega arith)) room (t (i - 1) (omega arith)) (eqb-true (v i).span (r + 1) n)) (λ d e₄.
      cond_true (leb i r) false _ e₄ (λ _ f. false_true f) (λ g n.
      let hi : r < i = leb-false i r g in
      bin_tree (ltb-false k 16 d) (leb-false 30 k b) (p (omega arith)) hi (t (i - 1) (omega arith)) (t (i - 1 - r) (omega arith))
      (eqb-true (v i).span ((v (i - 1 - r)).span + r + 1) n))))))

-- ---- all of it

-- node j has passed both tests
pub record Good (s : List ℕ) (j : ℕ) : Type 0 where
  pub content : content_ok s j ≡ true
  pub tree : HasTree (node_at s) j

-- node i passes the second test, where those before it passed
pub good : (s : List ℕ) (i : ℕ) → ((j : ℕ) → j < i → Good s j) → content_ok s i ≡ true → shape_ok (node_at s) i ≡ true → Good s i
good s i before c h =
    record { content = c; tree = shape_sound (node_at s) i (λ j l. (before j l).tree) (contained s i c).plain h }

-- the reader's loop has passed the nodes before i
pub record Passed (s : List ℕ) (n last i : ℕ) : Type 0 where
  pub bytes : Bytes s
  pub room : AllThere s
  pub many : n ≡ node_count s
  pub end : last + 1 ≡ n
  pub upto : i ≤ n
  pub good : (j : ℕ) → j < i → Good s j

pub passed_room : {s : List ℕ} {n last i : ℕ} → Passed s n last i → (j : ℕ) → j ≤ last → Room s j
passed_room p j h = record { nodes = p.room; within = omega (arith, p.many, p.end) }

-- why bytes are no image
pub none_read : {s : List ℕ} → Bytes s → ((e : Expr) → Image s e → ⊥) → false ≡ is_some (expression.read s)
none_read {s} b f = go (expression.read s) refl
  where
    go : (o : Option Expr) → expression.read s ≡ o → false ≡ is_some (expression.read s)
    go none p = rw p
    go (some e) p = absurd (f e (image_parts b p))

module _ {s : List ℕ} (e : Expr) (m : Image s e) where
  pub not_there : all_there s ≡ false → ⊥
  not_there h = there_false s h m.laid.room

  pub not_one_lem : node_count s ≡ 0 → ⊥
  not_one_lem h = omega (arith, m.many, size_pos e)

  pub no_content : (i : ℕ) → i < node_count s → content_ok s i ≡ false → ⊥
  no_content i l h = false_true (sym h ∙ content_complete s e m i l)

  pub no_shape : (i : ℕ) → i < node_count s → shape_ok (node_at s) i ≡ false → ⊥
  no_shape i l h =
      let t = each_root (node_at s) 0 e m.lies i (omega arith) (omega (arith, m.many)) in
      false_true (sym h ∙ shape_complete (node_at s) i t.tree t.root)

  pub not_filled : 1 ≤ node_count s → (end_at s (node_count s - 1) ≡ behind s → ⊥) → ⊥
  not_filled l f = f (last_end s m.laid l)

-- where every node is good and the last content fills the bytes, the last span decides
decided : {s : List ℕ} → Bytes s → Room s (node_count s - 1) → ((j : ℕ) → j < node_count s → Good s j) → end_at s (node_count s - 1) ≡ behind s
    → eqb (node_at s (node_count s - 1)).span (node_count s) ≡ is_some (expression.read s)
decided {s} b room g f = go (eqb (node_at s (node_count s - 1)).span (node_count s)) refl
  where
    laid : Laid s
    laid = lay s room.nodes (omega (arith, room.within)) (λ j l. (contained s j (g j l).content).rising) f

    go : (r : Bool) → eqb (node_at s (node_count s - 1)).span (node_count s) ≡ r → r ≡ is_some (expression.read s)
    go true q =
        let t = (g (node_count s - 1) room.within).tree in
        let n : size t.tree ≡ node_count s = sym (root_span (node_at s) (node_count s - 1) t.tree t.root) ∙ eqb-true _ _ q in
        sym (ap is_some (is_expression laid (λ j l. (contained s j (g j l).content).utf8) t.root n))
    go false q =
        none_read b (λ e m.
        let r = root_span (node_at s) (node_count s - 1) e (image_root m) in
        eqb-false _ _ q (r ∙ sym m.many))

-- ---- the reader's loop

pub begun_room : (s : List ℕ) (r : Bool) → r ≡ all_there s → not r ≡ false → AllThere s
begun_room s r e h = there_true s (sym e ∙ not-false r h)

pub begun : {s : List ℕ} (n : ℕ) (r : Bool) → Bytes s → r ≡ all_there s → not r ≡ false → n ≡ node_count s → (n ≡ 0 → ⊥) → Passed s n (n - 1) 0
begun {s} n r b e h m z = record {
  bytes = b;
  room = begun_room s r e h;
  many = m;
  end = omega arith;
  upto = omega arith;
  good = λ j l. absurd (omega arith);
}

module _ {s : List ℕ} {n last i : ℕ} (p : Passed s n last i) where
  pub stopped_content : i ≤ last → (r : Bool) → r ≡ content_ok s i → not r ≡ true → false ≡ is_some (expression.read s)
  stopped_content l r e h = none_read p.bytes (λ t m. no_content t m i (passed_room p i l).within (sym e ∙ not-true r h))

  pub stopped_shape : i ≤ last → (r : Bool) → r ≡ shape_ok (node_at s) i → not r ≡ true → false ≡ is_some (expression.read s)
  stopped_shape l r e h = none_read p.bytes (λ t m. no_shape t m i (passed_room p i l).within (sym e ∙ not-true r h))

  pub passes : i ≤ last → (r q : Bool) → r ≡ content_ok s i → not r ≡ false → q ≡ shape_ok (node_at s) i → not q ≡ false → Passed s n last (i + 1)
  passes l r q e h f g = record {
    bytes = p.bytes;
    room = p.room;
    many = p.many;
    end = p.end;
    upto = omega (arith, p.end);
    good = below_more (Good s) i p.good (good s i p.good (sym e ∙ not-false r h) (sym f ∙ not-false q g));
  }

  last_node : last ≡ node_count s - 1
  last_node = omega (arith, p.many, p.end)

  pub stopped_end : (x y : ℕ) → x ≡ end_at s last → y ≡ behind s → (x ≡ y → ⊥) → false ≡ is_some (expression.read s)
  stopped_end x y e f h = none_read p.bytes (λ t m. not_filled t m (omega (arith, p.many, p.end)) (λ z. h (e ∙ ap (end_at s) last_node ∙ z ∙ sym f)))

  pub last_decides : last < i → (x y m : ℕ) → x ≡ end_at s last → y ≡ behind s → x ≡ y → m ≡ (node_at s last).span → eqb m n ≡ is_some (expression.read s)
  last_decides l x y m e f h d =
      rw (d, p.many, last_node)
      (decided p.bytes (rw last_node at (passed_room p last (omega arith))) (λ j g. p.good j (omega (arith, p.many, p.end))) (ap (end_at s) (sym last_node) ∙ sym e ∙ h ∙ f))

-- ---- a chain over the nodes, which stops at one that is not good

abbrev pub good_node : List ℕ → ℕ → Bool
good_node s j = content_ok s j && shape_ok (node_at s) j

-- what it found: r says whether all nodes are good
pub record Walked (s : List ℕ) (n last : ℕ) (r : Bool) : Type 0 where
  pub passed : r ≡ true → Passed s n last n
  pub failed : r ≡ false → false ≡ is_some (expression.read s)

module _ {s : List ℕ} {n last : ℕ} where
  walk_turn : {i : ℕ} → Passed s n last i → i ≤ last → (b d r : Bool) → content_ok s i ≡ b → shape_ok (node_at s) i ≡ d
      → (Passed s n last (i + 1) → Walked s n last r) → Walked s n last ((b && d) && r)
  walk_turn p l true true r e h k = k (passes p l true true (sym e) refl (sym h) refl)
  walk_turn p l true false r e h k = record { passed = λ z. absurd (false≢true z); failed = λ z. stopped_shape p l false (sym h) refl }
  walk_turn p l false d r e h k = record { passed = λ z. absurd (false≢true z); failed = λ z. stopped_content p l false (sym e) refl }

  walk_nodes : (k i : ℕ) → i + k ≡ n → Passed s n last i → Walked s n last (list_all (good_node s) (range_with_len i k))
  walk_nodes zero i e p =
      let d : i ≡ n = omega (arith, e) in
      record { passed = λ z. subst (Passed s n last) d p; failed = λ z. absurd (false≢true (sym z)) }
  walk_nodes (suc k) i e p = walk_turn p (omega (arith, e, p.end)) _ _ _ refl refl (walk_nodes k (i + 1) (omega (arith, e)))

  pub walked : (k : ℕ) → k ≡ n → Passed s n last 0 → {r : Bool} → r ≡ list_all (good_node s) (range_with_len 0 k) → Walked s n last r
  walked k e p h = rw h (walk_nodes k 0 (omega (arith, e)) p)
