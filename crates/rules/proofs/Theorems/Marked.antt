-- The function `marking` answers a marking exactly where one obeys the rules, and it is that one: no second marking exists. Binding an
-- expression goes alike, with the mark of the root, or the same refusal.
-- Assumes nothing.
use Rattle.std.specs.Prelude.{◌≡◌, refl, Bool, ◌↔◌}
use Rattle.std.proofs.Common.{◌∙◌, sym, ap}
use Rattle.std.proofs.Math.Option.{Option, some, none}
use Rattle.tree.specs.Tree.{leaf, un, bin}
use Rattle.rules.specs.declared.Refusal.{Refusal}
use Rattle.rules.specs.declared.Mark.{Mark}
use Rattle.rules.specs.Lists.{Text}
use Rattle.rules.specs.Answers.{Answer, given, refused, ◌>>=◌, Verdict, fine, flaw, judged}
use Rattle.rules.specs.Tables.{TableSchema}
use Rattle.rules.specs.Statements.{Unary, parentheses, null_test, unary, other_unary, Binary, binary, other_binary, Expr}
use Rattle.rules.specs.Bound.{Marked, BoundLeaf, BoundExpr, mark_of}
use Rattle.rules.specs.Numbers.{integer_literal}
use Rattle.rules.specs.Marking.{
  integer_leaf,
  leaf_rule,
  signed_number,
  unary_rule,
  binary_rule,
  Marking,
  root_mark,
  marked_leaf,
  or_signed,
  marking,
  bound_leaf,
  bound_unary,
  bound_binary,
  bind_expression,
}
use Rattle.rules.specs.Obeys.{Obeys, at_leaf, at_signed, at_unary, at_binary}
use Rattle.rules.proofs.Theorems.Answered.{mapped, bind_given, mapped_given, never_given, never_fine, judged_given, Reads}
use Rattle.rules.proofs.Theorems.Nodes.{number_reads, leaf_reads, unary_reads, binary_reads}

-- ---- the marking of a tree

-- where a rule reads as a relation, judging by it and going on
module _ {A B M : Type 0} {f : A → M} {v : Verdict A} {P : M → Type 0} (r : Reads f v P) where
  -- gives only what the next step makes of a value of which the relation holds
  judged_only : (k : A → Answer B) (b : B) → (judged v >>= k) ≡ given b → (a : A) × P (f a) × (k a ≡ given b)
  judged_only k b h = let w = bind_given (judged v) k b h in (w.0, r.only w.0 (judged_given v w.1), w.2)

  -- and gives all that
  judged_all : (k : A → Answer B) (g : M → B) → ((a : A) → k a ≡ given (g (f a))) → (m : M) → P m → (judged v >>= k) ≡ given (g m)
  judged_all k g e m p = let w = r.all m p in rw w.1 (e w.0 ∙ ap (λ n. given (g n)) w.2)

-- Where a marking obeys the rules at every node, the function answers that marking.
pub complete : (t : TableSchema) {e : Expr} {w : Marking} → Obeys t e w → marking t e ≡ given w
unfolding marking
complete t (at_leaf {l = l} {m = m} p) = judged_all (leaf_reads t l) marked_leaf leaf (λ a. refl) m p
complete t (at_signed {m = m} negative s e p) = rw e (judged_all (number_reads negative s) marked_leaf leaf (λ a. refl) m p)
complete t (at_unary {o = o} {m = m} {w = w} e v p) =
    rw (e, complete t v) (judged_all (unary_reads o (root_mark w)) _ (λ m. un m w) (λ a. refl) m p)
complete t (at_binary {o = o} {m = m} {w = w} {z = z} u v p) =
    rw (complete t u, complete t v) (judged_all (binary_reads o (root_mark w) (root_mark z)) _ (λ m. bin m w z) (λ a. refl) m p)

-- a node with one operand: a sign directly over a number, or not
unary_sound : (t : TableSchema) (o : Unary) (a : Expr) → ((w : Marking) → marking t a ≡ given w → Obeys t a w) → (w : Marking)
    → marking t (un o a) ≡ given w → Obeys t (un o a) w
unfolding marking
unary_sound t o a below w h = go (signed_number o a) refl h
  where
    go : (s : Option (Bool × Text)) → signed_number o a ≡ s
        → or_signed s marked_leaf (marking t a >>= (λ x. judged (unary_rule o (root_mark x)) >>= (λ m. given (un m x)))) ≡ given w → Obeys t (un o a) w
    go none e h =
        let x = bind_given (marking t a) _ w h in
        let m = judged_only (unary_reads o (root_mark x.0)) _ w x.2 in
        let top : w ≡ un m.0 x.0 = cc in
        rw top (at_unary e (below x.0 x.1) m.1)
    go (some p) e h =
        let x = judged_only (number_reads p.0 p.1) marked_leaf w h in
        let top : w ≡ leaf x.0.mark = cc in
        rw top (at_signed p.0 p.1 e x.1)

-- What the function answers obeys the rules at every node.
pub sound : (t : TableSchema) (e : Expr) (w : Marking) → marking t e ≡ given w → Obeys t e w
unfolding marking
sound t (leaf l) w h =
    let x = judged_only (leaf_reads t l) marked_leaf w h in
    let top : w ≡ leaf x.0.mark = cc in
    rw top (at_leaf x.1)
sound t (un o a) w h = unary_sound t o a (sound t a) w h
sound t (bin o a b) w h =
    let x = bind_given (marking t a) _ w h in
    let y = bind_given (marking t b) _ w x.2 in
    let m = judged_only (binary_reads o (root_mark x.0) (root_mark y.0)) _ w y.2 in
    let top : w ≡ bin m.0 x.0 y.0 = cc in
    rw top (at_binary (sound t a x.0 x.1) (sound t b y.0 y.1) m.1)

-- The function answers a marking exactly where one obeys, and it is that one.
pub marking_exactly : (t : TableSchema) (e : Expr) (w : Marking) → (marking t e ≡ given w) ↔ Obeys t e w
marking_exactly t e w = (sound t e w, complete t)

-- No second marking exists.
pub unique : (t : TableSchema) {e : Expr} {x y : Marking} → Obeys t e x → Obeys t e y → x ≡ y
unique t p q = cc (complete t p, complete t q)

-- The function refuses exactly where no marking obeys.
pub refused_exactly : (t : TableSchema) (e : Expr) → ((r : Refusal) × (marking t e ≡ refused r)) ↔ ((w : Marking) → Obeys t e w → ⊥)
refused_exactly t e = (λ r w p. never_given (sym r.1 ∙ complete t p), go (marking t e) refl)
  where
    go : (a : Answer Marking) → marking t e ≡ a → ((w : Marking) → Obeys t e w → ⊥) → (r : Refusal) × (marking t e ≡ refused r)
    go (given w) e' n = absurd (n w (sound t e w e'))
    go (refused r) e' n = (r, e')

-- ---- binding an expression

-- the same refusal, or a bound expression and a marking with the same mark at the root
abbrev Alike : Answer BoundExpr → Answer Marking → Type 0
Alike r q = mapped mark_of r ≡ mapped root_mark q

-- two steps go alike where the first do, and the second do on what is alike
bind_alike : (r : Answer BoundExpr) (q : Answer Marking) (k : BoundExpr → Answer BoundExpr) (k' : Marking → Answer Marking) → Alike r q
    → ((x : BoundExpr) (w : Marking) → mark_of x ≡ root_mark w → Alike (k x) (k' w)) → Alike (r >>= k) (q >>= k')
bind_alike (given x) (given w) k k' h next = next x w (cc)
bind_alike (given x) (refused r) k k' h next = cc
bind_alike (refused r) (given w) k k' h next = cc
bind_alike (refused r) (refused r') k k' h next = cc

leaf_alike : (v : Verdict (Marked BoundLeaf)) → Alike (judged v >>= bound_leaf) (judged v >>= marked_leaf)
leaf_alike (fine l) = refl
leaf_alike (flaw k) = refl

node_alike : (v : Verdict Mark) (f : Mark → BoundExpr) (g : Mark → Marking) → ((m : Mark) → v ≡ fine m → mark_of (f m) ≡ root_mark (g m))
    → Alike (judged v >>= (λ m. given (f m))) (judged v >>= (λ m. given (g m)))
node_alike (fine m) f g h = ap given (h m refl)
node_alike (flaw k) f g h = refl

-- the mark that a node is given is that of what it is bound to
unary_mark : (o : Unary) (x : BoundExpr) (m : Mark) → unary_rule o (mark_of x) ≡ fine m → mark_of (bound_unary o m x) ≡ m
unfolding unary_rule bound_unary
unary_mark parentheses x m h = cc
unary_mark (null_test n) x m h = refl
unary_mark (unary o) x m h = refl
unary_mark other_unary x m h = absurd (never_fine h)

binary_mark : (o : Binary) (x y : BoundExpr) (m : Mark) → binary_rule o (mark_of x) (mark_of y) ≡ fine m → mark_of (bound_binary o m x y) ≡ m
unfolding binary_rule bound_binary
binary_mark (binary o) x y m h = refl
binary_mark other_binary x y m h = absurd (never_fine h)

unary_alike : (o : Unary) (x : BoundExpr) (w : Marking) → mark_of x ≡ root_mark w
    → Alike (judged (unary_rule o (mark_of x)) >>= (λ m. given (bound_unary o m x))) (judged (unary_rule o (root_mark w)) >>= (λ m. given (un m w)))
unary_alike o x w e = rw (← e) (node_alike _ _ _ (unary_mark o x))

binary_alike : (o : Binary) (x y : BoundExpr) (w z : Marking) → mark_of x ≡ root_mark w → mark_of y ≡ root_mark z
    → Alike (judged (binary_rule o (mark_of x) (mark_of y)) >>= (λ m. given (bound_binary o m x y)))
    (judged (binary_rule o (root_mark w) (root_mark z)) >>= (λ m. given (bin m w z)))
binary_alike o x y w z e e' = rw (← e, ← e') (node_alike _ _ _ (binary_mark o x y))

signed_alike : (s : Option (Bool × Text)) (r : Answer BoundExpr) (q : Answer Marking) → Alike r q → Alike (or_signed s bound_leaf r) (or_signed s marked_leaf q)
signed_alike none r q h = h
signed_alike (some p) r q h = leaf_alike (integer_leaf (integer_literal p.0 p.1))

-- Binding an expression succeeds exactly where a marking exists, with the mark of the root, and refuses with the same refusal.
pub bind_marks : (t : TableSchema) (e : Expr) → mapped mark_of (bind_expression t e) ≡ mapped root_mark (marking t e)
unfolding bind_expression marking
bind_marks t (leaf l) = leaf_alike (leaf_rule t l)
bind_marks t (un o a) = signed_alike (signed_number o a) _ _ (bind_alike (bind_expression t a) (marking t a) _ _ (bind_marks t a) (unary_alike o))
bind_marks t (bin o a b) =
    bind_alike (bind_expression t a) (marking t a) _ _ (bind_marks t a)
    (λ x w e. bind_alike (bind_expression t b) (marking t b) _ _ (bind_marks t b) (λ y z e'. binary_alike o x y w z e e'))

-- A tree with a marking is bound, and the bound expression has the mark of the root.
pub bound_of : (t : TableSchema) {e : Expr} {w : Marking} → Obeys t e w → (x : BoundExpr) × (bind_expression t e ≡ given x) × (mark_of x ≡ root_mark w)
bound_of t {e} p = mapped_given mark_of _ _ (bind_marks t e ∙ ap (mapped root_mark) (complete t p))

-- A tree that is bound has a marking, with the bound expression's mark at the root.
pub obeys_of : (t : TableSchema) (e : Expr) {x : BoundExpr} → bind_expression t e ≡ given x → (w : Marking) × Obeys t e w × (root_mark w ≡ mark_of x)
obeys_of t e h =
    let w = mapped_given root_mark (marking t e) _ (sym (bind_marks t e) ∙ ap (mapped mark_of) h) in
    (w.0, sound t e w.0 w.1, w.2)
