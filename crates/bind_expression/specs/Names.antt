-- Where the limit on names is met, every name of the expression is short enough to be looked up.
-- Assumes nothing.
use Rattle.std.specs.Prelude.{◌≡◌, refl, Bool, true, false, List, ℕ, zero, suc, ◌+◌, ◌≤◌, ◌<◌}
use Rattle.std.proofs.Common.{◌∙◌, sym, ap, subst, ⊎_elim, eq-or-lt_of_le, arith, leb-true}
use Rattle.std.proofs.lemmas.Bool.{false≢true}
use Rattle.bytes_wire.specs.Le.{Bytes}
use Rattle.rules.specs.Lists.{all}
use Rattle.rules.specs.Limits.{expression_names, name_within}
use Rattle.rules.specs.Statements.{Name, Expr}
use Rattle.image_expression.specs.Place.{Node, node_at, IsExpression}
use Rattle.image_expression.specs.Names.{node_names, names_from, image_names, within_one, all_look}
use Rattle.bind_expression.specs.Marks.{NamesWithin}

-- what holds of all names holds of those at each node
each_node : (p : Name → Bool) (v : ℕ → Node) (i n j : ℕ) → all p (names_from v i n) ≡ true → i ≤ j → j < i + n → all p (node_names (v j)) ≡ true
unfolding names_from
each_node p v i zero j h lo hi = absurd (omega arith)
each_node p v i (suc n) j h lo hi = go (all p (node_names (v i))) refl (λ g l. each_node p v (suc i) n j g l (omega arith))
  where
    go : (b : Bool) → all p (node_names (v i)) ≡ b → (all p (names_from v (suc i) n) ≡ true → i < j → all p (node_names (v j)) ≡ true)
        → all p (node_names (v j)) ≡ true
    go true q rest =
        ⊎_elim (λ (z : i ≡ j). subst (λ (k : ℕ). all p (node_names (v k)) ≡ true) z q)
        (λ (l : i < j). rest (sym ((all_look p).on (node_names (v i)) (names_from v (suc i) n) q) ∙ h) l)
        (eq-or-lt_of_le lo)
    go false q rest = absurd (false≢true (sym ((all_look p).stop (node_names (v i)) (names_from v (suc i) n) q) ∙ h))

pub names_within : {s : List ℕ} {e : Expr} → Bytes s → IsExpression s e → all (λ (n : Name). name_within n.text) (expression_names e) ≡ true
    → NamesWithin s
names_within {s} {e} b h a =
    let q = sym (ap (all (λ (n : Name). name_within n.text)) (image_names b h)) ∙ a in
    record {
      short = λ j l k.
          let m = node_at s j in
          leb-true _ _ (sym (within_one m (omega arith)) ∙ each_node _ (node_at s) 0 _ j q (omega arith) (omega arith));
    }
