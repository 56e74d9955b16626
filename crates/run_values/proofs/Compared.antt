-- Integers have an order, and so have texts, in the rules' words.
-- Assumes nothing.
use Rattle.std.specs.Prelude.{◌≡◌, Bool, true, false, cond, not, ℕ, ltb, leb, ℤ, pos, negsuc}
use Rattle.std.proofs.Common.{refl, ap, sym, arith, ltb-true, ltb-false, le-leb, le-ltb}
use Rattle.std.proofs.lemmas.Bool.{lt-leb}
use Rattle.std.proofs.Math.Option.{some}
use Rattle.std.specs.declared.cmp.Ordering.TheVariants.{Less, Equal, Greater}
use Rattle.std.specs.Ordering.{int_cmp}
use Rattle.std.specs.Int.Signed.{lt_z, le_z}
use Rattle.rules.specs.Bound.{Value}
use Rattle.rules.specs.Evaluate.{equal, less}
use Rattle.rules.specs.Lists.{Text}
use Rattle.text_order.specs.Order.{order_of, told_same, told_less, told_more}
use Rattle.run_values.specs.Orders.{Ordered}

-- one is at most the other, or else is the greater
at_most : (a b : ℕ) (t : Bool) → ltb b a ≡ t → leb a b ≡ not t
at_most a b true h = lt-leb a b (ltb-true b a h)
at_most a b false h = le-leb a b (ltb-false b a h)

least_first : (a b : ℤ) (t : Bool) → lt_z b a ≡ t → le_z a b ≡ not t
least_first (pos a) (pos b) t h = at_most a b t h
least_first (pos a) (negsuc b) true h = refl
least_first (pos a) (negsuc b) false h = sym h
least_first (negsuc a) (pos b) true h = sym h
least_first (negsuc a) (pos b) false h = refl
least_first (negsuc a) (negsuc b) t h = at_most b a t h

-- of two numbers at most one is the less
never_both : (a b : ℤ) → lt_z a b ≡ true → lt_z b a ≡ false
never_both (pos a) (pos b) h = le-ltb b a (omega (arith, ltb-true a b h))
never_both (pos a) (negsuc b) h = sym h
never_both (negsuc a) (pos b) h = refl
never_both (negsuc a) (negsuc b) h = le-ltb a b (omega (arith, ltb-true b a h))

pub ints_ordered : (a b : ℤ) → Ordered (Value.int a) (Value.int b) (int_cmp a b)
unfolding equal less
ints_ordered a b = go (lt_z a b) refl (lt_z b a) refl
  where
    go : (s : Bool) → lt_z a b ≡ s → (t : Bool) → lt_z b a ≡ t → Ordered (Value.int a) (Value.int b) (cond s Less (cond t Greater Equal))
    go true h t k = record {
      alike = ap some (rw (least_first a b false (never_both a b h), least_first b a true h));
      below = ap some h;
      above = ap some (never_both a b h);
      no_bool = refl;
      left = refl;
      right = refl;
    }
    go false h true k = record {
      alike = ap some (rw (least_first a b true k));
      below = ap some h;
      above = ap some k;
      no_bool = refl;
      left = refl;
      right = refl;
    }
    go false h false k = record {
      alike = ap some (rw (least_first a b false k, least_first b a false h));
      below = ap some h;
      above = ap some k;
      no_bool = refl;
      left = refl;
      right = refl;
    }

pub texts_ordered : (a b : Text) → Ordered (Value.text a) (Value.text b) (order_of a b)
unfolding equal less
texts_ordered a b = record {
  alike = ap some (told_same a b);
  below = ap some (told_less a b);
  above = ap some (told_more a b);
  no_bool = refl;
  left = refl;
  right = refl;
}
