-- Options and columns as the code reads them, one after the other.
-- Assumes nothing.
use mathlib.Core.Path.{◌≡◌, refl, sym, ap, ◌∙◌}
use mathlib.Core.Bool.{Bool, true, false, ◌&&◌}
use mathlib.Core.List.{List, ◌∷◌}
use Prim.Native.Nat.{ℕ}
use native.Mathlib.Omega.{arith}
use Rattle.std.specs.Prelude.{Result, Ok, Err}
use Rattle.bytes_bundle.specs.Held.{Holds}
use Rattle.bind_options.specs.declared.OptionState as declared
use Rattle.bind_options.specs.Steps.{state_of, step_of}
use Rattle.rules.specs.declared.Class.{Class}
use Rattle.rules.specs.declared.Class.TheVariants.{ConstraintViolation, UnsupportedSql}
use Rattle.rules.specs.declared.DataType.TheVariants as data-type
use Rattle.rules.specs.Answers.{Answer, given, refused, refuse, ◌>>=◌}
use Rattle.rules.specs.Statements.{ColumnType, known, other_type, OptionKind, option_null, option_not_null, option_key, option_key_with_characteristics, other_option, ColumnOption, ColumnDefinition}
use Rattle.rules.specs.Analyze.{OptionState, no_options, option_of, options, said_null, data_type}
use Rattle.image_parts.specs.Layout.{column_type_no, option_kind_no, option}
use Rattle.bind_table.specs.Steps.{step_on, step_off, test_on, test_off}
use Rattle.bind_create.specs.declared.Key.{Key}
use Rattle.std.specs.Prelude.{Result, Ok, Err}
use Rattle.bind_create.specs.Defined.{one_option, options_next, finish_column, judge_column, typed}
use Rattle.bind_create.specs.Columns.{Inlined}
use Rattle.bind_create.specs.Keys.{has_key, inlined}

-- ---- an option, by the code of its kind

pub kind_null : (k : OptionKind) → option_kind_no k ≡ 0 → k ≡ option_null
kind_null option_null e = refl
kind_null option_not_null e = absurd (omega (arith, e))
kind_null option_key e = absurd (omega (arith, e))
kind_null option_key_with_characteristics e = absurd (omega (arith, e))
kind_null other_option e = absurd (omega (arith, e))

pub kind_not_null : (k : OptionKind) → option_kind_no k ≡ 1 → k ≡ option_not_null
kind_not_null option_null e = absurd (omega (arith, e))
kind_not_null option_not_null e = refl
kind_not_null option_key e = absurd (omega (arith, e))
kind_not_null option_key_with_characteristics e = absurd (omega (arith, e))
kind_not_null other_option e = absurd (omega (arith, e))

pub kind_key : (k : OptionKind) → option_kind_no k ≡ 2 → k ≡ option_key
kind_key option_null e = absurd (omega (arith, e))
kind_key option_not_null e = absurd (omega (arith, e))
kind_key option_key e = refl
kind_key option_key_with_characteristics e = absurd (omega (arith, e))
kind_key other_option e = absurd (omega (arith, e))

module _ (s : OptionState) (o : ColumnOption) where
  pub option_named : o.named ≡ true → one_option s o ≡ refuse UnsupportedSql
  option_named e = test_off UnsupportedSql (option_of s o.kind) e

  pub option_is : {k : OptionKind} → o.named ≡ false → o.kind ≡ k → one_option s o ≡ option_of s k
  option_is n e = test_on UnsupportedSql (option_of s o.kind) n ∙ ap (option_of s) e

  pub option_other : o.named ≡ false → (option_kind_no o.kind ≡ 0 → ⊥) → (option_kind_no o.kind ≡ 1 → ⊥) → (option_kind_no o.kind ≡ 2 → ⊥) → one_option s o ≡ refuse UnsupportedSql
  unfolding option_of
  option_other n a b c = test_on UnsupportedSql (option_of s o.kind) n ∙ go o.kind a b c
    where
      go : (k : OptionKind) → (option_kind_no k ≡ 0 → ⊥) → (option_kind_no k ≡ 1 → ⊥) → (option_kind_no k ≡ 2 → ⊥) → option_of s k ≡ refuse UnsupportedSql
      go option_null a b c = absurd (a refl)
      go option_not_null a b c = absurd (b refl)
      go option_key a b c = absurd (c refl)
      go option_key_with_characteristics a b c = refl
      go other_option a b c = refl

-- ---- options

-- an option at a state, by what the code answered of it
module _ (t : OptionState) (p : List ℕ) (r : Result declared.OptionState Class) (g : (v : ColumnOption) → Holds option p v → step_of r ≡ one_option t v) (v : ColumnOption) (l : List ColumnOption) (h : Holds option p v) where
  one_left : options t (v ∷ l) ≡ (step_of r >>= (λ u. options u l))
  one_left = options_next t v l ∙ ap (λ (a : Answer OptionState). a >>= (λ u. options u l)) (sym (g v h))

  pub options_on : {n : declared.OptionState} → r ≡ Ok n → options t (v ∷ l) ≡ options (state_of n) l
  options_on q = one_left ∙ step_on (λ u. options u l) (ap step_of q)

  pub options_stop : {k : Class} → r ≡ Err k → options t (v ∷ l) ≡ refuse k
  options_stop q = one_left ∙ step_off (λ u. options u l) (ap step_of q)

-- ---- a column

pub type_other : (t : ColumnType) → column_type_no t ≡ 3 → data_type t ≡ refuse UnsupportedSql
unfolding data_type
type_other (known data-type.Int) e = absurd (omega (arith, e))
type_other (known data-type.Text) e = absurd (omega (arith, e))
type_other (known data-type.Bool) e = absurd (omega (arith, e))
type_other other_type e = refl

pub type_known : (t : ColumnType) → (column_type_no t ≡ 3 → ⊥) → data_type t ≡ given (typed t)
unfolding data_type
type_known (known t) h = refl
type_known other_type h = absurd (h refl)

module _ (second : Bool) (o : OptionState) (c : ColumnDefinition) where
  pub finish_null : (o.key && said_null o.nullability) ≡ true → finish_column second o c ≡ refuse ConstraintViolation
  finish_null e = test_off _ _ e

  module _ (a : (o.key && said_null o.nullability) ≡ false) where
    pub finish_second : (o.key && second) ≡ true → finish_column second o c ≡ refuse ConstraintViolation
    finish_second e = test_on _ _ a ∙ test_off _ _ e

    module _ (b : (o.key && second) ≡ false) where
      pub finish_type : column_type_no c.ty ≡ 3 → finish_column second o c ≡ refuse UnsupportedSql
      finish_type e = test_on _ _ a ∙ test_on _ _ b ∙ step_off (λ t. given o.key) (type_other c.ty e)

      pub finish_fine : (column_type_no c.ty ≡ 3 → ⊥) → finish_column second o c ≡ given o.key
      finish_fine e = test_on _ _ a ∙ test_on _ _ b ∙ step_on (λ t. given o.key) (type_known c.ty e)

module _ (repeated second : Bool) (c : ColumnDefinition) where
  pub judge_collation : c.collation ≡ true → judge_column repeated second c ≡ refuse UnsupportedSql
  judge_collation e = test_off _ _ e

  module _ (a : c.collation ≡ false) where
    pub judge_repeated : repeated ≡ true → judge_column repeated second c ≡ refuse ConstraintViolation
    judge_repeated e = test_on _ _ a ∙ test_off _ _ e

    module _ (b : repeated ≡ false) where
      pub judge_options : {k : Class} → options no_options c.options ≡ refuse k → judge_column repeated second c ≡ refuse k
      judge_options e = test_on _ _ a ∙ test_on _ _ b ∙ step_off (λ o. finish_column second o c) e

      pub judge_finish : {o : OptionState} → options no_options c.options ≡ given o → judge_column repeated second c ≡ finish_column second o c
      judge_finish e = test_on _ _ a ∙ test_on _ _ b ∙ step_on (λ o. finish_column second o c) e

-- `repeated` said in another way
pub judged_at : (i : ℕ) (key : Key) {r : Result Key Class} {a b : Bool} (c : ColumnDefinition) → r ≡ inlined i key (judge_column a (has_key key) c) → a ≡ b → r ≡ inlined i key (judge_column b (has_key key) c)
judged_at i key c e h = e ∙ ap (λ (x : Bool). inlined i key (judge_column x (has_key key) c)) h

-- the same of another way to say the number
pub inlined_here : {i j : ℕ} (key : Key) {r : Result Key Class} (a : Bool) (c : ColumnDefinition) → i ≡ j → r ≡ inlined i key (judge_column a (has_key key) c) → r ≡ inlined j key (judge_column a (has_key key) c)
inlined_here key a c e h = h ∙ ap (λ (i : ℕ). inlined i key (judge_column a (has_key key) c)) e

-- what was judged, by what the code makes of it
pub inlined_off : (i : ℕ) (key : Key) {r : Result Key Class} {k : Class} (a : Answer Bool) → r ≡ inlined i key a → r ≡ Err k → a ≡ refuse k
inlined_off i key {r} {k} a e h = go a (sym h ∙ e)
  where
    go : (a : Answer Bool) → Err k ≡ inlined i key a → a ≡ refuse k
    go (given b) e = let z : ◌≡◌ {A = ℕ} 0 1 = cc in absurd (omega arith)
    go (refused q) e = let z : q.class ≡ k = cc in ap (λ (k : Class). refuse k) z

pub inlined_on : {i : ℕ} {key : Key} {r : Result Key Class} {k : Key} (a : Answer Bool) → r ≡ inlined i key a → r ≡ Ok k → Inlined i key a k
inlined_on {i} {key} {r} {k} a e h = go a (sym h ∙ e)
  where
    go : (a : Answer Bool) → Ok k ≡ inlined i key a → Inlined i key a k
    go (given b) e = record { yes = b; gives = refl; is = cc }
    go (refused q) e = let z : ◌≡◌ {A = ℕ} 0 1 = cc in absurd (omega arith)
