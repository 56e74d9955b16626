-- The kind of a statement by its code: what the bytes behind it hold.
-- Assumes nothing.
use Rattle.std.specs.Prelude.{◌≡◌, refl, Bool, List, ℕ, zero, suc}
use Rattle.std.proofs.Common.{sym, subst}
use Rattle.bytes_format.specs.Format.{Format}
use Rattle.bytes_format.proofs.Formats.{mark, both, alone}
use Rattle.bytes_bundle.specs.Held.{Holds}
use Rattle.bytes_bundle.specs.Looks.{Inside}
use Rattle.rules.specs.Statements.{Kind, create_table, insert, query, update, delete, begin, commit, rollback, show_tables, other_kind, Statement}
use Rattle.image_parts.specs.Layout.{create, insertion, selection, updating, deletion, statement}
use Rattle.image_statement.specs.Held.{kind_no, KindHolds}
use Rattle.statement_limits.specs.Cases.{Coded}

-- the kind k is made of what t holds
abbrev Made : {A : Type 0} → Format A → (A → Kind) → Kind → List ℕ → Type 0
Made {A} f make k t = (a : A) × Holds f t a × (k ≡ make a)

abbrev pub two_marks : Bool × Bool → Kind
two_marks p = rollback p.0 p.1

-- by the kind's code
abbrev MadeAt : ℕ → Kind → List ℕ → Type 0
MadeAt zero k t = Made create create_table k t
MadeAt (suc zero) k t = Made insertion insert k t
MadeAt (suc (suc zero)) k t = Made selection query k t
MadeAt (suc (suc (suc zero))) k t = Made updating update k t
MadeAt (suc (suc (suc (suc zero)))) k t = Made deletion delete k t
MadeAt (suc (suc (suc (suc (suc zero))))) k t = Made (alone mark) begin k t
MadeAt (suc (suc (suc (suc (suc (suc zero)))))) k t = Made (alone mark) commit k t
MadeAt (suc (suc (suc (suc (suc (suc (suc zero))))))) k t = Made (alone (both mark mark)) two_marks k t
MadeAt (suc (suc (suc (suc (suc (suc (suc (suc zero)))))))) k t = Made (alone mark) show_tables k t
MadeAt (suc (suc (suc (suc (suc (suc (suc (suc (suc n))))))))) k t = k ≡ other_kind

made_at : (t : List ℕ) (k : Kind) → KindHolds k t → MadeAt (kind_no k) k t
made_at t (create_table c) h = (c, h, refl)
made_at t (insert i) h = (i, h, refl)
made_at t (query q) h = (q, h, refl)
made_at t (update u) h = (u, h, refl)
made_at t (delete d) h = (d, h, refl)
made_at t (begin m) h = (m, h, refl)
made_at t (commit m) h = (m, h, refl)
made_at t (rollback m n) h = ((m, n), h, refl)
made_at t (show_tables m) h = (m, h, refl)
made_at t other_kind h = refl

made_coded : {s t : List ℕ} {n : ℕ} → Coded s t n → (v : Statement) → Holds statement s v → MadeAt n v.kind t
made_coded {t = t} k v h = subst (λ (m : ℕ). MadeAt m v.kind t) (sym (k.code v h)) (made_at t v.kind (k.body v h))

-- the kind of the statement in s is made of what t holds
abbrev pub Behind : {A : Type 0} → Format A → (A → Kind) → List ℕ → List ℕ → Type 0
Behind f make s t = Inside statement f (λ v. v.kind) make s t

-- n is the code of none of the kinds that the rules name
abbrev pub Unnamed : ℕ → Type 0
Unnamed n = ((((((((Unit × (n ≡ 0 → ⊥)) × (n ≡ 1 → ⊥)) × (n ≡ 2 → ⊥)) × (n ≡ 3 → ⊥)) × (n ≡ 4 → ⊥)) × (n ≡ 5 → ⊥)) × (n ≡ 6 → ⊥)) × (n ≡ 7 → ⊥)) × (n ≡ 8 → ⊥)

module _ {s t : List ℕ} where
  pub create_behind : Coded s t 0 → Behind create create_table s t
  create_behind k = record { of = made_coded k }

  pub insert_behind : Coded s t 1 → Behind insertion insert s t
  insert_behind k = record { of = made_coded k }

  pub query_behind : Coded s t 2 → Behind selection query s t
  query_behind k = record { of = made_coded k }

  pub update_behind : Coded s t 3 → Behind updating update s t
  update_behind k = record { of = made_coded k }

  pub delete_behind : Coded s t 4 → Behind deletion delete s t
  delete_behind k = record { of = made_coded k }

  pub begin_behind : Coded s t 5 → Behind (alone mark) begin s t
  begin_behind k = record { of = made_coded k }

  pub commit_behind : Coded s t 6 → Behind (alone mark) commit s t
  commit_behind k = record { of = made_coded k }

  pub rollback_behind : Coded s t 7 → Behind (alone (both mark mark)) two_marks s t
  rollback_behind k = record { of = made_coded k }

  pub show_tables_behind : Coded s t 8 → Behind (alone mark) show_tables s t
  show_tables_behind k = record { of = made_coded k }

  pub other_behind : (n : ℕ) → Coded s t n → Unnamed n → (v : Statement) → Holds statement s v → v.kind ≡ other_kind
  other_behind n k l v h = go n l (made_coded k v h)
    where
      go : (n : ℕ) → Unnamed n → MadeAt n v.kind t → v.kind ≡ other_kind
      go zero l e = absurd (l.0.0.0.0.0.0.0.0.1 refl)
      go (suc zero) l e = absurd (l.0.0.0.0.0.0.0.1 refl)
      go (suc (suc zero)) l e = absurd (l.0.0.0.0.0.0.1 refl)
      go (suc (suc (suc zero))) l e = absurd (l.0.0.0.0.0.1 refl)
      go (suc (suc (suc (suc zero)))) l e = absurd (l.0.0.0.0.1 refl)
      go (suc (suc (suc (suc (suc zero))))) l e = absurd (l.0.0.0.1 refl)
      go (suc (suc (suc (suc (suc (suc zero)))))) l e = absurd (l.0.0.1 refl)
      go (suc (suc (suc (suc (suc (suc (suc zero))))))) l e = absurd (l.0.1 refl)
      go (suc (suc (suc (suc (suc (suc (suc (suc zero)))))))) l e = absurd (l.1 refl)
      go (suc (suc (suc (suc (suc (suc (suc (suc (suc n))))))))) l e = e
