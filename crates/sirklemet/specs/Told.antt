-- What is told of a row beside a catalogue: whether it obeys the table of a number.
-- Assumes nothing.
use Rattle.std.specs.Prelude.{◌≡◌, Bool, List, [], ◌∷◌, ℕ, ◌≤◌, ◌<◌, length, drop, get_or}
use Rattle.std.proofs.Math.Path.{refl, sym}
use Rattle.std.proofs.Common.{ap, ◌∙◌, arith, length-drop, drop_of_length-le, drop-cons}
use Rattle.std.proofs.Math.Bool.{false}
use Rattle.std.proofs.lemmas.Bool.{false≢true}
use Rattle.std.proofs.Math.Option.{Option, none, some}
use Rattle.bytes_bundle.specs.Bundle.{is_there, parts_of}
use Rattle.bytes_bundle.specs.Held.{Holds, list_count}
use Rattle.bytes_bundle.specs.Laws.{Each, list_values}
use Rattle.rules.specs.Tables.{TableSchema, Catalogue}
use Rattle.rules.specs.Rows.{Row}
use Rattle.image_catalogue.specs.Layout.{table, catalogue}
use Rattle.image_catalogue.specs.Values.{catalogue_tables}
use Rattle.image_row.specs.Layout.{row}
use Rattle.image_row.specs.Obeyed.{obeyed}

-- whether a row obeys the first of some tables, and the one of a number: no row obeys one that is not there
abbrev pub of_first : Catalogue → Option Row → Bool
of_first [] r = false
of_first (t ∷ ts) r = obeyed t r

abbrev pub of_number : Option Catalogue → ℕ → Option Row → Bool
of_number none k r = false
of_number (some c) k r = of_first (drop k c) r

unfoldable pub told_obeys : List ℕ → List ℕ → ℕ → Bool
told_obeys r c k = of_number (catalogue.read c) k (row.read r)

-- ---- a row and the table of a number

module _ (r c : List ℕ) (k : ℕ) where
  pub none_obeys : is_there (catalogue.read c) ≡ false → false ≡ told_obeys r c k
  unfolding told_obeys
  none_obeys h = go (catalogue.read c) h
    where
      go : (m : Option Catalogue) → is_there m ≡ false → false ≡ of_number m k (row.read r)
      go none e = refl
      go (some v) e = absurd (false≢true (sym e))

  module _ {v : Catalogue} (h : Holds catalogue c v) where
    by_value : of_first (drop k v) (row.read r) ≡ told_obeys r c k
    unfolding told_obeys
    by_value = sym (ap (λ (m : Option Catalogue). of_number m k (row.read r)) h)

    pub no_table : length (parts_of 2 c) ≤ k → false ≡ told_obeys r c k
    no_table l =
        let past : length v ≤ k = omega (arith, list_count table c (catalogue_tables c h)) in
        sym (ap (λ (ts : Catalogue). of_first ts (row.read r)) (drop_of_length-le v {i = k} past)) ∙ by_value

    -- the table, its bytes, and what is told of it
    pub the_table : k < length (parts_of 2 c) → (t : TableSchema) × (Holds table (get_or (parts_of 2 c) k []) t) × (obeyed t (row.read r) ≡ told_obeys r c k)
    the_table l = go (drop k v) refl
      where
        each : Each table (parts_of 2 c) v
        each = list_values 2 table c (catalogue_tables c h)

        go : (m : Catalogue) → drop k v ≡ m → (t : TableSchema) × (Holds table (get_or (parts_of 2 c) k []) t) × (obeyed t (row.read r) ≡ told_obeys r c k)
        go [] e = absurd (omega (arith, length-drop k v, ap length e, each.count))
        go (t ∷ m) e = (get_or v k t, each.value k t l, sym (ap (λ (ts : Catalogue). of_first ts (row.read r)) (drop-cons v k t (omega (arith, each.count)))) ∙ by_value)
