-- What is known of a case once its bytes are seen to be one.
-- Assumes nothing.
use Rattle.std.specs.Prelude.{◌≡◌, refl, true, false, ◌&&◌, List, ℕ, zero, suc, ◌+◌, ◌-◌, ◌*◌, ◌≤◌, ◌<◌, length}
use Rattle.std.proofs.Common.{add-zero, add-suc, add-one, arith}
use borrow.Author.Tests.{leb-true, le-leb, lt-leb}
use Rattle.std.proofs.Math.Dec.{leb}
use Rattle.bytes_bundle.specs.Decides.{and_of}
use Rattle.replay_record.specs.Layout.{size, room, starts, most, is_case}

-- ---- where its parts start

pub starts_first : (k : ℕ) (s : List ℕ) → starts k 0 s ≡ 5 + 4 * k
unfolding starts
starts_first k s = refl

pub starts_more : (k j : ℕ) (s : List ℕ) → starts k (j + 1) s ≡ starts k j s + size (5 + 4 * j) s
unfolding starts
starts_more k j s = rw add-one

starts_rise : (k j n : ℕ) (s : List ℕ) → starts k j s ≤ starts k (j + n) s
unfolding starts
starts_rise k j zero s = rw (add-zero j) (omega arith)
starts_rise k j (suc n) s = rw (add-suc j n) (omega (arith, starts_rise k j n s))

-- ---- whether it is one

module _ (k : ℕ) (s : List ℕ) where
  pub case_headless : length s < 5 + 4 * k → false ≡ is_case k s
  unfolding is_case
  case_headless h = simp (lt-leb (5 + 4 * k) (length s) h)

  pub case_cut : 5 + 4 * k ≤ length s → length s < starts k k s → false ≡ is_case k s
  unfolding is_case
  case_cut g h = simp (le-leb (5 + 4 * k) (length s) g, lt-leb (starts k k s) (length s) h)

  pub case_there : 5 + 4 * k ≤ length s → starts k k s ≤ length s → leb (room s) most ≡ is_case k s
  unfolding is_case
  case_there g h = simp (le-leb (5 + 4 * k) (length s) g, le-leb (starts k k s) (length s) h)

-- ---- it is one

module _ (k : ℕ) (s : List ℕ) (h : is_case k s ≡ true) where
  pub case_head : 5 + 4 * k ≤ length s
  unfolding is_case
  case_head = leb-true (5 + 4 * k) (length s) (and_of (leb (5 + 4 * k) (length s)) (leb (starts k k s) (length s) && leb (room s) most) h).0

  pub case_end : starts k k s ≤ length s
  unfolding is_case
  case_end =
      let r = (and_of (leb (5 + 4 * k) (length s)) (leb (starts k k s) (length s) && leb (room s) most) h).1 in
      leb-true (starts k k s) (length s) (and_of (leb (starts k k s) (length s)) (leb (room s) most) r).0

  pub case_room : room s ≤ most
  unfolding is_case
  case_room =
      let r = (and_of (leb (5 + 4 * k) (length s)) (leb (starts k k s) (length s) && leb (room s) most) h).1 in
      leb-true (room s) most (and_of (leb (starts k k s) (length s)) (leb (room s) most) r).1

  pub part_end : (j : ℕ) → j < k → starts k j s + size (5 + 4 * j) s ≤ length s
  part_end j l =
      let e : j + 1 + (k - (j + 1)) ≡ k = omega arith in
      omega (arith, starts_more k j s, rw e at (starts_rise k (j + 1) (k - (j + 1)) s), case_end)
