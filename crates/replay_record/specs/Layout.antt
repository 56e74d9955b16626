-- A record of cases, each with the answer that is expected. The number of cases stands first; then for each case the answer (one byte), the room,
-- the lengths of its parts, and the parts. All numbers but the answer have four bytes, the lowest first. How many parts a case has, what the
-- record is of says: it is k here.
-- Assumes nothing.
use Rattle.std.specs.Prelude.{Bool, cond, ◌&&◌, List, [], ◌∷◌, ℕ, zero, suc, ◌+◌, ◌*◌, eqb, leb, length, get_or, take, drop}
use Rattle.bytes_wire.specs.Le.{num}
use Rattle.replay_record.specs.declared.Of.{Of}
use Rattle.replay_record.specs.declared.Of.TheVariants.{Binds, Runs}

-- the statement, the catalogue, and the bound statement; or the statement, the catalogue, the row, and the row after
abbrev pub parts_of : Of → ℕ
parts_of Binds = 3
parts_of Runs = 4

-- the number in the four bytes from `at` on
abbrev pub size : ℕ → List ℕ → ℕ
size at s = num (take 4 (drop at s))

-- ---- a case that stands at the front of s

abbrev pub answer : List ℕ → ℕ
answer s = get_or s 0 0

abbrev pub room : List ℕ → ℕ
room s = size 1 s

-- where part j starts; past the last part, where the case ends
unfoldable pub starts : ℕ → ℕ → List ℕ → ℕ
starts k zero s = 5 + 4 * k
starts k (suc j) s = starts k j s + size (5 + 4 * j) s

unfoldable pub part : ℕ → ℕ → List ℕ → List ℕ
part k j s = take (size (5 + 4 * j) s) (drop (starts k j s) s)

-- the longest room
abbrev pub most : ℕ
most = 4500

-- s is long enough for its head and for its parts, and the room for a buffer
unfoldable pub is_case : ℕ → List ℕ → Bool
is_case k s = leb (5 + 4 * k) (length s) && (leb (starts k k s) (length s) && leb (room s) most)

abbrev pub behind : ℕ → List ℕ → List ℕ
behind k s = drop (starts k k s) s

-- ---- n cases one behind the other

-- the bytes from each case on, as far as cases stand there
unfoldable pub cases_of : ℕ → ℕ → List ℕ → List (List ℕ)
cases_of k zero s = []
cases_of k (suc n) s = cond (is_case k s) (s ∷ cases_of k n (behind k s)) []

-- n cases, and nothing else
unfoldable pub are_cases : ℕ → ℕ → List ℕ → Bool
are_cases k zero s = eqb (length s) 0
are_cases k (suc n) s = is_case k s && are_cases k n (behind k s)

-- ---- the record

unfoldable pub cases : ℕ → List ℕ → List (List ℕ)
cases k s = cond (leb 4 (length s)) (cases_of k (size 0 s) (drop 4 s)) []

unfoldable pub is_record : ℕ → List ℕ → Bool
is_record k s = leb 4 (length s) && are_cases k (size 0 s) (drop 4 s)
