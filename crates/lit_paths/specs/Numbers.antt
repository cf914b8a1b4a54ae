-- The numbers of the choices that begin with given sources (this project's own). A choice's number is its place in
-- `choices_of`.
use Rattle.std.specs.Prelude.{◌≡◌, ℕ, ◌+◌, ◌*◌, ◌<◌, ◌≤◌, ◌↔◌, List, [], ◌∷◌}
use Rattle.std.specs.Prelude.{◌++◌, length, map, drop, Some, slice_get}
use Rattle.lit_syntax.specs.Syntax.{Litmus}
use Rattle.lit_paths.specs.declared.event.Event.{Event}
use Rattle.lit_paths.specs.ByteReads.{byte_reads, byte_read_at}
use Rattle.lit_paths.specs.Choice.{Choice, candidates_of, choices_of}
use Rattle.lit_paths.specs.Members.{AreCandidates}
use Rattle.lit_paths.specs.Plan.{combination_at, events_in, choices_before}

-- the product of the lengths of lists
abbrev pub length_product : List (List ℕ) → ℕ
length_product [] = 1
length_product (xs ∷ rest) = length xs * length_product rest

-- how many ways there are to give sources to the byte reads from the k-th on: the product of the numbers of their
-- candidates
abbrev pub ways_from : List Event → ℕ → ℕ
ways_from events k = length_product (map (candidates_of events) (drop k (byte_reads events)))

-- Choice n is on combination c, and its sources begin with these.
pub record IsBegunBy (t : Litmus) (c : ℕ) (given : List ℕ) (n : ℕ) : Type 0 where
  pub choice : Choice
  pub listed : slice_get (choices_of t) n ≡ Some choice
  pub on : map (λ path. path.decisions) (combination_at t c) ≡ choice.decisions
  pub rest : List ℕ
  pub begun : choice.sources ≡ given ++ rest

-- the choices on combination c whose sources begin with these have exactly the numbers [low, low + count)
abbrev pub AreNumbered : (t : Litmus) → (c : ℕ) → (given : List ℕ) → (low count : ℕ) → Type 0
AreNumbered t c given low count = (n : ℕ) → IsBegunBy t c given n ↔ ((low ≤ n) × (n < low + count))

-- some of the first byte reads, or all, have these sources
pub record AreGiven (events : List Event) (given : List ℕ) : Type 0 where
  pub few : length given ≤ length (byte_reads events)
  pub each : AreCandidates events given

-- The choices on a combination that begin with given sources are a run of numbers, as many as there are ways to go on.
-- Its parts for the candidates of the next byte read, by rising event number, follow one another and are equally long.
pub record NumbersChoices (t : Litmus) (c : ℕ) : Type 0 where
  pub whole : AreNumbered t c [] (choices_before t c) (ways_from (events_in t c) 0)
  pub behind : choices_before t c + ways_from (events_in t c) 0 ≡ choices_before t (c + 1)
  pub begun : (given : List ℕ) → AreGiven (events_in t c) given
      → (low : ℕ) × AreNumbered t c given low (ways_from (events_in t c) (length given))
  pub next : (given : List ℕ) (low i w : ℕ) → AreNumbered t c given low (ways_from (events_in t c) (length given))
      → length given < length (byte_reads (events_in t c))
      → slice_get (candidates_of (events_in t c) (byte_read_at (events_in t c) (length given))) i ≡ Some w
      → AreNumbered t c (given ++ w ∷ []) (low + i * ways_from (events_in t c) (length given + 1))
      (ways_from (events_in t c) (length given + 1))
