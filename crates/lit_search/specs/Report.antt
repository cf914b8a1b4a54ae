-- The report of a set of choices (this project's own): the outcomes of the valid executions, each with its example, and
-- whether one of these has a data race. A set of choices is a predicate on their numbers.
use Rattle.std.specs.Prelude.{◌≡◌, ◌↔◌, ℕ, ◌<◌, Bool, false, ◌&&◌, ◌||◌, nat_le, nat_lt}
use Rattle.std.specs.Prelude.{IsTrue, List, [], Some, slice_get, slice_index_or}
use Rattle.std.specs.Cmp.Lexicographic.{slice_cmp}
use Rattle.std.specs.Ordering.{nat_cmp, ordering_then}
use Rattle.std.specs.declared.cmp.Ordering.{Ordering}
use Rattle.std.specs.List.Sorted.{IsStrictlySortedBy}
use Rattle.lit_syntax.specs.Syntax.{Litmus}
pub use Rattle.lit_valid.specs.Entry.{Entry, HasEntry}
use Rattle.lit_valid.specs.Gives.{Gives, GivesRace, HasLeastOrder}

-- entries, and whether there is a data race
pub record Report : Type 0 where
  pub entries : List Entry
  pub race : Bool

-- how entries compare by their outcomes, as lists
abbrev pub outcome_cmp : Entry → Entry → Ordering
outcome_cmp a b = slice_cmp nat_cmp a.outcome b.outcome

-- how entries compare by their examples: by choice, and then by order as a list
abbrev pub example_cmp : Entry → Entry → Ordering
example_cmp a b = ordering_then (nat_cmp a.choice b.choice) (slice_cmp nat_cmp a.order b.order)

-- the entry at a place; past the last one, one with no outcome and no order
abbrev pub entry_at : Report → ℕ → Entry
entry_at report i = slice_index_or report.entries i (record { outcome = []; choice = 0; order = [] })

-- ---- sets of numbers
-- none
abbrev pub in_none : ℕ → Bool
in_none n = false

-- those from a first one up to and without a last one
abbrev pub in_range : ℕ → ℕ → ℕ → Bool
in_range from to n = nat_le from n && nat_lt n to

-- those of one set or the other
abbrev pub in_either : (ℕ → Bool) → (ℕ → Bool) → ℕ → Bool
in_either some others n = some n || others n

-- ---- reports
-- an entry of the report of the choices with these numbers
pub record IsEntry (t : Litmus) (numbers : ℕ → Bool) (entry : Entry) : Type 0 where
  pub among : IsTrue (numbers entry.choice)
  pub gives : Gives t entry.choice entry.outcome
  pub least_choice : (n : ℕ) → IsTrue (numbers n) → n < entry.choice → ¬ Gives t n entry.outcome
  pub least_order : HasLeastOrder t entry.choice entry.order

-- The entries of the choices with these numbers: the outcomes of all valid executions that have one of these choices,
-- rising, each once, each with the least choice and the least memory-order of that choice.
pub record AreEntries (t : Litmus) (numbers : ℕ → Bool) (entries : List Entry) : Type 0 where
  pub rising : IsStrictlySortedBy outcome_cmp entries
  pub each : (i : ℕ) (entry : Entry) → slice_get entries i ≡ Some entry → IsEntry t numbers entry
  pub whole : (n : ℕ) (outcome : List ℕ) → IsTrue (numbers n) → Gives t n outcome
      → (i : ℕ) × (entry : Entry) × (slice_get entries i ≡ Some entry) × (entry.outcome ≡ outcome)

-- The report of the choices with these numbers: their entries, and a data race exactly where a valid execution that has one of
-- these choices has a data race.
pub record IsReport (t : Litmus) (numbers : ℕ → Bool) (report : Report) : Type 0 where
  pub listed : AreEntries t numbers report.entries
  pub raced : IsTrue report.race ↔ ((n : ℕ) × IsTrue (numbers n) × GivesRace t n)
