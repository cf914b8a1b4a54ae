-- The merge of two reports (this project's own): the outcomes of both, each with the lesser of its examples, and a data race where one
-- of the two has one.
use Rattle.std.specs.Prelude.{◌≡◌, ◌⊎◌, ◌||◌, IsFalse, List}
use Rattle.std.specs.Ordering.{is_gt}
use Rattle.std.specs.List.Sorted.{IsStrictlySortedBy}
use Rattle.lit_search.specs.Report.{Entry, Report, HasEntry, example_cmp, outcome_cmp}

-- this is an entry of one of two lists
abbrev pub HasInEither : List Entry → List Entry → Entry → Type 0
HasInEither a b entry = HasEntry a entry ⊎ HasEntry b entry

-- Rising, each outcome once. Each entry is one of the two lists, none of which has the outcome with a lesser example.
-- Each entry of the two lists has its outcome there.
pub record AreMerged (a b merged : List Entry) : Type 0 where
  pub rising : IsStrictlySortedBy outcome_cmp merged
  pub of_either : (entry : Entry) → HasEntry merged entry → HasInEither a b entry
  pub least : (entry other : Entry) → HasEntry merged entry → HasInEither a b other → other.outcome ≡ entry.outcome
      → IsFalse (is_gt (example_cmp entry other))
  pub whole : (other : Entry) → HasInEither a b other → (entry : Entry) × HasEntry merged entry × (entry.outcome ≡ other.outcome)

pub record IsMerge (a b merged : Report) : Type 0 where
  pub entries : AreMerged a.entries b.entries merged.entries
  pub race : merged.race ≡ (a.race || b.race)
