-- The least pair of events that are in a data race (ECMA-262, 2024, 29.9; which pair is this project's own).
use Rattle.std.specs.Prelude.{◌≡◌, ◌⊎◌, ℕ, ◌<◌}
use Rattle.lit_rel.specs.DataRace.{IsDataRace}
use Rattle.lit_rel.specs.HappensBefore.{HappensBefore}
use Rattle.lit_rel.specs.Part.{PartModel, part_events}
use Rattle.lit_rel.specs.ReadsFrom.{ReadsFrom}
use Rattle.lit_why.specs.declared.racing.RacingPair.{RacingPair}

-- the lexicographic order of pairs
abbrev pub IsLesserPair : ℕ → ℕ → ℕ → ℕ → Type 0
IsLesserPair e d first second = (e < first) ⊎ ((e ≡ first) × (d < second))

-- the events of the pair race, the lesser number first, and no such pair that races is less
pub record IsLeastRacing (races : ℕ → ℕ → Type 0) (pair : RacingPair) : Type 0 where
  pub rising : pair.first < pair.second
  pub is_race : races pair.first pair.second
  pub least : (e d : ℕ) → e < d → races e d → ¬ IsLesserPair e d pair.first pair.second

-- two events are in a data race by a part's happens-before and reads-from
abbrev pub RacesIn : PartModel → ℕ → ℕ → Type 0
RacesIn part = IsDataRace (part_events part) (HappensBefore (part_events part) part.sources) (ReadsFrom (part_events part) part.sources)

abbrev pub IsLeastRacingPair : PartModel → RacingPair → Type 0
IsLeastRacingPair part = IsLeastRacing (RacesIn part)
