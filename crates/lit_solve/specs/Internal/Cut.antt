-- The cut of a range of choices into boxes: the range's ends, and how many boxes lie before and after the middle one.
use Rattle.std.specs.Prelude.{◌≡◌, ◌≢◌, ℕ, ◌+◌, ◌-◌, ◌<◌, ◌≤◌, IfNone, IfSome, List, MatchOption}
use Rattle.std.specs.Prelude.{Option, Some, length, option_map, slice_index}
use Rattle.lit_syntax.specs.Syntax.{Litmus}
use Rattle.lit_paths.specs.declared.event.Event.{Event}
use Rattle.lit_paths.specs.Members.{AreSources}
use Rattle.lit_paths.specs.Plan.{HasSources, choices_before, events_in}
use Rattle.lit_solve.specs.declared.boxes.ends.End.{End}

-- the sources of the choice at an end of a range, if it has one
abbrev pub end_sources : End → Option (List ℕ)
end_sources end = option_map (λ sources. sources.items) end.sources

-- a choice on the combination, by its number, has these sources
pub record IsEnd (t : Litmus) (c n : ℕ) (sources : List ℕ) : Type 0 where
  pub low : choices_before t c ≤ n
  pub high : n < choices_before t (c + 1)
  pub has : HasSources t n sources
  pub sourced : AreSources (events_in t c) sources

-- the sources of choice `from`, if the combination's choices begin before it
abbrev pub IsLowEnd : Litmus → (c from : ℕ) → Option (List ℕ) → Type 0
IsLowEnd t c from low = MatchOption low (from ≤ choices_before t c) (λ sources. IsEnd t c from sources)

-- the sources of the choice before `to`, if the combination's choices end behind it
abbrev pub IsHighEnd : Litmus → (c to : ℕ) → Option (List ℕ) → Type 0
IsHighEnd t c to high = MatchOption high (choices_before t (c + 1) ≤ to) (λ sources. IsEnd t c (to - 1) sources)

-- the longest common prefix of both lists has this length
pub record IsSame (a b : List ℕ) (count : ℕ) : Type 0 where
  pub within : count ≤ length a
  pub same : (k : ℕ) → k < count → slice_index a k ≡ slice_index b k
  pub apart : count < length a → slice_index a count ≢ slice_index b count

-- the length of the longest common prefix of both ends; 0 if one of them is not there
pub record AreShared (low high : Option (List ℕ)) (count : ℕ) : Type 0 where
  pub no_low : IfNone low (count ≡ 0)
  pub no_high : IfNone high (count ≡ 0)
  pub same : (a b : List ℕ) → low ≡ Some a → high ≡ Some b → IsSame a b count

-- b is as a before a place, and greater there; at the end of a, they are the same
pub record IsGreaterAt (a : List ℕ) (place : ℕ) (b : List ℕ) : Type 0 where
  pub same : (k : ℕ) → k < place → slice_index b k ≡ slice_index a k
  pub greater : place < length a → slice_index a place < slice_index b place

-- One end of a range of lists of `len` sources, of which the first `shared` are also those of the other end. If there is an end, its
-- side of the middle box has as many boxes as there are places behind the shared ones.
pub record IsSide (len : ℕ) (end : Option (List ℕ)) (shared boxes : ℕ) : Type 0 where
  pub long : IfSome end (λ sources. length sources ≡ len)
  pub fits : MatchOption end (shared ≡ 0) (λ _. shared ≤ len)
  pub count : MatchOption end (boxes ≡ 0) (λ _. shared + boxes ≡ len)

pub record IsRangeCut (len : ℕ) (low high : Option (List ℕ)) (shared lows highs : ℕ) : Type 0 where
  pub before : IsSide len low shared lows
  pub behind : IsSide len high shared highs
  pub parting : (a b : List ℕ) → low ≡ Some a → high ≡ Some b → IsGreaterAt a shared b

-- the sources at an end, if it has one, are candidates
abbrev pub AreEndSources : List Event → Option (List ℕ) → Type 0
AreEndSources events end = IfSome end (λ sources. AreSources events sources)
