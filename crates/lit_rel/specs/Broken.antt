-- When a part is broken: nothing that is given later can make a valid execution of it (this project's own).
use Rattle.std.specs.Prelude.{◌≡◌, ◌≢◌, ◌⊎◌, ℕ, ◌+◌, ◌<◌, Bool, false, Option, Some, None, List, ◌++◌, length, slice_get}
use Rattle.lit_syntax.specs.Syntax.{Litmus}
use Rattle.lit_paths.specs.declared.event.Event.{Event}
use Rattle.lit_paths.specs.declared.path.Tested.{Tested}
use Rattle.lit_paths.specs.Plan.{first_event, path_in}
use Rattle.lit_paths.specs.Run.{compares}
use Rattle.lit_rel.specs.Coherent.{IsCoherentRead}
use Rattle.lit_rel.specs.Growth.{GivenBy, IsGivenWhole}
use Rattle.lit_rel.specs.HappensBefore.{HappensBeforeBy}
use Rattle.lit_rel.specs.Part.{PartModel, part_events, with_sources}
use Rattle.lit_rel.specs.ReadsFrom.{ReadsByteFrom, value_of}
use Rattle.lit_rel.specs.TearFree.{ReadsWholeBy}

-- some event happens before itself, by what is given
abbrev pub HasCycleBy : List Event → (ℕ → ℕ → ℕ → Type 0) → Type 0
HasCycleBy events given = (e : ℕ) × HappensBeforeBy events given e e

-- some byte that is given is not coherent
pub record HasIncoherentByteBy (events : List Event) (given : ℕ → ℕ → ℕ → Type 0) : Type 0 where
  pub read : ℕ
  pub byte : ℕ
  pub source : ℕ
  pub is_given : given read byte source
  pub incoherent : ¬ IsCoherentRead events (HappensBeforeBy events given) read byte source

-- some read takes two bytes that are given whole from two sources
pub record HasTornReadBy (events : List Event) (given : ℕ → ℕ → ℕ → Type 0) : Type 0 where
  pub read : ℕ
  pub source : ℕ
  pub other : ℕ
  pub first : ReadsWholeBy events given read source
  pub second : ReadsWholeBy events given read other
  pub two_sources : other ≢ source

-- by the relations of what is given
abbrev pub IsBrokenBy : List Event → (ℕ → ℕ → ℕ → Type 0) → Type 0
IsBrokenBy events given = HasCycleBy events given ⊎ HasIncoherentByteBy events given ⊎ HasTornReadBy events given

abbrev pub HasBrokenRelations : PartModel → Type 0
HasBrokenRelations part = IsBrokenBy (part_events part) (ReadsByteFrom (part_events part) part.sources)

-- the number of the event with a place on a path whose first event has this number
abbrev pub number_on : ℕ → Option ℕ → Option ℕ
number_on first None = None
number_on first (Some place) = Some (first + place)

-- some guard of a path of a combination asks about this event, or about a register that was not written, and is false of the value
pub record HasFalseGuardOn (t : Litmus) (c : ℕ) (asked : Option ℕ) (value : ℕ) : Type 0 where
  pub agent : ℕ
  pub known : agent < length t.agents
  pub place : ℕ
  pub test : Tested
  pub at_place : slice_get (path_in t c agent).tests place ≡ Some test
  pub asks : number_on (first_event t c agent) test.on ≡ asked
  pub is_false : compares test.equal value test.value ≡ false

-- a guard is on a register that was not written and false of 0, or on a read all of whose bytes are given and false of
-- its value
abbrev pub HasFalseGuard : PartModel → Type 0
HasFalseGuard part =
    HasFalseGuardOn part.test part.combination None 0
    ⊎ ((r : ℕ) × IsGivenWhole (part_events part) part.sources r
    × HasFalseGuardOn part.test part.combination (Some r) (value_of (part_events part) part.sources r))

abbrev pub IsBroken : PartModel → Type 0
IsBroken part = HasBrokenRelations part ⊎ HasFalseGuard part

-- a broken part is broken with any sources more
abbrev pub StaysBroken : Type 0
StaysBroken = (part : PartModel) (rest : List ℕ) → IsBroken part → IsBroken (with_sources part (part.sources ++ rest))

-- any bytes given whose relations are broken are so with any bytes more, and in each list of sources that has them
pub record BytesStayBroken : Type 0 where
  pub sets : (events : List Event) (less more : ℕ → ℕ → ℕ → Bool) → ((r b w : ℕ) → GivenBy less r b w → GivenBy more r b w)
      → IsBrokenBy events (GivenBy less) → IsBrokenBy events (GivenBy more)
  pub into_lists : (events : List Event) (less : ℕ → ℕ → ℕ → Bool) (sources : List ℕ)
      → ((r b w : ℕ) → GivenBy less r b w → ReadsByteFrom events sources r b w) → IsBrokenBy events (GivenBy less)
      → IsBrokenBy events (ReadsByteFrom events sources)
