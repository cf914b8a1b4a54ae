-- Refusals: the first clause of a valid execution that a complete part breaks, with a witness (ECMA-262, 2024, 29.7; the order of the
-- clauses, and which of several witnesses is named, are this project's own).
use Rattle.std.specs.Prelude.{◌≡◌, ◌⊎◌, ℕ, ◌<◌, Option, Some, None, false, List, length, slice_get}
use Rattle.lit_paths.specs.Plan.{first_event, path_in}
use Rattle.lit_paths.specs.Run.{compares}
use Rattle.lit_paths.specs.declared.path.Tested.{Tested}
use Rattle.lit_rel.specs.Broken.{number_on}
use Rattle.lit_rel.specs.Coherent.{HasCoherentReads, Hides, IsCoherentRead}
use Rattle.lit_rel.specs.HappensBefore.{HappensBefore}
use Rattle.lit_rel.specs.Part.{PartModel, part_events}
use Rattle.lit_rel.specs.ReadsFrom.{ReadsByteFrom}
use Rattle.lit_rel.specs.TearFree.{HasTearFreeReads, ReadsWholeBy}
use Rattle.lit_order.specs.MemoryOrder.{IsMemoryOrder}
use Rattle.lit_valid.specs.PartOutcome.{observed_value}
use Rattle.lit_why.specs.RacingPair.{IsLesserPair}
use Rattle.lit_why.specs.declared.refusals.causes.Refusal.{Refusal}
use Rattle.lit_why.specs.declared.refusals.causes.Refusal.TheVariants.{BeforeItself, FalseGuard, Incoherent, NoOrder, Torn}
use Rattle.lit_why.specs.declared.refusals.causes.Incoherence.{Incoherence}
use Rattle.lit_why.specs.declared.refusals.causes.Incoherence.TheVariants.{HiddenBy, ReadFirst}

abbrev pub BeforeIn : PartModel → ℕ → ℕ → Type 0
BeforeIn part = HappensBefore (part_events part) part.sources

-- A guard on a path whose first event has this number is false of the value of its read, or of 0 where the register was not written.
abbrev pub IsFalseIn : PartModel → ℕ → Tested → Type 0
IsFalseIn part first guard = compares guard.equal (observed_value part (number_on first guard.on)) guard.value ≡ false

-- the guard at a place of an agent's path is false
pub record IsFalseAt (part : PartModel) (agent place : ℕ) : Type 0 where
  pub known : agent < length part.test.agents
  pub guard : Tested
  pub at_place : slice_get (path_in part.test part.combination agent).tests place ≡ Some guard
  pub is_false : IsFalseIn part (first_event part.test part.combination agent) guard

abbrev pub HasNoFalse : PartModel → Type 0
HasNoFalse part = (agent place : ℕ) → ¬ IsFalseAt part agent place

abbrev pub HasNoCycle : PartModel → Type 0
HasNoCycle part = (e : ℕ) → ¬ BeforeIn part e e

-- byte b of read r, with source w, is not coherent
pub record IsIncoherentAt (part : PartModel) (r b w : ℕ) : Type 0 where
  pub given : ReadsByteFrom (part_events part) part.sources r b w
  pub incoherent : ¬ IsCoherentRead (part_events part) (BeforeIn part) r b w

-- the read happens before the source; or not, and this is the least event that hides the source
abbrev pub IsRefutingCause : PartModel → (r b w : ℕ) → Incoherence → Type 0
IsRefutingCause part r b w ReadFirst = BeforeIn part r w
IsRefutingCause part r b w (HiddenBy v) =
    ¬ BeforeIn part r w × Hides (part_events part) (BeforeIn part) r b w v
    × ((u : ℕ) → u < v → ¬ Hides (part_events part) (BeforeIn part) r b w u)

abbrev pub IsWholeFrom : PartModel → ℕ → ℕ → Type 0
IsWholeFrom part = ReadsWholeBy (part_events part) (ReadsByteFrom (part_events part) part.sources)

-- read r would be whole from two events, w the lesser
pub record IsTornBy (part : PartModel) (r w v : ℕ) : Type 0 where
  pub first : IsWholeFrom part r w
  pub second : IsWholeFrom part r v
  pub rising : w < v

-- the lexicographic order of triples: by the read, then by one event, then by the other
abbrev pub IsLesserTriple : ℕ → ℕ → ℕ → ℕ → ℕ → ℕ → Type 0
IsLesserTriple q u x r w v = (q < r) ⊎ ((q ≡ r) × IsLesserPair u x w v)

-- the clauses before this one hold, and this is the least witness that this one does not
abbrev pub IsRefusal : PartModel → Refusal → Type 0
IsRefusal part (FalseGuard agent place) =
    IsFalseAt part agent place × ((a p : ℕ) → IsFalseAt part a p → ¬ IsLesserPair a p agent place)
IsRefusal part (BeforeItself event) = HasNoFalse part × BeforeIn part event event × ((e : ℕ) → e < event → ¬ BeforeIn part e e)
IsRefusal part (Incoherent r b w cause) =
    HasNoFalse part × HasNoCycle part × IsIncoherentAt part r b w × IsRefutingCause part r b w cause
    × ((q c u : ℕ) → IsIncoherentAt part q c u → ¬ IsLesserPair q c r b)
IsRefusal part (Torn r w v) =
    HasNoFalse part × HasNoCycle part × HasCoherentReads (part_events part) part.sources × IsTornBy part r w v
    × ((q u x : ℕ) → IsTornBy part q u x → ¬ IsLesserTriple q u x r w v)
IsRefusal part NoOrder =
    HasNoFalse part × HasNoCycle part × HasCoherentReads (part_events part) part.sources
    × HasTearFreeReads (part_events part) part.sources × ((order : List ℕ) → ¬ IsMemoryOrder (part_events part) part.sources order)
