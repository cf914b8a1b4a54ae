-- What refuses a part, by relations that stand for happens-before and for reads-from.
use Rattle.std.specs.Prelude.{◌≡◌, ℕ, ◌<◌, Option, Some, None, List, slice_get}
use Rattle.lit_paths.specs.Event.{event_at}
use Rattle.lit_paths.specs.declared.byte_reads.ByteRead.{ByteRead}
use Rattle.lit_paths.specs.declared.event.Event.{Event}
use Rattle.lit_paths.specs.declared.path.Tested.{Tested}
use Rattle.lit_rel.specs.Coherent.{Hides, IsCoherentRead}
use Rattle.lit_rel.specs.Part.{PartModel}
use Rattle.lit_rel.specs.TearFree.{CanReadWhole}
use Rattle.lit_why.specs.RacingPair.{IsLesserPair}
use Rattle.lit_why.specs.Refusal.{IsFalseAt, IsFalseIn}
use Rattle.lit_why.specs.declared.refusals.causes.Incoherence.{Incoherence}
use Rattle.lit_why.specs.declared.refusals.causes.Incoherence.TheVariants.{HiddenBy, ReadFirst}

-- the first guard of a list that is false
pub record IsFirstFalse (part : PartModel) (first : ℕ) (guards : List Tested) (place : ℕ) : Type 0 where
  pub guard : Tested
  pub at_place : slice_get guards place ≡ Some guard
  pub is_false : IsFalseIn part first guard
  pub least : (k : ℕ) (other : Tested) → k < place → slice_get guards k ≡ Some other → ¬ IsFalseIn part first other

-- the first false guard of the part, by agent and then by place
pub record IsLeastFalse (part : PartModel) (agent place : ℕ) : Type 0 where
  pub is_false : IsFalseAt part agent place
  pub least : (a p : ℕ) → IsFalseAt part a p → ¬ IsLesserPair a p agent place

-- why a byte is not coherent
abbrev pub IsLeastCause : List Event → (ℕ → ℕ → Type 0) → (r b w : ℕ) → Incoherence → Type 0
IsLeastCause events before r b w ReadFirst = before r w
IsLeastCause events before r b w (HiddenBy v) =
    ¬ before r w × Hides events before r b w v × ((u : ℕ) → u < v → ¬ Hides events before r b w u)

-- the first byte read with its source that is not coherent
pub record IsFirstIncoherent (events : List Event) (before : ℕ → ℕ → Type 0) (reads : List ByteRead) (sources : List ℕ) (place r b w : ℕ)
    (cause : Incoherence) : Type 0 where
  pub byte : ByteRead
  pub at_read : slice_get reads place ≡ Some byte
  pub read : byte.read ≡ r
  pub of_byte : byte.byte ≡ b
  pub at_source : slice_get sources place ≡ Some w
  pub hidden : IsLeastCause events before r b w cause
  pub least : (k : ℕ) (other : ByteRead) (u : ℕ) → k < place → slice_get reads k ≡ Some other → slice_get sources k ≡ Some u
      → IsCoherentRead events before other.read other.byte u

-- read r has w among its sources, and would be whole from it
abbrev pub IsWholeBy : List Event → (ℕ → ℕ → Type 0) → ℕ → ℕ → Type 0
IsWholeBy events reads r w = reads r w × CanReadWhole (event_at events r) (event_at events w)

-- read r would be whole from two events, w the lesser
pub record AreTorn (events : List Event) (reads : ℕ → ℕ → Type 0) (r w v : ℕ) : Type 0 where
  pub first : IsWholeBy events reads r w
  pub second : IsWholeBy events reads r v
  pub rising : w < v
