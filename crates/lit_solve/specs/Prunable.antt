-- Which sources a box prunes, and when it is refuted (this project's own).
use Rattle.std.specs.Prelude.{◌≢◌, ◌⊎◌, ℕ, List, Some, None}
use Rattle.lit_syntax.specs.Syntax.{Litmus}
use Rattle.lit_paths.specs.Members.{AreSources}
use Rattle.lit_paths.specs.Event.{event_at, payload_at}
use Rattle.lit_rel.specs.Broken.{HasFalseGuardOn, HasTornReadBy}
use Rattle.lit_rel.specs.Coherent.{IsCoherentRead}
use Rattle.lit_rel.specs.Forbidden.{IsForbiddenBetween}
use Rattle.lit_rel.specs.Growth.{IsGivenWholeBy}
use Rattle.lit_rel.specs.ReadsFrom.{value_of}
use Rattle.lit_rel.specs.SynchronizesWith.{CanSynchronize}
use Rattle.lit_rel.specs.TearFree.{CanReadWhole}
use Rattle.lit_rel.specs.GuardedBytes.{HasFalseByteOn}
use Rattle.lit_order.specs.Forcing.{HasForcedCycle}
use Rattle.lit_solve.specs.Box.{Box, HasEmptyDomain, LiesIn, box_events, events_on}
use Rattle.lit_solve.specs.Given.{GivenIn, HappensBeforeIn, IsForbiddenIn, IsForcedIn}

-- if byte b of read r has the source w, a guard of the combination is false, whatever r reads otherwise
abbrev pub IsRefusedOn : Litmus × ℕ → ℕ → ℕ → ℕ → Type 0
IsRefusedOn c r b w = HasFalseByteOn c.0 c.1 r b (payload_at (event_at (events_on c) w) b)

abbrev pub IsRefused : Box → ℕ → ℕ → ℕ → Type 0
IsRefused box = IsRefusedOn (box.test, box.combination)

-- w and r can synchronize, and r is forced before w
pub record IsForcedLater (box : Box) (w r : ℕ) : Type 0 where
  pub can : CanSynchronize (event_at (box_events box) w) (event_at (box_events box) r)
  pub later : IsForcedIn box r w

-- v may not stand between w and r, but is forced between them
pub record IsForcedBetween (box : Box) (w r v : ℕ) : Type 0 where
  pub between : IsForbiddenBetween (box_events box) (HappensBeforeIn box) w r v
  pub after_source : IsForcedIn box w v
  pub before_read : IsForcedIn box v r

-- r can read whole from w, and from another event from which it is given a byte
pub record WouldTear (box : Box) (r w : ℕ) : Type 0 where
  pub source : ℕ
  pub byte : ℕ
  pub is_given : GivenIn box r byte source
  pub can : CanReadWhole (event_at (box_events box) r) (event_at (box_events box) w)
  pub can_other : CanReadWhole (event_at (box_events box) r) (event_at (box_events box) source)
  pub other : source ≢ w

-- no completion has w as the source of byte b of read r, by what is given
abbrev pub IsPrunable : Box → ℕ → ℕ → ℕ → Type 0
IsPrunable box r b w =
    IsRefused box r b w
    ⊎ (¬ IsCoherentRead (box_events box) (HappensBeforeIn box) r b w)
    ⊎ IsForcedLater box w r
    ⊎ ((v : ℕ) × IsForcedBetween box w r v)
    ⊎ WouldTear box r w

-- A guard is false: one on a register that was not written, or one on a read all of whose bytes are given, by its value with any
-- sources that lie in the box.
abbrev pub HasFalseGuardIn : Box → Type 0
HasFalseGuardIn box =
    HasFalseGuardOn box.test box.combination None 0
    ⊎ ((r : ℕ) × IsGivenWholeBy (box_events box) (GivenIn box) r
    × ((sources : List ℕ) → AreSources (box_events box) sources → LiesIn box sources
    → HasFalseGuardOn box.test box.combination (Some r) (value_of (box_events box) sources r)))

-- what is given shows that the box is infeasible
abbrev pub IsRefuted : Box → Type 0
IsRefuted box =
    HasForcedCycle (HappensBeforeIn box) (IsForbiddenIn box)
    ⊎ HasEmptyDomain box
    ⊎ HasTornReadBy (box_events box) (GivenIn box)
    ⊎ HasFalseGuardIn box
