-- races and data races (ECMA-262, 2024, 29.8 and 29.9), by a relation that orders events, happens-before, and one of
-- reads and their sources, reads-from.
use Rattle.std.specs.Prelude.{◌≢◌, ◌⊎◌, ℕ, ◌<◌, IsTrue, List, length}
use Rattle.lit_paths.specs.declared.event.Order3.TheVariants.{SeqCst}
use Rattle.lit_paths.specs.declared.event.Event.{Event}
use Rattle.lit_paths.specs.Event.{HasSameRange, SharesByte, does_write, event_at}
use Rattle.lit_rel.specs.HappensBefore.{HappensBefore}
use Rattle.lit_rel.specs.ReadsFrom.{ReadsByteFrom, ReadsFromBy}

-- both write, and some byte is in both ranges; also events that make the block write
pub record WriteOneByte (e d : Event) : Type 0 where
  pub first : IsTrue (does_write e.kind)
  pub second : IsTrue (does_write d.kind)
  pub shares : SharesByte e d

-- one of the two is not sequentially consistent, or their ranges share a byte and are not equal
abbrev pub AreUnguarded : Event → Event → Type 0
AreUnguarded e d = (e.order ≢ SeqCst) ⊎ (d.order ≢ SeqCst) ⊎ (SharesByte e d × ¬ HasSameRange e d)

-- A race of two events, neither of which happens before the other: both write a byte, or one reads from the other. It is
-- a data race where they are unguarded.
pub record IsDataRace (events : List Event) (before reads : ℕ → ℕ → Type 0) (e d : ℕ) : Type 0 where
  pub first_known : e < length events
  pub second_known : d < length events
  pub distinct : e ≢ d
  pub not_before : ¬ before e d
  pub not_after : ¬ before d e
  pub conflict : WriteOneByte (event_at events e) (event_at events d) ⊎ reads e d ⊎ reads d e
  pub unguarded : AreUnguarded (event_at events e) (event_at events d)

-- some two events are in a data race
pub record HasDataRaceOf (events : List Event) (before reads : ℕ → ℕ → Type 0) : Type 0 where
  pub first : ℕ
  pub second : ℕ
  pub is_race : IsDataRace events before reads first second

-- by happens-before and reads-from of these sources
abbrev pub HasDataRace : List Event → List ℕ → Type 0
HasDataRace events sources = HasDataRaceOf events (HappensBefore events sources) (ReadsFromBy (ReadsByteFrom events sources))
