-- coherent reads (ECMA-262, 2024, 29.7.2), by a relation that orders events: happens-before.
use Rattle.std.specs.Prelude.{ℕ, IsTrue, List}
use Rattle.lit_paths.specs.declared.event.Event.{Event}
use Rattle.lit_paths.specs.Event.{HasByte, does_write, event_at}
use Rattle.lit_rel.specs.ReadsFrom.{ReadsByteFrom}
use Rattle.lit_rel.specs.HappensBefore.{HappensBefore}

-- v writes byte b after its source w and before its read r
pub record Hides (events : List Event) (before : ℕ → ℕ → Type 0) (r b w v : ℕ) : Type 0 where
  pub writes : IsTrue (does_write (event_at events v).kind)
  pub in_range : HasByte (event_at events v) b
  pub after_source : before w v
  pub before_read : before v r

-- of read r, which has source w for byte b
pub record IsCoherentRead (events : List Event) (before : ℕ → ℕ → Type 0) (r b w : ℕ) : Type 0 where
  pub not_later : ¬ before r w
  pub not_hidden : (v : ℕ) → ¬ Hides events before r b w v

-- so is each read, of each byte
abbrev pub HasCoherentReads : List Event → List ℕ → Type 0
HasCoherentReads events sources =
    (r b w : ℕ) → ReadsByteFrom events sources r b w → IsCoherentRead events (HappensBefore events sources) r b w
