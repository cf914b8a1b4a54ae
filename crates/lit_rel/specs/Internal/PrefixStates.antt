-- The states of a part after each prefix of its sources.
use Rattle.std.specs.Prelude.{◌≡◌, ◌↔◌, ℕ, IsTrue, List, length, take, Some, slice_get}
use Rattle.lit_syntax.specs.Syntax.{Litmus}
use Rattle.lit_paths.specs.declared.event.Event.{Event}
use Rattle.lit_paths.specs.Plan.{AreEventsIn, events_in}
use Rattle.lit_rel.specs.declared.rows.Rows.{Rows}
use Rattle.lit_rel.specs.declared.given.SourcedByte.{SourcedByte}
use Rattle.lit_rel.specs.declared.part.prefix_state.PrefixState.{PrefixState}
use Rattle.lit_rel.specs.Broken.{IsBroken}
use Rattle.lit_rel.specs.HappensBefore.{HappensBefore}
use Rattle.lit_rel.specs.Part.{AreFirstSources, PartModel, part_events}
use Rattle.lit_rel.specs.Internal.Given.{AreFirstReads, AreKnown, part_of}
use Rattle.lit_rel.specs.Rows.{Holds, rows_len}

-- the rows are happens-before of these sources
pub record IsOrder (events : List Event) (sources : List ℕ) (rows : Rows) : Type 0 where
  pub len : rows_len rows ≡ length events
  pub pairs : (e d : ℕ) → Holds rows e d ↔ HappensBefore events sources e d

-- the state of a part: its happens-before, and whether it is broken
pub record IsPrefixState (part : PartModel) (prefix_state : PrefixState) : Type 0 where
  pub before : IsOrder (part_events part) part.sources prefix_state.before.rows
  pub broken : IsTrue prefix_state.broken ↔ IsBroken part

-- The invariant of a part: its first byte reads, each with a source that is a candidate, the state of all these sources,
-- and the state of each shorter prefix of them.
pub record HasPrefixStates (t : Litmus) (c : ℕ) (bytes : List SourcedByte) (earlier : List PrefixState) (now : PrefixState) : Type 0 where
  pub sound : AreEventsIn t.bytes (events_in t c)
  pub first_reads : AreFirstReads (events_in t c) bytes
  pub known : AreKnown (events_in t c) bytes
  pub candidates : AreFirstSources (part_of t c bytes)
  pub one_each : length earlier ≡ length bytes
  pub at_all : IsPrefixState (part_of t c bytes) now
  pub at_less : (k : ℕ) (prefix_state : PrefixState) → slice_get earlier k ≡ Some prefix_state
      → IsPrefixState (part_of t c (take k bytes)) prefix_state
