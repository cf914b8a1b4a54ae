-- The sequentially consistent writes with the range of an event.
use Rattle.std.specs.Prelude.{◌≡◌, ◌↔◌, ℕ, ◌<◌, IsTrue, List, length}
use Rattle.lit_paths.specs.declared.event.Event.{Event}
use Rattle.lit_paths.specs.declared.event.Order3.TheVariants.{SeqCst}
use Rattle.lit_paths.specs.Event.{HasSameRange, does_write, event_at}
use Rattle.lit_rel.specs.declared.rows.Rows.{Rows}
use Rattle.lit_rel.specs.Rows.{Holds, rows_len}

-- a sequentially consistent write, by its number
pub record IsSeqCstWrite (events : List Event) (v : ℕ) : Type 0 where
  pub known : v < length events
  pub writes : IsTrue (does_write (event_at events v).kind)
  pub ordered : (event_at events v).order ≡ SeqCst

-- such a write that has the range of e
pub record IsPeer (events : List Event) (e v : ℕ) : Type 0 where
  pub known : e < length events
  pub write : IsSeqCstWrite events v
  pub same_range : HasSameRange (event_at events v) (event_at events e)

-- exactly these writes, for each event
pub record ArePeers (events : List Event) (peers : Rows) : Type 0 where
  pub len : rows_len peers ≡ length events
  pub pairs : (e v : ℕ) → Holds peers e v ↔ IsPeer events e v
