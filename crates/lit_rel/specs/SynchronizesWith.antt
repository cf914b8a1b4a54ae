-- synchronizes-with (ECMA-262, 2024, 29.6.5; there are no host events here).
use Rattle.std.specs.Prelude.{◌≡◌, ℕ, List}
use Rattle.lit_paths.specs.declared.event.Order3.TheVariants.{SeqCst}
use Rattle.lit_paths.specs.declared.event.Event.{Event}
use Rattle.lit_paths.specs.Event.{HasSameRange, event_at}
use Rattle.lit_rel.specs.ReadsFrom.{ReadsByteFrom, ReadsFromBy}

-- both are sequentially consistent, and their ranges are equal
pub record CanSynchronize (w r : Event) : Type 0 where
  pub writer : w.order ≡ SeqCst
  pub reader : r.order ≡ SeqCst
  pub same_range : HasSameRange w r

-- r reads from w by what is given, both are sequentially consistent, and their ranges are equal
pub record SynchronizesBy (events : List Event) (given : ℕ → ℕ → ℕ → Type 0) (w r : ℕ) : Type 0 where
  pub reads : ReadsFromBy given r w
  pub can : CanSynchronize (event_at events w) (event_at events r)

abbrev pub Synchronizes : List Event → List ℕ → ℕ → ℕ → Type 0
Synchronizes events sources = SynchronizesBy events (ReadsByteFrom events sources)
