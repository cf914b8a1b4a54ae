-- What may not stand between a source and its read in the order of memory (ECMA-262, 2024, 29.7.4), by a relation that
-- orders events: happens-before.
use Rattle.std.specs.Prelude.{◌≡◌, ◌≢◌, ◌⊎◌, ℕ, IsTrue, List}
use Rattle.lit_paths.specs.declared.event.Order3.TheVariants.{SeqCst}
use Rattle.lit_paths.specs.declared.event.Event.{Event}
use Rattle.lit_paths.specs.Event.{HasSameRange, does_write, event_at}
use Rattle.lit_rel.specs.ReadsFrom.{ReadsByteFrom, ReadsFromBy}
use Rattle.lit_rel.specs.SynchronizesWith.{CanSynchronize}
use Rattle.lit_rel.specs.HappensBefore.{HappensBefore}

-- w can synchronize with r, as it does where r reads from it, and v has the range of r
pub record IsBetweenSynchronized (events : List Event) (w r v : ℕ) : Type 0 where
  pub synchronized : CanSynchronize (event_at events w) (event_at events r)
  pub same_range : HasSameRange (event_at events v) (event_at events r)

-- w and v happen before r, w is sequentially consistent, and v has the range of w
pub record IsAfterSource (events : List Event) (before : ℕ → ℕ → Type 0) (w r v : ℕ) : Type 0 where
  pub source_before : before w r
  pub other_before : before v r
  pub source : (event_at events w).order ≡ SeqCst
  pub same_range : HasSameRange (event_at events w) (event_at events v)

-- w happens before r and v, r is sequentially consistent, and v has the range of r
pub record IsBeforeRead (events : List Event) (before : ℕ → ℕ → Type 0) (w r v : ℕ) : Type 0 where
  pub source_before : before w r
  pub other_after : before w v
  pub reader : (event_at events r).order ≡ SeqCst
  pub same_range : HasSameRange (event_at events v) (event_at events r)

-- v is a sequentially consistent write, another event than source w and its read r, and in one of the three patterns
pub record IsForbiddenBetween (events : List Event) (before : ℕ → ℕ → Type 0) (w r v : ℕ) : Type 0 where
  pub not_source : v ≢ w
  pub not_read : v ≢ r
  pub writes : IsTrue (does_write (event_at events v).kind)
  pub ordered : (event_at events v).order ≡ SeqCst
  pub pattern : IsBetweenSynchronized events w r v ⊎ IsAfterSource events before w r v ⊎ IsBeforeRead events before w r v

-- r reads from w by what is given, and v may not stand between them
pub record IsForbiddenTriple (events : List Event) (given : ℕ → ℕ → ℕ → Type 0) (before : ℕ → ℕ → Type 0) (w r v : ℕ) : Type 0 where
  pub reads : ReadsFromBy given r w
  pub between : IsForbiddenBetween events before w r v

-- by reads-from and happens-before of these sources
abbrev pub IsForbidden : List Event → List ℕ → ℕ → ℕ → ℕ → Type 0
IsForbidden events sources = IsForbiddenTriple events (ReadsByteFrom events sources) (HappensBefore events sources)
