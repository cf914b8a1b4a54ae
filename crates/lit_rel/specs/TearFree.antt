-- tear free reads (ECMA-262, 2024, 29.7.3).
use Rattle.std.specs.Prelude.{◌≡◌, ℕ, true, List}
use Rattle.lit_paths.specs.declared.event.Event.{Event}
use Rattle.lit_paths.specs.Event.{HasSameRange, event_at}
use Rattle.lit_rel.specs.ReadsFrom.{ReadsByteFrom, ReadsFromBy}

-- both must not tear, and their ranges are equal
pub record CanReadWhole (r w : Event) : Type 0 where
  pub reader : r.no_tear ≡ true
  pub writer : w.no_tear ≡ true
  pub same_range : HasSameRange r w

-- read r has w among its sources by what is given, both must not tear, and their ranges are equal
pub record ReadsWholeBy (events : List Event) (given : ℕ → ℕ → ℕ → Type 0) (r w : ℕ) : Type 0 where
  pub reads : ReadsFromBy given r w
  pub can : CanReadWhole (event_at events r) (event_at events w)

-- each read has one source at most that it reads so
abbrev pub HasTearFreeReads : List Event → List ℕ → Type 0
HasTearFreeReads events sources =
    (r w v : ℕ) → ReadsWholeBy events (ReadsByteFrom events sources) r w → ReadsWholeBy events (ReadsByteFrom events sources) r v → v ≡ w
