-- Domains by what their sources are.
use Rattle.std.specs.Prelude.{◌≡◌, ◌↔◌, ℕ, List, Some, slice_get}
use Rattle.lit_syntax.specs.Syntax.{Litmus}
use Rattle.lit_paths.specs.ByteReads.{byte_reads}
use Rattle.lit_rel.specs.declared.event_set.EventSet.{EventSet}
use Rattle.lit_solve.specs.Box.{HasSource, box_with, events_on}

-- the domain of each byte read on a combination has exactly the sources of which this holds
abbrev pub AreDomainsBy : Litmus × ℕ → (ℕ × ℕ → ℕ → Type 0) → List EventSet → Type 0
AreDomainsBy c holds domains =
    (k r b w : ℕ) → slice_get (byte_reads (events_on c)) k ≡ Some (r, b) → HasSource (box_with c domains) k w ↔ holds (r, b) w
