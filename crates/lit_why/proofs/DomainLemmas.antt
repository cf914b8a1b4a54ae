-- Domains by what their sources are.
use Rattle.std.proofs.Common.{◌≡◌, ◌↔◌, ℕ, ◌<◌, List, Some, length}
use Rattle.std.specs.Prelude.{slice_get, slice_index_or}
use Rattle.lit_syntax.specs.Syntax.{IsLitmus, Litmus}
use Rattle.lit_paths.specs.ByteReads.{byte_reads}
use Rattle.lit_paths.specs.Members.{IsCandidate}
use Rattle.lit_paths.specs.Choice.{combinations_of}
use Rattle.lit_paths.specs.declared.limits.TheConstants.{BYTE_READ_LIMIT}
use Rattle.lit_rel.specs.declared.event_set.EventSet.{EventSet}
use Rattle.lit_rel.specs.EventSet.{HasEvent, no_events}
use Rattle.lit_solve.specs.Box.{IsBox, box_with, events_on}
use Rattle.lit_why.specs.Internal.Domains.{AreDomainsBy}

-- the domains of the first byte reads have these sources
pub record AreFirstBy (c : Litmus × ℕ) (holds : ℕ × ℕ → ℕ → Type 0) (domains : List EventSet) (place : ℕ) : Type 0 where
  pub len : length domains ≡ BYTE_READ_LIMIT
  pub each : (k r b w : ℕ) → k < place → slice_get (byte_reads (events_on c)) k ≡ Some (r, b)
      → HasEvent (slice_index_or domains k no_events) w ↔ holds (r, b) w

-- domains of candidates make a box
pub box_by : (c : Litmus × ℕ) (holds : ℕ × ℕ → ℕ → Type 0) (domains : List EventSet) → IsLitmus c.0 → c.1 < length (combinations_of c.0)
    → AreDomainsBy c holds domains → ((p : ℕ × ℕ) (w : ℕ) → holds p w → IsCandidate (events_on c) p.0 p.1 w) → IsBox (box_with c domains)
box_by c holds domains litmus known by candidates =
    record { litmus = litmus; known = known; candidates = λ k r b w at there. candidates (r, b) w ((by k r b w at).0 there) }
