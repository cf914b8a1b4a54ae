use Rattle.std.proofs.Common.{◌≡◌, ◌<◌, ℕ, Some}
use Rattle.std.specs.Prelude.{slice_get}
use Rattle.lit_paths.specs.ByteReads.{byte_reads}
use Rattle.lit_paths.specs.Members.{IsCandidate}
use Rattle.lit_solve.specs.Box.{HasSource, box_with, events_on}
use Rattle.lit_why.proofs.cases.given.is_box.Given as goal

abbrev pub invariant-loop-place : goal.invariant-loop-place
invariant-loop-place l =
    (k r b w : ℕ) → k < l.place → slice_get (byte_reads (events_on l.problem)) k ≡ Some (r, b)
    → HasSource (box_with l.problem l.domains) k w → IsCandidate (events_on l.problem) r b w
