use Rattle.std.proofs.Common.{◌≡◌, ℕ, ◌<◌, Some}
use Rattle.std.specs.Prelude.{slice_get}
use Rattle.lit_paths.specs.ByteReads.{byte_reads}
use Rattle.lit_solve.specs.Box.{events_on}
use Rattle.lit_why.specs.Internal.Unmixing.{filling}
use Rattle.lit_why.proofs.unmixing.is_filled.Given as goal

abbrev pub invariant-loop-place : goal.invariant-loop-place
invariant-loop-place l = (k b : ℕ) → k < l.place → slice_get (byte_reads (events_on l.combination)) k ≡ Some (l.read, b)
    → slice_get l.sources k ≡ Some (filling l.filler b)
