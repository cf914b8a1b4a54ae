use Rattle.std.proofs.Common.{◌≡◌, ℕ, ◌<◌, Some}
use Rattle.std.specs.List.{slice_get}
use Rattle.lit_paths.specs.declared.byte_reads.ByteRead.{ByteRead}
use Rattle.lit_rel.specs.Coherent.{IsCoherentRead}
use Rattle.lit_rel.specs.Rows.{Holds}
use Rattle.lit_why.proofs.refusals.incoherence.first_incoherent.Given as goal

abbrev pub invariant-loop-place : goal.invariant-loop-place
invariant-loop-place l =
    (k : ℕ) (other : ByteRead) (u : ℕ) → k < l.place → slice_get l.reads k ≡ Some other → slice_get l.sources k ≡ Some u
    → IsCoherentRead l.events (Holds l.before) other.read other.byte u
