use Rattle.std.proofs.Common.{◌≡◌, ◌↔◌, ℕ, ◌<◌, length}
use Rattle.lit_rel.specs.Rows.{Holds, rows_len}
use Rattle.lit_solve.specs.Box.{box_with, events_on}
use Rattle.lit_why.specs.Internal.Relations.{IsGivenAt}
use Rattle.lit_why.proofs.cases.given.reads_of.Given as goal

abbrev pub invariant-loop-place : goal.invariant-loop-place
invariant-loop-place l = record {
  len : rows_len l.rows ≡ length (events_on l.problem);
  pairs : (r w : ℕ) → Holds l.rows r w ↔ ((k : ℕ) × (k < l.place) × IsGivenAt (box_with l.problem l.domains) k r w);
}
