use Rattle.std.specs.Prelude.{IsTrue}
use Rattle.lit_paths.specs.ByteReads.{byte_reads}
use Rattle.lit_paths.specs.Members.{IsCandidate}
use Rattle.lit_solve.specs.Box.{events_on}
use Rattle.lit_why.specs.Asked.{is_asked}
use Rattle.lit_why.specs.Attempts.{agree}
use Rattle.lit_why.proofs.BoxLemmas.{AreFirstFor}
use Rattle.lit_why.proofs.cases.attempt_box.attempt_box.Given as goal

abbrev pub invariant-loop-place : goal.invariant-loop-place
invariant-loop-place l =
    AreFirstFor (byte_reads (events_on l.combination)) l.sources (λ q v w. IsCandidate (events_on l.combination) q.0 q.1 w
    × IsTrue (agree (is_asked l.combination.0 l.combination.1 q.0) (events_on l.combination) q.1 v w)) l.domains l.place
