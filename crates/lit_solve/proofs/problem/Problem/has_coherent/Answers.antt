use Rattle.lit_solve.proofs.Words.{byte_read_at, cases_eq, events_on, false≢true, Holds, inl, inr, IsCoherentRead, split_less, subst, ℕ}
use Rattle.lit_solve.proofs.PruningLemmas.{source_known}
use Rattle.lit_solve.proofs.Words.{box_of}
use Rattle.lit_solve.proofs.problem.Problem.has_coherent.Goals as goal

pub is_coherent-requires-clause-source : goal.is_coherent-requires-clause-source
is_coherent-requires-clause-source c =
    source_known (box_of c.args.self.now c.args.frame.now) c.requires.contained.is_box c.args.place c.in-Some.source c.requires.place
    (c.loop-source.invariant.left c.in-Some.source c.in-Some.ensures.there)

pub loop-source-smaller : goal.loop-source-smaller
loop-source-smaller c = split_less c.loop-source.left c.in-Some.source c.in-Some.others c.in-Some.ensures

pub loop-source-preserved : goal.loop-source-preserved
loop-source-preserved c =
    let read = byte_read_at (events_on c.args.self.now) c.args.place in
    let was = c.loop-source.invariant in
    let rest = c.in-Some.ensures.rest in record {
      left = λ w h. was.left w ((rest w).0 h).0;
      gone = λ w there not_left coherent. elim (cases_eq w c.in-Some.source) [
        | inl same ↦ false≢true (c.if-is_coherent.ensures.1
            (subst (λ (v : ℕ). IsCoherentRead (events_on c.args.self.now) (Holds c.args.before.now.rows) read.0 read.1 v) same coherent))
        | inr other ↦ was.gone w there (λ left. not_left ((rest w).1 (left, other))) coherent
      ];
    }
