use Rattle.lit_solve.proofs.Words.{box_of, Forbids, Holds, ℕ}
use Rattle.lit_solve.specs.Internal.Frames.{IsUnsettled}
use Rattle.lit_solve.proofs.FrameLemmas.{besides_more, besides_none}
use Rattle.lit_solve.proofs.problem.Problem.forbid.Goals as goal

pub returns-then-not-is_empty-clause-triples : goal.returns-then-not-is_empty-clause-triples
returns-then-not-is_empty-clause-triples c =
    let unsettled : ℕ → ℕ → ℕ → Type 0 = λ w r v. IsUnsettled (Holds c.args.frame.now.forced.rows) w r v in
    besides_more (box_of c.args.self.now c.args.frame.now) (Holds c.args.frame.now.happens_before.rows) c.requires.contained.before_in c.requires.exact
    c.args.place c.byte_read-read.result.read c.byte_read-read.result.byte c.in-Some.source c.byte_read-read.ensures.at c.in-Some.ensures.0
    unsettled c.unsettled_others-others.result c.unsettled_others-others.ensures
    (Forbids c.args.between.now) (Forbids c.forbid.new.self) c.args.between.now.len c.requires.len c.forbid.ensures.triples

pub returns-else-not-is_empty-clause-triples : goal.returns-else-not-is_empty-clause-triples
returns-else-not-is_empty-clause-triples c =
    let unsettled : ℕ → ℕ → ℕ → Type 0 = λ w r v. IsUnsettled (Holds c.args.frame.now.forced.rows) w r v in
    besides_none (box_of c.args.self.now c.args.frame.now) (Holds c.args.frame.now.happens_before.rows) c.requires.contained.before_in c.requires.exact
    c.args.place c.byte_read-read.result.read c.byte_read-read.result.byte c.in-Some.source c.byte_read-read.ensures.at c.in-Some.ensures.0
    unsettled c.unsettled_others-others.result c.unsettled_others-others.ensures
    (Forbids c.args.between.now) (c.is_empty.ensures.0 c.if-not-is_empty.false)
