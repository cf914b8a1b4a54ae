use Rattle.std.specs.Prelude.{IsNone}
use Rattle.lit_solve.proofs.Words.{◌<◌, AddsEntries, ap, arith, Box, box_of, Entry, Execution, execution_outcome, HasOutcome, IsCompletion}
use Rattle.lit_solve.proofs.Words.{IsObservation, List, on_ok_weaker, Option, size_of, subst, sym, ℕ, ◌∙◌, ◌≡◌}
use Rattle.lit_solve.proofs.EntryLemmas.{adds_more}
use Rattle.lit_solve.proofs.EnumerationLemmas.{seen_next, undecided_of, within_on}
use Rattle.lit_solve.proofs.ObservedLemmas.{all_seen, IsSeen, seen_more}
use Rattle.lit_solve.proofs.PruningLemmas.{source_known}
use Rattle.lit_solve.proofs.SearchingLemmas.{left_less, not_all, solution_out}
use Rattle.lit_solve.specs.declared.goal.Goal.TheVariants.{Any}
use Rattle.lit_solve.proofs.problem.Problem.+outcomes_by_sources.Goals as goal
use Rattle.lit_solve.proofs.problem.Problem.+outcomes_by_sources.Goals.{then-restrict+in_ok-outcomes_by_sources, else-restrict}

pub next_branch-requires-clause-undecided : goal.next_branch-requires-clause-undecided
next_branch-requires-clause-undecided g t c =
    undecided_of (box_of c.args.self.now c.args.frame.now) c.observe-open.new.values.items c.observe-open.result c.observe-open.ensures.observed

pub part-part-requires-clause-known : goal.part-part-requires-clause-known
part-part-requires-clause-known g t c w there =
    source_known (box_of c.args.self.now c.args.frame.now) c.requires.fixpoint.exact.contained.is_box c.in-Some.branch.place w
    c.in-Some.ensures.branch.known (c.loop-source.invariant.within w there)

pub outcomes_by_sources-requires : goal.outcomes_by_sources-requires
outcomes_by_sources-requires g t c κs within =
    let box = box_of c.args.self.now c.args.frame.now in (
      subst (λ (n : ℕ). size_of c.restrict.new.frame.domains < n) c.decreases
          (c.restrict.ensures.less c.if-restrict.true
          (not_all box c.in-Some.branch c.in-Some.ensures.branch c.in-Some-split_first.source
          (c.loop-source.invariant.within c.in-Some-split_first.source c.in-Some-split_first.ensures.there) c.part-part.result
          c.part-part.ensures.apart)),
      (
        within.0,
        (
          within.1,
          (
            c.requires.root,
            (
              c.restrict.ensures.fixpoint c.if-restrict.true,
              within_on (box_of c.args.self.now c.restrict.new.frame) box (box_of c.args.self.now c.args.root.now)
                  (c.restrict.ensures.restricted c.if-restrict.true).within c.requires.within,
            ),
          ),
        ),
      ),
    )

pub loop-source-smaller : goal.loop-source-smaller
loop-source-smaller g t c =
    left_less c.loop-source.left c.in-Some-split_first.source c.in-Some-split_first._others c.part-part.result c.difference-left.result
    c.in-Some-split_first.ensures c.difference-left.ensures c.part-part.ensures.there

pub loop-source-preserved : goal.loop-source-preserved
loop-source-preserved g t c =
    let box = box_of c.args.self.now c.args.frame.now in
    let root = box_of c.args.self.now c.args.root.now in
    let place = c.in-Some.branch.place in
    let inside = c.in-Some.ensures.branch.known in
    let rest = c.difference-left.result in
    let entries = g.T.OutcomeTable.entries in
    let old = entries c.args.table.now in
    let mid = entries c.loop-source.table in
    let was = c.loop-source.invariant in
    let goes : AddsEntries root old (entries c.if-restrict.table) × IsSeen box place (entries c.if-restrict.table) rest = elim c.if-restrict.branch [
      | then-restrict+in_ok-outcomes_by_sources w ↦
          subst (λ (es : List Entry). AddsEntries root old es × IsSeen box place es rest) (sym (ap entries w.table-is))
          (seen_next root box place inside old mid (entries w.outcomes_by_sources.new.table) c.loop-source.left c.part-part.result rest
          c.difference-left.ensures c.restrict.new.frame.domains (c.restrict.ensures.restricted w.if-restrict.true) was.added was.seen
          w.outcomes_by_sources.ensures.added w.in_ok-outcomes_by_sources.ensures.whole)
      | else-restrict w ↦
          subst (λ (es : List Entry). AddsEntries root old es × IsSeen box place es rest) (sym (ap entries w.table-is)) (
            was.added,
            seen_more (λ x. HasOutcome mid (execution_outcome c.args.self.now.0 x)) box place inside c.loop-source.left c.part-part.result
                rest c.difference-left.ensures (λ x is takes. absurd (c.restrict.ensures.none w.if-restrict.false x is takes)) was.seen,
          )
    ] in
    record {
      within = λ w there. was.within w ((c.difference-left.ensures w).0 there).0;
      added = goes.0;
      seen = goes.1;
    }

pub returns-in_err-outcomes_by_sources-clause-added : goal.returns-in_err-outcomes_by_sources-clause-added
returns-in_err-outcomes_by_sources-clause-added g t c =
    let entries = g.T.OutcomeTable.entries in
    adds_more (box_of c.args.self.now c.args.root.now) (entries c.args.table.now) (entries c.loop-source.table)
    (entries c.outcomes_by_sources.new.table) c.loop-source.invariant.added c.outcomes_by_sources.ensures.added

pub returns-clause-whole : goal.returns-clause-whole
returns-clause-whole g t c =
    all_seen (box_of c.args.self.now c.args.frame.now) c.in-Some.branch.place (g.T.OutcomeTable.entries c.loop-source.table)
    c.loop-source.left c.in_default-split_first.ensures c.in-Some.ensures.branch.known c.loop-source.invariant.seen

-- what is not undecided has one outcome
one_observed : (box : Box) (values : List ℕ) (place : Option ℕ) → IsNone place → IsObservation box values place → (x : Execution) → IsCompletion box x
    → execution_outcome box.test x ≡ values
one_observed box values place none is = grind arith

-- the frame gives one outcome, that of its least completion
pub returns-in_default-clause-whole : goal.returns-in_default-clause-whole
returns-in_default-clause-whole g t c =
    let root = box_of c.args.self.now c.args.root.now in
    let frame = box_of c.args.self.now c.args.frame.now in
    let least = c.in-Some-least.ensures in
    let observed = one_observed frame c.observe-open.new.values.items c.observe-open.result c.in_default.ensures.none c.observe-open.ensures.observed in
    let found = solution_out frame root Any c.requires.within least.execution least.solves in
    on_ok_weaker c.record_alike.result (λ has x is.
    subst (HasOutcome (g.T.OutcomeTable.entries c.record_alike.new.table)) (observed least.execution least.solves.completes ∙ sym (observed x is))
    (has least.execution found.completes (least.same ∙ sym c.as_slice-sources.ensures.value)))
    c.record_alike.ensures.has
