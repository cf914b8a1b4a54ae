use Rattle.lit_solve.proofs.Words.{Any, arith, Box, box_with, EventSet, IsIndependent, IsLowestAt, List, Litmus}
use Rattle.lit_solve.proofs.Words.{split_less, subst, sym, ℕ, ◌≡◌}
use Rattle.lit_solve.proofs.DescendingLemmas.{restricted_alone, lowest_at}
use Rattle.lit_solve.proofs.IndependentLemmas.{independent_solution}
use Rattle.lit_solve.proofs.PruningLemmas.{source_known}
use Rattle.lit_solve.proofs.SearchingLemmas.{takes_some}
use Rattle.lit_solve.proofs.problem.Problem.give_least.Goals as goal

-- the domains are not changed before the end
independent_still : (c : Litmus × ℕ) (now was : List EventSet) → now ≡ was → IsIndependent (box_with c was) → IsIndependent (box_with c now)
independent_still c now was same is = subst (λ (ds : List EventSet). IsIndependent (box_with c ds)) (sym same) is

pub set_of-requires : goal.set_of-requires
set_of-requires c =
    let is = independent_still c.args.self.now c.loop-source.domains c.args.domains.now c.loop-source.invariant.same c.requires.independent in
    let known = source_known (box_with c.args.self.now c.loop-source.domains) is.is_box c.args.place c.in-Some-split_first.source
    c.requires.place (c.loop-source.invariant.within c.in-Some-split_first.source c.in-Some-split_first.ensures.there) in
    omega arith

pub returns-then-restrict_independent : goal.returns-then-restrict_independent
returns-then-restrict_independent c =
    let old : Box = box_with c.args.self.now c.loop-source.domains in
    let new : Box = box_with c.args.self.now c.restrict_independent.new.domains in
    let source = c.in-Some-split_first.source in
    let restricted = c.restrict_independent.ensures.restricted c.if-restrict_independent.true in
    let independent = c.restrict_independent.ensures.independent c.if-restrict_independent.true in
    let alone = restricted_alone old new c.args.place source c.set_of.result (λ w. (c.set_of.ensures w).0) restricted c.requires.place independent.some in
    record {
      independent = independent;
      alone = (source, alone);
      lowest = subst (λ (ds : List EventSet). IsLowestAt (box_with c.args.self.now ds) Any c.args.place new) c.loop-source.invariant.same
          (lowest_at old new Any c.args.place c.requires.place c.loop-source.left c.in-Some-split_first.others c.set_of.result source
          c.in-Some-split_first.ensures c.loop-source.invariant.taken c.set_of.ensures restricted alone);
    }

pub loop-source-smaller : goal.loop-source-smaller
loop-source-smaller c = split_less c.loop-source.left c.in-Some-split_first.source c.in-Some-split_first.others c.in-Some-split_first.ensures

pub unreachable-requires : goal.unreachable-requires
unreachable-requires c =
    let box = box_with c.args.self.now c.loop-source.domains in
    let is = independent_still c.args.self.now c.loop-source.domains c.args.domains.now c.loop-source.invariant.same c.requires.independent in
    let found = independent_solution box is (c.leaves_are_filled_read_by_read.ensures box) in
    let some = takes_some box Any c.args.place c.requires.place found.0 found.1 in
    c.in_default-split_first.ensures some.0 (c.loop-source.invariant.taken found.0 found.1 some.0 some.1)
