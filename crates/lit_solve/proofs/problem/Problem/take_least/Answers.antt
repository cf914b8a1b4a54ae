use Rattle.lit_solve.proofs.Words.{◌∙◌, ◌≡◌, arith, Box, box_of, box_with, EventSet, Execution, Frame, HasAlone, HasEvent, HasSolutionIn}
use Rattle.lit_solve.proofs.Words.{HasSource, IsCompletion, IsFixpoint, IsRestricted, IsSolution, List, refl, slice_get, Some, split_less}
use Rattle.lit_solve.proofs.Words.{subst, sym, ℕ}
use Rattle.lit_solve.proofs.DescendingLemmas.{restricted_alone, lowest_at}
use Rattle.lit_solve.proofs.PruningLemmas.{source_known}
use Rattle.lit_solve.proofs.SearchingLemmas.{solution_in, stays_in, takes_some}
use Rattle.lit_solve.proofs.problem.Problem.take_least.Goals as goal
use Rattle.lit_solve.proofs.problem.Problem.take_least.Goals.{Then-restrict, else-restrict-via-then-restrict+else-is_promising, else-restrict-via-else-restrict}

pub set_of-set-requires : goal.set_of-set-requires
set_of-set-requires c =
    let known = source_known (box_of c.args.self.now c.args.frame.now) c.requires.fixpoint.exact.contained.is_box c.args.place c.in-Some.source
    c.requires.place (c.loop-source.invariant.within c.in-Some.source c.in-Some.ensures.there) in
    omega arith

pub restrict-requires-clause-fixpoint : goal.restrict-requires-clause-fixpoint
restrict-requires-clause-fixpoint c = subst (λ (f : Frame). IsFixpoint (box_of c.args.self.now f) f) (sym c.loop-source.invariant.same) c.requires.fixpoint

-- the restriction of the frame as it was
restricted_of : (c : Then-restrict) → IsRestricted (box_of c.args.self.now c.args.frame.now) c.args.place c.set_of-set.result (box_of c.args.self.now c.restrict.new.frame)
restricted_of c =
    subst (λ (f : Frame). IsRestricted (box_of c.args.self.now f) c.args.place c.set_of-set.result (box_of c.args.self.now c.restrict.new.frame))
    c.loop-source.invariant.same (c.restrict.ensures.restricted c.if-restrict.true)

alone_of : (c : Then-restrict) → HasAlone (box_of c.args.self.now c.restrict.new.frame) c.args.place c.in-Some.source
alone_of c =
    restricted_alone (box_of c.args.self.now c.args.frame.now) (box_of c.args.self.now c.restrict.new.frame) c.args.place c.in-Some.source c.set_of-set.result
    (λ w. (c.set_of-set.ensures w).0) (restricted_of c) c.requires.place (c.restrict.ensures.fixpoint c.if-restrict.true).exact.contained.some

pub is_promising-requires-clause-known : goal.is_promising-requires-clause-known
is_promising-requires-clause-known c complete =
    subst (λ (d : List EventSet). ((w : ℕ) → HasSource (box_with c.args.self.now d) c.args.place w → HasEvent c.set_of-set.result w)
    → HasSolutionIn (box_of c.args.self.now c.restrict.new.frame) c.args.goal (box_with c.args.self.now d)) (sym c.loop-source.invariant.kept)
    (stays_in (box_of c.args.self.now c.args.frame.now) (box_of c.args.self.now c.restrict.new.frame)
    (box_with c.args.self.now c.args.leaf.now) c.args.goal c.args.place c.set_of-set.result
    (restricted_of (goal.at.is_promising-requires-clause-known c).Then-restrict) (c.requires.known complete))

pub returns-then-is_promising-clause-alone : goal.returns-then-is_promising-clause-alone
returns-then-is_promising-clause-alone c _ = (c.in-Some.source, alone_of (goal.at.returns-then-is_promising-clause-alone c).Then-restrict)

pub returns-then-is_promising-clause-lowest : goal.returns-then-is_promising-clause-lowest
returns-then-is_promising-clause-lowest c _ =
    let at = (goal.at.returns-then-is_promising-clause-lowest c).Then-restrict in
    lowest_at (box_of c.args.self.now c.args.frame.now) (box_of c.args.self.now c.restrict.new.frame) c.args.goal c.args.place c.requires.place
    c.loop-source.left c.in-Some.others c.set_of-set.result c.in-Some.source c.in-Some.ensures c.loop-source.invariant.taken c.set_of-set.ensures (restricted_of at)
    (alone_of at)

pub loop-source-smaller : goal.loop-source-smaller
loop-source-smaller c = split_less c.loop-source.left c.in-Some.source c.in-Some.others c.in-Some.ensures

pub loop-source-preserved : goal.loop-source-preserved
loop-source-preserved c = record {
  same = refl;
  kept = elim c.else-restrict.branch [
    | else-restrict-via-then-restrict+else-is_promising s ↦
        s.leaf-is ∙ (s.is_promising.ensures.same s.if-is_promising.false ∙ c.loop-source.invariant.kept)
    | else-restrict-via-else-restrict s ↦ s.leaf-is ∙ c.loop-source.invariant.kept
  ];
  within = λ w h. c.loop-source.invariant.within w ((c.in-Some.ensures.rest w).0 h).0;
  taken = λ x is w at. (c.in-Some.ensures.rest w).1 (c.loop-source.invariant.taken x is w at, λ same. in_vain x is w at same);
}
  where
    in_vain : (x : Execution) → IsSolution (box_of c.args.self.now c.args.frame.now) c.args.goal x → (w : ℕ)
        → slice_get x.sources c.args.place ≡ Some w → w ≡ c.in-Some.source → ⊥
    in_vain x is w at same =
        let old : Box = box_of c.args.self.now c.args.frame.now in
        let new : Box = box_of c.args.self.now c.restrict.new.frame in
        let takes : (v : ℕ) → slice_get x.sources c.args.place ≡ Some v → HasEvent c.set_of-set.result v = λ v at_too.
        (c.set_of-set.ensures v).1 ((let e : Some v ≡ Some w = sym at_too ∙ at in let f : v ≡ w = cc in f) ∙ same) in
        elim c.else-restrict.branch [
          | else-restrict-via-then-restrict+else-is_promising s ↦
              s.is_promising.ensures.none s.if-is_promising.false (
                x,
                solution_in old new c.args.goal c.args.place c.set_of-set.result
                    (subst (λ (f : Frame). IsRestricted (box_of c.args.self.now f) c.args.place c.set_of-set.result new) c.loop-source.invariant.same
                    (c.restrict.ensures.restricted s.if-restrict.true)) x is takes,
              )
          | else-restrict-via-else-restrict s ↦
              c.restrict.ensures.none s.if-restrict.false x
              (subst (λ (f : Frame). IsCompletion (box_of c.args.self.now f) x) (sym c.loop-source.invariant.same) is.completes) takes
        ]

pub returns-clause-none : goal.returns-clause-none
returns-clause-none c _ found =
    let some = takes_some (box_of c.args.self.now c.args.frame.now) c.args.goal c.args.place c.requires.place found.0 found.1 in
    c.in_default.ensures some.0 (c.loop-source.invariant.taken found.0 found.1 some.0 some.1)
