use Rattle.lit_solve.proofs.Words.{◌<◌, arith, Box, box_of, Execution, HasEvent, HasSource, IsCompletion, on_ok_weaker, size_of}
use Rattle.lit_solve.proofs.Words.{stored_for, subst, sym, TakesFrom, ℕ, ◌↔◌, ◌≡◌}
use Rattle.lit_solve.proofs.EnumerationLemmas.{its_source, one_each, takes_alike}
use Rattle.lit_solve.proofs.ObservedLemmas.{first_within, part_adds, same_stores_among, some_differ}
use Rattle.lit_solve.proofs.PruningLemmas.{source_known}
use Rattle.lit_solve.proofs.problem.Problem.+record_alike.Goals as goal
use Rattle.lit_solve.proofs.problem.Problem.+record_alike.Goals.{After-from, After-storing_same-group}

pub bounds-sources-place : goal.bounds-sources-place
bounds-sources-place g t c =
    let x = c.requires.completes in
    let long = one_each (box_of c.args.self.now c.args.frame.now) c.args.sources.now x.0 x.1 x.2 in
    omega (arith, long, c.in-Some.ensures.observed.0)

-- the source that the completion takes there is in the domain
source_there : (g : _) (t : _) (c : After-from g t) → HasSource (box_of c.args.self.now c.args.frame.now) c.in-Some.place c.from.result
source_there g t c =
    let x = c.requires.completes in
    let box = box_of c.args.self.now c.args.frame.now in
    subst (λ (w : ℕ). HasSource box c.in-Some.place w) (sym c.from.ensures)
    (its_source box c.args.sources.now x.0 x.1 x.2 c.in-Some.place c.in-Some.ensures.observed.0)

pub storing_same-group-requires-clause-source : goal.storing_same-group-requires-clause-source
storing_same-group-requires-clause-source g t c =
    source_known (box_of c.args.self.now c.args.frame.now) c.requires.fixpoint.exact.contained.is_box c.in-Some.place c.from.result
    c.in-Some.ensures.observed.0 (source_there g t c)

pub storing_same-group-requires-clause-known : goal.storing_same-group-requires-clause-known
storing_same-group-requires-clause-known g t c w there =
    source_known (box_of c.args.self.now c.args.frame.now) c.requires.fixpoint.exact.contained.is_box c.in-Some.place w
    c.in-Some.ensures.observed.0 ((c.sources_left-all.ensures w).0 there)

matching : (g : _) (t : _) (c : After-storing_same-group g t) → (w : ℕ) → HasEvent c.storing_same-group.result w
    ↔ (HasSource (box_of c.args.self.now c.args.frame.now) c.in-Some.place w
    × (stored_for (box_of c.args.self.now c.args.frame.now) c.in-Some.place w
    ≡ stored_for (box_of c.args.self.now c.args.frame.now) c.in-Some.place c.from.result))
matching g t c =
    same_stores_among (box_of c.args.self.now c.args.frame.now) c.in-Some.place c.from.result c.sources_left-all.result
    c.storing_same-group.result c.sources_left-all.ensures c.storing_same-group.ensures

-- a completion with these sources takes one of the group
takes_group : (g : _) (t : _) (c : After-storing_same-group g t) (x : Execution) → IsCompletion (box_of c.args.self.now c.args.frame.now) x
    → x.sources ≡ c.args.sources.now → TakesFrom x c.in-Some.place c.storing_same-group.result
takes_group g t c x is same =
    let box : Box = box_of c.args.self.now c.args.frame.now in
    takes_alike box c.args.sources.now x is same c.in-Some.place c.in-Some.ensures.observed.0 c.storing_same-group.result
    (subst (λ (source : ℕ). (w : ℕ) → HasEvent c.storing_same-group.result w
    ↔ (HasSource box c.in-Some.place w × (stored_for box c.in-Some.place w ≡ stored_for box c.in-Some.place source))) c.from.ensures
    (matching g t c))

pub record_alike-requires : goal.record_alike-requires
record_alike-requires g t c κs within =
    let x = c.requires.completes in
    let box = box_of c.args.self.now c.args.frame.now in
    let restricted = c.restrict.ensures.restricted c.if-restrict.true in
    let group = (goal.at.record_alike-requires g t c).After-storing_same-group in (
      subst (λ (n : ℕ). size_of c.restrict.new.frame.domains < n) c.decreases
          (c.restrict.ensures.less c.if-restrict.true
          (some_differ box c.in-Some.place c.from.result c.storing_same-group.result c.in-Some.ensures.observed.0
          c.in-Some.ensures.observed.1 (source_there g t (goal.at.record_alike-requires g t c).After-from) (matching g t group))),
      (
        within,
        (
          c.restrict.ensures.fixpoint c.if-restrict.true,
          (
            first_within box c.restrict.new.frame.domains c.observe.new.values.items restricted.within c.observe.ensures.first,
            (x.0, restricted.retained x.0 x.1 (takes_group g t group x.0 x.1 x.2), x.2, x.3),
          ),
        ),
      ),
    )

pub returns-then-restrict-clause-added : goal.returns-then-restrict-clause-added
returns-then-restrict-clause-added g t c =
    let group = (goal.at.returns-then-restrict-clause-added g t c).After-storing_same-group in
    part_adds c.laws_below.ensures (box_of c.args.self.now c.args.frame.now) c.requires.fixpoint.exact.contained.is_box
    c.events-events.ensures.sound c.in-Some.place c.in-Some.ensures.observed.0 c.in-Some.ensures.observed.2 c.from.result
    c.storing_same-group.result (matching g t group) c.restrict.new.frame.domains (c.restrict.ensures.restricted c.if-restrict.true)
    (g.T.OutcomeTable.entries c.args.table.now) (g.T.OutcomeTable.entries c.record_alike.new.table) c.record_alike.ensures.added

pub returns-then-restrict-clause-has : goal.returns-then-restrict-clause-has
returns-then-restrict-clause-has g t c =
    let group = (goal.at.returns-then-restrict-clause-has g t c).After-storing_same-group in
    on_ok_weaker c.record_alike.result
    (λ has x is same. has x ((c.restrict.ensures.restricted c.if-restrict.true).retained x is (takes_group g t group x is same)) same)
    c.record_alike.ensures.has

pub returns-clause-has : goal.returns-clause-has
returns-clause-has g t c x is same =
    let group = (goal.at.returns-clause-has g t c).After-storing_same-group in
    absurd (c.restrict.ensures.none c.if-restrict.false x is (takes_group g t group x is same))
