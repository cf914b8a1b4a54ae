use Rattle.lit_solve.proofs.Words.{◌<◌, AddsEntries, ap, box_of, box_with, Entry, Execution, HasSolutionIn, IfSome, inr, IsCompletion, is_some, List, refl, size_of, subst, sym}
use Rattle.lit_solve.proofs.Words.{TakesFrom, ℕ}
use Rattle.lit_solve.proofs.EntryLemmas.{adds_more, adds_none}
use Rattle.lit_solve.proofs.PruningLemmas.{source_known}
use Rattle.lit_solve.proofs.SearchingLemmas.{left_less, stays_in}
use Rattle.std.proofs.lemmas.Option.{IfSome_then}
use Rattle.lit_solve.specs.declared.goal.Goal.TheVariants.{Any}
use Rattle.lit_solve.proofs.ObservedLemmas.{IsSeen, same_stores_among, all_seen, first_within, part_adds, seen_part, seen_past, some_differ}
use Rattle.lit_solve.proofs.problem.Problem.+outcomes_by_values.Goals as goal
use Rattle.lit_solve.proofs.problem.Problem.+outcomes_by_values.Goals.{then-dead_end, else-dead_end, then-restrict+then-may_complete+in_ok-end+in-Some-end, else-restrict, else-restrict-via-then-restrict+else-may_complete, else-restrict-via-else-restrict}

pub loop-source-init : goal.loop-source-init
loop-source-init g t c = record {
  within = λ w there. (c.sources_left-all.ensures w).0 there;
  added = adds_none (box_of c.args.self.now c.args.frame.now) (g.T.OutcomeTable.entries c.args.table.now);
  seen = λ x is. inr (λ w source. (c.sources_left-all.ensures w).1 (is.within c.in-Some.place w source));
}

pub storing_same-group-requires : goal.storing_same-group-requires
storing_same-group-requires g t c =
    let box = box_of c.args.self.now c.args.frame.now in
    let known = λ (w : ℕ). source_known box c.requires.fixpoint.exact.contained.is_box c.in-Some.place w c.in-Some.ensures.observed.0 in
    record {
      place = c.in-Some.ensures.observed.0;
      source = known c.in-Some-split_first.source (c.loop-source.invariant.within c.in-Some-split_first.source c.in-Some-split_first.ensures.there);
      known = λ w there. known w ((c.sources_left-all.ensures w).0 there);
    }

pub may_complete-requires-clause-known : goal.may_complete-requires-clause-known
may_complete-requires-clause-known g t c =
    IfSome_then c.args.known c.requires.known (λ leaf found all.
    stays_in (box_of c.args.self.now c.args.frame.now) (box_of c.args.self.now c.restrict.new.frame) (box_with c.args.self.now leaf.now) Any
    c.in-Some.place c.storing_same-group.result (c.restrict.ensures.restricted c.if-restrict.true) found all)

pub outcomes_by_values-requires : goal.outcomes_by_values-requires
outcomes_by_values-requires g t c κs within =
    let box = box_of c.args.self.now c.args.frame.now in
    let next = box_of c.args.self.now c.restrict.new.frame in
    let place = c.in-Some.place in
    let matching = same_stores_among box place c.in-Some-split_first.source c.sources_left-all.result c.storing_same-group.result c.sources_left-all.ensures
    c.storing_same-group.ensures in
    let there = c.loop-source.invariant.within c.in-Some-split_first.source c.in-Some-split_first.ensures.there in (
      subst (λ (n : ℕ). size_of c.restrict.new.frame.domains < n) c.decreases
          (c.restrict.ensures.less c.if-restrict.true
          (some_differ box place c.in-Some-split_first.source c.storing_same-group.result c.in-Some.ensures.observed.0 c.in-Some.ensures.observed.1 there matching)),
      (
        within.0,
        (
          within.1,
          (
            c.restrict.ensures.fixpoint c.if-restrict.true,
            (
              first_within box c.restrict.new.frame.domains c.next_observed.new.values.items
                  (c.restrict.ensures.restricted c.if-restrict.true).within c.next_observed.ensures.first,
              elim c.if-dead_end.branch [
                | then-dead_end w ↦
                    subst (λ o. IfSome o (λ leaf. HasSolutionIn next Any (box_with c.args.self.now leaf.now))) (sym w.found-is)
                    (c.may_complete.ensures.found c.if-may_complete.true w.if-dead_end.true)
                | else-dead_end w ↦
                    subst (λ o. IfSome o (λ leaf. HasSolutionIn next Any (box_with c.args.self.now leaf.now))) (sym w.found-is) tt
              ],
            ),
          ),
        ),
      ),
    )

pub returns-in_err-end-clause-added : goal.returns-in_err-end-clause-added
returns-in_err-end-clause-added g t c =
    let box = box_of c.args.self.now c.args.frame.now in
    let place = c.in-Some.place in
    let matching = same_stores_among box place c.in-Some-split_first.source c.sources_left-all.result c.storing_same-group.result c.sources_left-all.ensures
    c.storing_same-group.ensures in
    let old = g.T.OutcomeTable.entries c.args.table.now in
    let mid = g.T.OutcomeTable.entries c.loop-source.table in
    let new = g.T.OutcomeTable.entries c.outcomes_by_values.new.table in
    adds_more box old mid new c.loop-source.invariant.added
    (part_adds c.laws_below.ensures box c.requires.fixpoint.exact.contained.is_box c.events-events.ensures.sound place
    c.in-Some.ensures.observed.0 c.in-Some.ensures.observed.2 c.in-Some-split_first.source c.storing_same-group.result matching
    c.restrict.new.frame.domains (c.restrict.ensures.restricted c.if-restrict.true) mid new c.outcomes_by_values.ensures.added)

pub returns-in_default-end-clause-added : goal.returns-in_default-end-clause-added
returns-in_default-end-clause-added g t c =
    let box = box_of c.args.self.now c.args.frame.now in
    let place = c.in-Some.place in
    let matching = same_stores_among box place c.in-Some-split_first.source c.sources_left-all.result c.storing_same-group.result c.sources_left-all.ensures
    c.storing_same-group.ensures in
    let old = g.T.OutcomeTable.entries c.args.table.now in
    let mid = g.T.OutcomeTable.entries c.loop-source.table in
    let new = g.T.OutcomeTable.entries c.outcomes_by_values.new.table in
    adds_more box old mid new c.loop-source.invariant.added
    (part_adds c.laws_below.ensures box c.requires.fixpoint.exact.contained.is_box c.events-events.ensures.sound place
    c.in-Some.ensures.observed.0 c.in-Some.ensures.observed.2 c.in-Some-split_first.source c.storing_same-group.result matching
    c.restrict.new.frame.domains (c.restrict.ensures.restricted c.if-restrict.true) mid new c.outcomes_by_values.ensures.added)

pub loop-source-smaller : goal.loop-source-smaller
loop-source-smaller g t c =
    let source = c.in-Some-split_first.source in
    left_less c.loop-source.left source c.in-Some-split_first._others c.storing_same-group.result c.difference-left.result
    c.in-Some-split_first.ensures c.difference-left.ensures ((c.storing_same-group.ensures source).1
    ((c.sources_left-all.ensures source).1 (c.loop-source.invariant.within source c.in-Some-split_first.ensures.there), refl))

pub loop-source-preserved : goal.loop-source-preserved
loop-source-preserved g t c =
    let box = box_of c.args.self.now c.args.frame.now in
    let place = c.in-Some.place in
    let group = c.storing_same-group.result in
    let rest = c.difference-left.result in
    let entries = g.T.OutcomeTable.entries in
    let old = entries c.args.table.now in
    let mid = entries c.loop-source.table in
    let matching = same_stores_among box place c.in-Some-split_first.source c.sources_left-all.result group c.sources_left-all.ensures c.storing_same-group.ensures in
    let past = λ (none : (x : Execution) → IsCompletion box x → ¬ TakesFrom x place group).
    seen_past box place old mid c.loop-source.left group rest c.difference-left.ensures c.in-Some.ensures.observed.0
    c.loop-source.invariant.added c.loop-source.invariant.seen none in
    let goes : AddsEntries box old (entries c.if-restrict.table) × IsSeen box place (entries c.if-restrict.table) rest = elim c.if-restrict.branch [
      | then-restrict+then-may_complete+in_ok-end+in-Some-end w ↦
          subst (λ (es : List Entry). AddsEntries box old es × IsSeen box place es rest) (sym (ap entries w.table-is))
          (seen_part c.laws_below.ensures box c.requires.fixpoint.exact.contained.is_box c.events-events.ensures.sound place
          c.in-Some.ensures.observed.0 c.in-Some.ensures.observed.2 c.in-Some-split_first.source group matching c.restrict.new.frame.domains
          (c.restrict.ensures.restricted w.if-restrict.true) old mid (entries w.outcomes_by_values.new.table) c.loop-source.left rest c.difference-left.ensures
          c.loop-source.invariant.added c.loop-source.invariant.seen w.outcomes_by_values.ensures.added (w.in_ok-end.ensures.whole (ap is_some w.in-Some-end.is)))
      | else-restrict w ↦
          subst (λ (es : List Entry). AddsEntries box old es × IsSeen box place es rest) (sym (ap entries w.table-is))
          (past (elim w.else-restrict.branch [
            | else-restrict-via-then-restrict+else-may_complete v ↦
                (λ x is takes. v.may_complete.ensures.none v.if-may_complete.false x ((c.restrict.ensures.restricted v.if-restrict.true).retained x is takes))
            | else-restrict-via-else-restrict v ↦ c.restrict.ensures.none v.if-restrict.false
          ]))
    ] in
    record {
      within = λ w there. c.loop-source.invariant.within w ((c.difference-left.ensures w).0 there).0;
      added = goes.0;
      seen = goes.1;
    }

pub returns-clause-whole : goal.returns-clause-whole
returns-clause-whole g t c _ =
    all_seen (box_of c.args.self.now c.args.frame.now) c.in-Some.place (g.T.OutcomeTable.entries c.loop-source.table) c.loop-source.left
    c.in_default-split_first.ensures c.in-Some.ensures.observed.0 c.loop-source.invariant.seen
