use Rattle.std.proofs.Common.{refl, ◌∙◌}
use Rattle.std.proofs.lemmas.Bool.{false≢true}
use Rattle.std.proofs.lemmas.Option.{IfSome_then}
use Rattle.lit_rel.specs.Between.{Forbids}
use Rattle.lit_rel.specs.Rows.{Holds, rows_len}
use Rattle.lit_order.proofs.ExtendLemmas.{no_order-from_cycle}
use Rattle.lit_order.proofs.ForcingLemmas.{Forbids-below, forced_from_closed, forced_of, IsTransitive-closed}
use Rattle.lit_order.proofs.GrownLemmas.{IfNone-to, least_of_forced, none_of_forced}
use Rattle.lit_order.proofs.forced_finder.ForcedFinderOrderFinder.least_order.Goals as goal

pub force-requires-clause-transitive : goal.force-requires-clause-transitive
force-requires-clause-transitive c = IsTransitive-closed (Holds c.args.before.now) (Holds c.closed-forced.result.rows) c.closed-forced.ensures.pairs

pub returns-then-not-force-clause-none : goal.returns-then-not-force-clause-none
returns-then-not-force-clause-none c =
    let before = Holds c.args.before.now in
    let forbidden = Forbids c.args.between.now in
    let cycle = c.if-not-force.ensures.cycle.0 false≢true in
    no_order-from_cycle (rows_len c.args.before.now) before forbidden (Forbids-below (rows_len c.args.before.now) c.args.between.now c.requires)
    (cycle.0, forced_from_closed before (Holds c.closed-forced.result.rows) forbidden c.closed-forced.ensures.pairs cycle.0 cycle.0 cycle.1)

pub returns-clause-found : goal.returns-clause-found
returns-clause-found c =
    let before = Holds c.args.before.now in
    let forbidden = Forbids c.args.between.now in
    let rows = c.force.new.forced.rows in
    let pairs = forced_of before (Holds c.closed-forced.result.rows) (Holds rows) forbidden c.closed-forced.ensures.pairs (c.if-not-force.ensures.pairs refl) in
    IfSome_then c.least_of.result c.least_of.ensures.found (λ order. least_of_forced (rows_len c.args.before.now) (rows_len rows) before (Holds rows) forbidden forbidden
    (c.force.ensures.len ∙ c.closed-forced.ensures.len) pairs (λ w r v. ((λ f. f), (λ f. f))) (Forbids-below (rows_len c.args.before.now) c.args.between.now c.requires) order.items)

pub returns-clause-none : goal.returns-clause-none
returns-clause-none c =
    let before = Holds c.args.before.now in
    let forbidden = Forbids c.args.between.now in
    let rows = c.force.new.forced.rows in
    let pairs = forced_of before (Holds c.closed-forced.result.rows) (Holds rows) forbidden c.closed-forced.ensures.pairs (c.if-not-force.ensures.pairs refl) in
    IfNone-to c.least_of.result (none_of_forced (rows_len c.args.before.now) (rows_len rows) before (Holds rows) forbidden forbidden
    (c.force.ensures.len ∙ c.closed-forced.ensures.len) pairs (λ w r v. ((λ f. f), (λ f. f))) (Forbids-below (rows_len c.args.before.now) c.args.between.now c.requires)) c.least_of.ensures.none
