use Rattle.std.proofs.Common.{◌≡◌, ℕ, ◌+◌, ◌-◌, ◌<◌, length, arith}
use Rattle.lit_rel.specs.Rows.{Holds}
use Rattle.lit_why.specs.Internal.Reaching.{IsReachedBy}
use Rattle.lit_why.proofs.LinkLemmas.{AreLinked-more}
use Rattle.lit_why.proofs.ReachLemmas.{reached_next}
use Rattle.lit_why.proofs.chains.links_along.Goals as goal

next : (step : ℕ → ℕ → Type 0) (d left e : ℕ) → 0 < left → IsReachedBy step d left e → (m : ℕ) × step e m × IsReachedBy step d (left - 1) m
next step d left e some h = let back : left ≡ left - 1 + 1 = omega arith in reached_next step d (left - 1) e (rw back at h)

pub next_of-next-requires-clause-known : goal.next_of-next-requires-clause-known
next_of-next-requires-clause-known c =
    (next (Holds c.args.steps.now) c.args.to c.loop-left.left c.loop-left.event c.loop-left-test.true c.loop-left.invariant.reached).1.first_known

pub next_of-next-requires-clause-some : goal.next_of-next-requires-clause-some
next_of-next-requires-clause-some c =
    let found = next (Holds c.args.steps.now) c.args.to c.loop-left.left c.loop-left.event c.loop-left-test.true c.loop-left.invariant.reached in
    let count = c.loop-left.invariant.count in
    let some = c.loop-left-test.true in
    (found.0, found.1, (c.requires.levels (c.loop-left.left - 1) (omega arith) found.0).1 found.2)

pub loop-left-preserved : goal.loop-left-preserved
loop-left-preserved c =
    let count = c.loop-left.invariant.count in
    let some = c.loop-left-test.true in
    let inside : c.loop-left.left - 1 < length c.args.levels.now = omega arith in
    record {
      count = omega (arith, c.push.ensures.len);
      reached = (c.requires.levels (c.loop-left.left - 1) inside c.next_of-next.result).0 c.next_of-next.ensures.within;
      linked = rw c.push.ensures.items (AreLinked-more c.args.events.now (Holds c.args.synchronizes.now) c.args.from c.loop-left.links.items c.loop-left.event c.link_between.result
          c.next_of-next.result c.link_between.ensures.to c.loop-left.invariant.linked c.link_between.ensures.kind);
    }

pub returns-clause-linked : goal.returns-clause-linked
returns-clause-linked c =
    rw c.push-2.ensures.items (AreLinked-more c.args.events.now (Holds c.args.synchronizes.now) c.args.from c.loop-left.links.items c.loop-left.event c.link_between-2.result
    c.args.to c.link_between-2.ensures.to c.loop-left.invariant.linked c.link_between-2.ensures.kind)
