use Rattle.std.proofs.Common.{◌≡◌, ◌↔◌, ℕ, ◌<◌, length, refl, inl, inr, arith}
use Rattle.std.proofs.lemmas.Bool.{false≢true}
use Rattle.lit_rel.proofs.SetLemmas.{event_or_not}
use Rattle.lit_rel.specs.EventSet.{HasEvent}
use Rattle.lit_rel.specs.Rows.{Holds, rows_len}
use Rattle.lit_why.proofs.CountLemmas.{events_missing, missing-fewer, missing-most, missing-some}
use Rattle.lit_why.proofs.ReachLemmas.{reached_all, reached_first, reached_more, reached_known}
use Rattle.lit_why.proofs.chains.reaching.levels_below.Goals as goal

pub loop-reached-init : goal.loop-reached-init
loop-reached-init c =
    let most = missing-most c.new-reached.result (rows_len c.args.steps.now) in
    let single : (e : ℕ) → HasEvent c.with.result e ↔ (e ≡ c.args.to) = λ e. (
      (λ h. elim ((c.with.ensures e).0 h) [ inl old ↦ absurd (c.new.ensures.empty e old) | inr same ↦ same ]),
      (λ same. (c.with.ensures e).1 (inr same)),
    ) in
    let step = Holds c.args.steps.now in
    let first = reached_first step c.args.to c.args.from c.leading_to-level.result c.new-reached.result c.with.result single c.leading_to-level.ensures c.new-reached.ensures.empty in
    rw c.new-levels.ensures record { reaches = first; few = omega (arith, most) }

pub returns-in_default : goal.returns-in_default
returns-in_default c =
    let level = c.loop-reached.level in
    let reached = c.loop-reached.reached in
    reached_all (Holds c.args.steps.now) c.args.to c.args.from level reached c.loop-reached.levels.items c.loop-reached.invariant.reaches
    (λ e h. elim (event_or_not reached e) [ inl old ↦ old | inr new ↦ absurd (c.in_default.ensures e ((c.difference.ensures e).1 (h, new))) ])

pub push-requires : goal.push-requires
push-requires c =
    let reaches = c.loop-reached.invariant.reaches in
    let lacks : ¬ HasEvent c.loop-reached.reached c.args.from = λ h. let at = (reaches.together c.args.from).0 h in reaches.below at.0 at.1 at.2 in
    let some = missing-some c.loop-reached.reached (rows_len c.args.steps.now) c.args.from c.requires.from lacks in
    let few = c.loop-reached.invariant.few in
    let limit = c.args.steps.now.in_limit in
    (omega arith, omega arith)

pub loop-reached-smaller : goal.loop-reached-smaller
loop-reached-smaller c =
    let e = c.in-Some._new in
    let n = rows_len c.args.steps.now in
    let new = (c.difference.ensures e).0 c.in-Some.ensures.there in
    let reached = (c.loop-reached.invariant.reaches.next e).0 new.0 in
    let known = reached_known (Holds c.args.steps.now) c.args.to n (λ x y h. h.first_known) (length c.loop-reached.levels.items) e reached in
    missing-fewer c.loop-reached.reached c.union-reached.result n e (λ d h. (c.union-reached.ensures d).1 (inl h)) known new.1 ((c.union-reached.ensures e).1 (inr new.0))

pub loop-reached-preserved : goal.loop-reached-preserved
loop-reached-preserved c =
    let fewer : events_missing c.union-reached.result (rows_len c.args.steps.now) < events_missing c.loop-reached.reached (rows_len c.args.steps.now) = loop-reached-smaller c in
    let before = c.loop-reached.invariant.few in
    record {
      reaches = reached_more (Holds c.args.steps.now) c.args.to c.args.from c.loop-reached.level c.loop-reached.reached c.loop-reached.levels.items c.leading_to-level-in-loop-reached.result
          c.union-reached.result c.loop-reached.invariant.reaches (λ h. false≢true (c.loop-reached-test.ensures.1 h)) c.leading_to-level-in-loop-reached.ensures c.union-reached.ensures
          c.push.new.self.items c.push.ensures.items;
      few = omega (arith, c.push.ensures.len);
    }

pub returns : goal.returns
returns c =
    let reaches = c.loop-reached.invariant.reaches in
    let lacks : ¬ HasEvent c.loop-reached.reached c.args.from = λ h. let at = (reaches.together c.args.from).0 h in reaches.below at.0 at.1 at.2 in
    let some = missing-some c.loop-reached.reached (rows_len c.args.steps.now) c.args.from c.requires.from lacks in
    let few = c.loop-reached.invariant.few in (
      record { are_levels = reaches.are_levels; below = reaches.below; reached = (reaches.next c.args.from).0 (c.loop-reached-test.ensures.0 refl) },
      omega arith,
    )
