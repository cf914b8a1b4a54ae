use Rattle.lit_search.proofs.Words.{◌+◌, ap, arith, choices_before, Gains, in_range, IsTrue, Litmus, subst, ℕ, ◌∙◌, ◌≡◌, ◌≤◌}
use Rattle.lit_search.proofs.GainLemmas.{gains_none, gains_on, none_within}
use Rattle.lit_search.proofs.searching.record.Goals as goal

pub loop-next-init : goal.loop-next-init
loop-next-init g c = record {
  after = omega arith;
  inside = c.requires.order;
  gains = gains_none c.args.plan.now (λ n. IsTrue (in_range c.args.from c.args.from n)) c.args.table.now c.args.raced (none_within c.args.from);
}

pub loop-next-preserved : goal.loop-next-preserved
loop-next-preserved g c =
    let t = c.args.plan.now in
    let end = c.min-end.result in
    let behind : c.end.result ≡ choices_before t (c.combination.result + 1) =
    c.end.ensures.value ∙ ap (λ (p : Litmus × ℕ). choices_before p.0 (p.1 + 1)) (c.combination-in-loop-next.ensures ∙ c.reopen.ensures) in
    let low : c.args.from ≤ c.loop-next.next = c.loop-next.invariant.after in
    let high : c.loop-next.next ≤ end = omega (arith, c.min-end.ensures, behind, c.combination.ensures.high, c.loop-next-test.true) in
    record {
      after = omega (arith, low, high);
      inside = omega (arith, c.min-end.ensures);
      gains = gains_on t c.args.from c.loop-next.next end low high c.args.table.now c.loop-next.table c.record_on.new.table c.args.raced c.loop-next.race
          c.in_ok-race.race c.loop-next.invariant.gains
          (subst (λ (p : Litmus × ℕ). Gains p.0 (λ n. IsTrue (in_range c.loop-next.next end n)) c.loop-next.table c.record_on.new.table c.loop-next.race c.in_ok-race.race)
          c.reopen.ensures c.in_ok-race.ensures.gains);
    }

pub returns-clause-gains : goal.returns-clause-gains
returns-clause-gains g c =
    subst (λ (n : ℕ). Gains c.args.plan.now (λ m. IsTrue (in_range c.args.from n m)) c.args.table.now c.loop-next.table c.args.raced c.loop-next.race)
    (let e : c.loop-next.next ≡ c.args.to = omega (arith, c.loop-next.invariant.inside, c.loop-next-test.false) in e) c.loop-next.invariant.gains
