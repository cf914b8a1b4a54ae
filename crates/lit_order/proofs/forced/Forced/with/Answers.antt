use Rattle.std.proofs.Common.{[], ◌∷◌, refl, sym, ◌∙◌, inl, inr}
use Rattle.std.proofs.lemmas.Bool.{true≢false, false≢true}
use Rattle.lit_rel.specs.Rows.{Holds}
use Rattle.lit_order.proofs.ExtendLemmas.{more_is_chain}
use Rattle.lit_order.proofs.ForcingLemmas.{with_pair_no_cycle}
use Rattle.lit_order.proofs.forced.Forced.with.Goals as goal
use Rattle.lit_order.proofs.forced.Forced.with.Goals.{then-a-d-via-then-a-d, then-a-d-via-else-a-d+then-holds}

pub returns-then-a-d-clause-cycle : goal.returns-then-a-d-clause-cycle
returns-then-a-d-clause-cycle c = (
  (λ _. elim c.then-a-d.branch [
    | then-a-d-via-then-a-d w ↦ (c.args.a, ([], inr (refl, w.if-a-d.true)))
    | then-a-d-via-else-a-d+then-holds w ↦ (c.args.a, (c.args.d ∷ [], (inr (refl, refl), inl (w.holds.ensures.0 w.if-holds.true))))
  ]),
  (λ _. refl),
)

pub invariant_of-result : goal.invariant_of-result
invariant_of-result c =
    let forced = c.args.self.now in
    record {
      same = c.close_with.ensures.len ∙ forced.same;
      transitive = c.close_with.ensures.transitive forced.transitive;
      no_cycle = λ e h. with_pair_no_cycle (Holds forced.rows) forced.transitive forced.no_cycle c.args.a c.args.d c.if-a-d.false (λ back. false≢true (sym c.if-holds.false ∙ c.holds.ensures.1 back)) e
          ((c.close_with.ensures.pairs e e).0 h);
    }

pub returns-clause-cycle : goal.returns-clause-cycle
returns-clause-cycle c =
    let forced = c.args.self.now in
    let is_chain = more_is_chain (Holds forced.rows) (Holds c.close_with.new.self) c.args.a c.args.d c.close_with.ensures.pairs (c.close_with.ensures.transitive forced.transitive) in (
      (λ h. absurd (true≢false h)),
      (λ cycle. absurd (with_pair_no_cycle (Holds forced.rows) forced.transitive forced.no_cycle c.args.a c.args.d c.if-a-d.false (λ back. false≢true (sym c.if-holds.false ∙ c.holds.ensures.1 back)) cycle.0
          ((c.close_with.ensures.pairs cycle.0 cycle.0).0 ((is_chain cycle.0 cycle.0).1 cycle.1)))),
    )

pub returns-clause-made : goal.returns-clause-made
returns-clause-made c =
    let forced = c.args.self.now in
    record {
      len = c.close_with.ensures.len;
      pairs = more_is_chain (Holds forced.rows) (Holds c.close_with.new.self) c.args.a c.args.d c.close_with.ensures.pairs (c.close_with.ensures.transitive forced.transitive);
      triples = λ w r v. ((λ h. h), (λ h. h));
    }
