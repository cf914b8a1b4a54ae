use Rattle.std.proofs.Common.{List, [], ℕ, subst, sym, ◌∙◌}
use Rattle.lit_syntax.specs.Syntax.{Litmus}
use Rattle.lit_solve.specs.Box.{IsBox, box_with}
use Rattle.lit_solve.proofs.RangeLemmas.{sourced}
use Rattle.lit_why.specs.declared.cases.covering.Case.{Case}
use Rattle.lit_why.specs.Refutation.{AreCases, AreWhole}
use Rattle.lit_why.proofs.BoxLemmas.{attempt_is_box, attempt_same}
use Rattle.lit_why.proofs.CaseLemmas.{all_added}
use Rattle.lit_why.proofs.cases.cover_of.Goals as goal

pub add_cases-requires-clause-is_box : goal.add_cases-requires-clause-is_box
add_cases-requires-clause-is_box c =
    let t = c.args.plan.now in
    let number = c.combination.result in
    let items = c.sources-sources.result.items in
    let of = c.combination.ensures.value in
    subst (λ (q : Litmus × ℕ). IsBox (box_with q c.attempt_box-domains.result)) (sym c.open-problem.ensures)
    (attempt_is_box (t, number) items c.attempt_box-domains.result c.test-test.ensures.litmus of.known
    (sourced t number c.args.choice items of c.sources-sources.ensures) (attempt_same (c.args.plan.now, c.combination.result) c.combination-combination.result.now c.sources-sources.result.items
    c.as_slice.result.now c.attempt_box-domains.result (c.combination-combination.ensures ∙ c.open-problem.ensures) c.as_slice.ensures.value
    c.attempt_box-domains.ensures))

pub returns-clause-cases : goal.returns-clause-cases
returns-clause-cases c =
    let box = box_with c.open-problem.result c.attempt_box-domains.result in
    let cases = c.add_cases.new.cases.items in
    let found = all_added box c.new-cases.result.items cases c.in_ok-whole.whole c.new-cases.ensures.items c.in_ok-whole.ensures.cases in record {
      combination = c.combination.result;
      sources = c.sources-sources.result.items;
      on = record {
        known = c.combination.ensures.value.known;
        low = c.combination.ensures.low;
        high = c.combination.ensures.high;
        has = c.sources-sources.ensures;
      };
      domains = c.attempt_box-domains.result;
      is_attempt = attempt_same (c.args.plan.now, c.combination.result) c.combination-combination.result.now c.sources-sources.result.items
          c.as_slice.result.now c.attempt_box-domains.result (c.combination-combination.ensures ∙ c.open-problem.ensures) c.as_slice.ensures.value
          c.attempt_box-domains.ensures;
      each = subst (λ (q : Litmus × ℕ). AreCases (box_with q c.attempt_box-domains.result) cases) c.open-problem.ensures found.0;
      whole = λ all. subst (λ (q : Litmus × ℕ). AreWhole (box_with q c.attempt_box-domains.result) cases) c.open-problem.ensures (found.1 all);
    }

pub returns-clause-refuted : goal.returns-clause-refuted
returns-clause-refuted c all =
    let box = box_with c.open-problem.result c.attempt_box-domains.result in
    let cases = c.add_cases.new.cases.items in
    let found = all_added box c.new-cases.result.items cases c.in_ok-whole.whole c.new-cases.ensures.items c.in_ok-whole.ensures.cases in record {
      combination = c.combination.result;
      sources = c.sources-sources.result.items;
      on = record {
        known = c.combination.ensures.value.known;
        low = c.combination.ensures.low;
        high = c.combination.ensures.high;
        has = c.sources-sources.ensures;
      };
      domains = c.attempt_box-domains.result;
      is_attempt = attempt_same (c.args.plan.now, c.combination.result) c.combination-combination.result.now c.sources-sources.result.items
          c.as_slice.result.now c.attempt_box-domains.result (c.combination-combination.ensures ∙ c.open-problem.ensures) c.as_slice.ensures.value
          c.attempt_box-domains.ensures;
      cover = record {
        each = subst (λ (q : Litmus × ℕ). AreCases (box_with q c.attempt_box-domains.result) cases) c.open-problem.ensures found.0;
        whole = subst (λ (q : Litmus × ℕ). AreWhole (box_with q c.attempt_box-domains.result) cases) c.open-problem.ensures (found.1 all);
      };
    }
