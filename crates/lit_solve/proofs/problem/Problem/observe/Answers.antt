use Rattle.lit_solve.proofs.Words.{◌<◌, ap, arith, box_with, common_steps, execution_outcome, get_or, length, List, Litmus, names_of}
use Rattle.lit_solve.proofs.Words.{subst, sym, take, ℕ, ◌∙◌, ◌≡◌}
use Rattle.lit_solve.proofs.ObservationLemmas.{all_values, value_more}
use Rattle.lit_solve.proofs.ObservedLemmas.{undecided_known}
use Rattle.lit_solve.proofs.problem.Problem.observe.Goals as goal

pub loop-i-preserved : goal.loop-i-preserved
loop-i-preserved c =
    let box = box_with c.args.self.now c.args.domains.now in
    let values = c.loop-i.values.items in
    let named : c.self.inside.names.now ≡ names_of box.test = c.self.invariant.named ∙ ap (λ (p : Litmus × ℕ). names_of p.0) c.self.view_is in
    let count : length values ≡ c.loop-i.i = c.loop-i.invariant.count in
    let inside : length values < length (names_of box.test) = omega (arith, c.loop-i-test.true, count, ap (λ (ns : List (ℕ × ℕ)). length ns) named) in
    let name : get_or c.self.inside.names.now c.loop-i.i (0, 0) ≡ get_or (names_of box.test) (length values) (0, 0) =
    ap (λ (ns : List (ℕ × ℕ)). get_or ns c.loop-i.i (0, 0)) named ∙ ap (λ (k : ℕ). get_or (names_of box.test) k (0, 0)) (sym count) in
    record {
      count = omega (arith, c.push.ensures.len, count);
      first = record {
        few = omega (arith, c.push.ensures.len, inside);
        first = λ x is.
            subst (λ (n : ℕ). c.push.new.self.items ≡ take n (execution_outcome box.test x)) (sym c.push.ensures.len)
            (value_more box c.requires.is_box c.laws_below.ensures x is values c.push.new.self.items _ c.in-Known.value inside name
            (c.loop-i.invariant.first.first x is) c.in-Known.ensures c.push.ensures.items);
      };
    }

pub returns-clause-observed : goal.returns-clause-observed
returns-clause-observed c x is =
    grind (arith, common_steps, all_values, c.requires.is_box, c.laws_below.ensures, c.loop-i.invariant.first.first)

pub returns-in-Open-clause-observed : goal.returns-in-Open-clause-observed
returns-in-Open-clause-observed c =
    let says = c.in-Open.ensures in
    (undecided_known (box_with c.args.self.now c.args.domains.now) c.in-Open.place says.0, says.0, says.1)
