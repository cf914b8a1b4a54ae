use Rattle.lit_solve.proofs.Words.{◌∙◌, AreSources, AreValuesBeside, box_with, events_on, IsNumberWithout, List, on_ok_weaker, OpenRead}
use Rattle.lit_solve.proofs.Words.{subst, sym, ℕ}
use Rattle.lit_solve.proofs.CompletionLemmas.{sourced}
use Rattle.lit_solve.proofs.ProductLemmas.{changes_beside, chosen_least}
use Rattle.lit_solve.proofs.problem.Problem.product_outcomes.Goals as goal
use Rattle.lit_solve.proofs.problem.Problem.product_outcomes.Goals.{After-as_slice-reads}

pub number_without-number-requires-clause-sources : goal.number_without-number-requires-clause-sources
number_without-number-requires-clause-sources g c =
    let some = c.least_filling-least.ensures.completes in
    subst (AreSources (events_on c.args.self.now)) (some.2 ∙ sym c.as_slice.ensures.value)
    (sourced (box_with c.args.self.now c.args.domains.now) some.0 some.1)

-- what each completion has beside the listed reads
beside_of : (g : _) (c : After-as_slice-reads g)
    → AreValuesBeside (box_with c.args.self.now c.args.domains.now) c.as_slice-reads.result.now c.open_reads.new.values.items
beside_of g c =
    subst (λ (rs : List OpenRead). AreValuesBeside (box_with c.args.self.now c.args.domains.now) rs c.open_reads.new.values.items)
    (sym c.as_slice-reads.ensures.value) c.in_ok-open_reads.ensures.values

pub product-requires-clause-chosen : goal.product-requires-clause-chosen
product-requires-clause-chosen g c =
    chosen_least c.laws_below.ensures (box_with c.args.self.now c.args.domains.now) c.requires.independent c.as_slice-reads.result.now
    c.open_reads.new.values.items (beside_of g (goal.at.product-requires-clause-chosen g c).After-as_slice-reads) c.leaves_are_filled_read_by_read.ensures
    c.least_filling-least.result.items c.number_without-number.result c.least_filling-least.ensures.completes c.least_filling-least.ensures.least
    (subst (λ (s : List ℕ). IsNumberWithout c.args.self.now c.as_slice-reads.result.now s c.number_without-number.result) c.as_slice.ensures.value
    c.number_without-number.ensures)

pub returns-clause-whole : goal.returns-clause-whole
returns-clause-whole g c =
    on_ok_weaker c.product.result (λ whole y is_y. whole y is_y
    (changes_beside c.laws_below.ensures (box_with c.args.self.now c.args.domains.now) c.requires.independent c.as_slice-reads.result.now
    c.open_reads.new.values.items (beside_of g (goal.at.returns-clause-whole g c).After-as_slice-reads) y is_y)) c.product.ensures.whole
