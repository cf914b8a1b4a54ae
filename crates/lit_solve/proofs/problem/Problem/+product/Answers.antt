use Rattle.lit_solve.proofs.Words.{[], ◌+◌, ◌<◌, ◌∙◌, ◌∷◌, ◌≡◌, ◌≤◌, ap, AreOpenReads, arith, box_with, ChangesListed, CHOICE_LIMIT}
use Rattle.lit_solve.proofs.Words.{choices_before, common_steps, Entry, Execution, execution_outcome, false≢true, Filling, HasEachBeside}
use Rattle.lit_solve.proofs.Words.{HasOutcome, inr, IsChosen, IsCompletion, IsFilling, IsLeastOrderOfEach, IsOfCombination, length, List}
use Rattle.lit_solve.proofs.Words.{Litmus, nil_from_length, NumbersChoices, OpenRead, refl, same_from_all_zip, slice_get, slice_get-get_or}
use Rattle.lit_solve.proofs.Words.{Some, subst, sym, ℕ}
use Rattle.lit_solve.proofs.EntryLemmas.{adds_more, adds_none, adds_one, outcome_of_last}
use Rattle.lit_solve.proofs.ObservationLemmas.{length_outcome}
use Rattle.lit_solve.proofs.OpenReadLemmas.{changes_first, changes_more, changes_none, changes_rest, reads_rest, value_from_first}
use Rattle.lit_solve.proofs.ProductLemmas.{IsGivingFirst, all_values_seen, chosen_entry, chosen_next, number_within, same_values, seen_next}
use Rattle.lit_solve.proofs.problem.Problem.+product.Goals as goal
use Rattle.lit_solve.proofs.problem.Problem.+product.Goals.{After-index-filling, After-product, After-set_values, In-Some, In_default}

-- ---- no read is left
-- the one outcome of the completions that have these values
same_outcome : (g : _) (t : _) (c : In_default g t) → (x : Execution) → IsCompletion (box_with c.args.self.now c.args.domains.now) x
    → ChangesListed c.args.self.now c.args.reads.now c.args.values.now.items (execution_outcome c.args.self.now.0 x)
    → c.args.values.now.items ≡ execution_outcome c.args.self.now.0 x
same_outcome g t c x completes changes =
    let none = nil_from_length c.args.reads.now c.in_default.ensures.cases in
    sym (same_values c.laws_below.ensures (box_with c.args.self.now c.args.domains.now) c.requires.independent c.args.values.now.items c.args.number
    (subst (λ (rs : List OpenRead). IsChosen (box_with c.args.self.now c.args.domains.now) rs c.args.values.now.items c.args.number) none c.requires.chosen) x
    (subst (λ (rs : List OpenRead). ChangesListed c.args.self.now rs c.args.values.now.items (execution_outcome c.args.self.now.0 x)) none changes))

pub returns-then-has-clause-whole : goal.returns-then-has-clause-whole
returns-then-has-clause-whole g t c x completes changes =
    let at = goal.at.returns-then-has-clause-whole g t c in
    subst (HasOutcome (g.T.OutcomeTable.entries c.args.table.now)) (c.as_slice-outcome.ensures.value ∙ same_outcome g t at.In_default x completes changes)
    (c.has.ensures.0 c.if-has.true)

pub returns-in_default-clause-added : goal.returns-in_default-clause-added
returns-in_default-clause-added g t c =
    let box = box_with c.args.self.now c.args.domains.now in
    let none = nil_from_length c.args.reads.now c.in_default.ensures.cases in
    let numbers = subst (λ (p : Litmus × ℕ). NumbersChoices p.0 p.1) c.self.view_is c.first_of-first.ensures.numbers in
    let of = subst (λ (p : Litmus × ℕ). (n : ℕ) → choices_before p.0 p.1 ≤ n → n < choices_before p.0 (p.1 + 1) → IsOfCombination p.0 n p.1)
    c.self.view_is c.first_of-first.ensures.of in
    let entries = g.T.OutcomeTable.entries in
    let outcome = c.as_slice-outcome.result.now in
    let same : c.args.order.now.items ≡ c.in_ok-order.order.items = grind (arith, common_steps, same_from_all_zip, c.in_ok-order.ensures.cases) in
    adds_one box (entries c.args.table.now) (entries c.record.new.self) (record { outcome = outcome; choice = c.args.number; order = c.in_ok-order.order.items })
    (chosen_entry c.laws_below.ensures box c.requires.independent outcome c.args.number
    (subst (λ (vs : List ℕ). IsChosen box [] vs c.args.number) (sym c.as_slice-outcome.ensures.value)
    (subst (λ (rs : List OpenRead). IsChosen box rs c.args.values.now.items c.args.number) none c.requires.chosen)) numbers of
    c.in_ok-order.order.items (subst (IsLeastOrderOfEach box) same c.requires.order))
    (λ has. false≢true (sym c.if-has.false ∙ c.has.ensures.1 has)) c.in_ok-record.ensures.ok

pub returns-in_default-clause-whole : goal.returns-in_default-clause-whole
returns-in_default-clause-whole g t c x completes changes =
    let at = goal.at.returns-in_default-clause-whole g t c in
    let entries = g.T.OutcomeTable.entries in
    subst (HasOutcome (entries c.record.new.self)) (c.as_slice-outcome.ensures.value ∙ same_outcome g t at.In_default x completes changes)
    (subst (λ (es : List Entry). HasOutcome es c.as_slice-outcome.result.now) (sym c.in_ok-record.ensures.ok)
    (outcome_of_last (entries c.args.table.now) (record { outcome = c.as_slice-outcome.result.now; choice = c.args.number; order = c.in_ok-order.order.items })))

-- ---- the first read, and the value at hand
are_open : (g : _) (t : _) (c : In-Some g t) → AreOpenReads (box_with c.args.self.now c.args.domains.now) (c.in-Some.first.now ∷ c.in-Some.rest.now)
are_open g t c = subst (AreOpenReads (box_with c.args.self.now c.args.domains.now)) c.in-Some.ensures.cases.0 c.requires.reads

filling_at : (g : _) (t : _) (c : After-index-filling g t)
    → slice_get c.in-Some.first.now.fillings.items c.loop-i.i ≡ Some c.index-filling.result.now
filling_at g t c =
    slice_get-get_or c.in-Some.first.now.fillings.items c.loop-i.i c.index-filling.result.now (omega (arith, c.loop-i-test.true, c.len-i-end.ensures))
    ∙ ap (λ (f : Filling). Some f) (sym c.index-filling.ensures)

filling_of : (g : _) (t : _) (c : After-index-filling g t)
    → IsFilling (box_with c.args.self.now c.args.domains.now) c.in-Some.first.now.read c.index-filling.result.now
filling_of g t c =
    ((are_open g t (goal.at.After-index-filling g t c).In-Some).each 0 c.in-Some.first.now refl).fillings c.loop-i.i c.index-filling.result.now (filling_at g t c)

giving_of : (g : _) (t : _) (c : After-set_values g t)
    → IsGivingFirst (box_with c.args.self.now c.args.domains.now) c.in-Some.first.now c.in-Some.rest.now c.index-filling.result.now.value
    c.args.values.now.items c.loop-i.values.items c.set_values.new.values.items
giving_of g t c = record {
  laws = c.laws_below.ensures;
  is = c.requires.independent;
  are = subst (AreOpenReads (box_with c.args.self.now c.args.domains.now)) c.in-Some.ensures.cases.0 c.requires.reads;
  changed = subst (λ (rs : List OpenRead). ChangesListed c.args.self.now rs c.args.values.now.items c.loop-i.values.items) c.in-Some.ensures.cases.0
      c.loop-i.invariant.values;
  long = c.set_values.ensures.long;
  own = c.set_values.ensures.own;
  others = c.set_values.ensures.others;
}

pub loop-i-init : goal.loop-i-init
loop-i-init g t c =
    let first = (are_open g t (goal.at.loop-i-init g t c).In-Some).each 0 c.in-Some.first.now refl in
    record {
      values = changes_none c.args.self.now c.args.reads.now c.args.values.now.items;
      added = adds_none (box_with c.args.self.now c.args.domains.now) (g.T.OutcomeTable.entries c.args.table.now);
      seen = λ x is changes. inr (value_from_first c.in-Some.first.now.fillings.items _ (first.whole x is));
    }

pub set_values-requires : goal.set_values-requires
set_values-requires g t c i j at =
    let first = (are_open g t (goal.at.set_values-requires g t c).In-Some).each 0 c.in-Some.first.now refl in
    let box = box_with c.args.self.now c.args.domains.now in
    let chosen = c.requires.chosen in
    let long = length_outcome box c.requires.independent.is_box c.laws_below.ensures chosen.execution chosen.completes in
    omega (arith, ((first.registers j).0 (i, at)).inside, c.loop-i.invariant.values.long, chosen.beside.long, long)

chosen_of : (g : _) (t : _) (c : In-Some g t) → IsChosen (box_with c.args.self.now c.args.domains.now) (c.in-Some.first.now ∷ c.in-Some.rest.now)
    c.args.values.now.items c.args.number
chosen_of g t c =
    subst (λ (rs : List OpenRead). IsChosen (box_with c.args.self.now c.args.domains.now) rs c.args.values.now.items c.args.number)
    c.in-Some.ensures.cases.0 c.requires.chosen

pub overflow_add-next : goal.overflow_add-next
overflow_add-next g t c =
    let at = goal.at.overflow_add-next g t c in
    let filling = filling_of g t at.After-index-filling in
    let numbers = subst (λ (p : Litmus × ℕ). NumbersChoices p.0 p.1) c.self.view_is c.first_of-first.ensures.numbers in
    let few = subst (λ (p : Litmus × ℕ). choices_before p.0 (p.1 + 1) ≤ CHOICE_LIMIT) c.self.view_is c.first_of-first.ensures.few in
    let below = number_within (giving_of g t at.After-set_values) c.leaves_are_filled_read_by_read.ensures c.args.number
    c.index-filling.result.now.share (chosen_of g t at.In-Some) filling.sources filling.least filling.share numbers in
    omega (arith, below, few)

pub product-requires : goal.product-requires
product-requires g t c κs within =
    let at = goal.at.product-requires g t c in
    let giving = giving_of g t at.After-set_values in
    let filling = filling_of g t at.After-index-filling in
    let box = box_with c.args.self.now c.args.domains.now in (
      omega (arith, c.decreases, ap (λ (rs : List OpenRead). length rs) c.in-Some.ensures.cases.0),
      (
        within.0,
        (
          within.1,
          (
            c.requires.independent,
            (
              reads_rest box c.in-Some.first.now c.in-Some.rest.now giving.are,
              (
                chosen_next giving c.leaves_are_filled_read_by_read.ensures c.args.number c.index-filling.result.now.share (chosen_of g t at.In-Some)
                    filling.sources filling.least filling.share,
                c.requires.order,
              ),
            ),
          ),
        ),
      ),
    )

-- what has become of the values
changes_of : (g : _) (t : _) (c : After-product g t) → ChangesListed c.args.self.now c.args.reads.now c.args.values.now.items c.product.new.values.items
changes_of g t c =
    let box = box_with c.args.self.now c.args.domains.now in
    let first = c.in-Some.first.now in
    let rest = c.in-Some.rest.now in
    let mid = c.loop-i.values.items in
    let set = c.set_values.new.values.items in
    let new = c.product.new.values.items in
    let open_read = (are_open g t (goal.at.After-product g t c).In-Some).each 0 first refl in
    changes_more c.args.self.now c.args.reads.now c.args.values.now.items mid new c.loop-i.invariant.values
    (subst (λ (rs : List OpenRead). ChangesListed c.args.self.now rs mid new) (sym c.in-Some.ensures.cases.0)
    (changes_more c.args.self.now (first ∷ rest) mid set new
    (changes_first box first rest mid set open_read c.set_values.ensures.long c.set_values.ensures.others)
    (changes_rest c.args.self.now first rest set new c.product.ensures.values)))

pub loop-i-preserved : goal.loop-i-preserved
loop-i-preserved g t c =
    let at = goal.at.loop-i-preserved g t c in
    let entries = g.T.OutcomeTable.entries in
    record {
      values = changes_of g t at.After-product;
      added = adds_more (box_with c.args.self.now c.args.domains.now) (entries c.args.table.now) (entries c.loop-i.table) (entries c.product.new.table)
          c.loop-i.invariant.added c.in_ok-product.ensures.added;
      seen = seen_next (giving_of g t at.After-set_values) c.loop-i.i c.index-filling.result.now (filling_at g t at.After-index-filling) refl
          (entries c.loop-i.table) (entries c.product.new.table) c.in_ok-product.ensures.added c.in_ok-product.ensures.whole c.loop-i.invariant.seen;
    }

pub returns-in_err-product-clause-values : goal.returns-in_err-product-clause-values
returns-in_err-product-clause-values g t c = changes_of g t (goal.at.returns-in_err-product-clause-values g t c).After-product

pub returns-in_err-product-clause-added : goal.returns-in_err-product-clause-added
returns-in_err-product-clause-added g t c =
    let entries = g.T.OutcomeTable.entries in
    adds_more (box_with c.args.self.now c.args.domains.now) (entries c.args.table.now) (entries c.loop-i.table) (entries c.product.new.table)
    c.loop-i.invariant.added c.in_err-product.ensures.added

pub returns-clause-whole : goal.returns-clause-whole
returns-clause-whole g t c =
    let box = box_with c.args.self.now c.args.domains.now in
    let entries = g.T.OutcomeTable.entries c.loop-i.table in
    subst (λ (rs : List OpenRead). HasEachBeside box rs c.args.values.now.items entries) (sym c.in-Some.ensures.cases.0)
    (all_values_seen box c.in-Some.first.now c.in-Some.rest.now c.args.values.now.items c.loop-i.i entries
    (omega (arith, c.loop-i-test.false, c.len-i-end.ensures)) c.loop-i.invariant.seen)

pub returns-in_default-clause-values : goal.returns-in_default-clause-values
returns-in_default-clause-values g t c = changes_none c.args.self.now c.args.reads.now c.args.values.now.items
