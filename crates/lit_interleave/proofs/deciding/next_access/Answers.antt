use Rattle.lit_interleave.proofs.Words.{ap, AreStatementsIn, arith, End, from_access, joined_all, joined_statements, statement_of}
use Rattle.lit_interleave.proofs.Words.{Statements, statements_of, subst, sym, ◌∙◌, ◌≡◌}
use Rattle.lit_interleave.proofs.NextAccess.{from_access-part, from_access-then, lists_size, lists_size-more, met, met-size, none_left, opened, said_from, said-joined, said-part, size_of-part}
use Rattle.lit_interleave.proofs.deciding.next_access.Goals as goal

pub chosen_part-requires-clause-said : goal.chosen_part-requires-clause-said
chosen_part-requires-clause-said c =
    let is = met c.deciding.left.items c.pop.new.self.items c.push.new.self.items c.in-Some.list c.in-Some-split_first.others c.in-Some-split_first.first.now
    c.in-Some.ensures.items c.in-Some-split_first.ensures.cases.0 c.in_ok-push.ensures.items in
    let said = c.deciding.invariant.said in
    (said.0, (subst (AreStatementsIn said.0) is said.1).0)

pub deciding-smaller-in-Continue-branch-2 : goal.deciding-smaller-in-Continue-branch-2
deciding-smaller-in-Continue-branch-2 c =
    omega (
      arith,
      met-size c.deciding.left.items c.pop.new.self.items c.push.new.self.items c.in-Some.list c.in-Some-split_first.others c.in-Some-split_first.first.now
          c.in-Some.ensures.items c.in-Some-split_first.ensures.cases.0 c.in_ok-push.ensures.items,
      size_of-part c.args.registers.now (statement_of c.in-Some-split_first.first.now) (statements_of c.in-Some-chosen_part.part.now) c.in-Some-chosen_part.ensures,
      ap lists_size c.in_ok-push-in-Some-chosen_part.ensures.items,
      lists_size-more c.push.new.self.items c.in-Some-chosen_part.part,
    )

pub deciding-preserved-in-Continue-branch-2 : goal.deciding-preserved-in-Continue-branch-2
deciding-preserved-in-Continue-branch-2 c =
    let is = met c.deciding.left.items c.pop.new.self.items c.push.new.self.items c.in-Some.list c.in-Some-split_first.others c.in-Some-split_first.first.now
    c.in-Some.ensures.items c.in-Some-split_first.ensures.cases.0 c.in_ok-push.ensures.items in
    let registers = c.args.registers.now in
    let first = statement_of c.in-Some-split_first.first.now in
    let part = statements_of c.in-Some-chosen_part.part.now in
    let rest = joined_all c.push.new.self.items End in
    let now : joined_all c.push-in-Some-chosen_part.new.self.items End ≡ joined_statements part rest =
    opened c.push-in-Some-chosen_part.new.self.items c.push.new.self.items c.in-Some-chosen_part.part c.in_ok-push-in-Some-chosen_part.ensures.items in
    let said = c.deciding.invariant.said in
    let there = subst (AreStatementsIn said.0) is said.1 in
    record {
      said = (said.0, subst (AreStatementsIn said.0) (sym now) (said-joined said.0 part rest (said-part said.0 registers first part c.in-Some-chosen_part.ensures there.0) there.1));
      same = ap (from_access registers) now ∙ sym (from_access-part registers first part rest c.in-Some-chosen_part.ensures) ∙ sym (ap (from_access registers) is) ∙ c.deciding.invariant.same;
    }

pub returns-in-None : goal.returns-in-None
returns-in-None c =
    let is = met c.deciding.left.items c.pop.new.self.items c.push.new.self.items c.in-Some.list c.in-Some-split_first.others c.in-Some-split_first.first.now
    c.in-Some.ensures.items c.in-Some-split_first.ensures.cases.0 c.in_ok-push.ensures.items in
    let registers = c.args.registers.now in
    let next = sym c.deciding.invariant.same ∙ ap (from_access registers) is
    ∙ from_access-then registers (statement_of c.in-Some-split_first.first.now) (joined_all c.push.new.self.items End) c.in-None.ensures in
    record {
      access = c.in-None.ensures;
      next = next;
      said = λ bytes said. subst (AreStatementsIn bytes) next (said_from bytes registers (joined_all c.args.left.now.items End) said);
    }

pub deciding-smaller : goal.deciding-smaller
deciding-smaller c = omega (arith, ap lists_size c.in-Some.ensures.items, lists_size-more c.pop.new.self.items c.in-Some.list)

pub deciding-preserved : goal.deciding-preserved
deciding-preserved c =
    let rest = joined_all c.pop.new.self.items End in
    let is : joined_all c.deciding.left.items End ≡ rest =
    opened c.deciding.left.items c.pop.new.self.items c.in-Some.list c.in-Some.ensures.items
    ∙ ap (λ (ss : Statements). joined_statements ss rest) (none_left c.in-Some.list.now c.in_default-split_first.ensures.cases) in
    let said = c.deciding.invariant.said in
    record {
      said = (said.0, subst (AreStatementsIn said.0) is said.1);
      same = sym (ap (from_access c.args.registers.now) is) ∙ c.deciding.invariant.same;
    }
