use Rattle.lit_interleave.proofs.Words.{after_statement, ap, AreStatementsIn, arith, Contents, length, List, statement_of, Statements}
use Rattle.lit_interleave.proofs.Words.{subst, sym, ℕ, ◌∙◌}
use Rattle.lit_interleave.specs.Interleaving.{after}
use Rattle.lit_interleave.proofs.NextAccess.{after_from, after_next, size_less, size_of}
use Rattle.lit_interleave.proofs.runner.Runner.finish.Goals as goal

pub carry_out-requires-clause-said : goal.carry_out-requires-clause-said
carry_out-requires-clause-said c = ((rw c.in-Some.is at c.in_ok-next.ensures).next.said
    (length c.accesses.block) c.accesses.invariant.said).0

pub accesses-smaller : goal.accesses-smaller
accesses-smaller c =
    let now = c.accesses.self in
    let next = (rw c.in-Some.is at c.in_ok-next.ensures).next in
    omega (
      arith,
      size_less now.registers now.left (statement_of c.in-Some.next.now) c.next.new.self.left next.next,
      ap size_of c.carry_out.ensures.left,
    )

pub accesses-preserved : goal.accesses-preserved
accesses-preserved c =
    let now = c.accesses.self in
    let access = statement_of c.in-Some.next.now in
    let left = c.next.new.self.left in
    let next = (rw c.in-Some.is at c.in_ok-next.ensures).next in
    let done = c.carry_out.ensures.done
    ∙ ap (λ (rs : List ℕ). after_statement access (record { block = c.accesses.block; registers = rs })) c.next.ensures.registers in
    let after_it : Contents = record { block = c.carry_out.new.block; registers = c.carry_out.new.self.registers } in
    record {
      said = subst (λ (n : ℕ). AreStatementsIn n c.carry_out.new.self.left) (sym c.carry_out.auto.block)
          (subst (AreStatementsIn (length c.accesses.block)) (sym c.carry_out.ensures.left)
          (next.said (length c.accesses.block) c.accesses.invariant.said).1);
      same = ap (λ (ss : Statements). after ss after_it) c.carry_out.ensures.left
          ∙ after_next now c.accesses.block access left after_it next.next done ∙ c.accesses.invariant.same;
    }

pub returns-clause-done : goal.returns-clause-done
returns-clause-done c =
    let found : Contents = record { block = c.accesses.block; registers = c.accesses.self.registers } in
    let none = (rw c.in_default.is at c.in_ok-next.ensures).next in
    ap (λ (rs : List ℕ). record { block = c.accesses.block; registers = rs }) c.next.ensures.registers
    ∙ ap (λ (ss : Statements). after ss found) (sym none.0) ∙ after_from c.accesses.self.left found ∙ c.accesses.invariant.same
