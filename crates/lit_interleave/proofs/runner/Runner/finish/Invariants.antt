use Rattle.lit_interleave.proofs.Words.{AreStatementsIn, length, ◌≡◌}
use Rattle.lit_interleave.specs.Interleaving.{after}
use Rattle.lit_interleave.proofs.NextAccess.{size_of}
use Rattle.lit_interleave.proofs.runner.Runner.finish.Given as goal

abbrev pub invariant-accesses : goal.invariant-accesses
invariant-accesses l = record {
  said : AreStatementsIn (length l.block) l.self.left;
  same : after l.self.left (record { block = l.block; registers = l.self.registers }) ≡ after l.fn.self.left (record { block = l.fn.block; registers = l.fn.self.registers });
}

abbrev pub decreases-accesses : goal.decreases-accesses
decreases-accesses l = size_of l.self.left
