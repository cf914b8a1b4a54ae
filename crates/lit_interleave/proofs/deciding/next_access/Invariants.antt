use Rattle.lit_interleave.proofs.Words.{AreStatementsIn, End, from_access, joined_all, ℕ, ◌≡◌}
use Rattle.lit_interleave.proofs.NextAccess.{lists_size}
use Rattle.lit_interleave.proofs.deciding.next_access.Given as goal

abbrev pub invariant-deciding : goal.invariant-deciding
invariant-deciding l = record {
  said : (bytes : ℕ) × AreStatementsIn bytes (joined_all l.left.items End);
  same : from_access l.registers (joined_all l.left.items End) ≡ from_access l.registers (joined_all l.fn.left.items End);
}

abbrev pub decreases-deciding : goal.decreases-deciding
decreases-deciding l = lists_size l.left.items
