use Rattle.std.proofs.Common.{arith}
use Rattle.lit_read.proofs.GroupLemmas.{all_several}
use Rattle.lit_read.proofs.draft.conditions.all_of.Goals as goal

pub returns-then-len-ne1 : goal.returns-then-len-ne1
returns-then-len-ne1 c = all_several c.args.members (λ e. c.if-len-ne1.true (omega (arith, e, c.len.ensures, c.args.members.ok)))
