use Rattle.std.proofs.Common.{refl, inl, inr, arith}
use Rattle.lit_why.proofs.derivations.used_lines.mark_cited.Goals as goal

pub mark-requires : goal.mark-requires
mark-requires c = (rw c.in-Joined.is at c.requires) c.in-Joined.first (inl refl)

pub mark-requires-in-Joined : goal.mark-requires-in-Joined
mark-requires-in-Joined c = let inside = (rw c.in-Joined.is at c.requires) c.in-Joined.second (inr refl) in omega (arith, inside, c.mark.ensures.len)

pub mark-requires-in-BeforeSource : goal.mark-requires-in-BeforeSource
mark-requires-in-BeforeSource c = (rw c.in-BeforeSource.is at c.requires) c.in-BeforeSource.earlier refl

pub mark-requires-in-AfterRead : goal.mark-requires-in-AfterRead
mark-requires-in-AfterRead c = (rw c.in-AfterRead.is at c.requires) c.in-AfterRead.earlier refl
