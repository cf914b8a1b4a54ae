use Rattle.std.proofs.Common.{refl, inl, inr}
use Rattle.lit_why.proofs.derivations.used_lines.moved.Goals as goal

pub place_at-requires : goal.place_at-requires
place_at-requires c = (rw c.in-Joined.is at c.requires) c.in-Joined.first (inl refl)

pub place_at-requires-in-Joined : goal.place_at-requires-in-Joined
place_at-requires-in-Joined c = (rw c.in-Joined.is at c.requires) c.in-Joined.second (inr refl)

pub place_at-requires-in-BeforeSource : goal.place_at-requires-in-BeforeSource
place_at-requires-in-BeforeSource c = (rw c.in-BeforeSource.is at c.requires) c.in-BeforeSource.earlier refl

pub place_at-requires-in-AfterRead : goal.place_at-requires-in-AfterRead
place_at-requires-in-AfterRead c = (rw c.in-AfterRead.is at c.requires) c.in-AfterRead.earlier refl
