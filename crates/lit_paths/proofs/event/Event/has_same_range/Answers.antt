use Rattle.std.proofs.Common.{eq-eqb, eqb-true}
use Rattle.lit_paths.specs.Event.{HasSameRange}
use Rattle.lit_paths.proofs.RangeLemmas.{AreSame-empty, AreSame-equal, empty_from_AreSame, first_from_AreSame}
use Rattle.lit_paths.proofs.event.Event.has_same_range.Goals as goal

pub returns-then-self-eq0 : goal.returns-then-self-eq0
unfolding HasSameRange
returns-then-self-eq0 c =
    let e = c.args.self.now in
    let d = c.args.other.now in (
      (λ h. AreSame-empty e.first e.size d.first d.size c.if-self-eq0.true (eqb-true d.size 0 h)),
      (λ same. eq-eqb d.size 0 (empty_from_AreSame e.first e.size d.first d.size c.if-self-eq0.true same)),
    )

pub returns-then-self-other : goal.returns-then-self-other
unfolding HasSameRange
returns-then-self-other c =
    let e = c.args.self.now in
    let d = c.args.other.now in (
      (λ h. AreSame-equal e.first e.size d.first d.size c.if-self-other.true (eqb-true e.size d.size h)),
      (λ same. eq-eqb e.size d.size (first_from_AreSame e.first e.size d.first d.size c.if-self-eq0.false same).1),
    )

pub returns-else-self-other : goal.returns-else-self-other
unfolding HasSameRange
returns-else-self-other c =
    let e = c.args.self.now in
    let d = c.args.other.now in (
      (λ h. absurd (c.if-self-other.false (eqb-true e.first d.first h))),
      (λ same. absurd (c.if-self-other.false (first_from_AreSame e.first e.size d.first d.size c.if-self-eq0.false same).0)),
    )
