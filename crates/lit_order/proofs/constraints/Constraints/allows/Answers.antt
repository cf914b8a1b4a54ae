use Rattle.std.proofs.Common.{ap, not, sym, ◌∙◌}
use Rattle.std.proofs.lemmas.Bool.{false≢true}
use Rattle.lit_order.proofs.constraints.Constraints.allows.Goals as goal

pub returns-then-not-contains : goal.returns-then-not-contains
returns-then-not-contains c = (
  (λ h w r f _. absurd (false≢true (sym (ap not (c.contains.ensures.1 (c.args.self.now.all w r c.args.event f))) ∙ h))),
  (λ _. ap not c.if-not-contains.true),
)
