use Rattle.std.proofs.Common.{sym, ap, ◌∙◌, not}
use Rattle.std.proofs.lemmas.Bool.{false≢true}
use Rattle.lit_order.proofs.constraints.Constraints.can_stand_next.Goals as goal
use Rattle.lit_order.proofs.constraints.Constraints.can_stand_next.Goals.{then-not-contains, else-not-contains}

pub returns-then-is_within : goal.returns-then-is_within
returns-then-is_within c =
    elim c.if-not-contains.branch [
      | then-not-contains w ↦ (
        (λ h. record {
          new = λ p. false≢true (w.if-not-contains.ensures.1 p);
          follows = λ a before. w.is_within.ensures.0 (sym w.value-is ∙ c.if-is_within.true) a ((w.successors.ensures a).1 before);
          whole = c.allows.ensures.0 h;
        }),
        (λ can. c.allows.ensures.1 can.whole),
      )
      | else-not-contains w ↦ absurd (false≢true (sym (ap not w.if-not-contains.false) ∙ sym w.value-is ∙ c.if-is_within.true))
    ]
