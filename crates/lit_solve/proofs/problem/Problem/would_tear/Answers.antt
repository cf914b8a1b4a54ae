use Rattle.lit_solve.proofs.Words.{ap, CanReadWhole, Event, event_at, events_on, false≢true, HasEvent, inl, inr, IsTrue, List, subst, sym}
use Rattle.lit_solve.proofs.Words.{ℕ, ◌↔◌, ◌∙◌, ◌≡◌, ◌≢◌}
use Rattle.lit_solve.proofs.PruningLemmas.{none_or_some}
use Rattle.lit_solve.proofs.problem.Problem.would_tear.Goals as goal

pub returns-then-not-is_empty : goal.returns-then-not-is_empty
returns-then-not-is_empty c =
    let events = events_on c.args.self.now in
    let same = c.events-events.ensures.value in
    let reader : c.event_at.result.now ≡ event_at events c.args.read = c.event_at.ensures ∙ ap (λ (es : List Event). event_at es c.args.read) same in
    let writer : c.event_at-then-not-is_empty.result.now ≡ event_at events c.args.source = c.event_at-then-not-is_empty.ensures
    ∙ ap (λ (es : List Event). event_at es c.args.source) same in
    let whole : IsTrue c.can_read_whole.result ↔ CanReadWhole (event_at events c.args.read) (event_at events c.args.source) =
    subst (λ (e : Event). IsTrue c.can_read_whole.result ↔ CanReadWhole (event_at events c.args.read) e) writer
    (subst (λ (e : Event). IsTrue c.can_read_whole.result ↔ CanReadWhole e c.event_at-then-not-is_empty.result.now) reader c.can_read_whole.ensures) in
    let some : (u : ℕ) × HasEvent c.args.whole u × (u ≢ c.args.source) =
    elim (none_or_some c.difference-others.result) [
      | inl none ↦ absurd (false≢true (sym c.if-not-is_empty.true ∙ c.is_empty.ensures.1 none))
      | inr found ↦
          let parts = (c.difference-others.ensures found.0).0 found.1 in
          (found.0, parts.0, λ is. parts.1 ((c.with.ensures found.0).1 (inr is)))
    ] in
    ((λ t. (whole.0 t, some)), (λ h. whole.1 h.0))
