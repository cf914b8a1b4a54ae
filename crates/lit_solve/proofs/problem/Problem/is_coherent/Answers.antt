use Rattle.lit_solve.proofs.Words.{ap, byte_read_at, byte_reads, events_on, false≢true, HasEvent, Holds, IsCandidate, IsCoherentRead, IsProblem}
use Rattle.lit_solve.proofs.Words.{Litmus, not, refl, slice_get, Some, subst, sym, ℕ, ◌↔◌, ◌∙◌, ◌≡◌}
use Rattle.std.proofs.lemmas.Bool.{false_from_ne_true, not_from_false}
use Rattle.lit_solve.proofs.PruningLemmas.{coherent_exactly, read_here}
use Rattle.lit_solve.proofs.problem.Problem.is_coherent.Goals as goal
use Rattle.lit_solve.proofs.problem.Problem.is_coherent.Goals.{After-intersection-hiding}

same : (c : After-intersection-hiding) → c.from-read.result ≡ (byte_read_at (events_on c.args.self.now) c.args.place).0
same c = c.from-read.ensures ∙ ap (λ (q : ℕ × ℕ). q.0) c.byte_read.ensures.is

exactly : (c : After-intersection-hiding)
    → (((v : ℕ) → ¬ HasEvent c.intersection-hiding.result v)
    × ¬ Holds c.args.before.now.rows (byte_read_at (events_on c.args.self.now) c.args.place).0 c.args.source)
    ↔ IsCoherentRead (events_on c.args.self.now) (Holds c.args.before.now.rows) (byte_read_at (events_on c.args.self.now) c.args.place).0
    (byte_read_at (events_on c.args.self.now) c.args.place).1 c.args.source
exactly c =
    let events = events_on c.args.self.now in
    let order = c.args.before.now in
    let read = byte_read_at events c.args.place in
    let earlier = c.intersection-earlier.result in
    let p = c.self.inside in
    let is : IsProblem c.args.self.now p.candidates p.peers p.names.now p.guarded =
    subst (λ (q : Litmus × ℕ). IsProblem q p.candidates p.peers p.names.now p.guarded) c.self.view_is c.self.invariant in
    let at : slice_get (byte_reads events) c.args.place ≡ Some read = read_here events c.args.place c.requires.place in
    let earlier_is : (v : ℕ) → HasEvent earlier v ↔ (IsCandidate events read.0 read.1 v × Holds order.rows v read.0) = λ v. (
      (λ there.
          let parts = (c.intersection-earlier.ensures v).0 there in (
            (is.all c.args.place read.0 read.1 v at).0 parts.0,
            subst (λ (r : ℕ). Holds order.rows v r) (same c) ((order.same.pairs v c.from-read.result).0 ((c.successors.ensures v).0 parts.1)),
          )),
      (λ h. (c.intersection-earlier.ensures v).1 (
        (is.all c.args.place read.0 read.1 v at).1 h.0,
        (c.successors.ensures v).1 ((order.same.pairs v c.from-read.result).1 (subst (λ (r : ℕ). Holds order.rows v r) (sym (same c)) h.1)),
      )),
    ) in
    let exact = coherent_exactly events order.rows c.requires.len read.0 read.1 earlier earlier_is c.requires.acyclic c.args.source in (
      (λ h. exact.0 ((λ v there after. h.0 v ((c.intersection-hiding.ensures v).1 (there, (c.successors-2.ensures v).1 after))), h.1)),
      (λ coherent.
          let parts = exact.1 coherent in (
            (λ v there. let both = (c.intersection-hiding.ensures v).0 there in parts.0 v both.0 ((c.successors-2.ensures v).0 both.1)),
            parts.1,
          )),
    )

pub returns-then-is_empty : goal.returns-then-is_empty
returns-then-is_empty c =
    let at = (goal.at.returns-then-is_empty c).After-intersection-hiding in
    let exact = exactly at in
    let later = λ (r : ℕ). Holds c.args.before.now.rows r c.args.source in (
      (λ h. exact.0 (
        c.if-is_empty.ensures.0 refl,
        (λ holds. false≢true (sym (ap not (c.holds.ensures.1 (subst later (sym (same at)) holds))) ∙ h)),
      )),
      (λ coherent. not_from_false c.holds.result (false_from_ne_true c.holds.result (λ h. (exact.1 coherent).1 (subst later (same at) (c.holds.ensures.0 h))))),
    )

pub returns-else-is_empty : goal.returns-else-is_empty
returns-else-is_empty c =
    let exact = exactly (goal.at.returns-else-is_empty c).After-intersection-hiding in (
      (λ h. absurd (false≢true (sym c.if-is_empty.false ∙ h))),
      (λ coherent. c.is_empty.ensures.1 (exact.1 coherent).0),
    )
