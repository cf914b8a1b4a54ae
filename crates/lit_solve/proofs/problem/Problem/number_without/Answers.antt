use Rattle.lit_solve.proofs.Words.{◌+◌, ◌<◌, ◌∙◌, ◌≡◌, ◌≤◌, ap, arith, byte_read_at, byte_reads, CHOICE_LIMIT, choices_before, digit}
use Rattle.lit_solve.proofs.Words.{digits_below, events_on, false≢true, get_or, IsListed, length, Litmus, refl, shares_below, subst}
use Rattle.lit_solve.proofs.Words.{sym, ℕ}
use Rattle.lit_solve.proofs.NumberLemmas.{IsSumBelow, shares_none, sum_listed, sum_other}
use Rattle.lit_solve.proofs.problem.Problem.number_without.Goals as goal
use Rattle.lit_solve.proofs.problem.Problem.number_without.Goals.{then-not-is_listed, else-not-is_listed}

pub loop-place-init : goal.loop-place-init
loop-place-init c others agree =
    let first = subst (λ (p : Litmus × ℕ). c.first_of-number.result ≡ choices_before p.0 p.1) c.self.view_is c.first_of-number.ensures.value in
    let none = shares_none (events_on c.args.self.now) c.args.reads.now others in
    omega (arith, first, none)

pub overflow_add-number : goal.overflow_add-number
overflow_add-number c =
    let few = subst (λ (p : Litmus × ℕ). (choices_before p.0 p.1 + digits_below (events_on p) c.args.sources.now c.loop-place.place)
    + c.digit_of-number.result ≤ CHOICE_LIMIT) c.self.view_is c.digit_of-number.ensures.few in
    let sum = c.loop-place.invariant c.args.sources.now (λ k r b at absent. refl) in
    omega (arith, few, sum)

pub loop-place-preserved : goal.loop-place-preserved
loop-place-preserved c =
    let events = events_on c.args.self.now in
    let place = c.loop-place.place in
    let sources = c.args.sources.now in
    let reads = c.args.reads.now in
    let inside : c.loop-place.place < length (byte_reads (events_on c.args.self.now)) = omega (arith, c.loop-place-test.true, c.reads-place-end.ensures.value) in
    let is_read : c.byte_read.result.read ≡ (byte_read_at (events_on c.args.self.now) c.loop-place.place).0 =
    ap (λ (q : ℕ × ℕ). q.0) c.byte_read.ensures.is in
    elim c.if-not-is_listed.branch [
      | then-not-is_listed w ↦
          (let digit_is = subst (λ (p : Litmus × ℕ). w.digit_of-number.result ≡ digit (events_on p) c.loop-place.place (get_or c.args.sources.now c.loop-place.place 0))
          c.self.view_is w.digit_of-number.ensures.value in
          let absent : ¬ IsListed c.args.reads.now (byte_read_at (events_on c.args.self.now) c.loop-place.place).0 =
          λ listed. false≢true (sym w.if-not-is_listed.true ∙ c.is_listed.ensures.1 (subst (IsListed c.args.reads.now) (sym is_read) listed)) in
          subst (IsSumBelow c.args.self.now reads sources (place + 1)) (ap (λ (n : ℕ). c.loop-place.number + n) (sym digit_is) ∙ sym w.number-is)
          (sum_other c.args.self.now reads c.requires.distinct sources place c.loop-place.number inside c.loop-place.invariant absent))
      | else-not-is_listed w ↦
          subst (IsSumBelow c.args.self.now reads sources (place + 1)) (sym w.number-is)
          (sum_listed c.args.self.now reads c.requires.distinct sources place c.loop-place.number inside c.loop-place.invariant
          (subst (IsListed reads) is_read (c.is_listed.ensures.0 w.if-not-is_listed.false)))
    ]

pub returns : goal.returns
returns c others agree =
    let end : c.loop-place.place ≡ length (byte_reads (events_on c.args.self.now)) =
    omega (arith, c.loop-place-test.false, c.loop-place.auto.place-end, c.reads-place-end.ensures.value) in
    subst (λ (k : ℕ). choices_before c.args.self.now.0 c.args.self.now.1 + digits_below (events_on c.args.self.now) others k
    ≡ c.loop-place.number + shares_below (events_on c.args.self.now) c.args.reads.now others k) end (c.loop-place.invariant others agree)
