use Rattle.lit_solve.proofs.Words.{◌+◌, ◌∙◌, ◌≡◌, ◌≤◌, ap, arith, byte_read_at, CHOICE_LIMIT, choices_before, digit, digits_below}
use Rattle.lit_solve.proofs.Words.{events_on, get_or, Litmus, subst, sym, ℕ}
use Rattle.lit_solve.proofs.NumberLemmas.{share_other, share_own, share_within}
use Rattle.lit_solve.proofs.problem.Problem.digits_of.Goals as goal
use Rattle.lit_solve.proofs.problem.Problem.digits_of.Goals.{then-byte_read-read, else-byte_read-read}

pub overflow_add-share : goal.overflow_add-share
overflow_add-share c =
    let few = subst (λ (p : Litmus × ℕ). (choices_before p.0 p.1 + digits_below (events_on p) c.args.sources.now c.loop-place.place)
    + c.digit_of-share.result ≤ CHOICE_LIMIT) c.self.view_is c.digit_of-share.ensures.few in
    let less = share_within (events_on c.args.self.now) c.args.read c.args.sources.now c.loop-place.place in
    omega (arith, few, less, c.loop-place.invariant)

pub loop-place-preserved : goal.loop-place-preserved
loop-place-preserved c =
    let events = events_on c.args.self.now in
    let place = c.loop-place.place in
    let is_read : c.byte_read.result.read ≡ (byte_read_at (events_on c.args.self.now) c.loop-place.place).0 =
    ap (λ (q : ℕ × ℕ). q.0) c.byte_read.ensures.is in
    elim c.if-byte_read-read.branch [
      | then-byte_read-read w ↦
          (let digit_is = subst (λ (p : Litmus × ℕ). w.digit_of-share.result ≡ digit (events_on p) c.loop-place.place (get_or c.args.sources.now c.loop-place.place 0))
          c.self.view_is w.digit_of-share.ensures.value in
          let more = share_own events c.args.read c.args.sources.now place (sym is_read ∙ w.if-byte_read-read.true) in
          w.share-is ∙ omega (arith, c.loop-place.invariant, digit_is, more))
      | else-byte_read-read w ↦
          (let more = share_other events c.args.read c.args.sources.now place (λ its. w.if-byte_read-read.false (is_read ∙ its)) in
          w.share-is ∙ omega (arith, c.loop-place.invariant, more))
    ]
