use Rattle.lit_solve.proofs.Words.{ap, box_of, byte_read_at, CanReadWhole, event_at, events_on, false≢true, IsPrunable, subst, sym, ℕ, ◌∙◌, ◌≡◌}
use Rattle.lit_solve.proofs.PruningLemmas.{between_out, incoherent_out, tear_out}
use Rattle.lit_solve.proofs.problem.Problem.is_prunable.Goals as goal
use Rattle.lit_solve.proofs.problem.Problem.is_prunable.Goals.{then-not-is_coherent, else-not-is_coherent}

pub returns-then-is_forced_between-clause-prunable : goal.returns-then-is_forced_between-clause-prunable
returns-then-is_forced_between-clause-prunable c _ =
    let events = events_on c.args.self.now in
    let box = box_of c.args.self.now c.args.frame.now in
    let read = (byte_read_at events c.args.place).0 in
    let byte = (byte_read_at events c.args.place).1 in
    let same : c.from-read.result ≡ read = c.from-read.ensures ∙ ap (λ (p : ℕ × ℕ). p.0) c.byte_read.ensures.is in
    elim c.if-not-is_coherent.branch [
      | then-not-is_coherent w ↦
          incoherent_out box c.args.frame.now c.requires.contained read byte c.args.source
          (λ coherent. false≢true (sym w.if-not-is_coherent.true ∙ c.is_coherent.ensures.1 coherent))
      | else-not-is_coherent w ↦
          let between = w.is_forced_between.ensures.0 (sym w.value-is ∙ c.if-is_forced_between.true) in
          subst (λ (r : ℕ). IsPrunable box r byte c.args.source) same
          (between_out box c.args.frame.now c.requires.contained c.from-read.result byte c.args.source between.0 between.1 between.2 between.3)
    ]

pub returns-else-is_forced_between-clause-prunable : goal.returns-else-is_forced_between-clause-prunable
returns-else-is_forced_between-clause-prunable c found =
    let events = events_on c.args.self.now in
    let box = box_of c.args.self.now c.args.frame.now in
    let read = (byte_read_at events c.args.place).0 in
    let byte = (byte_read_at events c.args.place).1 in
    let same : c.from-read.result ≡ read = c.from-read.ensures ∙ ap (λ (p : ℕ × ℕ). p.0) c.byte_read.ensures.is in
    let tears = c.would_tear.ensures.0 found in
    let can : CanReadWhole (event_at events read) (event_at events c.args.source) = subst
    (λ (r : ℕ). CanReadWhole (event_at events r) (event_at events c.args.source)) same tears.0 in
    tear_out box c.args.frame.now c.requires.contained read byte c.args.source can tears.1.0 (c.requires.whole tears.1.0 tears.1.1) tears.1.2
