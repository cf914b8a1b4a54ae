use Rattle.std.proofs.Common.{◌≡◌, ℕ, ◌+◌, ◌-◌, length, drop, sym, subst, ◌∙◌, arith}
use Rattle.std.proofs.lemmas.List.{drop_all}
use Rattle.lit_report.specs.ReadLine.{NoneReads, OnlyFirstReads}
use Rattle.lit_report.proofs.SourceLines.{last_read_is, last_size}
use Rattle.lit_report.proofs.source_lines.last_read.Goals as goal

pub returns-then-does_read-clause-last : goal.returns-then-does_read-clause-last
returns-then-does_read-clause-last c =
    let events = c.args.events.now in
    let i = c.loop-place.place - 1 in
    let back : c.loop-place.place ≡ i + 1 = omega (arith, c.loop-place-test.true) in
    let none = subst (λ (k : ℕ). NoneReads (drop k events)) back c.loop-place.invariant.none in
    last_read_is events i _ (omega (arith, c.loop-place-test.true, c.loop-place.invariant.known)) none (sym c.does_read.ensures ∙ c.if-does_read.true)

pub returns-then-does_read-clause-size : goal.returns-then-does_read-clause-size
returns-then-does_read-clause-size c =
    let events = c.args.events.now in
    let i = c.loop-place.place - 1 in
    let back : c.loop-place.place ≡ i + 1 = omega (arith, c.loop-place-test.true) in
    let none = subst (λ (k : ℕ). NoneReads (drop k events)) back c.loop-place.invariant.none in
    last_size events i _ (omega (arith, c.loop-place-test.true, c.loop-place.invariant.known)) none (sym c.does_read.ensures ∙ c.if-does_read.true)

pub returns-clause-last : goal.returns-clause-last
returns-clause-last c = subst OnlyFirstReads (sym (drop_all (length c.args.events.now) c.args.events.now (omega arith))) tt
