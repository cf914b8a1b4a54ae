use Rattle.std.proofs.Common.{◌≡◌, Some, arith, ap, get_or, subst, sym, true, ◌∙◌}
use Rattle.lit_syntax.specs.Syntax.{Litmus}
use Rattle.lit_paths.specs.Outcome.{asks, names_of}
use Rattle.lit_valid.specs.PartOutcome.{observed_read}
use Rattle.lit_why.proofs.AskedLemmas.{named_at, some_is}
use Rattle.lit_why.proofs.asking.condition_asks.Goals as goal

pub returns-then-eq : goal.returns-then-eq
returns-then-eq c =
    let p = c.args.combination.now in
    let names = c.names-name-items.result.now in
    let name = get_or names c.loop-name.name-index (0, 0) in
    let asked : asks c.args.plan.now.check name.0 name.1 ≡ true = sym c.asks.ensures ∙ c.if-asks.true in
    let last : observed_read p.0 p.1 name ≡ Some c.args.read = sym c.last_read.ensures ∙ some_is c.last_read.result c.args.read (sym c.if-eq.ensures) in
    sym (named_at p.0 p.1 c.args.read names c.loop-name.name-index
    (c.names-name-items.ensures.value ∙ ap (λ (t : Litmus). names_of t) c.requires) (omega arith)
    (subst (λ (t : Litmus). asks t.check name.0 name.1 ≡ true) c.requires asked) last)
