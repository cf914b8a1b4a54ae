use Rattle.std.proofs.Common.{⊎_elim, ap, sym, ◌∙◌}
use Rattle.std.specs.List.{list_any}
use Rattle.lit_syntax.specs.declared.syntax.Cond.{Cond}
use Rattle.lit_syntax.specs.Litmus.{condition_of}
use Rattle.lit_paths.specs.Outcome.{asks}
use Rattle.lit_paths.proofs.Conditions.{member_asks, asks-Any, asks-All}
use Rattle.lit_paths.proofs.registers.+asks.Goals as goal

pub members-init : goal.members-init
members-init t c =
    let agent = c.args.agent in
    let reg = c.args.register in
    ⊎_elim
    (λ is. ap (λ (x : Cond). asks (condition_of x) agent reg) is ∙ asks-Any agent reg c.in-Any.members)
    (λ is. ap (λ (x : Cond). asks (condition_of x) agent reg) is ∙ asks-All agent reg c.in-Any.members)
    c.in-Any.is
    ∙ ap (λ cs. list_any (member_asks agent reg) cs) (sym c.deref-member-items.ensures.value)
