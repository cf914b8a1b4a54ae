use Rattle.std.proofs.Common.{ap, sym, ◌∙◌}
use Rattle.std.specs.List.{zip, list_any, list_all}
use Rattle.lit_syntax.specs.declared.syntax.Cond.{Cond}
use Rattle.lit_syntax.specs.Litmus.{condition_of}
use Rattle.lit_paths.specs.Outcome.{holds}
use Rattle.lit_paths.proofs.Conditions.{member_holds, holds-Any, holds-All}
use Rattle.lit_paths.proofs.registers.+holds.Goals as goal

pub any-init : goal.any-init
any-init t c =
    let values = zip c.args.names.now c.args.outcome.now in
    ap (λ (x : Cond). holds values (condition_of x)) c.in-Any.is ∙ holds-Any values c.in-Any.members ∙ ap (λ cs. list_any (member_holds values) cs) (sym c.deref-member-items.ensures.value)

pub all-init : goal.all-init
all-init t c =
    let values = zip c.args.names.now c.args.outcome.now in
    ap (λ (x : Cond). holds values (condition_of x)) c.in-All.is ∙ holds-All values c.in-All.members ∙ ap (λ cs. list_all (member_holds values) cs) (sym c.deref-member-items-in-All.ensures.value)
