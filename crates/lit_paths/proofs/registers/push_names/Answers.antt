use Rattle.std.proofs.Common.{arith, sym, ◌∙◌, ap, length, true, false, append-nil}
use Rattle.lit_syntax.specs.Syntax.{writes}
use Rattle.lit_syntax.specs.Litmus.{statements_of}
use Rattle.lit_paths.proofs.OutcomeRegisterSteps.{names_step}
use Rattle.lit_paths.proofs.registers.push_names.Goals as goal
use Rattle.lit_paths.proofs.registers.push_names.Goals.{then-writes, else-writes}

pub loop-register-preserved : goal.loop-register-preserved
loop-register-preserved c =
    elim c.if-writes.branch [
      | then-writes w ↦ record {
        names = names_step c.args.agent (writes (statements_of c.args.body.now)) c.loop-register.register true _ _ _ c.loop-register.invariant.names (sym c.writes.ensures ∙ w.if-writes.true) (ap (λ ns. ns.items) w.names-is ∙ w.push.ensures.items);
        few = omega (arith, c.loop-register.invariant.few, w.push.ensures.len, ap (λ ns. length ns.items) w.names-is);
      }
      | else-writes w ↦ record {
        names = names_step c.args.agent (writes (statements_of c.args.body.now)) c.loop-register.register false _ _ _ c.loop-register.invariant.names (sym c.writes.ensures ∙ w.if-writes.false) (ap (λ ns. ns.items) w.names-is ∙ sym (append-nil _));
        few = omega (arith, c.loop-register.invariant.few, ap (λ ns. length ns.items) w.names-is);
      }
    ]
