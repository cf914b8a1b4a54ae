use Rattle.std.proofs.Common.{◌∙◌, sym}
use Rattle.std.proofs.lemmas.Bool.{false≢true}
use Rattle.lit_rel.specs.Rows.{Holds}
use Rattle.lit_order.proofs.ForcingLemmas.{IsTransitive-closed}
use Rattle.lit_order.proofs.forced.Forced.open.Goals as goal

pub invariant_of-result : goal.invariant_of-result
invariant_of-result c =
    record {
      same = c.close.ensures.len ∙ c.requires;
      transitive = IsTransitive-closed (Holds c.args.before.now) (Holds c.close.new.rows) c.close.ensures.pairs;
      no_cycle = λ e h. false≢true (c.if-has_cycle.ensures.1 (e, h));
    }

pub returns-clause-cycle : goal.returns-clause-cycle
returns-clause-cycle c = (
  (λ h. absurd (false≢true (sym h))),
  (λ h. absurd (false≢true (c.if-has_cycle.ensures.1 (h.0, (c.close.ensures.pairs h.0 h.0).1 h.1)))),
)
