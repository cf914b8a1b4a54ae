use Rattle.std.proofs.Common.{arith, ◌∙◌, ◌<◌}
use Rattle.lit_rel.specs.Rows.{Holds, rows_len}
use Rattle.lit_rel.proofs.ChainLemmas.{IsClosedBelow-more, HasChain-from_closed}
use Rattle.lit_rel.proofs.rows.closing.close.Goals as goal

pub loop-middle-preserved : goal.loop-middle-preserved
loop-middle-preserved c = record {
  len = c.put_led.ensures.len ∙ c.loop-middle.invariant.len;
  closed = IsClosedBelow-more (Holds c.args.rows.now) (Holds c.loop-middle.rows) (Holds c.put_led.new.self) c.loop-middle.middle
      (λ e d. grind (arith, c.put_led.ensures.pairs, c.successors.ensures)) c.loop-middle.invariant.closed;
}

pub returns-clause-pairs : goal.returns-clause-pairs
returns-clause-pairs c e d =
    HasChain-from_closed (Holds c.args.rows.now) (Holds c.loop-middle.rows) c.loop-middle.middle
    (λ a b h. let known : a < rows_len c.loop-middle.rows = h.first_known in omega arith)
    c.loop-middle.invariant.closed e d
