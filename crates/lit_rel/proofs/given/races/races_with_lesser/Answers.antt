use Rattle.std.proofs.Common.{below_more}
use Rattle.std.proofs.lemmas.Bool.{false≢true}
use Rattle.lit_rel.specs.Racing.{AreApart, WritesWith}
use Rattle.lit_rel.specs.Rows.{Holds}
use Rattle.lit_rel.proofs.given.races.races_with_lesser.Goals as goal
use Rattle.lit_rel.proofs.given.races.races_with_lesser.Goals.{else-write_one_byte-via-then-write_one_byte+else-are_apart, else-write_one_byte-via-else-write_one_byte}

pub loop-other-preserved : goal.loop-other-preserved
loop-other-preserved c =
    below_more (λ d. WritesWith c.args.events.now c.args.write d → AreApart c.args.events.now (Holds c.args.before.now) c.args.write d → ⊥) c.loop-other.other c.loop-other.invariant
    (λ writes apart. elim c.else-write_one_byte.branch [
      | else-write_one_byte-via-then-write_one_byte+else-are_apart w ↦ false≢true (w.if-are_apart.ensures.1 apart)
      | else-write_one_byte-via-else-write_one_byte w ↦ false≢true (w.if-write_one_byte.ensures.1 (rw (c.event_at.ensures, c.event_at-in-loop-other.ensures) writes))
    ])
