use Rattle.std.proofs.Common.{inl, inr}
use Rattle.std.proofs.lemmas.Bool.{cases_eq, false≢true}
use Rattle.lit_rel.proofs.SetLemmas.{split_less}
use Rattle.lit_rel.proofs.given.reads.is_coherent_byte.Goals as goal

pub loop-other-preserved : goal.loop-other-preserved
loop-other-preserved c = record {
  within = λ v h. c.loop-other.invariant.within v ((c.in-Some.ensures.rest v).0 h).0;
  hiding = λ v hides. elim (cases_eq v c.in-Some.other) [
    | inl same ↦ absurd (false≢true (c.if-writes.ensures.1 (rw (c.event_at.ensures, ← same) (hides.writes, hides.in_range))))
    | inr other ↦ (c.in-Some.ensures.rest v).1 (c.loop-other.invariant.hiding v hides, other)
  ];
}

pub loop-other-smaller : goal.loop-other-smaller
loop-other-smaller c = split_less c.loop-other.left c.in-Some.other c.in-Some.rest c.in-Some.ensures
