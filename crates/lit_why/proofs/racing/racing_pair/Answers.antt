use Rattle.lit_rel.specs.HappensBefore.{HappensBefore}
use Rattle.lit_rel.specs.Part.{part_events}
use Rattle.lit_rel.specs.ReadsFrom.{ReadsFrom}
use Rattle.lit_rel.specs.Rows.{Holds}
use Rattle.lit_why.proofs.RaceLemmas.{found_same}
use Rattle.lit_why.proofs.racing.racing_pair.Goals as goal

pub returns : goal.returns
returns c =
    let part = c.args.part.now in
    let events = part_events part in
    found_same (Holds c.happens_before-before.result) (HappensBefore events part.sources) (Holds c.reads_from-reads.result) (ReadsFrom events part.sources) events
    c.happens_before-before.ensures.pairs c.reads_from-reads.ensures.pairs c.least_racing.result (rw (c.events.ensures.value, c.combination.ensures) at c.least_racing.ensures)
