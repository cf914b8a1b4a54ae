use Rattle.lit_rel.specs.HappensBefore.{HappensBefore}
use Rattle.lit_rel.specs.Part.{part_events}
use Rattle.lit_rel.specs.ReadsFrom.{ReadsFrom}
use Rattle.lit_rel.specs.Rows.{Holds}
use Rattle.lit_why.proofs.RaceLemmas.{IsDataRace-same}
use Rattle.lit_why.proofs.racing.is_data_race.Goals as goal

pub returns : goal.returns
returns c =
    let part = c.args.part.now in
    let events = part_events part in
    let before = Holds c.happens_before-before.result in
    let reads = Holds c.reads_from-reads.result in
    let same = c.happens_before-before.ensures.pairs in
    let same_reads = c.reads_from-reads.ensures.pairs in
    let racing = rw (c.events-events.ensures.value, c.combination.ensures, c.from-e.ensures, c.from-d.ensures) at c.are_racing.ensures in (
      λ h. IsDataRace-same events before (HappensBefore events part.sources) reads (ReadsFrom events part.sources) same same_reads c.args.first c.args.second (racing.0 h),
      λ race. racing.1 (IsDataRace-same events (HappensBefore events part.sources) before (ReadsFrom events part.sources) reads
          (λ e d. ((same e d).1, (same e d).0)) (λ e d. ((same_reads e d).1, (same_reads e d).0)) c.args.first c.args.second race),
    )
