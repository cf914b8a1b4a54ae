use Rattle.std.proofs.Common.{length}
use Rattle.lit_order.proofs.ForcedLemmas.{respects_forced}
use Rattle.lit_order.proofs.PartLemmas.{triples_below}
use Rattle.lit_order.proofs.StandingLemmas.{never_before_itself}
use Rattle.lit_rel.specs.Forbidden.{IsForbidden}
use Rattle.lit_rel.specs.HappensBefore.{HappensBefore}
use Rattle.lit_rel.specs.Part.{part_events}
use Rattle.lit_why.proofs.DerivationLemmas.{ends_forced}
use Rattle.lit_why.proofs.laws.derivations_leave_no_order.Goals as goal

pub returns : goal.returns
returns c part lines order are derives is =
    let events = part_events part in
    let before = HappensBefore events part.sources in
    let forbidden = IsForbidden events part.sources in
    let cycle = ends_forced before forbidden (λ w r v f. (f.between.not_source, f.between.not_read)) lines derives.follows derives.ends in
    never_before_itself order is.complete.once cycle.0 (respects_forced (length events) before forbidden
    (triples_below part are.each (c.byte_reads_are_of_events.ensures events)) order is cycle.0 cycle.0 cycle.1)
