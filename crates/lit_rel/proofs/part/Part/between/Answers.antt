use Rattle.std.proofs.Common.{refl}
use Rattle.lit_rel.specs.HappensBefore.{HappensBefore}
use Rattle.lit_rel.specs.Part.{part_events}
use Rattle.lit_rel.specs.ReadsFrom.{ReadsByteFrom}
use Rattle.lit_rel.specs.Rows.{Holds}
use Rattle.lit_rel.proofs.PartLemmas.{given_order}
use Rattle.lit_rel.proofs.SameRelations.{IsForbiddenTriple-same}
use Rattle.lit_rel.proofs.part.Part.between.Goals as goal

pub returns-clause-triples : goal.returns-clause-triples
returns-clause-triples c w r v =
    let part = c.args.self.now in
    let events = part_events part in
    let order = given_order _ part _ c.self.view_is c.self.invariant.at_all events part.sources refl refl in
    let by = rw (c.given-given.ensures.events, c.given-given.ensures.sources) at (c.between.ensures.triples w r v) in
    let same = IsForbiddenTriple-same events (ReadsByteFrom events part.sources) (Holds c.self.inside.prefix_state.before.rows) (HappensBefore events part.sources) order.pairs w r v in
    (λ h. same.0 (by.0 h), λ f. by.1 (same.1 f))
