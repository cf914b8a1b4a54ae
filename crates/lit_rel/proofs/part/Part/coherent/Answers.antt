use Rattle.lit_rel.specs.Internal.Given.{sources_of}
use Rattle.lit_rel.specs.Rows.{Holds}
use Rattle.lit_rel.proofs.BrokenLemmas.{coherent_where_none, incoherent-iff}
use Rattle.lit_rel.proofs.PartLemmas.{given_order}
use Rattle.lit_rel.proofs.part.Part.coherent.Goals as goal

pub returns : goal.returns
returns c =
    let given = c.given.result in
    let order = given_order _ c.args.self.now _ c.self.view_is c.self.invariant.at_all _ _ c.given.ensures.events c.given.ensures.sources in
    let iff = incoherent-iff given.events.now given.bytes.now given.first_reads (Holds c.self.inside.prefix_state.before.rows) order.pairs in
    let bad = c.has_incoherent_byte.ensures in
    rw (c.given.ensures.events, c.given.ensures.sources) at
    (coherent_where_none given.events.now (sources_of given.bytes.now) c.has_incoherent_byte.result (λ h. iff.0 (bad.0 h), λ h. bad.1 (iff.1 h)))
