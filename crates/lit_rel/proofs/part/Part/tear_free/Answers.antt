use Rattle.lit_rel.specs.Internal.Given.{sources_of}
use Rattle.lit_rel.proofs.BrokenLemmas.{tear_free_where_none, torn-iff}
use Rattle.lit_rel.proofs.part.Part.tear_free.Goals as goal

pub returns : goal.returns
returns c =
    let given = c.given.result in
    let iff = torn-iff given.events.now given.bytes.now given.first_reads in
    let torn = c.has_torn_read.ensures in
    rw (c.given.ensures.events, c.given.ensures.sources) at
    (tear_free_where_none given.events.now (sources_of given.bytes.now) c.has_torn_read.result (λ h. iff.0 (torn.0 h), λ h. torn.1 (iff.1 h)))
