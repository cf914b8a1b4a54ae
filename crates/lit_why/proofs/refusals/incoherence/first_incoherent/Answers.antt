use Rattle.std.proofs.Common.{arith}
use Rattle.std.proofs.lemmas.Option.{slice_get_within}
use Rattle.lit_rel.specs.Rows.{Holds}
use Rattle.lit_why.proofs.RefusalLemmas.{coherent_more}
use Rattle.lit_why.proofs.refusals.incoherence.first_incoherent.Goals as goal

pub loop-place-preserved : goal.loop-place-preserved
loop-place-preserved c =
    coherent_more c.args.events.now (Holds c.args.before.now) c.args.reads.now c.args.sources.now c.loop-place.place _ 0 c.loop-place.invariant c.in_default.ensures

pub returns : goal.returns
returns c k at w at_read at_source =
    let within = slice_get_within c.args.reads.now k at at_read in
    c.loop-place.invariant k at w (omega (arith, within, c.loop-place-test.false)) at_read at_source
