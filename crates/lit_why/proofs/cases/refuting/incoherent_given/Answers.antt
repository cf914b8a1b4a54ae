use Rattle.std.proofs.Common.{ℕ, arith, inl, inr, subst, sym}
use Rattle.std.proofs.lemmas.Bool.{cases_eq}
use Rattle.std.proofs.lemmas.Option.{slice_get_within}
use Rattle.lit_paths.specs.ByteReads.{byte_reads}
use Rattle.lit_solve.specs.Box.{box_with, events_on}
use Rattle.lit_why.specs.Internal.Relations.{IsCoherentAt}
use Rattle.lit_why.proofs.TrialLemmas.{reads_len}
use Rattle.lit_why.proofs.cases.refuting.incoherent_given.Goals as goal

pub loop-place-preserved : goal.loop-place-preserved
loop-place-preserved c k below =
    let box = box_with c.args.problem.now c.args.domains.now in
    elim (cases_eq k c.loop-place.place) [
      | inl same ↦ subst (λ (j : ℕ). IsCoherentAt box j) (sym same) c.in_default.ensures
      | inr other ↦ c.loop-place.invariant k (omega (arith, below, other))
    ]

pub returns : goal.returns
returns c k r b w at =
    let p = c.args.problem.now in
    let long = reads_len p c.combination.result.now c.byte_reads-place-end.result.now c.byte_reads-place-end.ensures c.combination.ensures in
    c.loop-place.invariant k (omega (arith, slice_get_within (byte_reads (events_on p)) k (r, b) at, long, c.loop-place-test.false)) r b w at
