use Rattle.std.proofs.Common.{◌≡◌, ◌<◌, ℕ, Some, arith, inl, inr, length, refl, subst, sym, ◌∙◌}
use Rattle.std.specs.Prelude.{slice_get}
use Rattle.std.proofs.lemmas.Bool.{cases_eq, false≢true}
use Rattle.std.proofs.lemmas.Option.{same_Some, slice_get_within}
use Rattle.lit_paths.specs.ByteReads.{byte_read_at, byte_reads}
use Rattle.lit_paths.specs.Members.{IsCandidate}
use Rattle.lit_solve.specs.Box.{HasSource, box_with, events_on}
use Rattle.lit_solve.proofs.PruningLemmas.{read_here}
use Rattle.lit_why.proofs.TrialLemmas.{reads_len}
use Rattle.lit_why.proofs.cases.given.is_box.Goals as goal

pub loop-place-preserved : goal.loop-place-preserved
loop-place-preserved c k r b w below at there =
    let p = c.args.problem.now in
    let place = c.loop-place.place in
    let within = c.is_within.ensures.0 c.if-not-is_within.false in
    let all = rw c.combination-combination.ensures at c.candidates_of.ensures in
    let long = reads_len p c.combination-combination.result.now c.byte_reads-place-end.result.now c.byte_reads-place-end.ensures
    c.combination-combination.ensures in
    let inside : place < length (byte_reads (events_on p)) = omega (arith, c.loop-place-test.true, long) in
    elim (cases_eq k place) [
      | inl same ↦
          let pair : byte_read_at (events_on p) place ≡ (r, b) = same_Some (byte_read_at (events_on p) place) (r, b)
          (sym (read_here (events_on p) place inside) ∙ subst (λ (j : ℕ). slice_get (byte_reads (events_on p)) j ≡ Some (r, b)) same at) in
          let here : HasSource (box_with p c.args.domains.now) place w =
          subst (λ (j : ℕ). HasSource (box_with p c.args.domains.now) j w) same there in
          subst (λ (q : ℕ × ℕ). IsCandidate (events_on p) q.0 q.1 w) pair ((all w).0 (within w here))
      | inr other ↦ c.loop-place.invariant k r b w (omega (arith, below, other)) at there
    ]

pub returns-then-not-is_within : goal.returns-then-not-is_within
returns-then-not-is_within c =
    let p = c.args.problem.now in
    let place = c.loop-place.place in
    let all = rw c.combination-combination.ensures at c.candidates_of.ensures in
    let long = reads_len p c.combination-combination.result.now c.byte_reads-place-end.result.now c.byte_reads-place-end.ensures
    c.combination-combination.ensures in
    let inside : place < length (byte_reads (events_on p)) = omega (arith, c.loop-place-test.true, long) in
    let read = byte_read_at (events_on p) place in (
      λ f. absurd (false≢true f),
      λ is. absurd (false≢true (sym c.if-not-is_within.true ∙ c.is_within.ensures.1 (λ w there.
          (all w).1 (is.candidates place read.0 read.1 w (read_here (events_on p) place inside) there)))),
    )

pub returns : goal.returns
returns c =
    let p = c.args.problem.now in
    let long = reads_len p c.combination-combination.result.now c.byte_reads-place-end.result.now c.byte_reads-place-end.ensures
    c.combination-combination.ensures in (
      λ all. record {
        litmus = rw (c.test.ensures, c.combination-combination.ensures) at c.agents-agents.ensures.litmus;
        known = c.requires;
        candidates = λ k r b w at there. c.loop-place.invariant k r b w
            (omega (arith, slice_get_within (byte_reads (events_on p)) k (r, b) at, long, c.loop-place-test.false)) at there;
      },
      λ is. refl,
    )
