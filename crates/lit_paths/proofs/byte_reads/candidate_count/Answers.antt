use Rattle.std.proofs.Common.{arith, ap, length, sym, ◌∙◌}
use Rattle.lit_paths.specs.ByteReads.{pair_of}
use Rattle.lit_paths.proofs.Candidates.{candidates_from-candidate, candidates_from-other, length-candidates_from}
use Rattle.lit_paths.proofs.byte_reads.candidate_count.Goals as goal
use Rattle.lit_paths.proofs.byte_reads.candidate_count.Goals.{then-is_candidate, else-is_candidate}

pub overflow_add-count : goal.overflow_add-count
overflow_add-count c =
    omega (
      arith,
      c.loop-number.invariant,
      length-candidates_from (pair_of c.args.read) 0 c.args.events.now,
      ap length (candidates_from-candidate (pair_of c.args.read) c.args.events.now c.loop-number.number _ c.loop-number-test.true (sym c.is_candidate.ensures ∙ c.if-is_candidate.true)),
    )

pub loop-number-preserved : goal.loop-number-preserved
loop-number-preserved c =
    elim c.if-is_candidate.branch [
      | then-is_candidate w ↦ omega (
        arith,
        c.loop-number.invariant,
        w.count-is,
        ap length (candidates_from-candidate (pair_of c.args.read) c.args.events.now c.loop-number.number _ c.loop-number-test.true (sym c.is_candidate.ensures ∙ w.if-is_candidate.true)),
      )
      | else-is_candidate w ↦ omega (
        arith,
        c.loop-number.invariant,
        w.count-is,
        ap length (candidates_from-other (pair_of c.args.read) c.args.events.now c.loop-number.number _ c.loop-number-test.true (sym c.is_candidate.ensures ∙ w.if-is_candidate.false)),
      )
    ]

pub returns-clause-few : goal.returns-clause-few
returns-clause-few c =
    omega (arith, c.loop-number.invariant, length-candidates_from (pair_of c.args.read) 0 c.args.events.now)
