use Rattle.std.proofs.Common.{◌++◌, List, arith, ap, length, sym, ◌∙◌, drop, append-nil, length-append}
use Rattle.lit_paths.specs.ByteReads.{pair_of}
use Rattle.lit_paths.proofs.Candidates.{candidates_from, candidates_from-candidate, candidates_from-end, candidate_step, other_step}
use Rattle.lit_paths.proofs.byte_reads.candidates_of.Goals as goal
use Rattle.lit_paths.proofs.byte_reads.candidates_of.Goals.{then-is_candidate, else-is_candidate}

pub push-requires : goal.push-requires
push-requires g c = (
  omega arith,
  omega (
    arith,
    c.requires.fits,
    ap length c.loop-number.invariant,
    length-append c.loop-number.candidates.items (candidates_from (pair_of c.args.read) c.loop-number.number (drop c.loop-number.number c.args.events.now)),
    ap length (candidates_from-candidate (pair_of c.args.read) c.args.events.now c.loop-number.number _ c.loop-number-test.true (sym c.is_candidate.ensures ∙ c.if-is_candidate.true)),
  ),
)

pub loop-number-preserved : goal.loop-number-preserved
loop-number-preserved g c =
    elim c.if-is_candidate.branch [
      | then-is_candidate w ↦ candidate_step (pair_of c.args.read) c.args.events.now c.loop-number.number _ c.loop-number.candidates.items _ _ c.loop-number-test.true
          (sym c.is_candidate.ensures ∙ w.if-is_candidate.true) (ap (λ v. v.items) w.candidates-is ∙ w.push.ensures.items) c.loop-number.invariant
      | else-is_candidate w ↦ other_step (pair_of c.args.read) c.args.events.now c.loop-number.number _ c.loop-number.candidates.items _ _ c.loop-number-test.true
          (sym c.is_candidate.ensures ∙ w.if-is_candidate.false) (ap (λ v. v.items) w.candidates-is) c.loop-number.invariant
    ]

pub returns : goal.returns
returns g c = sym (append-nil c.loop-number.candidates.items)
    ∙ sym (ap (λ (rest : List _). c.loop-number.candidates.items ++ rest) (candidates_from-end (pair_of c.args.read) c.args.events.now c.loop-number.number c.loop-number-test.false))
    ∙ c.loop-number.invariant
