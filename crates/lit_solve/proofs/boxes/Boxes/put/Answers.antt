use Rattle.lit_solve.proofs.Words.{ap, arith, boxes_events, BoxesModel, byte_reads, IsSoundRange, length, length-map, pair_of, subst, sym}
use Rattle.lit_solve.proofs.Words.{◌∙◌, ◌≡◌}
use Rattle.lit_solve.proofs.BoxesLemmas.{one_domain_more}
use Rattle.lit_solve.proofs.SoundRangeLemmas.{box_of_domains}
use Rattle.lit_solve.proofs.boxes.Boxes.put.Goals as goal

pub loop-place-preserved : goal.loop-place-preserved
loop-place-preserved c =
    one_domain_more c.args.self.now c.args.i c.loop-place.domains c.loop-place.place c.domain.result c.loop-place.invariant
    (omega (
      arith,
      c.loop-place-test.true,
      ap length c.byte_reads-place-end.ensures,
      length-map c.byte_reads-place-end.result.now pair_of,
      c.self.invariant.sound.few_reads,
    )) c.domain.ensures

pub returns-clause-is_box : goal.returns-clause-is_box
returns-clause-is_box c =
    let reads : length c.byte_reads-place-end.result.now ≡ length (byte_reads (boxes_events c.args.self.now)) =
    sym (length-map c.byte_reads-place-end.result.now pair_of) ∙ ap length c.byte_reads-place-end.ensures
    ∙ ap (λ (b : BoxesModel). length (byte_reads (boxes_events b))) c.self.view_is in
    box_of_domains c.args.self.now (subst (λ (b : BoxesModel). IsSoundRange b) c.self.view_is c.self.invariant) c.args.i c.loop-place.domains
    (λ k w inside. c.loop-place.invariant.exact k w (omega (arith, inside, reads, c.loop-place-test.false)))
