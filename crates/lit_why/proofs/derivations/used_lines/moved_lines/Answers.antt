use Rattle.std.proofs.Common.{◌≡◌, ◌<◌, ◌∙◌, Some, true, false, length, get_or, ap, sym, arith}
use Rattle.std.proofs.lemmas.Bool.{false≢true}
use Rattle.std.proofs.lemmas.Option.{same_Some, slice_get-get_or}
use Rattle.lit_why.specs.declared.derivations.lines.DerivationLine.{DerivationLine}
use Rattle.lit_why.specs.declared.derivations.lines.Reason.{Reason}
use Rattle.lit_why.proofs.UsedLineLemmas.{moved_put, moved_skip, no_line}
use Rattle.lit_why.proofs.derivations.used_lines.moved_lines.Goals as goal
use Rattle.lit_why.proofs.derivations.used_lines.moved_lines.Goals.{then-marks-place+in_ok-push-2, else-marks-place}

pub loop-place-preserved : goal.loop-place-preserved
loop-place-preserved c =
    let i = c.loop-place.place in
    let places = c.loop-place.places.items in
    let used = c.loop-place.used.items in
    let count : c.len.result ≡ length used = omega (arith, c.len.ensures, c.loop-place.used.ok.0) in
    let is = rw count at c.in_ok-push.ensures.items in
    let inside : i < length c.args.marks.now = omega (arith, c.loop-place-test.true, c.requires.marks.len) in
    let mark = slice_get-get_or c.args.marks.now i false inside in
    elim c.if-marks-place.branch [
      | then-marks-place+in_ok-push-2 w ↦
          let line : DerivationLine = get_or c.args.lines.now i no_line in
          rw w.used-is (moved_put c.args.lines.now c.args.marks.now i places used c.loop-place.invariant c.requires.earlier c.push.new.self.items is
          (mark ∙ ap Some w.if-marks-place.true) line (record { before = line.before; after = line.after; reason = w.moved.result })
          (slice_get-get_or c.args.lines.now i no_line c.loop-place-test.true)
          (ap (λ (reason : Reason). record { before = line.before; after = line.after; reason = reason }) (rw w.as_slice.ensures.value at w.moved.ensures))
          w.push-then-marks-place.new.self.items w.in_ok-push-2.ensures.items)
      | else-marks-place w ↦
          rw w.used-is (moved_skip c.args.lines.now c.args.marks.now i places used c.loop-place.invariant c.requires.earlier c.push.new.self.items is
          (λ marked. false≢true (sym w.if-marks-place.false ∙ same_Some (get_or c.args.marks.now i false) true (sym mark ∙ marked))))
    ]
