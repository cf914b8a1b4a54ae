use Rattle.std.proofs.Common.{◌≡◌, ℕ, ◌+◌, ◌-◌, ◌/◌, ◌%◌, ◌<◌, List, [], ◌∷◌, ◌++◌, length, drop, sym, ap, ◌∙◌, arith, append_assoc, length-set}
use Rattle.std.specs.Fmt.{decimal}
use Rattle.std.proofs.lemmas.Fmt.{decimal_digit, decimal_step, decimal_nonempty, length-decimal-le}
use Rattle.std.proofs.lemmas.List.{append-nil, drop-set, drop_all, length_push}
use Rattle.lit_report.proofs.digits.write_digits.Goals as goal

pub loop-left-init : goal.loop-left-init
loop-left-init c = record {
  fits = omega (arith, c.ranges.number.fits);
  known = omega arith;
  room = omega (arith, c.requires, length-decimal-le 20 c.args.number (omega arith) (omega (arith, c.ranges.number.fits)) (omega (arith, c.ranges.number.fits)));
  text = ap (λ (w : List ℕ). decimal c.args.number ++ w) (drop_all (length c.args.digits.now) c.args.digits.now (omega arith)) ∙ append-nil (decimal c.args.number);
}

pub overflow_sub-start : goal.overflow_sub-start
overflow_sub-start c = omega (arith, c.loop-left.invariant.room, decimal_nonempty c.loop-left.left (omega (arith, c.loop-left.invariant.fits)))

pub loop-left-preserved : goal.loop-left-preserved
loop-left-preserved c =
    let n = c.loop-left.left in
    let start = c.loop-left.start in
    let step : decimal n ≡ decimal (n / 10) ++ (48 + n % 10) ∷ [] = decimal_step n c.loop-left-test.true (omega (arith, c.loop-left.invariant.fits)) in
    let long : length (decimal n) ≡ length (decimal (n / 10)) + 1 = ap length step ∙ length_push (decimal (n / 10)) (48 + n % 10) in
    let back : start - 1 + 1 ≡ start = omega (arith, long, c.loop-left.invariant.room) in
    record {
      fits = omega (arith, c.loop-left.invariant.fits);
      known = omega (arith, c.loop-left.invariant.known, length-set c.loop-left.digits (start - 1) (48 + n % 10));
      room = omega (arith, long, c.loop-left.invariant.room);
      text = ap (λ (w : List ℕ). decimal (n / 10) ++ w) (drop-set c.loop-left.digits (start - 1) (48 + n % 10) (omega (arith, long, c.loop-left.invariant.room, c.loop-left.invariant.known)))
          ∙ ap (λ (k : ℕ). decimal (n / 10) ++ (48 + n % 10) ∷ drop k c.loop-left.digits) back
          ∙ sym (append_assoc (decimal (n / 10)) ((48 + n % 10) ∷ []) (drop start c.loop-left.digits))
          ∙ ap (λ (w : List ℕ). w ++ drop start c.loop-left.digits) (sym step)
          ∙ c.loop-left.invariant.text;
    }

pub overflow_sub-start-2 : goal.overflow_sub-start-2
overflow_sub-start-2 c = omega (arith, c.loop-left.invariant.room, decimal_nonempty c.loop-left.left (omega (arith, c.loop-left.invariant.fits)))

pub returns-clause-text : goal.returns-clause-text
returns-clause-text c =
    let n = c.loop-left.left in
    let start = c.loop-left.start in
    let some : 0 < length (decimal n) = decimal_nonempty n (omega (arith, c.loop-left.invariant.fits)) in
    let back : start - 1 + 1 ≡ start = omega (arith, some, c.loop-left.invariant.room) in
    drop-set c.loop-left.digits (start - 1) (48 + n) (omega (arith, some, c.loop-left.invariant.room, c.loop-left.invariant.known))
    ∙ ap (λ (k : ℕ). (48 + n) ∷ drop k c.loop-left.digits) back
    ∙ ap (λ (w : List ℕ). w ++ drop start c.loop-left.digits) (sym (decimal_digit n c.loop-left-test.false))
    ∙ c.loop-left.invariant.text
