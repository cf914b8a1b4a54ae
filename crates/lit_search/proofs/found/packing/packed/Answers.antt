use Rattle.lit_search.proofs.Words.{◌*◌, ◌+◌, ◌-◌, ◌<◌, ◌^◌, ap, ap₂, arith, drop, le-mul_of_pos_right, one-le-pow, pow-le-pow_right}
use Rattle.lit_search.proofs.Words.{suc-mul, sym, ◌∙◌}
use Rattle.lit_search.proofs.RankLemmas.{digit_fits, one_more, packed-large, packed-past, packed-small, room, stepped}
use Rattle.lit_search.proofs.found.packing.packed.Goals as goal
use Rattle.lit_search.proofs.found.packing.packed.Goals.{in-Some, in-Some-2, in-None}

digit_here : (c : goal.After-from-in-Some)
    → c.from-in-Some.result * c.loop-place.weight + c.loop-place.number < 170141183460469231731687303715884105728
digit_here c =
    let inv = c.loop-place.invariant in
    digit_fits c.args.top c.args.count c.loop-place.place c.from-in-Some.result c.loop-place.weight c.loop-place.number
    c.args.values.now c.loop-place-test.true inv.few c.requires inv.weight inv.number
    (omega (arith, c.if-from-top.true, c.from.ensures, c.from-in-Some.ensures))

pub overflow_mul-number : goal.overflow_mul-number
overflow_mul-number c = omega (arith, digit_here c)

pub overflow_add-number : goal.overflow_add-number
overflow_add-number c = omega (arith, digit_here c)

pub overflow_mul-number-in-Some-2 : goal.overflow_mul-number-in-Some-2
overflow_mul-number-in-Some-2 c =
    let inv = c.loop-place.invariant in
    let top = c.args.top in
    omega (arith, suc-mul top c.loop-place.weight, room top c.args.count c.loop-place.place c.loop-place-test.true inv.few c.requires, ap (λ w. (top + 1) * w) inv.weight)

pub overflow_add-weight : goal.overflow_add-weight
overflow_add-weight c =
    let top = c.args.top in
    let k = c.args.count - c.loop-place.place in
    omega (arith, le-mul_of_pos_right (top + 1) (let some : 0 < (top + 1) ^ k = omega (arith, one-le-pow k (top + 1) (omega arith)) in some), room top c.args.count c.loop-place.place c.loop-place-test.true c.loop-place.invariant.few c.requires)

pub overflow_mul-weight : goal.overflow_mul-weight
overflow_mul-weight c =
    let top = c.args.top in
    omega (
      arith,
      ap (λ w. w * (top + 1)) c.loop-place.invariant.weight,
      one_more top c.args.count c.loop-place.place c.loop-place-test.true c.loop-place.invariant.few,
      pow-le-pow_right {n = top + 1} (omega arith) {i = c.args.count - (c.loop-place.place - 1)} {j = c.args.count} (omega arith),
      c.requires,
    )

pub loop-place-preserved : goal.loop-place-preserved
loop-place-preserved c =
    let inv = c.loop-place.invariant in
    let top = c.args.top in
    let k = c.args.count - c.loop-place.place in
    let xs = c.args.values.now in
    record {
      few = omega (arith, inv.few);
      number =
          elim c.match-get.branch [
            | in-Some w ↦
                (let v = w.in-Some.value.now in
                w.number-is ∙ ap (λ u. u * c.loop-place.weight + c.loop-place.number) w.from-in-Some.ensures
                ∙ ap₂ (λ u n. v * u + n) inv.weight inv.number
                ∙ sym (packed-small top k v (drop c.loop-place.place xs) (omega (arith, w.if-from-top.true, w.from.ensures)))
                ∙ sym (stepped top c.args.count c.loop-place.place v xs c.loop-place-test.true inv.few w.in-Some.ensures.lookup.3.0 w.in-Some.ensures.lookup.3.1))
            | in-Some-2 w ↦
                (let v = w.in-Some.value.now in
                w.number-is ∙ ap (λ u. top * u) inv.weight
                ∙ sym (packed-large top k v (drop c.loop-place.place xs) (omega (arith, w.if-from-top.false, w.from.ensures)))
                ∙ sym (stepped top c.args.count c.loop-place.place v xs c.loop-place-test.true inv.few w.in-Some.ensures.lookup.3.0 w.in-Some.ensures.lookup.3.1))
            | in-None w ↦ w.number-is ∙ sym (packed-past top (c.args.count - (c.loop-place.place - 1)) xs (c.loop-place.place - 1) w.in-None.ensures.lookup.3)
          ];
      weight = ap (λ v. v * (top + 1)) inv.weight ∙ one_more top c.args.count c.loop-place.place c.loop-place-test.true inv.few;
    }
