use Rattle.lit_solve.proofs.Words.{◌+◌, ◌<◌, ap, arith, get_or, length, length-set, List, refill, refill-set, slice_get, slice_get-get_or}
use Rattle.lit_solve.proofs.Words.{slice_get_within, slice_set, Some, subst, sym, ℕ, ◌∙◌, ◌≡◌}
use Rattle.lit_solve.proofs.OpenReadLemmas.{IsSetSoFar, others_more, own_more}
use Rattle.lit_solve.proofs.product.set_values.Goals as goal

pub loop-i-preserved : goal.loop-i-preserved
loop-i-preserved c =
    let was = c.loop-i.values.items in
    let place = get_or c.args.registers.now.items c.loop-i.i 0 in
    let at : slice_get c.args.registers.now.items c.loop-i.i ≡ Some (get_or c.args.registers.now.items c.loop-i.i 0) =
    slice_get-get_or c.args.registers.now.items c.loop-i.i 0 (omega (arith, c.loop-i-test.true, c.len-i-end.ensures.value)) in
    let inside : get_or c.args.registers.now.items c.loop-i.i 0 < length c.loop-i.values.items =
    omega (arith, c.requires c.loop-i.i place at, c.loop-i.invariant.long) in
    let from : c.from.result ≡ get_or c.args.registers.now.items c.loop-i.i 0 = c.from.ensures ∙ ap (λ (rs : List ℕ). get_or rs c.loop-i.i 0) c.deref.ensures.0 in
    let goes : IsSetSoFar c.args.registers.now.items (c.loop-i.i + 1) c.args.value c.args.values.now.items (slice_set was place c.args.value) = record {
      long = length-set was place c.args.value ∙ c.loop-i.invariant.long;
      own = own_more c.args.registers.now.items was c.loop-i.i place c.args.value at inside c.loop-i.invariant.own;
      others = others_more c.args.registers.now.items was c.loop-i.i place c.args.value at inside c.args.values.now.items c.loop-i.invariant.others;
    } in
    subst (IsSetSoFar c.args.registers.now.items (c.loop-i.i + 1) c.args.value c.args.values.now.items)
    (sym (ap (λ (k : ℕ). refill (length was) was (slice_set c.deref_mut.result.now k c.args.value)) from
    ∙ refill-set was c.deref_mut.result.now place c.args.value c.deref_mut.ensures.value)) goes

pub returns-clause-own : goal.returns-clause-own
returns-clause-own c i j at =
    let below : i < length c.args.registers.now.items = slice_get_within c.args.registers.now.items i j at in
    c.loop-i.invariant.own i j (omega (arith, below, c.loop-i-test.false, c.len-i-end.ensures.value)) at
