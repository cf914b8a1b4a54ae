use Rattle.std.proofs.Common.{ℕ, List, arith, ap, subst, sym, ◌∙◌, ◌+◌, ◌-◌, ◌<◌, length, slice_get}
use Rattle.std.proofs.lemmas.List.{length-map}
use Rattle.lit_paths.specs.Choice.{product}
use Rattle.lit_paths.proofs.Totals.{seen_place, seen_first, seen_listed, seen_of, seen_sourced}
use Rattle.lit_paths.proofs.WaySteps.{IsLeft, index_is, index_within, left_first, left_next, member_more, member_all, lists_of, way_at}
use Rattle.lit_paths.proofs.combination.Combination.sources.Goals as goal

pub overflow_sub-left : goal.overflow_sub-left
overflow_sub-left c = seen_first _ c.self.invariant _ c.self.view_is c.args.n c.requires.low c.requires.high

pub bounds-later-i : goal.bounds-later-i
bounds-later-i c =
    (way_at c.as_slice-candidates.result.now c.as_slice-later.result.now _ _ c.loop-i.i c.index-candidates-i.result c.as_slice-list.result.now
    (ap lists_of c.as_slice-candidates.ensures.value ∙ c.self.invariant.formed.all_candidates) (c.as_slice-later.ensures.value ∙ c.self.invariant.formed.all_later)
    (seen_place _ c.self.invariant _ c.self.view_is c.args.n c.requires.low c.requires.high) c.loop-i-test.true c.index-candidates-i.is c.as_slice-list.ensures.value).inside

pub divided-digit-requires : goal.divided-digit-requires
divided-digit-requires c =
    (way_at c.as_slice-candidates.result.now c.as_slice-later.result.now _ _ c.loop-i.i c.index-candidates-i.result c.as_slice-list.result.now
    (ap lists_of c.as_slice-candidates.ensures.value ∙ c.self.invariant.formed.all_candidates) (c.as_slice-later.ensures.value ∙ c.self.invariant.formed.all_later)
    (seen_place _ c.self.invariant _ c.self.view_is c.args.n c.requires.low c.requires.high) c.loop-i-test.true c.index-candidates-i.is c.as_slice-list.ensures.value).later_some

pub candidate_at-requires : goal.candidate_at-requires
candidate_at-requires c =
    let way = way_at c.as_slice-candidates.result.now c.as_slice-later.result.now _ _ c.loop-i.i c.index-candidates-i.result c.as_slice-list.result.now
    (ap lists_of c.as_slice-candidates.ensures.value ∙ c.self.invariant.formed.all_candidates) (c.as_slice-later.ensures.value ∙ c.self.invariant.formed.all_later)
    (seen_place _ c.self.invariant _ c.self.view_is c.args.n c.requires.low c.requires.high) c.loop-i-test.true c.index-candidates-i.is c.as_slice-list.ensures.value in
    subst (λ (d : ℕ). d < length c.as_slice-list.result.now) (sym c.divided-digit.ensures.quotient)
    (index_within (lists_of c.as_slice-candidates.result.now) _ c.loop-i.i c.loop-i.left _ c.as_slice-list.result.now c.loop-i.invariant.digits way.here way.behind)

pub loop-i-init : goal.loop-i-init
loop-i-init c = record {
  digits = left_first (lists_of c.as_slice-candidates.result.now) (c.args.n - c.self.inside.first) (omega (
    arith,
    seen_place _ c.self.invariant _ c.self.view_is c.args.n c.requires.low c.requires.high,
    ap (λ ws. length (product ws)) (ap lists_of c.as_slice-candidates.ensures.value ∙ c.self.invariant.formed.all_candidates),
  ));
  taken = c.new-sources.ensures;
}

pub loop-i-preserved : goal.loop-i-preserved
loop-i-preserved c =
    let same = ap lists_of c.as_slice-candidates.ensures.value ∙ c.self.invariant.formed.all_candidates in
    let place = seen_place _ c.self.invariant _ c.self.view_is c.args.n c.requires.low c.requires.high in
    let way = way_at c.as_slice-candidates.result.now c.as_slice-later.result.now _ _ c.loop-i.i c.index-candidates-i.result c.as_slice-list.result.now
    (ap lists_of c.as_slice-candidates.ensures.value ∙ c.self.invariant.formed.all_candidates) (c.as_slice-later.ensures.value ∙ c.self.invariant.formed.all_later)
    (seen_place _ c.self.invariant _ c.self.view_is c.args.n c.requires.low c.requires.high) c.loop-i-test.true c.index-candidates-i.is c.as_slice-list.ensures.value in
    let list : List ℕ = c.as_slice-list.result.now in
    record {
      digits = subst (IsLeft (lists_of c.as_slice-candidates.result.now) (c.args.n - c.self.inside.first) (c.loop-i.i + 1)) (sym c.divided-digit.ensures.rest)
          (left_next (lists_of c.as_slice-candidates.result.now) _ c.loop-i.i c.loop-i.left _ list c.loop-i.invariant.digits way.here way.behind);
      taken = member_more (lists_of c.as_slice-candidates.result.now) (c.args.n - c.self.inside.first) c.loop-i.i c.candidate_at.result c.loop-i.sources.items c.push.new.self.items list _
          (omega (arith, place, ap (λ ws. length (product ws)) same)) way.here way.behind
          (ap (slice_get list) (index_is (lists_of c.as_slice-candidates.result.now) _ c.loop-i.i c.loop-i.left _ list c.loop-i.invariant.digits way.here way.behind
          ∙ sym c.divided-digit.ensures.quotient) ∙ c.candidate_at.ensures)
          c.loop-i.invariant.taken c.push.ensures.items;
    }

pub returns-clause-listed : goal.returns-clause-listed
returns-clause-listed c =
    let same = ap lists_of c.as_slice-candidates.ensures.value ∙ c.self.invariant.formed.all_candidates in
    let place = seen_place _ c.self.invariant _ c.self.view_is c.args.n c.requires.low c.requires.high in
    let at = member_all (lists_of c.as_slice-candidates.result.now) (c.args.n - c.self.inside.first) c.loop-i.i c.loop-i.sources.items
    (omega (arith, place, ap (λ ws. length (product ws)) same))
    (omega (arith, c.loop-i-test.false, length-map c.as_slice-candidates.result.now (λ list. list.items))) c.loop-i.invariant.taken in
    seen_listed _ c.self.invariant _ c.self.view_is c.args.n c.requires.low c.requires.high c.loop-i.sources.items
    (ap (λ ws. slice_get (product ws) (c.args.n - c.self.inside.first)) (sym same) ∙ at)

pub returns-clause-of : goal.returns-clause-of
returns-clause-of c =
    let same = ap lists_of c.as_slice-candidates.ensures.value ∙ c.self.invariant.formed.all_candidates in
    let place = seen_place _ c.self.invariant _ c.self.view_is c.args.n c.requires.low c.requires.high in
    let at = member_all (lists_of c.as_slice-candidates.result.now) (c.args.n - c.self.inside.first) c.loop-i.i c.loop-i.sources.items
    (omega (arith, place, ap (λ ws. length (product ws)) same))
    (omega (arith, c.loop-i-test.false, length-map c.as_slice-candidates.result.now (λ list. list.items))) c.loop-i.invariant.taken in
    seen_of _ c.self.invariant _ c.self.view_is c.args.n c.requires.low c.requires.high c.loop-i.sources.items
    (ap (λ ws. slice_get (product ws) (c.args.n - c.self.inside.first)) (sym same) ∙ at)

pub returns-clause-sourced : goal.returns-clause-sourced
returns-clause-sourced c =
    let same = ap lists_of c.as_slice-candidates.ensures.value ∙ c.self.invariant.formed.all_candidates in
    let place = seen_place _ c.self.invariant _ c.self.view_is c.args.n c.requires.low c.requires.high in
    let at = member_all (lists_of c.as_slice-candidates.result.now) (c.args.n - c.self.inside.first) c.loop-i.i c.loop-i.sources.items
    (omega (arith, place, ap (λ ws. length (product ws)) same))
    (omega (arith, c.loop-i-test.false, length-map c.as_slice-candidates.result.now (λ list. list.items))) c.loop-i.invariant.taken in
    seen_sourced _ c.self.invariant _ c.self.view_is c.args.n c.requires.low c.requires.high c.loop-i.sources.items
    (ap (λ ws. slice_get (product ws) (c.args.n - c.self.inside.first)) (sym same) ∙ at)
