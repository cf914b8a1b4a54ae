use Rattle.std.proofs.Common.{◌≡◌, ◌⊎◌, Some, get_or, arith, refl}
use Rattle.std.proofs.lemmas.Bool.{false≢true}
use Rattle.std.proofs.lemmas.Option.{slice_get-get_or, slice_get_within}
use Rattle.std.specs.List.{slice_get}
use Rattle.lit_rel.specs.declared.between.Pair.{Pair}
use Rattle.lit_rel.specs.EventSet.{HasEvent}
use Rattle.lit_rel.proofs.EachLemmas.{EachBelow-more}
use Rattle.lit_rel.proofs.TripleLemmas.{no_pair}
use Rattle.lit_order.proofs.ForcingLemmas.{Forbids-at}
use Rattle.lit_order.proofs.constraints.allows.Goals as goal

pub returns-then-not-pair_allows : goal.returns-then-not-pair_allows
returns-then-not-pair_allows c =
    let i = c.loop-pair.pair-index in
    let p : Pair = get_or c.pairs-pair-items.result.now i no_pair in
    let here = slice_get-get_or c.pairs-pair-items.result.now i no_pair c.loop-pair-test.true in
    let listed : slice_get c.args.between.now.pairs i ≡ Some p = rw (← c.pairs-pair-items.ensures.value) here in (
      (λ h. absurd (false≢true h)),
      (λ whole. c.if-not-pair_allows.ensures.1 (λ marked placed.
          whole _ _ (Forbids-at c.args.between.now c.pairs-pair-items.ensures.once i p listed c.args.event c.requires marked) placed)),
    )

pub loop-pair-preserved : goal.loop-pair-preserved
loop-pair-preserved c =
    EachBelow-more {X = Pair} (λ p. HasEvent p.others c.args.event → HasEvent c.args.placed p.source → (p.read ≡ c.args.event) ⊎ HasEvent c.args.placed p.read)
    c.pairs-pair-items.result.now c.loop-pair.pair-index no_pair c.loop-pair-test.true c.loop-pair.invariant (c.if-not-pair_allows.ensures.0 refl)

pub returns : goal.returns
returns c = (
  (λ _ w r f placed.
      let listed : slice_get c.pairs-pair-items.result.now f.place ≡ Some f.pair = rw c.pairs-pair-items.ensures.value f.at_place in
      let within = slice_get_within c.pairs-pair-items.result.now f.place f.pair listed in
      rw f.is_pair.read at (c.loop-pair.invariant f.place f.pair (omega (arith, within)) listed f.marked (rw f.is_pair.source placed))),
  (λ _. refl),
)
