use Rattle.std.proofs.Common.{◌≡◌, ℕ, ◌<◌, Some, get_or, arith}
use Rattle.std.proofs.lemmas.Option.{slice_get-get_or, slice_get_within}
use Rattle.std.specs.List.{slice_get}
use Rattle.lit_rel.specs.declared.between.Pair.{Pair}
use Rattle.lit_rel.specs.Rows.{rows_len, Holds}
use Rattle.lit_rel.proofs.EachLemmas.{EachBelow-more}
use Rattle.lit_rel.proofs.TripleLemmas.{no_pair}
use Rattle.lit_order.specs.Internal.Deciding.{HasForced, IsForcedByPair, IsOtherOf}
use Rattle.lit_order.proofs.ForcingLemmas.{Forbids-at}
use Rattle.lit_order.proofs.triple.next_forced.Goals as goal

pub loop-pair-preserved : goal.loop-pair-preserved
loop-pair-preserved c =
    let rows = c.args.rows.now.rows in
    EachBelow-more {X = Pair} (λ p. (v : ℕ) → IsOtherOf (rows_len rows) p v → HasForced (Holds rows) p.source p.read v) c.pairs-pair-items.result.now
    c.loop-pair.pair-index no_pair c.loop-pair-test.true c.loop-pair.invariant c.in_default.ensures

pub returns-in-Some : goal.returns-in-Some
returns-in-Some c =
    let i = c.loop-pair.pair-index in
    let p : Pair = get_or c.pairs-pair-items.result.now i no_pair in
    let here = slice_get-get_or c.pairs-pair-items.result.now i no_pair c.loop-pair-test.true in
    let listed : slice_get c.args.between.now.pairs i ≡ Some p = rw (← c.pairs-pair-items.ensures.value) here in
    let f : IsForcedByPair _ _ _ _ _ = c.in-Some.ensures in
    let known : f.other < c.args.between.now.len = rw (← c.requires) f.is_other.known in
    record {
      source = _;
      read = _;
      other = f.other;
      refused = Forbids-at c.args.between.now c.pairs-pair-items.ensures.once i p listed f.other known f.is_other.marked;
      forces = f.forces;
    }

pub returns : goal.returns
returns c w r v f =
    let listed : slice_get c.pairs-pair-items.result.now f.place ≡ Some f.pair = rw c.pairs-pair-items.ensures.value f.at_place in
    let within = slice_get_within c.pairs-pair-items.result.now f.place f.pair listed in
    let known : v < rows_len c.args.rows.now.rows = rw c.requires f.other_known in
    rw (← f.is_pair.source, ← f.is_pair.read) (c.loop-pair.invariant f.place f.pair (omega (arith, within)) listed v (record { known = known; marked = f.marked }))
