use Rattle.std.proofs.Common.{◌≡◌, List, [], ◌∷◌, length, sym, ap, subst, arith, length-append}
use Rattle.std.specs.Prelude.{All}
use Rattle.std.proofs.lemmas.List.Elements.{All-nil, All-push, All-pop}
use Rattle.lit_desk.specs.Desk.{PlaceLists}
use Rattle.lit_share.specs.Internal.Workers.{HasHunted, IsHuntedOut}
use Rattle.lit_share.proofs.Ending.{hunted_ended}
use Rattle.lit_share.proofs.quick_search.places_of.Goals as goal

pub loop-worker-init : goal.loop-worker-init
loop-worker-init g c =
    let empty : c.in_ok-places.places.items ≡ [] = c.in_ok-places.ensures.items in
    let P = IsHuntedOut c.args._plan.now c.args._cut c.args._desk.now in record {
      left = c.requires.ended;
      places = subst (λ (ps : List PlaceLists). All P ps) (sym empty) (All-nil P);
      count = omega (arith, ap length empty);
    }

pub unreachable-requires : goal.unreachable-requires
unreachable-requires g c =
    let popped = All-pop (HasHunted c.args._plan.now c.args._cut c.args._desk.now) c.loop-worker.workers.items c.pop.new.self.items c.pop.result c.pop.ensures.items c.loop-worker.invariant.left in
    hunted_ended c.args._plan.now c.args._cut c.args._desk.now c.in-Some.worker (rw c.in-Some.is at popped.1) c.in_default-worker.not-Ended

pub loop-worker-preserved : goal.loop-worker-preserved
loop-worker-preserved g c =
    let inv = c.loop-worker.invariant in
    let place = c.in-Ended.place in
    let places = c.loop-worker.places.items in
    let P = IsHuntedOut c.args._plan.now c.args._cut c.args._desk.now in
    let popped = All-pop (HasHunted c.args._plan.now c.args._cut c.args._desk.now) c.loop-worker.workers.items c.pop.new.self.items c.pop.result c.pop.ensures.items inv.left in
    let last : HasHunted c.args._plan.now c.args._cut c.args._desk.now c.in-Some.worker = rw c.in-Some.is at popped.1 in
    let ended : P place = rw c.in-Ended.is at last in
    let items = c.in_ok-push.ensures.items in record {
      left = popped.0;
      places = subst (λ (ps : List PlaceLists). All P ps) (sym items) (All-push P places place inv.places ended);
      count = omega (arith, ap length items, length-append places (place ∷ []), ap length c.in-Some.ensures.items, length-append c.pop.new.self.items (c.in-Some.worker ∷ []), inv.count);
    }
