use Rattle.std.proofs.Common.{◌≡◌, ℕ, Bool, List, [], ◌∷◌, ◌++◌, length, Ok, sym, ap, subst, ◌∙◌, arith, length-append}
use Rattle.std.specs.Prelude.{All}
use Rattle.std.proofs.lemmas.Grind.{flat_map-append}
use Rattle.std.proofs.lemmas.List.{append-nil}
use Rattle.std.proofs.lemmas.List.Elements.{All-nil, All-push, All-pop}
use Rattle.lit_desk.specs.Desk.{PlaceLists, IsPlaceOf, IsDone, all_draws, draws_of}
use Rattle.lit_syntax.specs.Syntax.{Litmus}
use Rattle.lit_paths.specs.Choice.{choices_of}
use Rattle.lit_search.specs.Report.{Report, IsReport, in_none}
use Rattle.lit_share.specs.Pieces.{in_pieces}
use Rattle.lit_share.specs.Internal.Workers.{HasSearched, IsSearched}
use Rattle.lit_share.proofs.Cutting.{pieces_joined}
use Rattle.lit_share.proofs.Ending.{searched_ended}
use Rattle.lit_share.proofs.full_search.merged.Goals as goal

pub loop-worker-init : goal.loop-worker-init
loop-worker-init g c =
    let t = c.args.plan.now in
    let empty : c.in_ok-places.places.items ≡ [] = c.in_ok-places.ensures.items in
    let reported : IsReport t in_none c.in_ok-found.found = subst (λ (r : Report). IsReport t in_none r) (sym c.in_ok-found.ensures) (subst (λ (u : Litmus). IsReport u in_none c.new.result.report) c.new.ensures.test c.new.ensures.taken.reported) in record {
      left = c.requires.ended;
      own = subst (λ (ps : List PlaceLists). All (IsPlaceOf c.args._desk.now) ps) (sym empty) (All-nil (IsPlaceOf c.args._desk.now));
      done = subst (λ (ps : List PlaceLists). All IsDone ps) (sym empty) (All-nil IsDone);
      count = omega (arith, ap length empty);
      reported = subst (λ (ps : List PlaceLists). IsReport t (in_pieces (length (choices_of t)) c.args._cut (all_draws ps)) c.in_ok-found.found) (sym empty) reported;
    }

pub unreachable-requires : goal.unreachable-requires
unreachable-requires g c =
    let popped = All-pop (HasSearched c.args.plan.now c.args._cut c.args._desk.now) c.loop-worker.workers.items c.pop.new.self.items c.pop.result c.pop.ensures.items c.loop-worker.invariant.left in
    searched_ended c.args.plan.now c.args._cut c.args._desk.now c.in-Some.worker (rw c.in-Some.is at popped.1) c.in_default-worker.not-Ended

pub loop-worker-preserved : goal.loop-worker-preserved
loop-worker-preserved g c =
    let t = c.args.plan.now in
    let total = length (choices_of t) in
    let inv = c.loop-worker.invariant in
    let place = c.in-Ended.place in
    let places = c.loop-worker.places.items in
    let popped = All-pop (HasSearched t c.args._cut c.args._desk.now) c.loop-worker.workers.items c.pop.new.self.items c.pop.result c.pop.ensures.items inv.left in
    let last : HasSearched t c.args._cut c.args._desk.now c.in-Some.worker = rw c.in-Some.is at popped.1 in
    let ended : IsSearched t c.args._cut c.args._desk.now place c.in-Ended.answer = rw c.in-Ended.is at last in
    let answer : IsSearched t c.args._cut c.args._desk.now place (Ok c.in_ok-answer.field-0) = rw c.in_ok-answer.was at ended in
    let joined : all_draws (places ++ place ∷ []) ≡ all_draws places ++ draws_of place = flat_map-append draws_of places (place ∷ []) ∙ ap (λ (l : List ℕ). all_draws places ++ l) (append-nil (draws_of place)) in
    let known = subst (λ (r : Report). IsReport t (in_pieces total c.args._cut (all_draws places)) r) (sym c.found.view_is) inv.reported in
    let both = c.in_ok-found-2.ensures.reported t (in_pieces total c.args._cut (all_draws places)) (in_pieces total c.args._cut (draws_of place)) known answer.reported in
    let all : IsReport t (in_pieces total c.args._cut (all_draws (places ++ place ∷ []))) c.in_ok-found-2.found =
    subst (λ (l : List ℕ). IsReport t (in_pieces total c.args._cut l) c.in_ok-found-2.found) (sym joined)
    (subst (λ (numbers : ℕ → Bool). IsReport t numbers c.in_ok-found-2.found) (pieces_joined total c.args._cut (all_draws places) (draws_of place)) both) in
    let items = c.in_ok-push.ensures.items in record {
      left = popped.0;
      own = subst (λ (ps : List PlaceLists). All (IsPlaceOf c.args._desk.now) ps) (sym items) (All-push (IsPlaceOf c.args._desk.now) places place inv.own answer.own);
      done = subst (λ (ps : List PlaceLists). All IsDone ps) (sym items) (All-push IsDone places place inv.done answer.done);
      count = omega (arith, ap length items, length-append places (place ∷ []), ap length c.in-Some.ensures.items, length-append c.pop.new.self.items (c.in-Some.worker ∷ []), inv.count);
      reported = subst (λ (ps : List PlaceLists). IsReport t (in_pieces total c.args._cut (all_draws ps)) c.in_ok-found-2.found) (sym items) all;
    }
