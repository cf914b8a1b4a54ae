use Rattle.std.proofs.Common.{◌≡◌, ◌<◌, ℕ, Bool, length, sym, ap, subst, ◌∙◌, arith}
use Rattle.std.specs.Prelude.{All}
use Rattle.lit_desk.specs.Desk.{IsDone, all_draws, new_place}
use Rattle.lit_paths.specs.Choice.{choices_of}
use Rattle.lit_search.specs.Report.{IsReport, in_range}
use Rattle.lit_share.specs.Internal.Workers.{HasSearched, IsReady}
use Rattle.lit_share.specs.Pieces.{in_pieces, pieces_of}
use Rattle.lit_share.proofs.Cutting.{pieces_all}
use Rattle.lit_share.proofs.Ending.{any_of_all}
use Rattle.lit_share.proofs.Staffed.{all_copies, all_over, length_over}
use Rattle.lit_share.proofs.full_search.search.Goals as goal

pub returns : goal.returns
returns g c =
    let t = c.args.plan.now in
    let total = length (choices_of t) in
    let cut = c.args.cut in
    let places = c.in_ok-places.places.items in
    let some : 0 < length places = c.in_ok-places.ensures.some in
    let known = c.in_ok-desk.ensures.desk.0 ∙ c.div_ceil.ensures ∙ ap (λ (k : ℕ). pieces_of k cut) c.total.ensures.value in
    let full = c.close.ensures.pieces (any_of_all IsDone places some c.in_ok-places.ensures.done) ∙ known in
    let same : in_pieces total cut (all_draws places) ≡ in_range 0 total = pieces_all total cut (all_draws places) c.requires.cut.0 (λ i below. (c.close.ensures.drawn i).1 (subst (λ (k : ℕ). i < k) (sym full) below)) in
    subst (λ (numbers : ℕ → Bool). IsReport t numbers c.in_ok-places.found) same c.in_ok-places.ensures.reported

pub workers_at-requires-clause-new : goal.workers_at-requires-clause-new
workers_at-requires-clause-new g c = all_copies c.len.result (new_place c.in_ok-desk.desk) c.in_ok-desk.places.items
    c.in_ok-desk.ensures.new

pub workers_at-requires-clause-passes : goal.workers_at-requires-clause-passes
workers_at-requires-clause-passes g c = omega (arith, c.in_ok-desk.ensures.count, c.len.ensures, c.args.passes.ok.0)

pub search_all-requires-clause-cut : goal.search_all-requires-clause-cut
search_all-requires-clause-cut g c κs lives = c.requires.cut

pub search_all-requires-clause-pieces : goal.search_all-requires-clause-pieces
search_all-requires-clause-pieces g c κs lives =
    c.in_ok-desk.ensures.desk.0 ∙ c.div_ceil.ensures ∙ ap (λ (k : ℕ). pieces_of k c.args.cut) c.total.ensures.value

pub search_all-requires-clause-some : goal.search_all-requires-clause-some
search_all-requires-clause-some g c κs lives =
    omega (
      arith,
      c.deref_mut.ensures.len,
      c.in_ok-workers.workers.ok.0,
      c.in_ok-workers.ensures.count,
      c.in_ok-desk.ensures.count,
      c.len.ensures,
      c.args.passes.ok.0,
      c.requires.passes.0,
    )

pub search_all-requires-clause-ready : goal.search_all-requires-clause-ready
search_all-requires-clause-ready g c κs lives = subst (All (IsReady c.in_ok-desk.desk)) (sym c.deref_mut.ensures.value)
    c.in_ok-workers.ensures.ready

pub merged-requires-clause-some : goal.merged-requires-clause-some
merged-requires-clause-some g c =
    let whole : c.in_ok-workers.workers.len ≡ length c.search_all.new.workers = omega
    (arith, c.search_all.auto.workers, c.deref_mut.ensures.len) in
    omega (
      arith,
      length_over c.in_ok-workers.workers.items c.search_all.new.workers c.in_ok-workers.workers.len whole,
      c.in_ok-workers.workers.ok.0,
      c.in_ok-workers.ensures.count,
      c.in_ok-desk.ensures.count,
      c.len.ensures,
      c.args.passes.ok.0,
      c.requires.passes.0,
    )

pub merged-requires-clause-ended : goal.merged-requires-clause-ended
merged-requires-clause-ended g c =
    all_over (HasSearched c.args.plan.now c.args.cut c.in_ok-desk.desk) c.in_ok-workers.workers.items c.search_all.new.workers
    c.in_ok-workers.workers.len
    (omega (arith, c.search_all.auto.workers, c.deref_mut.ensures.len)) c.search_all.ensures

pub close-requires : goal.close-requires
close-requires g c =
    let whole : c.in_ok-workers.workers.len ≡ length c.search_all.new.workers = omega
    (arith, c.search_all.auto.workers, c.deref_mut.ensures.len) in record {
      own = c.in_ok-places.ensures.own;
      all = omega (
        arith,
        c.in_ok-places.ensures.count,
        length_over c.in_ok-workers.workers.items c.search_all.new.workers c.in_ok-workers.workers.len whole,
        c.in_ok-workers.workers.ok.0,
        c.in_ok-workers.ensures.count,
        c.in_ok-desk.ensures.count,
        c.in_ok-desk.ensures.desk.1,
      );
    }
