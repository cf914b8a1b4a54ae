use Rattle.std.proofs.Common.{◌≡◌, ℕ, length, sym, ap, subst, ◌∙◌, arith}
use Rattle.std.specs.Prelude.{All}
use Rattle.lit_desk.specs.Desk.{new_place}
use Rattle.lit_desk.specs.declared.class.Class2.TheVariants as of_desk
use Rattle.lit_valid.specs.declared.class.Class.TheVariants.{Met, Unmet}
use Rattle.lit_share.specs.Internal.Workers.{HasHunted, IsReady}
use Rattle.lit_share.specs.Pieces.{pieces_of}
use Rattle.lit_share.proofs.Firsts.{first_told}
use Rattle.lit_share.proofs.Staffed.{all_copies, all_over, length_over}
use Rattle.lit_share.proofs.quick_search.quick.Goals as goal

pub answer_of-requires-clause-first : goal.answer_of-requires-clause-first
answer_of-requires-clause-first g c =
    let places = c.in_ok-places.places.items in
    let closed = c.close-totals.ensures in
    let known = c.in_ok-desk.ensures.desk.0 ∙ c.div_ceil.ensures ∙ ap (λ (k : ℕ). pieces_of k c.args.cut) c.total.ensures.value in
    first_told c.args.plan.now c.args.cut c.in_ok-desk.desk Met places c.close-totals.result.drawn c.close-totals.result.met c.requires.cut.0 c.in_ok-places.ensures.some
    c.in_ok-places.ensures.hunted (λ any. closed.pieces any ∙ known) closed.drawn (closed.seen of_desk.Met) closed.met

pub answer_of-requires-2-clause-first : goal.answer_of-requires-2-clause-first
answer_of-requires-2-clause-first g c =
    let places = c.in_ok-places.places.items in
    let closed = c.close-totals.ensures in
    let known = c.in_ok-desk.ensures.desk.0 ∙ c.div_ceil.ensures ∙ ap (λ (k : ℕ). pieces_of k c.args.cut) c.total.ensures.value in
    first_told c.args.plan.now c.args.cut c.in_ok-desk.desk Unmet places c.close-totals.result.drawn c.close-totals.result.unmet c.requires.cut.0 c.in_ok-places.ensures.some
    c.in_ok-places.ensures.hunted (λ any. closed.pieces any ∙ known) closed.drawn (closed.seen of_desk.Unmet) closed.unmet

pub workers_at-requires-clause-new : goal.workers_at-requires-clause-new
workers_at-requires-clause-new g c = all_copies c.len.result (new_place c.in_ok-desk.desk) c.in_ok-desk.places.items
    c.in_ok-desk.ensures.new

pub workers_at-requires-clause-passes : goal.workers_at-requires-clause-passes
workers_at-requires-clause-passes g c = omega (arith, c.in_ok-desk.ensures.count, c.len.ensures, c.args.passes.ok.0)

pub hunt_all-requires-clause-cut : goal.hunt_all-requires-clause-cut
hunt_all-requires-clause-cut g c κs lives = c.requires.cut

pub hunt_all-requires-clause-pieces : goal.hunt_all-requires-clause-pieces
hunt_all-requires-clause-pieces g c κs lives =
    c.in_ok-desk.ensures.desk.0 ∙ c.div_ceil.ensures ∙ ap (λ (k : ℕ). pieces_of k c.args.cut) c.total.ensures.value

pub hunt_all-requires-clause-some : goal.hunt_all-requires-clause-some
hunt_all-requires-clause-some g c κs lives =
    omega (
      arith,
      c.deref_mut.ensures.len,
      c.in_ok-workers.workers.ok.0,
      c.in_ok-workers.ensures.count,
      c.in_ok-desk.ensures.count,
      c.len.ensures,
      c.args.passes.ok.0,
      c.requires.passes.0,
    )

pub hunt_all-requires-clause-ready : goal.hunt_all-requires-clause-ready
hunt_all-requires-clause-ready g c κs lives = subst (All (IsReady c.in_ok-desk.desk)) (sym c.deref_mut.ensures.value)
    c.in_ok-workers.ensures.ready

pub places_of-requires-clause-some : goal.places_of-requires-clause-some
places_of-requires-clause-some g c =
    let whole : c.in_ok-workers.workers.len ≡ length c.hunt_all.new.workers = omega
    (arith, c.hunt_all.auto.workers, c.deref_mut.ensures.len) in
    omega (
      arith,
      length_over c.in_ok-workers.workers.items c.hunt_all.new.workers c.in_ok-workers.workers.len whole,
      c.in_ok-workers.workers.ok.0,
      c.in_ok-workers.ensures.count,
      c.in_ok-desk.ensures.count,
      c.len.ensures,
      c.args.passes.ok.0,
      c.requires.passes.0,
    )

pub places_of-requires-clause-ended : goal.places_of-requires-clause-ended
places_of-requires-clause-ended g c =
    all_over (HasHunted c.args.plan.now c.args.cut c.in_ok-desk.desk) c.in_ok-workers.workers.items c.hunt_all.new.workers
    c.in_ok-workers.workers.len
    (omega (arith, c.hunt_all.auto.workers, c.deref_mut.ensures.len)) c.hunt_all.ensures

pub close-totals-requires : goal.close-totals-requires
close-totals-requires g c =
    let whole : c.in_ok-workers.workers.len ≡ length c.hunt_all.new.workers = omega
    (arith, c.hunt_all.auto.workers, c.deref_mut.ensures.len) in record {
      own = λ i d lt. (c.in_ok-places.ensures.hunted i d lt).own;
      all = omega (
        arith,
        c.in_ok-places.ensures.count,
        length_over c.in_ok-workers.workers.items c.hunt_all.new.workers c.in_ok-workers.workers.len whole,
        c.in_ok-workers.workers.ok.0,
        c.in_ok-workers.ensures.count,
        c.in_ok-desk.ensures.count,
        c.in_ok-desk.ensures.desk.1,
      );
    }
