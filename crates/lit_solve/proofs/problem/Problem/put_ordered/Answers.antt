use Rattle.lit_solve.proofs.Words.{box_of, byte_read_at, events_on, IsOrderedIn, split_less, subst, sym, ℕ, ◌≡◌}
use Rattle.lit_solve.proofs.DisjunctionLemmas.{ordered_before, ordered_with}
use Rattle.lit_solve.proofs.PruningLemmas.{read_here}
use Rattle.lit_solve.proofs.RacingLemmas.{read_number}
use Rattle.lit_solve.proofs.problem.Problem.put_ordered.Goals as goal

pub loop-event-init : goal.loop-event-init
loop-event-init c =
    let box = box_of c.args.self.now c.args.frame.now in
    let read = byte_read_at (events_on c.args.self.now) c.args.place in record {
      sound = c.requires.sound;
      known = λ e h. c.before_each-left.ensures.known e h;
      left = λ e h. ordered_before box c.args.place read.0 read.1 (read_here (events_on c.args.self.now) c.args.place c.requires.place)
          c.args.ordered.now.rows c.requires.sound e
          (λ w there. c.before_each-left.ensures.before e w h there);
    }

pub loop-event-smaller : goal.loop-event-smaller
loop-event-smaller c = split_less c.loop-event.left c.in-Some.event c.in-Some.others c.in-Some.ensures

pub loop-event-preserved : goal.loop-event-preserved
loop-event-preserved c =
    let box = box_of c.args.self.now c.args.frame.now in
    let is_read : c.from-read.result ≡ (byte_read_at (events_on c.args.self.now) c.args.place).0 =
    read_number (events_on c.args.self.now) c.args.place c.byte_read.result c.from-read.result c.from-read.ensures c.byte_read.ensures.at in
    let pair : IsOrderedIn box c.in-Some.event c.from-read.result =
    subst (λ (r : ℕ). IsOrderedIn box c.in-Some.event r) (sym is_read) (c.loop-event.invariant.left c.in-Some.event c.in-Some.ensures.there) in record {
      sound = ordered_with box c.loop-event.ordered.rows c.close_with.new.self.rows c.in-Some.event c.from-read.result c.loop-event.invariant.sound
          pair c.close_with.ensures.len c.close_with.ensures.pairs;
      known = λ e h. c.loop-event.invariant.known e ((c.in-Some.ensures.rest e).0 h).0;
      left = λ e h. c.loop-event.invariant.left e ((c.in-Some.ensures.rest e).0 h).0;
    }
