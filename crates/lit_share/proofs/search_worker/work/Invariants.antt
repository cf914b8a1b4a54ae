use Rattle.std.proofs.Common.{◌≡◌, ◌≤◌, ◌*◌, ◌-◌, length}
use Rattle.lit_desk.specs.Desk.{IsPlaceOf, draws_of}
use Rattle.lit_paths.specs.Choice.{choices_of}
use Rattle.lit_search.specs.Collected.{HasTaken}
use Rattle.lit_share.specs.Pieces.{in_pieces}
use Rattle.lit_share.specs.Drawn.{drawn_since, DrewOn, OnlyDrew}
use Rattle.lit_share.proofs.Rising.{above}
use Rattle.lit_share.proofs.search_worker.work.Given as goal

abbrev pub invariant-loop-number : goal.invariant-loop-number
invariant-loop-number g l = record {
  own : IsPlaceOf l.desk l.place;
  drew : DrewOn l.fn.place l.place;
  only : OnlyDrew l.fn.place l.place;
  test : l.collector.test ≡ l.plan;
  taken : HasTaken (in_pieces (length (choices_of l.plan)) l.cut (drawn_since l.fn.place l.place)) l.collector;
  follows : l.collector.end ≤ above (draws_of l.place) * l.cut;
}

abbrev pub decreases-loop-number : goal.decreases-loop-number
decreases-loop-number g l = l.desk.pieces - above (draws_of l.place)
