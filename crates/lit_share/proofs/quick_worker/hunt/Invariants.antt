use Rattle.std.proofs.Common.{◌-◌}
use Rattle.std.specs.Prelude.{All}
use Rattle.lit_desk.specs.Desk.{IsPlaceOf, draws_of}
use Rattle.lit_valid.specs.declared.class.Class.{Class}
use Rattle.lit_share.specs.Drawn.{drawn_since, DrewOn}
use Rattle.lit_share.specs.Hunted.{IsHunted, HasTold}
use Rattle.lit_share.proofs.Rising.{above}
use Rattle.lit_share.proofs.quick_worker.hunt.Given as goal

abbrev pub invariant-loop-number : goal.invariant-loop-number
invariant-loop-number g l = record {
  own : IsPlaceOf l.desk l.place;
  drew : DrewOn l.fn.place l.place;
  told : (class : Class) → HasTold l.plan class l.fn.place l.place;
  hunted : (class : Class) → All (IsHunted l.plan l.cut class l.place) (drawn_since l.fn.place l.place);
}

abbrev pub decreases-loop-number : goal.decreases-loop-number
decreases-loop-number g l = l.desk.pieces - above (draws_of l.place)
