use Rattle.std.proofs.Common.{◌≡◌, rules}
use Rattle.lit_desk.specs.Desk.{new_place}
use Rattle.lit_share.proofs.Places.{hunted_out}
use Rattle.lit_share.proofs.quick_search.hunt_one.Goals as goal

pub returns-in-Ready : goal.returns-in-Ready
returns-in-Ready g c =
    let fresh : c.in-Ready.place ≡ new_place c.args.desk.now = search rules in
    let hunted = c.hunt-place.ensures in
    hunted_out c.args.plan.now c.args.cut.now c.args.desk.now c.in-Ready.place c.hunt-place.result fresh hunted.own hunted.done hunted.told hunted.hunted
