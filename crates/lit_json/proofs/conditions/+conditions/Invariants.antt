use Rattle.std.proofs.Common.{◌≡◌, map, take}
use Rattle.serde_json.specs.View.{view}
use Rattle.lit_json.proofs.ConditionLemmas.{member_data}
use Rattle.lit_json.proofs.conditions.+conditions.Given as goal

abbrev pub invariant-members_value-loop-member : goal.invariant-members_value-loop-member
invariant-members_value-loop-member l = map view l.list.items ≡ map (member_data l.test) (take l.member-index l.members)
