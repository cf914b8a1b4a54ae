use Rattle.std.proofs.Common.{◌≡◌, false, take}
use Rattle.std.specs.List.{list_any}
use Rattle.lit_why.specs.Asked.{is_named_as}
use Rattle.lit_why.proofs.asking.condition_asks.Given as goal

abbrev pub invariant-loop-name : goal.invariant-loop-name
invariant-loop-name l = list_any (is_named_as l.combination.0 l.combination.1 l.read) (take l.name-index l.name-items) ≡ false
