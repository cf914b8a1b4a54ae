use Rattle.std.proofs.Common.{◌≡◌, false, take}
use Rattle.lit_why.specs.Asked.{is_tested_by}
use Rattle.lit_why.proofs.asking.guards_ask.Given as goal

abbrev pub invariant-loop-guard : goal.invariant-loop-guard
invariant-loop-guard l = is_tested_by (take l.guard-index l.guards) l.first l.read ≡ false
