use Rattle.std.proofs.Common.{◌≡◌, ◌<◌, ℕ, false}
use Rattle.lit_why.specs.Asked.{is_tested_of}
use Rattle.lit_why.proofs.asking.paths_ask.Given as goal

abbrev pub invariant-loop-agent : goal.invariant-loop-agent
invariant-loop-agent l = (i : ℕ) → i < l.agent → is_tested_of l.combination.0 l.combination.1 l.read i ≡ false
