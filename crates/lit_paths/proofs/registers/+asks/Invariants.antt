use Rattle.std.proofs.Common.{◌≡◌, drop}
use Rattle.std.specs.List.{list_any}
use Rattle.lit_syntax.specs.Litmus.{condition_of}
use Rattle.lit_paths.specs.Outcome.{asks}
use Rattle.lit_paths.proofs.registers.+asks.Given as goal

abbrev pub invariant-members : goal.invariant-members
invariant-members l =
    asks (condition_of l.condition) l.agent l.register ≡ list_any (λ c. asks (condition_of c) l.agent l.register) (drop l.member-index l.member-items)
