use Rattle.std.proofs.Common.{◌≡◌, drop}
use Rattle.std.specs.List.{list_any, list_all, zip}
use Rattle.lit_syntax.specs.Litmus.{condition_of}
use Rattle.lit_paths.specs.Outcome.{holds}
use Rattle.lit_paths.proofs.registers.+holds.Given as goal

abbrev pub invariant-all : goal.invariant-all
invariant-all l =
    holds (zip l.names l.outcome) (condition_of l.condition) ≡ list_all (λ c. holds (zip l.names l.outcome) (condition_of c)) (drop l.member-index l.member-items)

abbrev pub invariant-any : goal.invariant-any
invariant-any l =
    holds (zip l.names l.outcome) (condition_of l.condition) ≡ list_any (λ c. holds (zip l.names l.outcome) (condition_of c)) (drop l.member-index l.member-items)
