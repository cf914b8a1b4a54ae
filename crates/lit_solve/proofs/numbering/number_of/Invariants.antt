use Rattle.lit_solve.proofs.Words.{◌+◌, choices_before, digits_below, events_in, ◌≡◌}
use Rattle.lit_solve.proofs.numbering.number_of.Given as goal

abbrev pub invariant-loop-place : goal.invariant-loop-place
invariant-loop-place l =
    l.number ≡ choices_before l.combination.0 l.combination.1 + digits_below (events_in l.combination.0 l.combination.1) l.sources l.place
