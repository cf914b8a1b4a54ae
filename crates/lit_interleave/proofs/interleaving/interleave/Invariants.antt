use Rattle.lit_interleave.proofs.Words.{after_each, after_end, after_turn, beginning, Moment, range_with_len, take, ◌≡◌}
use Rattle.lit_interleave.proofs.interleaving.interleave.Given as goal

abbrev pub invariant-turns : goal.invariant-turns
invariant-turns l = let m : Moment = record { block = l.block.items; agents = l.runners.items } in m ≡ after_each after_turn (beginning l.test) (take l.agent-index l.schedule)

abbrev pub invariant-ends : goal.invariant-ends
invariant-ends l =
    let m : Moment = record { block = l.block.items; agents = l.runners.items } in
    m ≡ after_each after_end (after_each after_turn (beginning l.test) l.schedule) (range_with_len 0 l.agent)
