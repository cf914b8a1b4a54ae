use Rattle.lit_search.proofs.Words.{joined_entries, length, slice_get, ◌≡◌}
use Rattle.lit_search.proofs.found.ranking.find.Given as goal

abbrev pub invariant-loop-part : goal.invariant-loop-part
invariant-loop-part l = slice_get (joined_entries l.rest) l.left ≡ slice_get (joined_entries l.parts) l.place

abbrev pub decreases-loop-part : goal.decreases-loop-part
decreases-loop-part l = length l.rest
