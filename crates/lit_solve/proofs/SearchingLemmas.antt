-- Solutions of a box and of its branches.
use Rattle.lit_solve.proofs.Words.{◌<◌, arith, Box, box_events, Branch, byte_reads, event_or_not, EventSet, Execution, get_or, Goal}
use Rattle.lit_solve.proofs.Words.{GoesWith, HasEvent, HasSolutionIn, HasSource, IsBranch, IsRestricted, IsSolution, IsSplit, IsWithin, length, same_Some}
use Rattle.lit_solve.proofs.Words.{slice_get, slice_get-get_or, Some, split_less_yet, subst, sym, TakesFrom, ℕ, ◌↔◌, ◌≡◌}
use Rattle.lit_solve.proofs.CompletionLemmas.{sourced}
use Rattle.lit_solve.proofs.PruningLemmas.{read_here}

-- a solution of a box within another is one of that
pub solution_out : (inner outer : Box) (goal : Goal) → IsWithin inner outer → (x : Execution) → IsSolution inner goal x → IsSolution outer goal x
solution_out inner outer goal within x is = grind arith

-- a solution that takes a source of the set is one of the restricted box
pub solution_in : (old new : Box) (goal : Goal) (k : ℕ) (set : EventSet) → IsRestricted old k set new → (x : Execution) → IsSolution old goal x
    → TakesFrom x k set → IsSolution new goal x
solution_in old new goal k set restricted x is takes = grind arith

-- a solution that is a completion of another box stays, where a domain is restricted to a set that has all sources of that box there
pub stays_in : (old new other : Box) (goal : Goal) (k : ℕ) (set : EventSet) → IsRestricted old k set new → HasSolutionIn old goal other
    → ((w : ℕ) → HasSource other k w → HasEvent set w) → HasSolutionIn new goal other
stays_in old new other goal k set restricted found all =
    (found.0, solution_in old new goal k set restricted found.0 found.1 (λ w at. all w (found.2.within k w at)), found.2)

-- the part of one source doesn't have all sources
module _ (box : Box) (branch : Branch) (is : IsBranch box branch) (source : ℕ) (there : HasSource box branch.place source) (part : EventSet) where
  pub not_all : ((w : ℕ) → HasEvent part w → GoesWith box branch source w) → ¬ ((w : ℕ) → HasSource box branch.place w → HasEvent part w)
  not_all goes all = grind (arith, read_here, same_Some)

-- what a solution takes
module _ (box : Box) (goal : Goal) (k : ℕ) (left part rest : EventSet) (rest_is : (w : ℕ) → HasEvent rest w ↔ (HasEvent left w × ¬ HasEvent part w)) where
  -- where no solution takes a source of the part, all that they take is in the rest
  pub left_over : ((x : Execution) → IsSolution box goal x → TakesFrom x k part → ⊥)
      → ((x : Execution) → IsSolution box goal x → (w : ℕ) → slice_get x.sources k ≡ Some w → HasEvent left w)
      → (x : Execution) → IsSolution box goal x → (w : ℕ) → slice_get x.sources k ≡ Some w → HasEvent rest w
  left_over none takes x is w source = grind (arith, event_or_not)

-- a solution takes some source
pub takes_some : (box : Box) (goal : Goal) (k : ℕ) → k < length (byte_reads (box_events box)) → (x : Execution) → IsSolution box goal x
    → (w : ℕ) × (slice_get x.sources k ≡ Some w)
takes_some box goal k inside x is =
    let here : k < length x.sources = omega (arith, (sourced box x is.completes).one_each, inside) in
    (get_or x.sources k 0, slice_get-get_or x.sources k 0 here)

-- what is left of a set without a group of which it has an event is less
pub left_less : (left : EventSet) (source : ℕ) (others group rest : EventSet) → IsSplit left source others
    → ((e : ℕ) → HasEvent rest e ↔ (HasEvent left e × ¬ HasEvent group e)) → HasEvent group source → rest.bits < left.bits
left_less left source others group rest split kept there = split_less_yet left source others rest split (λ e here.
    let old = (kept e).0 here in
    (split.rest e).1 (old.0, λ same. old.1 (subst (λ (v : ℕ). HasEvent group v) (sym same) there)))
