-- happens-before (ECMA-262, 2024, 29.6.6).
use Rattle.std.specs.Prelude.{◌≡◌, ◌≢◌, ◌⊎◌, ℕ, ◌<◌, List, [], ◌∷◌, length}
use Rattle.lit_paths.specs.declared.event.Order3.TheVariants.{Init}
use Rattle.lit_paths.specs.declared.event.Event.{Event}
use Rattle.lit_paths.specs.Event.{SharesByte, event_at}
use Rattle.lit_rel.specs.AgentOrder.{IsAgentOrdered}
use Rattle.lit_rel.specs.ReadsFrom.{ReadsByteFrom}
use Rattle.lit_rel.specs.SynchronizesWith.{SynchronizesBy}

-- e makes a byte of the block, and d is another event with that byte in its range (equal ranges too: this project's own)
pub record IsMadeBefore (events : List Event) (e d : ℕ) : Type 0 where
  pub first_known : e < length events
  pub second_known : d < length events
  pub makes : (event_at events e).order ≡ Init
  pub other : e ≢ d
  pub shares : SharesByte (event_at events e) (event_at events d)

-- one step of happens-before, by what is given
abbrev pub StepBy : List Event → (ℕ → ℕ → ℕ → Type 0) → ℕ → ℕ → Type 0
StepBy events given e d = IsAgentOrdered events e d ⊎ SynchronizesBy events given e d ⊎ IsMadeBefore events e d

-- steps from e to d, by way of these
abbrev pub Chain : (ℕ → ℕ → Type 0) → ℕ → List ℕ → ℕ → Type 0
Chain step e [] d = step e d
Chain step e (m ∷ middles) d = step e m × Chain step m middles d

-- there is a chain of at least one step from e to d
pub record HappensBeforeBy (events : List Event) (given : ℕ → ℕ → ℕ → Type 0) (e d : ℕ) : Type 0 where
  pub middles : List ℕ
  pub chain : Chain (StepBy events given) e middles d

-- by these sources
abbrev pub HappensBefore : List Event → List ℕ → ℕ → ℕ → Type 0
HappensBefore events sources = HappensBeforeBy events (ReadsByteFrom events sources)
