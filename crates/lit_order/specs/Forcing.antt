-- The forced relation: the pairs that every order has to respect, by a relation and forbidden triples (this project's own;
-- the triples are those of ECMA-262, 2024, 29.7.4).
use Rattle.std.specs.Prelude.{◌≢◌, ℕ, List}
use Rattle.lit_rel.specs.HappensBefore.{Chain}

-- The least transitive relation that has the given one, and in which each triple (w, r, v), with v neither w nor r, puts
-- r before v where w is before v, and v before w where v is before r.
pub data IsForced (before : ℕ → ℕ → Type 0) (forbidden : ℕ → ℕ → ℕ → Type 0) : ℕ → ℕ → Type 0 where
  Given : {a d : ℕ} → before a d → IsForced before forbidden a d
  Through : {a d : ℕ} (m : ℕ) → IsForced before forbidden a m → IsForced before forbidden m d → IsForced before forbidden a d
  AfterRead : {r v : ℕ} (w : ℕ) → forbidden w r v → v ≢ w → v ≢ r → IsForced before forbidden w v → IsForced before forbidden r v
  BeforeSource : {v w : ℕ} (r : ℕ) → forbidden w r v → v ≢ w → v ≢ r → IsForced before forbidden v r → IsForced before forbidden v w

-- some event is forced before itself
abbrev pub HasForcedCycle : (ℕ → ℕ → Type 0) → (ℕ → ℕ → ℕ → Type 0) → Type 0
HasForcedCycle before forbidden = (e : ℕ) × IsForced before forbidden e e

-- a chain of pairs leads from a to d
abbrev pub HasChain : (ℕ → ℕ → Type 0) → ℕ → ℕ → Type 0
HasChain before a d = (middles : List ℕ) × Chain before a middles d

-- a chain of pairs leads from an event to itself
abbrev pub HasCycle : (ℕ → ℕ → Type 0) → Type 0
HasCycle before = (e : ℕ) × HasChain before e e
