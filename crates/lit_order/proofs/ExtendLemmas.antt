-- Orders of a relation with one more pair.
use Rattle.std.proofs.Common.{◌≡◌, ◌≢◌, ◌⊎◌, ◌↔◌, ℕ, ◌<◌, List, [], refl, subst, inl, inr, arith}
use Rattle.lit_rel.specs.declared.rows.Rows.{Rows}
use Rattle.lit_rel.specs.Rows.{Holds, rows_len, IsTransitive, WithPair}
use Rattle.lit_rel.proofs.ChainLemmas.{Chain-within, HasChain-joined}
use Rattle.lit_rel.proofs.RowLemmas.{WithPair-within}
use Rattle.lit_order.specs.Internal.Deciding.{AreDecided, IsUndecided}
use Rattle.lit_order.specs.Forced.{AndPair}
use Rattle.lit_order.specs.Forcing.{HasChain, IsForced, Given, Through, HasForcedCycle}
use Rattle.lit_order.specs.MemoryOrder.{StandsBefore, IsOrderOf}
use Rattle.lit_order.proofs.ForcedLemmas.{AreTriplesBelow, respects_forced, stands_before_source}
use Rattle.lit_order.proofs.LinearLemmas.{IsStrict}
use Rattle.lit_order.proofs.RestrictionLemmas.{IsOrderOf-fewer}
use Rattle.lit_order.proofs.RowsLemmas.{holds_or_not}
use Rattle.lit_order.proofs.StandingLemmas.{StandsBefore-through, never_before_itself, either_before}

-- there is no order where an event is forced before itself
pub no_order-from_cycle : (n : ℕ) (before : ℕ → ℕ → Type 0) (forbidden : ℕ → ℕ → ℕ → Type 0) → AreTriplesBelow n forbidden → HasForcedCycle before forbidden → (order : List ℕ) → ¬ IsOrderOf n before forbidden order
no_order-from_cycle n before forbidden triples cycle order o =
    never_before_itself order o.complete.once cycle.0 (respects_forced n before forbidden triples order o cycle.0 cycle.0 cycle.1)

module _ (n : ℕ) (before : ℕ → ℕ → Type 0) (forbidden : ℕ → ℕ → ℕ → Type 0) (triples : AreTriplesBelow n forbidden) (forced : ℕ → ℕ → Type 0) (pairs : (a d : ℕ) → forced a d ↔ IsForced before forbidden a d) where
  pub order_of_forced : (order : List ℕ) → IsOrderOf n before forbidden order → IsOrderOf n forced forbidden order
  order_of_forced order o = record { complete = o.complete; keeps = λ a d h. respects_forced n before forbidden triples order o a d ((pairs a d).0 h); avoids = o.avoids }

  pub order_from_forced : (order : List ℕ) → IsOrderOf n forced forbidden order → IsOrderOf n before forbidden order
  order_from_forced order o = IsOrderOf-fewer n forced before forbidden (λ a d h. (pairs a d).1 (Given h)) order o

  pub forced_transitive : IsTransitive forced
  forced_transitive x y z p q = (pairs x z).1 (Through y ((pairs x y).0 p) ((pairs y z).0 q))

-- an order has what leads through a pair that it has
module _ (n : ℕ) (before more : ℕ → ℕ → Type 0) (forbidden : ℕ → ℕ → ℕ → Type 0) (a d : ℕ) (with_pair : (x y : ℕ) → more x y ↔ WithPair before a d x y) (order : List ℕ) where
  pub order_with : IsOrderOf n before forbidden order → StandsBefore order a d → IsOrderOf n more forbidden order
  order_with o here = record { complete = o.complete; keeps = λ x y h. keeps x y ((with_pair x y).0 h); avoids = o.avoids }
    where
      keeps : (x y : ℕ) → WithPair before a d x y → StandsBefore order x y
      keeps = WithPair-within before (StandsBefore order) a d (StandsBefore-through order o.complete.once) o.keeps here

-- in each order one side of a triple holds
pub one_side : (n : ℕ) (before : ℕ → ℕ → Type 0) (forbidden : ℕ → ℕ → ℕ → Type 0) → AreTriplesBelow n forbidden → (order : List ℕ) → IsOrderOf n before forbidden order → (w r v : ℕ) → forbidden w r v → v ≢ w → v ≢ r → StandsBefore order r v ⊎ StandsBefore order v w
one_side n before forbidden triples order o w r v f not_source not_read =
    elim (either_before n order o.complete v r (triples.other w r v f) (triples.read w r v f) not_read) [
      | inl earlier ↦ inr (stands_before_source n before forbidden triples order o w r v f not_source earlier)
      | inr after ↦ inl after
    ]

-- what leads through a pair is what chains of it lead to
module _ (before more : ℕ → ℕ → Type 0) (a d : ℕ) (with_pair : (x y : ℕ) → more x y ↔ WithPair before a d x y) (transitive : IsTransitive more) where
  one : (x y : ℕ) → AndPair before a d x y → more x y
  one x y (inl old) = (with_pair x y).1 (inl old)
  one x y (inr same) = (with_pair x y).1 (inr (inr same.0, inr same.1))

  pub more_is_chain : (x y : ℕ) → more x y ↔ HasChain (AndPair before a d) x y
  more_is_chain x y = (
    (λ h. WithPair-within before (HasChain (AndPair before a d)) a d (HasChain-joined (AndPair before a d)) (λ e m old. ([], inl old)) ([], inr (refl, refl)) x y ((with_pair x y).0 h)),
    (λ chain. Chain-within (AndPair before a d) more one transitive x chain.0 y chain.1),
  )

-- pairs between which rows decide, or not
pub IsDecided-from_not : (rows : Rows) (forbidden : ℕ → ℕ → ℕ → Type 0) → ((w r v : ℕ) → forbidden w r v → ¬ IsUndecided (Holds rows) w r v) → AreDecided (Holds rows) forbidden
IsDecided-from_not rows forbidden none w r v f not_source not_read =
    let undecided = none w r v f in
    elim (holds_or_not rows r v) [
      | inl after ↦ inl after
      | inr not_after ↦ elim (holds_or_not rows v w) [ inl earlier ↦ inr earlier | inr not_earlier ↦ absurd (undecided (grind arith)) ]
    ]

-- transitive rows without a cycle are strict
pub IsStrict-rows : (n : ℕ) (rows : Rows) → rows_len rows ≡ n → IsTransitive (Holds rows) → ((e : ℕ) → ¬ Holds rows e e) → IsStrict n (Holds rows)
IsStrict-rows n rows len transitive no_cycle = record {
  known = λ a d h. subst (λ (m : ℕ). a < m) len h.first_known;
  known_after = λ a d h. subst (λ (m : ℕ). d < m) len h.second_known;
  cases = holds_or_not rows;
  through = transitive;
  no_cycle = no_cycle;
}
