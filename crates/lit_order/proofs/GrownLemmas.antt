-- The orders of the forced relation.
use Rattle.std.proofs.Common.{◌≡◌, ◌↔◌, ℕ, List, Option, None, Some, sym, subst}
use Rattle.std.specs.Prelude.{IfNone}
use Rattle.lit_order.specs.Forcing.{IsForced}
use Rattle.lit_order.specs.MemoryOrder.{IsLeastOrderOf, IsOrderOf}
use Rattle.lit_order.proofs.ExtendLemmas.{order_from_forced, order_of_forced}
use Rattle.lit_order.proofs.ForcedLemmas.{AreTriplesBelow}

-- what is said of a value, or where there is none
pub IfNone-to : {X : Type 0} {P Q : Type 0} (o : Option X) → (P → Q) → IfNone o P → IfNone o Q
IfNone-to None to h = to h
IfNone-to (Some x) to h = h

-- the orders of rows that have what is forced are those of what was given
module _ (n m : ℕ) (before rows : ℕ → ℕ → Type 0) (forbidden refused : ℕ → ℕ → ℕ → Type 0) (len : m ≡ n) (pairs : (a d : ℕ) → rows a d ↔ IsForced before forbidden a d) (triples : (w r v : ℕ) → refused w r v ↔ forbidden w r v) (below : AreTriplesBelow n forbidden) where
  of_forced : (order : List ℕ) → IsOrderOf n before forbidden order → IsOrderOf m rows refused order
  of_forced order o =
      let forced = order_of_forced n before forbidden below rows pairs order o in
      subst (λ (k : ℕ). IsOrderOf k rows refused order) (sym len) record { complete = forced.complete; keeps = forced.keeps; avoids = λ w r v f. forced.avoids w r v ((triples w r v).0 f) }

  from_forced : (order : List ℕ) → IsOrderOf m rows refused order → IsOrderOf n before forbidden order
  from_forced order o =
      let at_n : IsOrderOf n rows refused order = subst (λ (k : ℕ). IsOrderOf k rows refused order) len o in
      order_from_forced n before forbidden below rows pairs order record { complete = at_n.complete; keeps = at_n.keeps; avoids = λ w r v f. at_n.avoids w r v ((triples w r v).1 f) }

  pub least_of_forced : (order : List ℕ) → IsLeastOrderOf m rows refused order → IsLeastOrderOf n before forbidden order
  least_of_forced order l = record { is_order = from_forced order l.is_order; least = λ other o. l.least other (of_forced other o) }

  pub none_of_forced : ((order : List ℕ) → ¬ IsOrderOf m rows refused order) → (order : List ℕ) → ¬ IsOrderOf n before forbidden order
  none_of_forced none order o = none order (of_forced order o)
