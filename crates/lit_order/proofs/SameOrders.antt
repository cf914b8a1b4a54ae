-- Orders of relations and triples that hold of the same events.
use Rattle.std.proofs.Common.{◌≡◌, ◌↔◌, ℕ, List, [], refl, sym, subst}
use Rattle.lit_rel.proofs.ChainLemmas.{Chain-within}
use Rattle.lit_order.specs.Forcing.{HasChain}
use Rattle.lit_order.specs.MemoryOrder.{StandsBefore, IsListOfAll, HaveSameOrders, IsOrderOf, IsLeastOrderOf}
use Rattle.lit_order.proofs.StandingLemmas.{StandsBefore-through}

-- facts that follow from each other, in two steps
pub both : {A B C : Type 0} → A ↔ B → B ↔ C → A ↔ C
both p q = ((λ a. q.0 (p.0 a)), (λ c. p.1 (q.1 c)))

pub IsOrderOf-same : (n m : ℕ) (before other : ℕ → ℕ → Type 0) (forbidden refused : ℕ → ℕ → ℕ → Type 0) → n ≡ m → ((a d : ℕ) → other a d → before a d) → ((w r v : ℕ) → refused w r v → forbidden w r v) → (order : List ℕ) → IsOrderOf n before forbidden order → IsOrderOf m other refused order
IsOrderOf-same n m before other forbidden refused len pairs triples order o =
    record {
      complete = subst (λ (x : ℕ). IsListOfAll x order) len o.complete;
      keeps = λ a d h. o.keeps a d (pairs a d h);
      avoids = λ w r v h. o.avoids w r v (triples w r v h);
    }

module _ (n m : ℕ) (before other : ℕ → ℕ → Type 0) (forbidden refused : ℕ → ℕ → ℕ → Type 0) (len : n ≡ m) (pairs : (a d : ℕ) → before a d ↔ other a d) (triples : (w r v : ℕ) → forbidden w r v ↔ refused w r v) where
  pub order_back : (order : List ℕ) → IsOrderOf m other refused order → IsOrderOf n before forbidden order
  order_back order o = IsOrderOf-same m n other before refused forbidden (sym len) (λ a d. (pairs a d).0) (λ w r v. (triples w r v).0) order o

  pub IsLeastOrderOf-same : (order : List ℕ) → IsLeastOrderOf n before forbidden order → IsLeastOrderOf m other refused order
  IsLeastOrderOf-same order l =
      record {
        is_order = IsOrderOf-same n m before other forbidden refused len (λ a d. (pairs a d).1) (λ w r v. (triples w r v).1) order l.is_order;
        least = λ list o. l.least list (order_back list o);
      }

-- an order that respects pairs respects their chains
module _ (n : ℕ) (before : ℕ → ℕ → Type 0) (forbidden : ℕ → ℕ → ℕ → Type 0) where
  pub HaveSameOrders-chains : HaveSameOrders n before (HasChain before) forbidden
  HaveSameOrders-chains order = (
    (λ o. record { complete = o.complete; keeps = λ a d h. Chain-within before (StandsBefore order) o.keeps (StandsBefore-through order o.complete.once) a h.0 d h.1; avoids = o.avoids }),
    (λ o. IsOrderOf-same n n (HasChain before) before forbidden forbidden refl (λ a d h. ([], h)) (λ w r v h. h) order o),
  )
