-- The constraints on orders: precedences and forbidden triples.
use Rattle.std.specs.Prelude.{ℕ, List}
use Rattle.lit_rel.specs.Between.{Forbids}
use Rattle.lit_rel.specs.EventSet.{HasEvent}
use Rattle.lit_rel.specs.Rows.{Holds}
use Rattle.lit_rel.specs.declared.event_set.EventSet.{EventSet}
use Rattle.lit_order.specs.declared.constraints.Constraints.{Constraints}
use Rattle.lit_order.specs.Internal.Beginning.{HasNoOrder, IsLeastFrom, IsPlaced}

-- the number of events
abbrev pub constrained_len : Constraints → ℕ
constrained_len constraints = constraints.between.now.len

-- a comes before e
abbrev pub ComesBefore : Constraints → ℕ → ℕ → Type 0
ComesBefore constraints a e = Holds constraints.before.now.converse e a

-- v may not stand after w and before r
abbrev pub MayNotStand : Constraints → ℕ → ℕ → ℕ → Type 0
MayNotStand constraints = Forbids constraints.between.now

-- a prefix of an order, with exactly these events
abbrev pub IsBegun : Constraints → EventSet → List ℕ → Type 0
IsBegun constraints placed order =
    IsPlaced (constrained_len constraints) (ComesBefore constraints) (MayNotStand constraints) (HasEvent placed) order

-- no order has this prefix
abbrev pub BeginsNone : Constraints → List ℕ → Type 0
BeginsNone constraints start = HasNoOrder (constrained_len constraints) (ComesBefore constraints) (MayNotStand constraints) start

-- the least order with this prefix
abbrev pub IsLeastOf : Constraints → List ℕ → List ℕ → Type 0
IsLeastOf constraints start order =
    IsLeastFrom (constrained_len constraints) (ComesBefore constraints) (MayNotStand constraints) start order
