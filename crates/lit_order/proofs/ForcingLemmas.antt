-- Propagation finds the forced relation, pair by pair.
use Rattle.std.proofs.Common.{◌≡◌, ◌≢◌, ◌↔◌, ℕ, ◌<◌, List, [], Some, refl, sym, ◌∙◌, arith, inl, inr}
use Rattle.std.specs.List.{slice_get}
use Rattle.lit_rel.specs.declared.between.Pair.{Pair}
use Rattle.lit_rel.specs.EventSet.{HasEvent}
use Rattle.lit_rel.specs.Between.{ArePairsOf, BetweenModel, Forbids}
use Rattle.lit_rel.specs.HappensBefore.{Chain}
use Rattle.lit_rel.specs.Rows.{IsTransitive, WithPair}
use Rattle.lit_order.specs.Internal.Deciding.{HasAllForced, IsForcedNext}
use Rattle.lit_order.specs.Forcing.{HasChain, IsForced, Given, Through, AfterRead, BeforeSource}
use Rattle.lit_rel.proofs.ChainLemmas.{Chain-within, HasChain-joined}
use Rattle.lit_rel.proofs.RowLemmas.{WithPair-within}
use Rattle.lit_order.proofs.ForcedLemmas.{AreTriplesBelow}
use Rattle.lit_order.proofs.SameOrders.{both}

module _ (before : ℕ → ℕ → Type 0) (forbidden : ℕ → ℕ → ℕ → Type 0) where
  -- chains are forced
  pub chain_forced : (a : ℕ) (middles : List ℕ) (d : ℕ) → Chain before a middles d → IsForced before forbidden a d
  chain_forced a middles d h = Chain-within before (IsForced before forbidden) (λ x y p. Given p) (λ x m y p q. Through m p q) a middles d h

  -- what is forced is within a transitive relation that has what is given and what the triples force
  pub forced_within : (rows : ℕ → ℕ → Type 0) → ((a d : ℕ) → before a d → rows a d) → IsTransitive rows → HasAllForced rows forbidden → (a d : ℕ) → IsForced before forbidden a d → rows a d
  forced_within rows given through all a d (Given h) = given a d h
  forced_within rows given through all a d (Through m p q) =
      through a m d (forced_within rows given through all a m p) (forced_within rows given through all m d q)
  forced_within rows given through all r v (AfterRead w f not_source not_read p) =
      (all w r v f).after not_source not_read (forced_within rows given through all w v p)
  forced_within rows given through all v w (BeforeSource r f not_source not_read p) =
      (all w r v f).earlier not_source not_read (forced_within rows given through all v r p)

  module _ (rows : ℕ → ℕ → Type 0) (sound : (a d : ℕ) → rows a d → IsForced before forbidden a d) where
    -- what a triple forces next is forced
    pub next_is_forced : (a d : ℕ) → IsForcedNext rows forbidden a d → IsForced before forbidden a d
    next_is_forced a d next =
        elim next.forces.side [
          | inl after ↦
              rw (after.0, after.1)
              (AfterRead next.source next.refused next.forces.not_source next.forces.not_read (sound next.source next.other after.2))
          | inr earlier ↦
              rw (earlier.0, earlier.1)
              (BeforeSource next.read next.refused next.forces.not_source next.forces.not_read (sound next.other next.read earlier.2))
        ]

    -- and so is what leads through it
    pub with_pair_forced : (a d : ℕ) → IsForced before forbidden a d → (x y : ℕ) → WithPair rows a d x y → IsForced before forbidden x y
    with_pair_forced a d forced = WithPair-within rows (IsForced before forbidden) a d (λ x m y p q. Through m p q) sound forced

-- with more pairs and triples more is forced
pub IsForced-grow : (before more : ℕ → ℕ → Type 0) (forbidden refused : ℕ → ℕ → ℕ → Type 0) → ((a d : ℕ) → before a d → IsForced more refused a d)
    → ((w r v : ℕ) → forbidden w r v → refused w r v) → (a d : ℕ) → IsForced before forbidden a d → IsForced more refused a d
IsForced-grow before more forbidden refused pairs triples a d (Given h) = pairs a d h
IsForced-grow before more forbidden refused pairs triples a d (Through m p q) =
    Through m (IsForced-grow before more forbidden refused pairs triples a m p) (IsForced-grow before more forbidden refused pairs triples m d q)
IsForced-grow before more forbidden refused pairs triples r v (AfterRead w f not_source not_read p) =
    AfterRead w (triples w r v f) not_source not_read (IsForced-grow before more forbidden refused pairs triples w v p)
IsForced-grow before more forbidden refused pairs triples v w (BeforeSource r f not_source not_read p) =
    BeforeSource r (triples w r v f) not_source not_read (IsForced-grow before more forbidden refused pairs triples v r p)

-- what is forced where all chains are given is what is forced
pub forced_from_closed : (before closed : ℕ → ℕ → Type 0) (forbidden : ℕ → ℕ → ℕ → Type 0) → ((a d : ℕ) → closed a d ↔ HasChain before a d) → (a d : ℕ) → IsForced closed forbidden a d → IsForced before forbidden a d
forced_from_closed before closed forbidden pairs =
    IsForced-grow closed before forbidden forbidden (λ x y h. let chain = (pairs x y).0 h in chain_forced before forbidden x chain.0 y chain.1) (λ w r v f. f)

pub forced_to_closed : (before closed : ℕ → ℕ → Type 0) (forbidden : ℕ → ℕ → ℕ → Type 0) → ((a d : ℕ) → closed a d ↔ HasChain before a d) → (a d : ℕ) → IsForced before forbidden a d → IsForced closed forbidden a d
forced_to_closed before closed forbidden pairs = IsForced-grow before closed forbidden forbidden (λ x y h. Given ((pairs x y).1 ([], h))) (λ w r v f. f)

pub forced_of : (before closed rows : ℕ → ℕ → Type 0) (forbidden : ℕ → ℕ → ℕ → Type 0) → ((a d : ℕ) → closed a d ↔ HasChain before a d)
    → ((a d : ℕ) → rows a d ↔ IsForced closed forbidden a d) → (a d : ℕ) → rows a d ↔ IsForced before forbidden a d
forced_of before closed rows forbidden chains is a d =
    both (is a d) (forced_from_closed before closed forbidden chains a d, forced_to_closed before closed forbidden chains a d)

pub IsTransitive-closed : (before closed : ℕ → ℕ → Type 0) → ((a d : ℕ) → closed a d ↔ HasChain before a d) → IsTransitive closed
IsTransitive-closed before closed pairs x y z p q = (pairs x z).1 (HasChain-joined before x y z ((pairs x y).0 p) ((pairs y z).0 q))

-- the pair that is forced next: of two events, both known
pub next_apart : (rows : ℕ → ℕ → Type 0) (forbidden : ℕ → ℕ → ℕ → Type 0) (a d : ℕ) → IsForcedNext rows forbidden a d → a ≢ d
next_apart rows forbidden a d next same =
    elim next.forces.side [
      | inl after ↦ next.forces.not_read (sym after.1 ∙ sym same ∙ after.0)
      | inr earlier ↦ next.forces.not_source (sym earlier.0 ∙ same ∙ earlier.1)
    ]

-- a pair that is added closes no cycle where the relation lacks its converse
pub with_pair_no_cycle : (rows : ℕ → ℕ → Type 0) → IsTransitive rows → ((e : ℕ) → ¬ rows e e) → (a d : ℕ) → a ≢ d → ¬ rows d a → (e : ℕ) → ¬ WithPair rows a d e e
with_pair_no_cycle rows through none a d apart not_back e h = grind (arith, through)

-- the triples of a value of the program speak of its events
pub Forbids-below : (n : ℕ) (between : BetweenModel) → n ≡ between.len → AreTriplesBelow n (Forbids between)
Forbids-below n between same = rw same record { source = λ w r v f. f.source_known; read = λ w r v f. f.read_known; other = λ w r v f. f.other_known }

-- what a pair of its list forbids
pub Forbids-at : (between : BetweenModel) → ArePairsOf between.len between.pairs → (k : ℕ) (p : Pair) → slice_get between.pairs k ≡ Some p
    → (v : ℕ) → v < between.len → HasEvent p.others v → Forbids between p.source p.read v
Forbids-at between are k p at v known marked = record {
  source_known = are.source_known k p at;
  read_known = are.read_known k p at;
  other_known = known;
  place = k;
  pair = p;
  at_place = at;
  is_pair = record { source = refl; read = refl };
  marked = marked;
}
