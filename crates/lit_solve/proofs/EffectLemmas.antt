-- Which sources can force anything, by the writes that have a range.
use Rattle.lit_solve.proofs.Words.{◌<◌, arith, Event, event_at, EventSet, HasEffect, HasEvent, IsPeer, length, List, SeqCst}
use Rattle.lit_solve.proofs.Words.{same_range_back, write_known, ℕ, ◌↔◌, ◌≡◌, ◌⊎◌}

-- some event of range e that is no event of a set
abbrev pub HasPeerBeside : List Event → ℕ → EventSet → Type 0
HasPeerBeside events e besides = ((event_at events e).order ≡ SeqCst) × ((v : ℕ) × IsPeer events e v × ¬ HasEvent besides v)

module _ (events : List Event) (w r : ℕ) (w_known : w < length events) (r_known : r < length events) (reader both : EventSet)
    (one : (e : ℕ) → HasEvent reader e ↔ (e ≡ r)) (two : (e : ℕ) → HasEvent both e ↔ ((e ≡ r) ⊎ (e ≡ w))) where
  pub effect_of_source : HasPeerBeside events w both → HasEffect events w r
  effect_of_source h = grind (arith, same_range_back)

  pub peer_of_effect : HasEffect events w r → HasPeerBeside events r reader ⊎ HasPeerBeside events w both
  peer_of_effect effect = grind (arith, same_range_back, write_known)
