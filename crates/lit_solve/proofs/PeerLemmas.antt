-- What may not stand between a source and a read has the range of one of them.
use Rattle.lit_solve.proofs.Words.{ArePeers, Event, EventSet, HasEvent, Holds, IsForbiddenBetween, IsPeer, inl, inr, ℕ, ◌<◌, ◌↔◌, ◌⊎◌, event_at}
use Rattle.lit_solve.proofs.Words.{length, List, Rows, same_range_back}

module _ (events : List Event) (before : ℕ → ℕ → Type 0) (w r v : ℕ) (source : w < length events) (read : r < length events) (other : v < length events)
    (f : IsForbiddenBetween events before w r v) where
  is_peer : IsPeer events w v ⊎ IsPeer events r v
  is_peer = elim f.pattern [
    | inl both ↦ inr (record { known = read; write = record { known = other; writes = f.writes; ordered = f.ordered }; same_range = both.same_range })
    | inr one ↦ elim one [
      | inl after ↦
          inl (record {
            known = source;
            write = record { known = other; writes = f.writes; ordered = f.ordered };
            same_range = same_range_back (event_at events w) (event_at events v) after.same_range;
          })
      | inr before_read ↦ inr (record { known = read; write = record { known = other; writes = f.writes; ordered = f.ordered }; same_range = before_read.same_range })
    ]
  ]

  pub forbidden_ranged : (peers : Rows) (of_source of_read ranged : EventSet) → ArePeers events peers
      → ((d : ℕ) → HasEvent of_source d ↔ Holds peers w d) → ((d : ℕ) → HasEvent of_read d ↔ Holds peers r d)
      → ((d : ℕ) → HasEvent ranged d ↔ (HasEvent of_source d ⊎ HasEvent of_read d)) → HasEvent ranged v
  forbidden_ranged peers of_source of_read ranged are its_source its_read both = elim is_peer [
    | inl peer ↦ (both v).1 (inl ((its_source v).1 ((are.pairs w v).1 peer)))
    | inr peer ↦ (both v).1 (inr ((its_read v).1 ((are.pairs r v).1 peer)))
  ]
