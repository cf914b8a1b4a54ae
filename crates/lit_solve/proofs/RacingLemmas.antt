-- Possible data races by a relation, byte read by byte read; and a read filled with one source of a byte.
use Rattle.lit_solve.proofs.Words.{◌<◌, ap, AreSourcesIn, arith, Bool, Box, box_events, byte_read_at, byte_reads, ByteRead, CanFill}
use Rattle.lit_solve.proofs.Words.{CanFillAt, CanFillFrom, cases_eq, Event, EventSet, false, get_or, get_or-set_other}
use Rattle.lit_solve.proofs.Words.{HasApartPair, HasDataRaceOf, HasDataRaceOf-iff, HasEvent}
use Rattle.lit_solve.proofs.Words.{HasSource, HasSourceOf, inl, inr, IsFilled, length, List, MayHave, pair_of}
use Rattle.lit_solve.proofs.Words.{RacesAt, RacesIn, refl, same_Some, slice_get, slice_get-get_or, slice_get_within, Some, subst, sym}
use Rattle.lit_solve.proofs.Words.{true, WritesWith, ℕ, ◌↔◌, ◌∙◌, ◌≡◌, ◌⊎◌}
use Rattle.lit_solve.proofs.DomainLemmas.{domain_here, pruned_at, pruned_within}
use Rattle.lit_solve.proofs.PruningLemmas.{read_here, read_there}

-- the read at a place
read_at : (box : Box) (k r b : ℕ) → slice_get (byte_reads (box_events box)) k ≡ Some (r, b) → r ≡ (byte_read_at (box_events box) k).0
read_at box k r b at = grind (arith, read_here, same_Some, slice_get_within)

-- by its byte read, as a number of its own
pub read_number : (events : List Event) (k : ℕ) (p : ByteRead) (r : ℕ) → r ≡ p.read → slice_get (byte_reads events) k ≡ Some (pair_of p)
    → r ≡ (byte_read_at events k).0
read_number events k p r same at = same ∙ ap (λ (q : ℕ × ℕ). q.0) (read_there events k p at)

-- some byte read is in a data race with a source that it may have
abbrev pub RacesSomewhere : Box → (before may : ℕ → ℕ → Type 0) → Type 0
RacesSomewhere box before may = (k : ℕ) × (k < length (byte_reads (box_events box))) × RacesAt box before may k

-- ---- a data race by a relation that orders events
module _ (box : Box) (before : ℕ → ℕ → Type 0) where
  module _ (reads may : ℕ → ℕ → Type 0)
      (to : (k b r w : ℕ) → slice_get (byte_reads (box_events box)) k ≡ Some (r, b) → r ≡ (byte_read_at (box_events box) k).0 → may k w → reads r w)
      (from : (r w : ℕ) → reads r w → (k : ℕ) × (b : ℕ) × (slice_get (byte_reads (box_events box)) k ≡ Some (r, b)) × may k w) where
    apart_pair_of : RacesSomewhere box before may → HasApartPair (box_events box) before reads
    apart_pair_of (k, inside, race) =
        let read = byte_read_at (box_events box) k in record {
          first = read.0;
          second = race.source;
          apart = race.apart;
          is_pair = to k read.1 read.0 race.source (read_here (box_events box) k inside) refl race.may_have;
        }

    place_racing : HasApartPair (box_events box) before reads → RacesSomewhere box before may
    place_racing h = grind (arith, read_at, slice_get_within)

    race_from : RacesSomewhere box before may ⊎ HasApartPair (box_events box) before (WritesWith (box_events box))
        → HasDataRaceOf (box_events box) before reads
    race_from h = (HasDataRaceOf-iff (box_events box) before reads).1 (either h)
      where
        either : RacesSomewhere box before may ⊎ HasApartPair (box_events box) before (WritesWith (box_events box))
            → HasApartPair (box_events box) before reads ⊎ HasApartPair (box_events box) before (WritesWith (box_events box))
        either (inl read) = inl (apart_pair_of read)
        either (inr writes) = inr writes

    race_to : HasDataRaceOf (box_events box) before reads
        → RacesSomewhere box before may ⊎ HasApartPair (box_events box) before (WritesWith (box_events box))
    race_to h = either ((HasDataRaceOf-iff (box_events box) before reads).0 h)
      where
        either : HasApartPair (box_events box) before reads ⊎ HasApartPair (box_events box) before (WritesWith (box_events box))
            → RacesSomewhere box before may ⊎ HasApartPair (box_events box) before (WritesWith (box_events box))
        either (inl read) = inl (place_racing read)
        either (inr writes) = inr writes

  may_race_iff : RacesIn box before false ↔ (RacesSomewhere box before (HasSource box) ⊎ HasApartPair (box_events box) before (WritesWith (box_events
      box)))
  may_race_iff = (race_to (HasSourceOf box) (HasSource box) to from, race_from (HasSourceOf box) (HasSource box) to from)
    where
      to : (k b r w : ℕ) → slice_get (byte_reads (box_events box)) k ≡ Some (r, b) → r ≡ (byte_read_at (box_events box) k).0 → HasSource box k w
          → HasSourceOf box r w
      to k b r w at is there = record { place = k; byte = b; is_read = at; there = there }

      from : (r w : ℕ) → HasSourceOf box r w → (k : ℕ) × (b : ℕ) × (slice_get (byte_reads (box_events box)) k ≡ Some (r, b)) × HasSource box k w
      from r w h = (h.place, h.byte, h.is_read, h.there)

  can_race_iff : RacesIn box before true ↔ (RacesSomewhere box before (CanFillAt box) ⊎ HasApartPair (box_events box) before (WritesWith (box_events
      box)))
  can_race_iff = (race_to (CanFillFrom box) (CanFillAt box) to from, race_from (CanFillFrom box) (CanFillAt box) to from)
    where
      to : (k b r w : ℕ) → slice_get (byte_reads (box_events box)) k ≡ Some (r, b) → r ≡ (byte_read_at (box_events box) k).0 → CanFillAt box k w
          → CanFillFrom box r w
      to k b r w at is can = record {
        place = k;
        byte = b;
        is_read = at;
        sources = can.sources;
        lie = can.lie;
        takes = can.takes;
        filled = subst (λ (q : ℕ). IsFilled box q can.sources) (sym is) can.filled;
      }

      from : (r w : ℕ) → CanFillFrom box r w → (k : ℕ) × (b : ℕ) × (slice_get (byte_reads (box_events box)) k ≡ Some (r, b)) × CanFillAt box k w
      from r w h = (
        h.place,
        h.byte,
        h.is_read,
        record {
          sources = h.sources;
          lie = h.lie;
          takes = h.takes;
          filled = subst (λ (q : ℕ). IsFilled box q h.sources) (read_at box h.place r h.byte h.is_read) h.filled;
        },
      )

  pub races_iff : (filling : Bool) → RacesIn box before filling
      ↔ (RacesSomewhere box before (MayHave box filling) ⊎ HasApartPair (box_events box) before (WritesWith (box_events box)))
  races_iff true = can_race_iff
  races_iff false = may_race_iff

-- what a read may have is in the domain
pub may_have_source : (box : Box) (filling : Bool) (k w : ℕ) → MayHave box filling k w → HasSource box k w
may_have_source box true k w can = can.lie.within k w can.takes
may_have_source box false k w there = there

-- ---- a read filled with one source of a byte
module _ (box : Box) (place w : ℕ) (one : EventSet) (is_one : (v : ℕ) → HasEvent one v ↔ (v ≡ w)) (room : place < length box.domains) where
  pub one_within : HasSource box place w → (v : ℕ) → HasEvent one v → HasSource box place v
  one_within there v h = subst (λ (u : ℕ). HasSource box place u) (sym ((is_one v).0 h)) there

  -- sources with it lie in the box where it is alone at the place
  lie_alone : (sources : List ℕ) → AreSourcesIn box sources → slice_get sources place ≡ Some w → AreSourcesIn (pruned_at box place one) sources
  lie_alone sources lie takes = grind (arith, cases_eq, domain_here, get_or-set_other, same_Some)

  -- those that lie there have it
  takes_alone : place < length (byte_reads (box_events box)) → (sources : List ℕ) → AreSourcesIn (pruned_at box place one) sources
      → slice_get sources place ≡ Some w
  takes_alone inside sources lie =
      let long : place < length sources = omega (arith, lie.sourced.one_each, inside) in
      let first = get_or sources place 0 in
      let at : slice_get sources place ≡ Some first = slice_get-get_or sources place 0 long in
      let there : HasEvent one first = subst (λ (set : EventSet). HasEvent set first) (domain_here box place one room) (lie.within place first at) in
      at ∙ ap (λ (v : ℕ). Some v) ((is_one first).0 there)

  pub can_fill_alone : place < length (byte_reads (box_events box)) → HasSource box place w
      → CanFill (pruned_at box place one) (byte_read_at (box_events box) place).0 ↔ CanFillAt box place w
  can_fill_alone inside there = (
    (λ can. record {
      sources = can.0;
      lie = record { sourced = can.1.sourced; within = λ k v at. (pruned_within box place one room (one_within there)).domains k v (can.1.within k v at) };
      takes = takes_alone inside can.0 can.1;
      filled = record { tear_free = can.2.tear_free; guards = can.2.guards };
    }),
    (λ can. (can.sources, lie_alone can.sources can.lie can.takes, record { tear_free = can.filled.tear_free; guards = can.filled.guards })),
  )
