-- The byte reads of one read, room for them in a number, and the events of a set, one after the other.
use Rattle.lit_solve.proofs.Words.{◌*◌, ◌+◌, ◌<◌, ◌==◌, [], ◌^◌, ap, AreFirstReads, arith, byte_read_at, byte_reads, cases_eq, cond, drop}
use Rattle.lit_solve.proofs.Words.{drop-map, drop_more, eq-eqb, Event, event_at, event_or_not, EventSet, false, filter}
use Rattle.lit_solve.proofs.Words.{get_or_from_slice_get, HasEvent, HasRoom, IsSplit, length, length-map, length-stored, List, map}
use Rattle.lit_solve.proofs.Words.{mul-le-mul_left, payload_at, pow-le-pow_right, pow_more, read_of, reads_on, reads_rise, refl, slice_get}
use Rattle.lit_solve.proofs.Words.{slice_get-map-found, slice_get_within, Some, SourcedByte, stored, suc, sym, take_all, Taken, true, ℕ}
use Rattle.lit_solve.proofs.Words.{◌↔◌, ◌∙◌, ◌∷◌, ◌≡◌, ◌≢◌, ◌≤◌, ◌⊎◌}
use Rattle.lit_rel.proofs.ValueLemmas.{sourced}
use Rattle.lit_solve.proofs.PruningLemmas.{read_here}

pub drop_at : {X : Type 0} (xs : List X) (k : ℕ) (x : X) → slice_get xs k ≡ Some x → drop k xs ≡ x ∷ drop (k + 1) xs
drop_at xs k x at =
    drop_more xs k x (slice_get_within xs k x at) ∙ ap (λ y. y ∷ drop (k + 1) xs) (get_or_from_slice_get xs k x x at)

-- a byte read of this read stands at its place
pub read_there : (events : List Event) (k r : ℕ) → k < length (byte_reads events) → (byte_read_at events k).0 ≡ r
    → slice_get (byte_reads events) k ≡ Some (r, (byte_read_at events k).1)
read_there events k r within same = read_here events k within ∙ ap (λ (q : ℕ). Some (q, (byte_read_at events k).1)) same

-- ---- the events of a set that match a property, one after the other
module _ (among left others matching : EventSet) (P : ℕ → Type 0) (event : ℕ) (split : IsSplit left event others)
    (so_far : (v : ℕ) → HasEvent matching v ↔ (HasEvent among v × P v × ¬ HasEvent left v)) where
  pub matching_more : (more : EventSet) → HasEvent among event → P event → ((v : ℕ) → HasEvent more v ↔ (HasEvent matching v ⊎ (v ≡ event)))
      → (v : ℕ) → HasEvent more v ↔ (HasEvent among v × P v × ¬ HasEvent others v)
  matching_more more there is with_event v = grind (arith, cases_eq)

  pub matching_same : ¬ P event → (v : ℕ) → HasEvent matching v ↔ (HasEvent among v × P v × ¬ HasEvent others v)
  matching_same not_like v = grind arith

-- of a domain, the events that are no longer in the set failed
pub vain_more : (left others less : EventSet) (event : ℕ) → IsSplit left event others → (Domain Vain : ℕ → Type 0)
    → ((w : ℕ) → Domain w → ¬ HasEvent left w → Vain w) → Vain event → ((w : ℕ) → Domain w → HasEvent others w → ¬ HasEvent less w → Vain w)
    → (w : ℕ) → Domain w → ¬ HasEvent less w → Vain w
vain_more left others less event split Domain Vain so_far here dominated w there gone = grind (arith, cases_eq, event_or_not)

-- ---- the byte reads of a read
-- a byte read with any source
abbrev some_source : ℕ × ℕ → SourcedByte
some_source p = record { read = p.0; byte = p.1; source = 0 }

module _ (events : List Event) where
  abbrev all_reads : List SourcedByte
  all_reads = map some_source (byte_reads events)

  are_first : AreFirstReads events all_reads
  are_first =
      let many : length (map some_source (byte_reads events)) ≡ length (byte_reads events) = length-map (byte_reads events) some_source in
      back (byte_reads events) ∙ sym (take_all (length (map some_source (byte_reads events))) (byte_reads events) (omega arith))
    where
      back : (ps : List (ℕ × ℕ)) → map read_of (map some_source ps) ≡ ps
      back [] = refl
      back (p ∷ ps) = ap (λ (qs : List (ℕ × ℕ)). p ∷ qs) (back ps)

  -- reads rise
  pub rise : (j k : ℕ) (p q : ℕ × ℕ) → j ≤ k → slice_get (byte_reads events) j ≡ Some p → slice_get (byte_reads events) k ≡ Some q → p.0 ≤ q.0
  rise j k p q le here there =
      reads_rise events all_reads are_first j k (some_source p) (some_source q) le
      (slice_get-map-found some_source (byte_reads events) j p here) (slice_get-map-found some_source (byte_reads events) k q there)

  -- where the next byte read is of no read up to r, none later is of r
  pub none_later : (r k : ℕ) → ((j q b : ℕ) → k ≤ j → slice_get (byte_reads events) j ≡ Some (q, b) → r ≤ q)
      → ¬ ((k < length (byte_reads events)) × ((byte_read_at events k).0 ≡ r)) → (j b : ℕ) → k ≤ j → slice_get (byte_reads events) j ≢ Some (r, b)
  none_later r k later not_here j b le at = grind (arith, read_here, rise, slice_get_within)

  -- a read has no more bytes than its size, from any place on
  pub few_bytes : (r k : ℕ) → length (filter {X = ℕ × ℕ} (λ p. p.0 == r) (reads_on events k)) ≤ (event_at events r).size
  few_bytes r k =
      let at_most : length (stored events r (drop k all_reads)) ≤ (event_at events r).size = length-stored events r all_reads k are_first in
      let mapped : length (stored events r (drop k all_reads)) ≡ length (filter {X = (ℕ × ℕ) × ℕ} (λ p. p.0.0 == r) (map sourced (drop k all_reads))) =
      length-map (filter {X = (ℕ × ℕ) × ℕ} (λ p. p.0.0 == r) (map sourced (drop k all_reads))) (λ p. payload_at (event_at events p.1) p.0.1) in
      let same = ap (λ (bytes : List SourcedByte). length (filter {X = (ℕ × ℕ) × ℕ} (λ p. p.0.0 == r) (map sourced bytes)))
      (drop-map some_source k (byte_reads events)) in
      omega (arith, at_most, mapped, same, counted (drop k (byte_reads events)))
    where
      counted : (ps : List (ℕ × ℕ))
          → length (filter {X = (ℕ × ℕ) × ℕ} (λ p. p.0.0 == r) (map sourced (map some_source ps))) ≡ length (filter {X = ℕ × ℕ} (λ p. p.0 == r) ps)
      counted [] = refl
      counted (p ∷ ps) =
          let ih = counted ps in
          elim (p.0 == r) as (λ b. length
          (cond b (sourced (some_source p) ∷ filter {X = (ℕ × ℕ) × ℕ} (λ q. q.0.0 == r) (map sourced (map some_source ps)))
          (filter (λ q. q.0.0 == r) (map sourced (map some_source ps))))
          ≡ length (cond b (p ∷ filter {X = ℕ × ℕ} (λ q. q.0 == r) ps) (filter (λ q. q.0 == r) ps)))
          [ true ↦ ap suc ih | false ↦ ih ]

-- ---- room for the next byte
module _ (events : List Event) (r k b : ℕ) (at : slice_get (byte_reads events) k ≡ Some (r, b)) (taken : Taken) (room : HasRoom events r k taken) where
  count_here : length (filter {X = ℕ × ℕ} (λ p. p.0 == r) (reads_on events k)) ≡ suc (length (filter {X = ℕ × ℕ} (λ p. p.0 == r) (reads_on events (k + 1))))
  count_here = grind (arith, drop_at, eq-eqb)

  few_taken : taken.bytes ≤ 3
  few_taken = omega (arith, count_here, room.few)

  pub small_unit : 256 ^ taken.bytes ≤ 256 ^ 3
  small_unit = pow-le-pow_right {n = 256} (omega arith) few_taken

  pub small_product : (byte : ℕ) → byte < 256 → 256 ^ taken.bytes * byte ≤ 256 ^ taken.bytes * 255
  small_product byte small = mul-le-mul_left (256 ^ taken.bytes) (omega (arith, small))

  -- a byte more leaves a number of four bytes
  pub fits_word : (unit byte : ℕ) → unit ≡ 256 ^ taken.bytes → byte < 256 → taken.value + unit * byte < 4294967296
  fits_word unit byte is small = grind (arith, mul-le-mul_left, small_unit)

  pub room_on : (next : Taken) (byte : ℕ) → byte < 256 → next.value ≡ taken.value + 256 ^ taken.bytes * byte → next.bytes ≡ taken.bytes + 1
      → HasRoom events r (k + 1) next
  room_on next byte small value bytes = grind (arith, count_here, pow_more, slice_get_within, small_product)

-- before the first byte there is room
pub room_first : (events : List Event) (r k : ℕ) (taken : Taken) → k ≤ length (byte_reads events)
    → ((j q b : ℕ) → k ≤ j → slice_get (byte_reads events) j ≡ Some (q, b) → r ≤ q) → (event_at events r).size ≤ 4 → taken.value ≡ 0 → taken.bytes ≡ 0
    → HasRoom events r k taken
room_first events r k taken within later size value bytes = grind (arith, few_bytes)
