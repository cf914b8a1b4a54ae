-- What the checks of pruning find, and what becomes of a box with a pruned domain.
use Rattle.lit_solve.proofs.Words.{◌+◌, ◌<◌, ◌^◌, AreOfEvents, arith, between_by, bit_at, bit_at_above, Bool, Box, box_events}
use Rattle.lit_solve.proofs.Words.{byte_read_at, byte_reads, ByteRead, CanReadWhole, CanSynchronize, cases_eq, cases_lt, coherent_read_by}
use Rattle.lit_solve.proofs.Words.{Event, event_at, event_or_not, EventSet, false, false≢true, Frame, get_or, get_or_from_slice_get}
use Rattle.lit_solve.proofs.Words.{GivenIn, HappensBeforeIn, HasEvent, HasSource, Holds, inl, inr, IsBox, IsCandidate, IsCoherentRead}
use Rattle.lit_solve.proofs.Words.{IsContained, IsForbiddenBetween, IsPrunable, IsTrue, length, length-map, List, map, not, pair_of}
use Rattle.lit_solve.proofs.Words.{ReadsWholeBy, refl, Rows, rows_len, slice_get, slice_get-get_or, slice_get-map-found, Some, subst, suc}
use Rattle.lit_rel.specs.Coherent.{Hides}
use Rattle.lit_solve.proofs.Words.{sym, true, two-pow-succ, zero, ℕ, ◌↔◌, ◌≡◌, ◌≢◌, ◌⊎◌}

-- ---- sets
below_power : (n : ℕ) → n < 2 ^ n
below_power zero = omega arith
below_power (suc n) = let double : 2 ^ suc n ≡ 2 ^ n + 2 ^ n = two-pow-succ n in omega (arith, below_power n, double)

some_below : (set : EventSet) (n : ℕ) → ((e : ℕ) × HasEvent set e) ⊎ ((e : ℕ) → e < n → ¬ HasEvent set e)
some_below set zero = inr (λ e below. absurd (omega (arith, below)))
some_below set (suc n) = by (event_or_not set n) (some_below set n)
  where
    by : HasEvent set n ⊎ ¬ HasEvent set n → ((e : ℕ) × HasEvent set e) ⊎ ((e : ℕ) → e < n → ¬ HasEvent set e) → ((e : ℕ) × HasEvent set e) ⊎ ((e : ℕ) → e < suc n → ¬ HasEvent set e)
    by (inl here) earlier = inl (n, here)
    by (inr absent) (inl found) = inl found
    by (inr absent) (inr none) = inr (λ e below there. elim (cases_eq e n) [ inl same ↦ absent (subst (λ (m : ℕ). HasEvent set m) same there) | inr other ↦ none e (omega (arith, below, other)) there ])

-- a set has no event, or some
pub none_or_some : (set : EventSet) → ((e : ℕ) → ¬ HasEvent set e) ⊎ ((e : ℕ) × HasEvent set e)
none_or_some set = by (some_below set set.bits)
  where
    by : ((e : ℕ) × HasEvent set e) ⊎ ((e : ℕ) → e < set.bits → ¬ HasEvent set e) → ((e : ℕ) → ¬ HasEvent set e) ⊎ ((e : ℕ) × HasEvent set e)
    by (inl found) = inr found
    by (inr none) =
        inl (λ e there. elim (cases_lt e set.bits) [
          | inl below ↦ none e below there
          | inr above ↦ (let zero_there : bit_at set.bits e ≡ 0 = bit_at_above set.bits set.bits e (below_power set.bits) above in absurd (omega (arith, zero_there, there)))
        ])

-- a set that is not empty has some event
pub some_exactly : (set : EventSet) (empty : Bool) → IsTrue empty ↔ ((e : ℕ) → ¬ HasEvent set e) → IsTrue (not empty) ↔ ((e : ℕ) × HasEvent set e)
some_exactly set true tells = ((λ h. absurd (false≢true h)), (λ (e, there). absurd (tells.0 refl e there)))
some_exactly set false tells = ((λ _. elim (none_or_some set) [ inl none ↦ absurd (false≢true (tells.1 none)) | inr found ↦ found ]), (λ _. refl))

-- ---- byte reads
-- the byte read at a place
pub read_there : (events : List Event) (k : ℕ) (p : ByteRead) → slice_get (byte_reads events) k ≡ Some (pair_of p) → pair_of p ≡ byte_read_at events k
read_there events k p at = sym (get_or_from_slice_get (byte_reads events) k (pair_of p) (0, 0) at)

pub read_here : (events : List Event) (k : ℕ) → k < length (byte_reads events) → slice_get (byte_reads events) k ≡ Some (byte_read_at events k)
read_here events k inside = slice_get-get_or (byte_reads events) k (0, 0) inside

-- a list of all of them has as many, and each at its place
pub as_many : (events : List Event) (reads : List ByteRead) → map pair_of reads ≡ byte_reads events → length reads ≡ length (byte_reads events)
as_many events reads listed = grind (arith, length-map)

pub read_listed : (events : List Event) (reads : List ByteRead) (k : ℕ) (d : ByteRead) → map pair_of reads ≡ byte_reads events
    → k < length (byte_reads events) → slice_get (byte_reads events) k ≡ Some (pair_of (get_or reads k d))
read_listed events reads k d listed inside = grind (arith, as_many, slice_get-get_or, slice_get-map-found)

-- the read of a byte read is one of the events
pub read_known : (events : List Event) → AreOfEvents events → (reads : List ByteRead) (k : ℕ) (d : ByteRead) → map pair_of reads ≡ byte_reads events
    → k < length (byte_reads events) → (get_or reads k d).read < length events
read_known events of_events reads k d listed inside =
    of_events.known k (get_or reads k d).read (get_or reads k d).byte (read_listed events reads k d listed inside)

-- what is in a domain is one of the events
pub source_known : (box : Box) → IsBox box → (k w : ℕ) → k < length (byte_reads (box_events box)) → HasSource box k w → w < length (box_events box)
source_known box is k w inside there = (is.candidates k (byte_read_at (box_events box) k).0 (byte_read_at (box_events box) k).1 w (read_here (box_events box) k inside) there).known

-- ---- coherent reads
-- by the candidates of a byte of read r that are before r
module _ (events : List Event) (rows : Rows) (len : rows_len rows ≡ length events) (r b : ℕ) (earlier : EventSet)
    (earlier_is : (v : ℕ) → HasEvent earlier v ↔ (IsCandidate events r b v × Holds rows v r)) (acyclic : (e : ℕ) → ¬ Holds rows e e) (w : ℕ) where
  candidate : (v : ℕ) → Hides events (Holds rows) r b w v → IsCandidate events r b v
  candidate v hides = grind arith

  pub coherent_exactly : (((v : ℕ) → HasEvent earlier v → ¬ Holds rows w v) × ¬ Holds rows r w) ↔ IsCoherentRead events (Holds rows) r b w
  coherent_exactly = (
    (λ h. record {
      not_later = h.1;
      not_hidden = λ v hides. h.0 v ((earlier_is v).1 (candidate v hides, hides.before_read)) hides.after_source;
    }),
    (λ coherent. (
      (λ v there after.
          let its = (earlier_is v).0 there in
          coherent.not_hidden v (record { writes = its.0.writes; in_range = its.0.in_range; after_source = after; before_read = its.1 })),
      coherent.not_later,
    )),
  )

-- ---- sources that can be pruned
-- what is so of the frame's relations is so of those of its box
module _ (box : Box) (frame : Frame) (is : IsContained box frame) (r b w : ℕ) where
  pub incoherent_out : ¬ IsCoherentRead (box_events box) (Holds frame.happens_before.rows) r b w → IsPrunable box r b w
  incoherent_out incoherent =
      inr (inl (λ coherent. incoherent (coherent_read_by (box_events box) (HappensBeforeIn box) (Holds frame.happens_before.rows) is.before_in r b w coherent)))

  pub later_out : CanSynchronize (event_at (box_events box) w) (event_at (box_events box) r) → Holds frame.forced.rows r w → IsPrunable box r b w
  later_out can later = inr (inr (inl (record { can = can; later = is.forced_in r w later })))

  pub between_out : (v : ℕ) → IsForbiddenBetween (box_events box) (Holds frame.happens_before.rows) w r v → Holds frame.forced.rows w v → Holds frame.forced.rows v r → IsPrunable box r b w
  between_out v between after before =
      inr (inr (inr (inl (
        v,
        record {
          between = between_by (box_events box) (Holds frame.happens_before.rows) (HappensBeforeIn box) is.before_in w r v between;
          after_source = is.forced_in w v after;
          before_read = is.forced_in v r before;
        },
      ))))

  -- another event, from which the read is given a byte
  pub tear_out : CanReadWhole (event_at (box_events box) r) (event_at (box_events box) w) → (u : ℕ) → ReadsWholeBy (box_events box) (GivenIn box) r u → u ≢ w → IsPrunable box r b w
  tear_out can u whole other =
      inr (inr (inr (inr (record { source = u; byte = whole.reads.0; is_given = whole.reads.1; can = can; can_other = whole.can; other = other }))))
