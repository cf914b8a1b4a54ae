-- A byte of a read's value is that of its source, and so a guard that refuses it is false of the value.
use Rattle.std.proofs.Common.{◌≡◌, ◌≢◌, inl, inr, ℕ, zero, suc, ◌+◌, ◌-◌, ◌*◌, ◌<◌, ◌==◌, All, Bool, true, false, Some, List, [], ◌∷◌, length, map, filter, zip, refl, sym, ap, ◌∙◌, arith}
use Rattle.std.specs.Prelude.{if◌then◌else◌, not, slice_get, slice_index}
use Rattle.std.proofs.lemmas.Bool.{cases_lt, eq-eqb}
use Rattle.std.proofs.lemmas.Bool.Decides.{nat_tests}
use Rattle.std.proofs.lemmas.List.{get_or_past, length-map}
use Rattle.std.proofs.lemmas.List.Elements.{All-map}
use Rattle.std.proofs.lemmas.Option.{none-some, same_Some, slice_get-get_or}
use Rattle.lit_paths.specs.declared.event.Event.{Event}
use Rattle.lit_paths.specs.declared.path.Tested.{Tested}
use Rattle.lit_paths.specs.ByteReads.{byte_reads, bytes_read_by}
use Rattle.lit_paths.specs.Event.{event_at, no_event, payload_at}
use Rattle.lit_paths.specs.Path.{payload_of}
use Rattle.lit_paths.specs.Plan.{AreEventsIn}
use Rattle.lit_paths.specs.Run.{compares}
use Rattle.lit_paths.proofs.Rising.{slice_get-map-found}
use Rattle.lit_rel.specs.ReadsFrom.{ReadsByteFrom, composed, value_of}
use Rattle.lit_rel.specs.GuardedBytes.{IsFalseOfByte}
use Rattle.lit_rel.proofs.OwnByteLemmas.{all_read, only, only_its}
use Rattle.lit_rel.proofs.SourceLemmas.{read_here, read_known}

-- ---- the bytes of a number
shifted : (b v j : ℕ) → b < 256 → j < 3 → slice_index (payload_of (b + 256 * v)) (suc j) ≡ slice_index (payload_of v) j
shifted b v zero small few = omega arith
shifted b v (suc zero) small few = omega arith
shifted b v (suc (suc zero)) small few = omega arith
shifted b v (suc (suc (suc j))) small few = absurd (omega arith)

byte_of_composed : (bs : List ℕ) (j x : ℕ) → j < 4 → All (λ b. b < 256) bs → slice_get bs j ≡ Some x → slice_index (payload_of (composed bs)) j ≡ x
byte_of_composed [] j x few small at = absurd (none-some x at)
byte_of_composed (b ∷ bs) zero x few small at =
    let is : b ≡ x = same_Some b x at in
    let below : b < 256 = small 0 0 (omega arith) in
    omega arith
byte_of_composed (b ∷ bs) (suc j) x few small at =
    shifted b (composed bs) j (small 0 0 (omega arith)) (omega (arith, few))
    ∙ byte_of_composed bs j x (omega (arith, few)) (λ k d lt. small (suc k) d (omega (arith, lt))) at

alone : (bs : List ℕ) (x : ℕ) → length bs ≡ 1 → slice_get bs 0 ≡ Some x → composed bs ≡ x
alone [] x one at = absurd (none-some x at)
alone (b ∷ []) x one at = let is : b ≡ x = same_Some b x at in omega (arith, is)
alone (b ∷ c ∷ bs) x one at = absurd (omega (arith, one))

-- ---- the bytes that a read takes, each with its source
zip_at : (reads : List (ℕ × ℕ)) (sources : List ℕ) (i : ℕ) (q : ℕ × ℕ) (w : ℕ) → slice_get reads i ≡ Some q → slice_get sources i ≡ Some w → slice_get (zip reads sources) i ≡ Some (q, w)
zip_at [] sources i q w read from = absurd (none-some q read)
zip_at (p ∷ reads) [] i q w read from = absurd (none-some w from)
zip_at (p ∷ reads) (v ∷ sources) zero q w read from = let a : p ≡ q = same_Some p q read in let b : v ≡ w = same_Some v w from in cc
zip_at (p ∷ reads) (v ∷ sources) (suc i) q w read from = zip_at reads sources i q w read from

retained_at : {X : Type 0} (test : X → Bool) (xs : List X) (i : ℕ) (x : X) → slice_get xs i ≡ Some x → test x ≡ true → (j : ℕ) × (slice_get (filter test xs) j ≡ Some x)
retained_at test [] i x at passes = absurd (none-some x at)
retained_at {X} test (y ∷ xs) zero x at passes =
    let is : y ≡ x = same_Some y x at in
    (0, ap (λ (t : Bool). slice_get (if t then y ∷ filter test xs else filter test xs) 0) (ap test is ∙ passes) ∙ at)
retained_at {X} test (y ∷ xs) (suc i) x at passes = by (test y) (retained_at test xs i x at passes)
  where
    by : (t : Bool) → ((j : ℕ) × (slice_get (filter test xs) j ≡ Some x)) → (j : ℕ) × (slice_get (if t then y ∷ filter test xs else filter test xs) j ≡ Some x)
    by true found = (suc found.0, found.1)
    by false found = found

abbrev sourced_of : ℕ → List (ℕ × ℕ) → List ℕ → List ((ℕ × ℕ) × ℕ)
sourced_of r reads sources = filter (λ p. p.0.0 == r) (zip reads sources)

-- without the sources, they are the bytes of the read
reads_of : (r : ℕ) (reads : List (ℕ × ℕ)) (sources : List ℕ) → length sources ≡ length reads → map (λ (p : (ℕ × ℕ) × ℕ). p.0) (sourced_of r reads sources) ≡ only r reads
reads_of r [] sources long = refl
reads_of r (q ∷ reads) [] long = absurd (omega (arith, long))
reads_of r (q ∷ reads) (w ∷ sources) long = by (q.0 == r) (reads_of r reads sources (omega (arith, long)))
  where
    by : (t : Bool) → map (λ (p : (ℕ × ℕ) × ℕ). p.0) (sourced_of r reads sources) ≡ only r reads
        → map (λ (p : (ℕ × ℕ) × ℕ). p.0) (if t then (q, w) ∷ sourced_of r reads sources else sourced_of r reads sources) ≡ (if t then q ∷ only r reads else only r reads)
    by true e = ap (λ (qs : List (ℕ × ℕ)). q ∷ qs) e
    by false e = e

-- the payload byte of each source of read r, by rising byte
abbrev bytes_of_read : List Event → List ℕ → ℕ → List ℕ
bytes_of_read events sources r = map (λ p. payload_at (event_at events p.1) p.0.1) (sourced_of r (byte_reads events) sources)

-- ---- in a complete list of sources
module _ (bytes : ℕ) (events : List Event) (sound : AreEventsIn bytes events) (sources : List ℕ) (complete : length sources ≡ length (byte_reads events)) where
  payload_small : (w b : ℕ) → payload_at (event_at events w) b < 256
  payload_small w b =
      elim (cases_lt w (length events)) [
        | inl known ↦ inside (event_at events w).payload (b - (event_at events w).first) (sound.payload w known)
        | inr past ↦ rw (get_or_past events w no_event past) (omega arith)
      ]
    where
      inside : (xs : List ℕ) (i : ℕ) → All (λ x. x < 256) xs → slice_index xs i < 256
      inside xs i small = elim (cases_lt i (length xs)) [ inl within ↦ small i 0 within | inr past ↦ rw (get_or_past xs i 0 past) (omega arith) ]

  -- the byte at its place in the read's value
  record IsTaken (r b x : ℕ) : Type 0 where
    place : ℕ
    within : place < (event_at events r).size
    is : b ≡ (event_at events r).first + place
    count : length (bytes_of_read events sources r) ≡ (event_at events r).size
    at_place : slice_get (bytes_of_read events sources r) place ≡ Some x

  taken : (r b w : ℕ) → ReadsByteFrom events sources r b w → IsTaken r b (payload_at (event_at events w) b)
  taken r b w from =
      let e = event_at events r in
      let stored : (ℕ × ℕ) × ℕ → ℕ = λ p. payload_at (event_at events p.1) p.0.1 in
      let ps = sourced_of r (byte_reads events) sources in
      let found = retained_at {X = (ℕ × ℕ) × ℕ} (λ p. p.0.0 == r) (zip (byte_reads events) sources) from.0 ((r, b), w) (zip_at (byte_reads events) sources from.0 (r, b) w from.1 from.2) (eq-eqb r r refl) in
      let known = read_known events from.0 r b from.1 in
      let own : map (λ (p : (ℕ × ℕ) × ℕ). p.0) ps ≡ bytes_read_by r e =
      reads_of r (byte_reads events) sources complete ∙ only_its r 0 r events e (omega arith) (slice_get-get_or events r no_event known) in
      let at_place : slice_get (bytes_read_by r e) found.0 ≡ Some (r, b) =
      ap (λ (qs : List (ℕ × ℕ)). slice_get qs found.0) (sym own) ∙ slice_get-map-found (λ (p : (ℕ × ℕ) × ℕ). p.0) ps found.0 ((r, b), w) found.1 in
      let at = read_here r e found.0 (r, b) at_place in
      record {
        place = found.0;
        within = at.1;
        is = at.3;
        count = length-map ps stored ∙ sym (length-map ps (λ p. p.0)) ∙ ap length own ∙ all_read r e at.0;
        at_place = slice_get-map-found stored ps found.0 ((r, b), w) found.1;
      }

  -- a number that has another byte at this place
  equal_false : (r b w number : ℕ) → ReadsByteFrom events sources r b w → slice_index (payload_of number) (b - (event_at events r).first) ≢ payload_at (event_at events w) b
      → (value_of events sources r == number) ≡ false
  equal_false r b w number from other = differ (λ same. other (is_there same))
    where
      t : IsTaken r b (payload_at (event_at events w) b)
      t = taken r b w from

      differ : value_of events sources r ≢ number → (value_of events sources r == number) ≡ false
      differ not_same = grind (arith, nat_tests)

      all_small : All (λ x. x < 256) (bytes_of_read events sources r)
      all_small = All-map (λ (x : ℕ). x < 256) (λ (p : (ℕ × ℕ) × ℕ). payload_at (event_at events p.1) p.0.1) (sourced_of r (byte_reads events) sources) (λ k d lt. payload_small _ _)

      few : t.place < 4
      few = let within = t.within in elim (sound.sized r (read_known events from.0 r b from.1)) [ inl one ↦ omega (arith, one, within) | inr more ↦ elim more [ inl two ↦ omega (arith, two, within) | inr four ↦ omega (arith, four, within) ] ]

      is_there : value_of events sources r ≡ number → slice_index (payload_of number) (b - (event_at events r).first) ≡ payload_at (event_at events w) b
      is_there same =
          ap (λ (v : ℕ). slice_index (payload_of v) (b - (event_at events r).first)) (sym same)
          ∙ ap (slice_index (payload_of (value_of events sources r))) (let e : b - (event_at events r).first ≡ t.place = omega (arith, t.is) in e)
          ∙ byte_of_composed (bytes_of_read events sources r) t.place (payload_at (event_at events w) b) few all_small t.at_place

  -- the value of a read of one byte
  value_alone : (r b w : ℕ) → ReadsByteFrom events sources r b w → (event_at events r).size ≡ 1 → value_of events sources r ≡ payload_at (event_at events w) b
  value_alone r b w from one =
      let t = taken r b w from in
      let first : t.place ≡ 0 = omega (arith, one, t.within) in
      alone (bytes_of_read events sources r) (payload_at (event_at events w) b) (t.count ∙ one) (ap (slice_get (bytes_of_read events sources r)) (sym first) ∙ t.at_place)

  pub false_of : (r b w : ℕ) (test : Tested) → ReadsByteFrom events sources r b w → IsFalseOfByte (event_at events r) b (payload_at (event_at events w) b) test
      → compares test.equal (value_of events sources r) test.value ≡ false
  false_of r b w test from (inl (equal, other)) =
      ap (λ (t : Bool). compares t (value_of events sources r) test.value) equal ∙ equal_false r b w test.value from other
  false_of r b w test from (inr (differs, one, same)) =
      ap (λ (t : Bool). compares t (value_of events sources r) test.value) differs
      ∙ ap not (eq-eqb (value_of events sources r) test.value (value_alone r b w from one ∙ sym same))
