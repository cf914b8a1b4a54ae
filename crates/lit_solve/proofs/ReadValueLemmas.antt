-- The value of a read, and whether it is a given number, by the domains of a box: three-valued logic.
use Rattle.lit_solve.proofs.Words.{◌*◌, ◌+◌, ◌-◌, ◌<◌, ◌==◌, [], ◌^◌, ap, ap₂, AreEventsIn, AreSourcesIn, arith, Bool, Box, box_events}
use Rattle.lit_solve.proofs.Words.{byte_read_at, byte_reads, cases_eq, cases_lt, common_steps, composed, cond, Decided, does_read, eq-eqb}
use Rattle.lit_solve.proofs.Words.{Event, event_at, false, false_of, false≢true, filter, get_or, get_or_from_slice_get, get_or_past}
use Rattle.lit_solve.proofs.Words.{HasSource, if◌then◌else◌, inl, inr, IsByteDecided, IsReadDecided, IsUndecidedAt, length, length-map}
use Rattle.lit_solve.proofs.Words.{length-map-range_with_len, List, map, nat_tests, ne_eqb, no_event, None, only, only_its, payload_at}
use Rattle.lit_solve.proofs.Words.{payload_of, range_with_len, refl, same_Some, slice_get, slice_get-get_or, slice_get_within, slice_index}
use Rattle.lit_solve.proofs.Words.{Some, stored_for, subst, suc, sym, to_le_bytes, true, value_of, w32, ℕ, ◌∙◌, ◌∷◌, ◌≡◌, ◌≢◌, ◌≤◌, ◌⊎◌}
use Rattle.std.proofs.Common.{zip}
use Rattle.lit_solve.specs.declared.decided.Decided.TheVariants.{Known, Open}

-- two sources that store different bytes
pub undecided_by : (box : Box) (k some other : ℕ) → k < length (byte_reads (box_events box)) → HasSource box k some → HasSource box k other
    → stored_for box k some ≢ stored_for box k other → IsUndecidedAt box k
undecided_by box k some other inside some_there other_there apart = grind (arith, common_steps, slice_get-get_or)

-- the byte at a place in a number's four bytes
pub byte_at : (number : ℕ) (bytes : List ℕ) (offset b first same_first : ℕ) → bytes ≡ to_le_bytes w32 number → offset ≡ b - same_first
    → same_first ≡ first → slice_index bytes offset ≡ slice_index (payload_of number) (b - first)
byte_at number bytes offset b first same_first is at same = ap₂ (λ (bs : List ℕ) (i : ℕ). slice_index bs i) is (at ∙ ap (λ (f : ℕ). b - f) same)

-- ---- the bytes that one read takes
-- what its byte reads with their sources have, by the byte reads alone
matched : (r : ℕ) (g : (ℕ × ℕ) × ℕ → ℕ) (f : ℕ × ℕ → ℕ) (reads : List (ℕ × ℕ)) (sources : List ℕ) → length sources ≡ length reads
    → ((i : ℕ) (q : ℕ × ℕ) (w : ℕ) → slice_get reads i ≡ Some q → q.0 ≡ r → slice_get sources i ≡ Some w → g (q, w) ≡ f q)
    → map g (filter (λ p. p.0.0 == r) (zip reads sources)) ≡ map f (only r reads)
matched r g f [] sources long same = refl
matched r g f (q ∷ reads) [] long same = absurd (omega (arith, long))
matched r g f (q ∷ reads) (w ∷ sources) long same =
    by (q.0 == r) refl (matched r g f reads sources (omega (arith, long)) (λ i p v at is source. same (suc i) p v at is source))
  where
    by : (t : Bool) → (q.0 == r) ≡ t → map g (filter (λ p. p.0.0 == r) (zip reads sources)) ≡ map f (only r reads)
        → map g (cond t ((q, w) ∷ filter (λ p. p.0.0 == r) (zip reads sources)) (filter (λ p. p.0.0 == r) (zip reads sources))) ≡ map f
        (cond t (q ∷ only r reads) (only r reads))
    by true is later =
        let its : q.0 ≡ r = grind (arith, nat_tests) in
        ap₂ (λ (x : ℕ) (xs : List ℕ). x ∷ xs) (same 0 q w refl its refl) later
    by false is later = later

-- the bytes of its range
own_bytes : (events : List Event) (r : ℕ) → r < length events → does_read (event_at events r).kind ≡ true
    → only r (byte_reads events) ≡ map (λ k. (r, (event_at events r).first + k)) (range_with_len 0 (event_at events r).size)
own_bytes events r known reads =
    let e = event_at events r in
    only_its r 0 r events e (omega arith) (slice_get-get_or events r no_event known)
    ∙ ap (λ (t : Bool). if t then map (λ k. (r, e.first + k)) (range_with_len 0 e.size) else []) reads

shifted_back : (r first : ℕ) (ps ks : List ℕ) → map (λ (q : ℕ × ℕ). slice_index ps (q.1 - first)) (map (λ k. (r, first + k)) ks) ≡ map (slice_index ps) ks
shifted_back r first ps [] = refl
shifted_back r first ps (k ∷ ks) =
    let back : (first + k) - first ≡ k = omega arith in
    ap₂ (λ (x : ℕ) (xs : List ℕ). x ∷ xs) (ap (slice_index ps) back) (shifted_back r first ps ks)

-- a number that fits is composed of its bytes
abbrev IsSize : ℕ → Type 0
IsSize size = (size ≡ 1) ⊎ ((size ≡ 2) ⊎ (size ≡ 4))

one_byte : (number : ℕ) → number < 256 ^ 1 → composed (map (slice_index (payload_of number)) (range_with_len 0 1)) ≡ number
one_byte number fits = omega arith

two_bytes : (number : ℕ) → number < 256 ^ 2 → composed (map (slice_index (payload_of number)) (range_with_len 0 2)) ≡ number
two_bytes number fits = omega arith

four_bytes : (number : ℕ) → number < 256 ^ 4 → composed (map (slice_index (payload_of number)) (range_with_len 0 4)) ≡ number
four_bytes number fits = omega arith

composed_again : (number size : ℕ) → IsSize size → number < 256 ^ size → composed (map (slice_index (payload_of number)) (range_with_len 0 size)) ≡ number
composed_again number size (inl one) fits =
    ap (λ (n : ℕ). composed (map (slice_index (payload_of number)) (range_with_len 0 n))) one ∙ one_byte number (subst (λ (n : ℕ). number < 256 ^ n) one fits)
composed_again number size (inr (inl two)) fits =
    ap (λ (n : ℕ). composed (map (slice_index (payload_of number)) (range_with_len 0 n))) two ∙ two_bytes number (subst (λ (n : ℕ). number < 256 ^ n) two fits)
composed_again number size (inr (inr four)) fits =
    ap (λ (n : ℕ). composed (map (slice_index (payload_of number)) (range_with_len 0 n))) four
    ∙ four_bytes number (subst (λ (n : ℕ). number < 256 ^ n) four fits)

-- bytes compose a number below so many
composed_below : {X : Type 0} (g : X → ℕ) (xs : List X) → ((x : X) → g x < 256) → composed (map g xs) < 256 ^ length xs
composed_below g [] small = omega arith
composed_below g (x ∷ xs) small =
    let first : g x < 256 = small x in
    let later : composed (map g xs) < 256 ^ length xs = composed_below g xs small in
    let power : 256 ^ suc (length xs) ≡ 256 * 256 ^ length xs = omega arith in
    omega arith

-- ---- the value of a read by sources that lie in a box
module _ (box : Box) (r number : ℕ) where
  abbrev events : List Event
  events = box_events box

  abbrev e : Event
  e = event_at events r

  -- the byte of the number for a byte of the block
  abbrev pub byte_for : ℕ → ℕ
  byte_for b = slice_index (payload_of number) (b - e.first)

  -- a source stores this byte of it
  abbrev pub StoresIt : (b w : ℕ) → Type 0
  StoresIt b w = payload_at (event_at events w) b ≡ byte_for b

  -- of the byte reads before a place, each one of the read reads this number's byte; or one is undecided
  abbrev pub IsDecidedBelow : (place : ℕ) → Decided Bool → Type 0
  IsDecidedBelow place (Known true) = (k b w : ℕ) → k < place → slice_get (byte_reads events) k ≡ Some (r, b) → HasSource box k w → StoresIt b w
  IsDecidedBelow place (Known false) = ⊥
  IsDecidedBelow place (Open k) = IsUndecidedAt box k × ((byte_read_at events k).0 ≡ r)

  module _ (sound : AreEventsIn box.test.bytes (box_events box)) (known : r < length (box_events box)) (reads : does_read (event_at (box_events box) r).kind ≡ true) where
    payload_small : (w b : ℕ) → payload_at (event_at events w) b < 256
    payload_small w b = grind (arith, cases_lt, get_or_past)

    module _ (sources : List ℕ) (lie : AreSourcesIn box sources) where
      same_number : number < 256 ^ e.size → ((k b w : ℕ) → slice_get (byte_reads events) k ≡ Some (r, b) → HasSource box k w → StoresIt b w)
          → value_of events sources r ≡ number
      same_number fits each =
          ap composed (matched r (λ p. payload_at (event_at events p.1) p.0.1) (λ q. byte_for q.1) (byte_reads events) sources lie.sourced.one_each
          (λ i q w at is source. each i q.1 w (at ∙ ap (λ (n : ℕ). Some (n, q.1)) is) (lie.within i w source)))
          ∙ ap (λ (qs : List (ℕ × ℕ)). composed (map (λ q. byte_for q.1) qs)) (own_bytes events r known reads)
          ∙ ap composed (shifted_back r e.first (payload_of number) (range_with_len 0 e.size))
          ∙ composed_again number e.size (sound.sized r known) fits

      -- another number, as its byte is another at one place
      pub other_number : (k b w : ℕ) → slice_get (byte_reads events) k ≡ Some (r, b) → slice_get sources k ≡ Some w → ¬ StoresIt b w
          → (value_of events sources r == number) ≡ false
      other_number k b w at source other =
          false_of box.test.bytes events sound sources lie.sourced.one_each r b w (record { on = None; equal = true; value = number }) (k, at, source)
          (inl (refl, (λ same. other (sym same))))

      -- how many bytes it takes, and so how great its value can be
      count : length (filter (λ (p : (ℕ × ℕ) × ℕ). p.0.0 == r) (zip (byte_reads events) sources)) ≡ e.size
      count =
          sym (length-map (filter (λ (p : (ℕ × ℕ) × ℕ). p.0.0 == r) (zip (byte_reads events) sources)) (λ _. 0))
          ∙ ap length (matched r (λ _. 0) (λ _. 0) (byte_reads events) sources lie.sourced.one_each (λ i q w at is source. refl))
          ∙ length-map (only r (byte_reads events)) (λ _. 0)
          ∙ ap length (own_bytes events r known reads)
          ∙ length-map-range_with_len (λ k. (r, e.first + k)) 0 e.size

      value_below : value_of events sources r < 256 ^ e.size
      value_below = grind (arith, composed_below, count, payload_small)

    -- ---- what is decided
    -- a number that does not fit
    pub too_large : 256 ^ e.size ≤ number → IsReadDecided box r number (Known false)
    too_large large sources lie = grind (arith, ne_eqb, value_below)

    -- another byte at one place
    pub other_byte : (k b : ℕ) → slice_get (byte_reads events) k ≡ Some (r, b) → IsByteDecided box k (byte_for b) (Known false)
        → IsReadDecided box r number (Known false)
    other_byte k b at none sources lie =
        let inside : k < length sources = omega (arith, slice_get_within (byte_reads events) k (r, b) at, lie.sourced.one_each) in
        let w = get_or sources k 0 in
        let source : slice_get sources k ≡ Some w = slice_get-get_or sources k 0 inside in
        let here : (r, b) ≡ byte_read_at events k = sym (get_or_from_slice_get (byte_reads events) k (r, b) (0, 0) at) in
        let stored : payload_at (event_at events w) b ≡ stored_for box k w = ap (λ (q : ℕ × ℕ). payload_at (event_at events w) q.1) here in
        other_number sources lie k b w at source (λ same. false≢true (sym (none w (lie.within k w source)) ∙ eq-eqb _ _ (sym stored ∙ same)))

    pub decided_all : number < 256 ^ e.size → (decided : Decided Bool) → IsDecidedBelow (length (byte_reads events)) decided → IsReadDecided box r number decided
    decided_all fits decided each = grind (arith, eq-eqb, same_number, slice_get_within)

    -- one place more, of another read or of a byte that is the number's
    pub decided_next : (place : ℕ) (q : ℕ × ℕ) (decided : Decided Bool) → slice_get (byte_reads events) place ≡ Some q
        → (q.0 ≢ r) ⊎ IsByteDecided box place (byte_for q.1) (Known true) → IsDecidedBelow place decided → IsDecidedBelow (place + 1) decided
    decided_next place q decided at same each = grind (arith, cases_eq, cases_lt, get_or_from_slice_get, same_Some)
