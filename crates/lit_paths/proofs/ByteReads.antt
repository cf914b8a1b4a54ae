-- The bytes that events read, event by event.
use Rattle.std.proofs.Common.{◌≡◌, ℕ, suc, ◌+◌, ◌<◌, ◌≤◌, List, [], ◌∷◌, ◌++◌, length, map, drop, get_or, Bool, true, false, if◌then◌else◌, arith, refl, sym, ap, ◌∙◌, length-append, append_assoc, slice_get, Some, Option, option_map, unwrap_or, zero-add, ◌-◌, ⊎_elim, subst}
use Rattle.std.specs.List.{range_with_len}
use Rattle.std.proofs.lemmas.Bool.{cases_lt}
use Rattle.std.proofs.lemmas.Option.{slice_get-map, slice_get_within, slice_get-get_or}
use Rattle.std.proofs.lemmas.List.{drop_more, map-append, length-map}
use Rattle.std.proofs.lemmas.List.FromFn.{length-range_with_len, get_or-range_with_len, length-map-range_with_len, map-range_with_len_more}
use Rattle.lit_paths.specs.declared.event.Event.{Event}
use Rattle.lit_paths.specs.declared.byte_reads.ByteRead.{ByteRead}
use Rattle.lit_paths.specs.Event.{HasByte, does_read, event_at, no_event}
use Rattle.lit_paths.specs.ByteReads.{bytes_read_by, byte_reads_from, byte_reads, pair_of}
use Rattle.lit_paths.proofs.Products.{slice_get_left, slice_get_right}

-- a byte, with the number of the read
abbrev pub byte_read : ℕ → ℕ → ℕ × ℕ
byte_read n b = (n, b)

-- the first k bytes of an event, each with the event's number
abbrev pub first_bytes : ℕ → Event → ℕ → List (ℕ × ℕ)
first_bytes n e k = map (λ i. byte_read n (e.first + i)) (range_with_len 0 k)

pub bytes_read_by-reads : (n : ℕ) (e : Event) → does_read e.kind ≡ true → bytes_read_by n e ≡ first_bytes n e e.size
bytes_read_by-reads n e h = ap (λ b. if b then first_bytes n e e.size else []) h

pub length-first_bytes : (n : ℕ) (e : Event) (k : ℕ) → length (first_bytes n e k) ≡ k
length-first_bytes n e k = length-map-range_with_len (λ i. (n, e.first + i)) 0 k

pub first_bytes_more : (n : ℕ) (e : Event) (k : ℕ) → first_bytes n e (k + 1) ≡ first_bytes n e k ++ (n, e.first + k) ∷ []
first_bytes_more n e k = map-range_with_len_more (λ i. (n, e.first + i)) 0 k k (omega arith)

-- no event reads more bytes than its range has
pub length-bytes_read_by : (n : ℕ) (e : Event) → length (bytes_read_by n e) ≤ e.size
length-bytes_read_by n e =
    let step : (b : Bool) → length (if b then first_bytes n e e.size else []) ≤ e.size
    = λ b. elim b as (λ v. length (if v then first_bytes n e e.size else []) ≤ e.size)
    [ true ↦ omega (arith, length-first_bytes n e e.size) | false ↦ omega arith ] in
    step (does_read e.kind)

pub byte_reads_from_more : (events : List Event) (i : ℕ) (d : Event) → i < length events
    → byte_reads_from i (drop i events) ≡ bytes_read_by i (get_or events i d) ++ byte_reads_from (i + 1) (drop (i + 1) events)
byte_reads_from_more events i d inside = ap (λ es. byte_reads_from i es) (drop_more events i d inside)

-- what is read of each event, one after the other
pub byte_reads_step : (events : List Event) (i : ℕ) (d : Event) (done more : List (ℕ × ℕ)) → i < length events
    → more ≡ done ++ bytes_read_by i (get_or events i d) → done ++ byte_reads_from i (drop i events) ≡ byte_reads events
    → more ++ byte_reads_from (i + 1) (drop (i + 1) events) ≡ byte_reads events
byte_reads_step events i d done more inside added before =
    ap (λ xs. xs ++ byte_reads_from (i + 1) (drop (i + 1) events)) added
    ∙ append_assoc done (bytes_read_by i (get_or events i d)) (byte_reads_from (i + 1) (drop (i + 1) events))
    ∙ ap (λ xs. done ++ xs) (sym (byte_reads_from_more events i d inside))
    ∙ before

pub byte_reads_room : (events : List Event) (i : ℕ) (d : Event) (done : List (ℕ × ℕ)) → i < length events
    → done ++ byte_reads_from i (drop i events) ≡ byte_reads events → length done + length (bytes_read_by i (get_or events i d)) ≤ length (byte_reads events)
byte_reads_room events i d done inside before =
    let left = byte_reads_from (i + 1) (drop (i + 1) events) in
    omega (
      arith,
      ap length before,
      length-append done (byte_reads_from i (drop i events)),
      ap length (byte_reads_from_more events i d inside),
      length-append (bytes_read_by i (get_or events i d)) left,
    )

-- room for the bytes of one more event
pub reads_room : (events : List Event) (i m : ℕ) (d : Event) (reads : List ByteRead) → i < length events → map pair_of reads ++ byte_reads_from i (drop i events) ≡ byte_reads events
    → length (byte_reads events) ≤ m → length reads + length (bytes_read_by i (get_or events i d)) ≤ m
reads_room events i m d reads inside before few =
    omega (arith, byte_reads_room events i d (map pair_of reads) inside before, few, length-map reads pair_of)

-- room for one more byte of an event
pub push_room : (n : ℕ) (e : Event) (k m : ℕ) (old now : List ByteRead) → does_read e.kind ≡ true → length old + length (bytes_read_by n e) ≤ m
    → map pair_of now ≡ map pair_of old ++ first_bytes n e k → k < e.size → length now < m
push_room n e k m old now reads room is inside =
    omega (
      arith,
      room,
      ap length is,
      length-append (map pair_of old) (first_bytes n e k),
      length-map old pair_of,
      length-map now pair_of,
      length-first_bytes n e k,
      ap length (bytes_read_by-reads n e reads),
      length-first_bytes n e e.size,
    )

pub push_step : (n : ℕ) (e : Event) (k : ℕ) (old now new : List ByteRead) (p : ByteRead) → map pair_of now ≡ map pair_of old ++ first_bytes n e k
    → new ≡ now ++ p ∷ [] → pair_of p ≡ (n, e.first + k) → map pair_of new ≡ map pair_of old ++ first_bytes n e (k + 1)
push_step n e k old now new p is pushed same =
    ap (map pair_of) pushed ∙ map-append pair_of now (p ∷ []) ∙ ap (λ (q : ℕ × ℕ). map pair_of now ++ q ∷ []) same
    ∙ ap (λ xs. xs ++ (n, e.first + k) ∷ []) is ∙ append_assoc (map pair_of old) (first_bytes n e k) ((n, e.first + k) ∷ [])
    ∙ ap (λ xs. map pair_of old ++ xs) (sym (first_bytes_more n e k))

-- a byte that is read by event k of these, of which the first has number n
abbrev pub IsRead : ℕ → List Event → ℕ → ℕ → Type 0
IsRead n events r b = (k : ℕ) × (r ≡ n + k) × (k < length events) × (does_read (get_or events k no_event).kind ≡ true) × HasByte (get_or events k no_event) b

first_bytes-known : (n : ℕ) (e : Event) (size i r b : ℕ) → slice_get (first_bytes n e size) i ≡ Some (r, b) → (r ≡ n) × (e.first ≤ b) × (b < e.first + size)
first_bytes-known n e size i r b at =
    let inside : i < size = omega (arith, slice_get_within (first_bytes n e size) i (r, b) at, length-first_bytes n e size) in
    let listed : slice_get (range_with_len 0 size) i ≡ Some i =
    slice_get-get_or (range_with_len 0 size) i 0 (omega (arith, inside, length-range_with_len 0 size)) ∙ ap (λ m. Some m) (get_or-range_with_len 0 size i 0 inside ∙ zero-add i) in
    let pair : Some (byte_read n (e.first + i)) ≡ Some (byte_read r b) =
    sym (slice_get-map (λ (k : ℕ). byte_read n (e.first + k)) (range_with_len 0 size) i ∙ ap (λ (o : Option ℕ). option_map (λ (k : ℕ). byte_read n (e.first + k)) o) listed) ∙ at in
    let same_read : n ≡ r = ap (λ (o : Option (ℕ × ℕ)). (unwrap_or o (0, 0)).0) pair in
    let same_byte : e.first + i ≡ b = ap (λ (o : Option (ℕ × ℕ)). (unwrap_or o (0, 0)).1) pair in
    (sym same_read, omega (arith, same_byte), omega (arith, same_byte, inside))

pub byte_reads_from-known : (n : ℕ) (events : List Event) (i r b : ℕ) → slice_get (byte_reads_from n events) i ≡ Some (r, b) → IsRead n events r b
byte_reads_from-known n [] i r b at = cc
byte_reads_from-known n (e ∷ es) i r b at =
    let later : (j : ℕ) → slice_get (byte_reads_from (n + 1) es) j ≡ Some (r, b) → IsRead n (e ∷ es) r b
    = λ j h. let rest = byte_reads_from-known (n + 1) es j r b h in (suc rest.0, omega (arith, rest.1), omega (arith, rest.2), rest.3, rest.4) in
    let shown : (v : Bool) → does_read e.kind ≡ v → slice_get ((if v then first_bytes n e e.size else []) ++ byte_reads_from (n + 1) es) i ≡ Some (r, b) → IsRead n (e ∷ es) r b
    = λ v. elim v as (λ v. does_read e.kind ≡ v → slice_get ((if v then first_bytes n e e.size else []) ++ byte_reads_from (n + 1) es) i ≡ Some (r, b) → IsRead n (e ∷ es) r b) [
      | true ↦ λ reads h. ⊎_elim
          (λ inside. let here = first_bytes-known n e e.size i r b (sym (slice_get_left (first_bytes n e e.size) (byte_reads_from (n + 1) es) i inside) ∙ h) in
          (0, omega (arith, here.0), omega arith, reads, (here.1, here.2)))
          (λ past. later (i - length (first_bytes n e e.size)) (sym (slice_get_right (first_bytes n e e.size) (byte_reads_from (n + 1) es) i (i - length (first_bytes n e e.size)) (omega (arith, past))) ∙ h))
          (cases_lt i (length (first_bytes n e e.size)))
      | false ↦ λ reads h. later i h
    ] in
    shown (does_read e.kind) refl at

-- a byte that is read is read by an event, in its range
pub byte_reads-known : (events : List Event) (i r b : ℕ) → slice_get (byte_reads events) i ≡ Some (r, b)
    → (r < length events) × (does_read (event_at events r).kind ≡ true) × HasByte (event_at events r) b
byte_reads-known events i r b at =
    let found = byte_reads_from-known 0 events i r b at in
    let same : found.0 ≡ r = omega (arith, found.1) in
    let P : ℕ → Type 0 = λ m. (does_read (event_at events m).kind ≡ true) × HasByte (event_at events m) b in
    let there = subst P same (found.3, found.4) in
    (omega (arith, same, found.2), there.0, there.1)
