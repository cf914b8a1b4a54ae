-- The byte reads that have a source, each against reads-bytes-from, and one more or one less of them.
use Rattle.std.proofs.Common.{◌≡◌, ◌⊎◌, ℕ, ◌+◌, ◌<◌, ◌≤◌, suc, zero, Bool, Some, List, [], ◌∷◌, ◌++◌, length, map, take, get_or, refl, sym, ap, ◌∙◌, subst, arith, inl, inr, true, false, cond, IsTrue}
use Rattle.std.proofs.lemmas.List.{length_push, map_push, length-map, length-take-le, take-take, take_more}
use Rattle.std.proofs.lemmas.Option.{none-some, same_Some, slice_get_within, get_or_from_slice_get, slice_get-get_or}
use Rattle.std.specs.List.{range_with_len, slice_get, take-map}
use Rattle.lit_paths.specs.declared.event.Event.{Event}
use Rattle.lit_paths.specs.Event.{HasByte, does_read, event_at}
use Rattle.lit_paths.specs.ByteReads.{byte_reads, byte_reads_from, bytes_read_by, pair_of}
use Rattle.lit_paths.specs.declared.byte_reads.ByteRead.{ByteRead}
use Rattle.lit_rel.specs.declared.given.SourcedByte.{SourcedByte}
use Rattle.lit_rel.specs.Internal.Given.{AreFirstReads, read_of, sources_of}
use Rattle.lit_rel.specs.ReadsFrom.{ReadsByteFrom}
use Rattle.lit_paths.proofs.Rising.{slice_get-map-found, slice_get-map-known}

-- what a slice of bytes gives past its end
abbrev pub no_byte : SourcedByte
no_byte = record { read = 0; byte = 0; source = 0 }

-- places in a front
pub take_from : {X : Type 0} (n : ℕ) (xs : List X) (i : ℕ) (x : X) → slice_get (take n xs) i ≡ Some x → slice_get xs i ≡ Some x
take_from zero xs i x h = absurd (none-some x h)
take_from (suc n) [] i x h = absurd (none-some x h)
take_from (suc n) (a ∷ xs) zero x h = h
take_from (suc n) (a ∷ xs) (suc i) x h = take_from n xs i x h

module _ (events : List Event) (bytes : List SourcedByte) (first : AreFirstReads events bytes) where
  pub read_place : (i : ℕ) (p : SourcedByte) → slice_get bytes i ≡ Some p → slice_get (byte_reads events) i ≡ Some (read_of p)
  read_place i p h =
      take_from (length bytes) (byte_reads events) i (read_of p)
      (subst (λ (xs : List (ℕ × ℕ)). slice_get xs i ≡ Some (read_of p)) first (slice_get-map-found read_of bytes i p h))

  -- each byte reads from its source
  pub read_at : (i : ℕ) (p : SourcedByte) → slice_get bytes i ≡ Some p → ReadsByteFrom events (sources_of bytes) p.read p.byte p.source
  read_at i p h = (i, read_place i p h, slice_get-map-found (λ (q : SourcedByte). q.source) bytes i p h)

-- a byte with this read, byte and source
pub record IsByte (p : SourcedByte) (r b w : ℕ) : Type 0 where
  pub read : p.read ≡ r
  pub byte : p.byte ≡ b
  pub source : p.source ≡ w

-- what reads-bytes-from holds of is a byte
pub byte_at : (events : List Event) (bytes : List SourcedByte) → AreFirstReads events bytes → (r b w : ℕ) → ReadsByteFrom events (sources_of bytes) r b w → (i : ℕ) × (p : SourcedByte) × (slice_get bytes i ≡ Some p) × IsByte p r b w
byte_at events bytes first r b w (i, hr, hw) =
    let found = slice_get-map-known (λ (q : SourcedByte). q.source) bytes i w hw in
    let same : read_of found.0 ≡ (r, b) = same_Some (read_of found.0) (r, b) (sym (read_place events bytes first i found.0 found.1) ∙ hr) in
    (i, found.0, found.1, record { read = ap (λ (q : ℕ × ℕ). q.0) same; byte = ap (λ (q : ℕ × ℕ). q.1) same; source = found.2 })

-- a place of two lists joined: in the first, or counted on in the second
in_joined : {X : Type 0} (xs ys : List X) (k : ℕ) (x : X) → slice_get (xs ++ ys) k ≡ Some x
    → (slice_get xs k ≡ Some x) ⊎ ((j : ℕ) × (slice_get ys j ≡ Some x))
in_joined [] ys k x at = inr (k, at)
in_joined (a ∷ xs) ys zero x at = inl at
in_joined (a ∷ xs) ys (suc k) x at = in_joined xs ys k x at

-- the k-th of the bytes from one on
range_at : (n first low count k : ℕ) (q : ℕ × ℕ) → slice_get (map (λ j. (n, first + j)) (range_with_len low count)) k ≡ Some q
    → (k < count) × (q.0 ≡ n) × (q.1 ≡ first + low + k)
range_at n first low zero k q at = absurd (none-some q at)
range_at n first low (suc count) zero q at = grind arith
range_at n first low (suc count) (suc k) q at = let later = range_at n first (low + 1) count k q at in omega arith

-- the k-th byte that an event reads
pub read_here : (n : ℕ) (e : Event) (k : ℕ) (q : ℕ × ℕ) → slice_get (bytes_read_by n e) k ≡ Some q
    → IsTrue (does_read e.kind) × (k < e.size) × (q.0 ≡ n) × (q.1 ≡ e.first + k)
read_here n e k q at = by (does_read e.kind) refl at
  where
    by : (t : Bool) → does_read e.kind ≡ t → slice_get (cond t (map (λ j. (n, e.first + j)) (range_with_len 0 e.size)) []) k ≡ Some q
        → IsTrue (does_read e.kind) × (k < e.size) × (q.0 ≡ n) × (q.1 ≡ e.first + k)
    by true reads at = let is = range_at n e.first 0 e.size k q at in (reads, is.0, is.1, omega arith)
    by false reads at = absurd (none-some q at)

-- of the events from number n on, one has the number of the read and reads the byte
pub read_from : (n : ℕ) (es : List Event) (k : ℕ) (q : ℕ × ℕ) → slice_get (byte_reads_from n es) k ≡ Some q
    → (m : ℕ) × (n + m ≡ q.0) × (m < length es) × IsTrue (does_read (event_at es m).kind) × HasByte (event_at es m) q.1
read_from n [] k q at = absurd (none-some q at)
read_from n (e ∷ es) k q at =
    elim (in_joined (bytes_read_by n e) (byte_reads_from (n + 1) es) k q at) [
      | inl here ↦ let is = read_here n e k q here in (0, omega arith, omega arith, is.0, omega arith)
      | inr later ↦ let is = read_from (n + 1) es later.0 q later.1 in (suc is.0, omega arith, omega arith, is.3, is.4)
    ]

-- a byte read is of a read and in its range
pub read_byte : (events : List Event) (k : ℕ) (q : ℕ × ℕ) → slice_get (byte_reads events) k ≡ Some q
    → (q.0 < length events) × IsTrue (does_read (event_at events q.0).kind) × HasByte (event_at events q.0) q.1
read_byte events k q at =
    let is = read_from 0 events k q at in
    let same : q.0 ≡ is.0 = omega arith in
    rw same (is.2, is.3, is.4)

pub read_known : (events : List Event) (i r b : ℕ) → slice_get (byte_reads events) i ≡ Some (r, b) → r < length events
read_known events i r b at = (read_byte events i (r, b) at).0

-- one byte more, and a front of the bytes
module _ (events : List Event) (bytes : List SourcedByte) (first : AreFirstReads events bytes) where
  pub AreFirstReads-push : (more : List SourcedByte) (p : SourcedByte) → more ≡ bytes ++ p ∷ [] → slice_get (byte_reads events) (length bytes) ≡ Some (read_of p) → AreFirstReads events more
  AreFirstReads-push more p pushed next =
      let all = byte_reads events in
      let within : length bytes < length all = slice_get_within all (length bytes) (read_of p) next in
      let here : get_or all (length bytes) (read_of p) ≡ read_of p = get_or_from_slice_get all (length bytes) (read_of p) (read_of p) next in
      rw (pushed, length_push bytes p, map_push read_of bytes p, take_more all (length bytes) (read_of p) within, here, first)

  pub AreFirstReads-take : (n : ℕ) → n ≤ length bytes → AreFirstReads events (take n bytes)
  AreFirstReads-take n few =
      sym (take-map read_of n bytes) ∙ ap (take n) first ∙ take-take n (length bytes) (byte_reads events) few
      ∙ ap (λ (m : ℕ). take m (byte_reads events)) (sym (length-take-le n bytes few))

-- the next byte read, as the code has it
pub next_read : (all : List (ℕ × ℕ)) (reads : List ByteRead) → map pair_of reads ≡ all → (n : ℕ) (q : ℕ × ℕ) (d : ByteRead) → slice_get all n ≡ Some q → (n < length reads) × (slice_get all n ≡ Some (pair_of (get_or reads n d)))
next_read all reads same n q d h =
    let count : length reads ≡ length all = sym (length-map reads pair_of) ∙ ap length same in
    let below : n < length all = slice_get_within all n q h in
    let within : n < length reads = omega arith in
    (within, subst (λ (xs : List (ℕ × ℕ)). slice_get xs n ≡ Some (pair_of (get_or reads n d))) same (slice_get-map-found pair_of reads n (get_or reads n d) (slice_get-get_or reads n d within)))
