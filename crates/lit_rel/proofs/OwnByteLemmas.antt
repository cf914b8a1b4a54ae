-- Of all bytes that are read, those of one read are the bytes of its event.
use Rattle.std.proofs.Common.{◌≡◌, ◌≢◌, ℕ, zero, suc, ◌+◌, ◌<◌, ◌≤◌, ◌==◌, Some, List, [], ◌∷◌, ◌++◌, length, get_or, map, filter, refl, ap, ◌∙◌, arith, append-nil, inl, inr, IsTrue}
use Rattle.std.specs.Prelude.{slice_get}
use Rattle.std.proofs.lemmas.Bool.{cases_Bool}
use Rattle.std.proofs.lemmas.Bool.Decides.{nat_tests}
use Rattle.std.proofs.lemmas.List.Elements.{filter-append}
use Rattle.std.proofs.lemmas.List.FromFn.{length-map-range_with_len}
use Rattle.std.proofs.lemmas.Option.{get_or_from_slice_get}
use Rattle.std.specs.List.{range_with_len}
use Rattle.lit_paths.specs.declared.event.Event.{Event}
use Rattle.lit_paths.specs.ByteReads.{byte_reads, byte_reads_from, bytes_read_by}
use Rattle.lit_paths.specs.Event.{does_read, event_at, no_event}

-- the byte reads of one read
abbrev pub only : ℕ → List (ℕ × ℕ) → List (ℕ × ℕ)
only r qs = filter {X = ℕ × ℕ} (λ q. q.0 == r) qs

all_retained : (r first : ℕ) (ks : List ℕ) → only r (map (λ k. (r, first + k)) ks) ≡ map (λ k. (r, first + k)) ks
all_retained r first [] = refl
all_retained r first (k ∷ ks) = grind (arith, nat_tests, all_retained r first ks)

none_retained : (r n first : ℕ) (ks : List ℕ) → n ≢ r → only r (map (λ k. (n, first + k)) ks) ≡ []
none_retained r n first [] other = refl
none_retained r n first (k ∷ ks) other = grind (arith, nat_tests, none_retained r n first ks other)

own_retained : (r : ℕ) (e : Event) → only r (bytes_read_by r e) ≡ bytes_read_by r e
own_retained r e = grind (arith, all_retained r e.first (range_with_len 0 e.size))

other_dropped : (r n : ℕ) (e : Event) → n ≢ r → only r (bytes_read_by n e) ≡ []
other_dropped r n e other = grind (arith, none_retained r n e.first (range_with_len 0 e.size) other)

only-append : (r : ℕ) (xs ys : List (ℕ × ℕ)) → only r (xs ++ ys) ≡ only r xs ++ only r ys
only-append r = filter-append (λ q. q.0 == r)

later_dropped : (r n : ℕ) (es : List Event) → r < n → only r (byte_reads_from n es) ≡ []
later_dropped r n [] less = refl
later_dropped r n (e ∷ es) less =
    rw (only-append r (bytes_read_by n e) (byte_reads_from (n + 1) es), other_dropped r n e (omega arith)) (later_dropped r (n + 1) es (omega arith))

-- the bytes of one event are those that it reads, in place
only_at : (r n k : ℕ) (es : List Event) → n + k ≡ r → only r (byte_reads_from n es) ≡ bytes_read_by r (get_or es k no_event)
only_at r n k [] sum = refl
only_at r n zero (x ∷ es) sum =
    let same : n ≡ r = omega arith in
    rw (only-append r (bytes_read_by n x) (byte_reads_from (n + 1) es), later_dropped r (n + 1) es (omega arith), append-nil (only r (bytes_read_by n x)), same)
    (own_retained r x)
only_at r n (suc k) (x ∷ es) sum =
    rw (only-append r (bytes_read_by n x) (byte_reads_from (n + 1) es), other_dropped r n x (omega arith)) (only_at r (n + 1) k es (omega arith))

pub only_its : (r n k : ℕ) (es : List Event) (e : Event) → n + k ≡ r → slice_get es k ≡ Some e
    → only r (byte_reads_from n es) ≡ bytes_read_by r e
only_its r n k es e sum at = only_at r n k es sum ∙ ap (bytes_read_by r) (get_or_from_slice_get es k e no_event at)

-- an event that reads has as many of them as its size, another none
pub all_read : (r : ℕ) (e : Event) → IsTrue (does_read e.kind) → length (bytes_read_by r e) ≡ e.size
all_read r e reads = rw reads (length-map-range_with_len {X = ℕ × ℕ} (λ k. (r, e.first + k)) 0 e.size)

few_read : (r : ℕ) (e : Event) → length (bytes_read_by r e) ≤ e.size
few_read r e = elim (cases_Bool (does_read e.kind)) [ inl reads ↦ omega (arith, all_read r e reads) | inr not ↦ rw not (omega arith) ]

pub few_own : (events : List Event) (r : ℕ) → length (only r (byte_reads events)) ≤ (event_at events r).size
few_own events r = rw (only_at r 0 r events (omega arith)) (few_read r (event_at events r))
