-- The invariant of a part, and that it holds with one source more or less.
use Rattle.std.proofs.Common.{◌≡◌, ◌↔◌, ◌⊎◌, ℕ, ◌+◌, ◌<◌, ◌≤◌, List, ◌∷◌, [], ◌++◌, Some, length, map, take, get_or, sym, ap, ◌∙◌, subst, arith, inl, inr}
use Rattle.std.proofs.lemmas.Bool.{cases_lt}
use Rattle.std.proofs.lemmas.List.{get_or_past, length-map, length-take-le, length_push, take-take, map_push, take-append-le, take_at}
use Rattle.std.proofs.lemmas.List.Elements.{All-push, All-take}
use Rattle.std.specs.Prelude.{All}
use Rattle.std.proofs.lemmas.Option.{same_Some, slice_get_within, slice_get-get_or}
use Rattle.std.specs.List.{slice_get, take-map}
use Rattle.lit_syntax.specs.Syntax.{Litmus}
use Rattle.lit_paths.specs.declared.event.Event.{Event}
use Rattle.lit_paths.specs.declared.limits.TheConstants.{BYTE_READ_LIMIT}
use Rattle.lit_paths.specs.declared.byte_reads.ByteRead.{ByteRead}
use Rattle.lit_paths.specs.ByteReads.{byte_reads, pair_of}
use Rattle.lit_paths.specs.Members.{IsCandidate}
use Rattle.lit_paths.specs.Event.{event_at, no_event}
use Rattle.lit_paths.specs.Plan.{AreEventsIn, events_in}
use Rattle.lit_rel.specs.declared.given.SourcedByte.{SourcedByte}
use Rattle.lit_rel.specs.declared.part.prefix_state.PrefixState.{PrefixState}
use Rattle.lit_rel.specs.Broken.{HasFalseGuard, IsBroken}
use Rattle.lit_rel.specs.Part.{AreFirstSources, IsNextSource, PartModel, part_events, with_sources}
use Rattle.lit_rel.specs.Internal.Given.{AreFirstReads, HasBrokenBytes, IsKnown, part_of, read_of, sources_of}
use Rattle.lit_rel.specs.Internal.PrefixStates.{HasPrefixStates, IsPrefixState, IsOrder}
use Rattle.lit_rel.specs.Rows.{Holds}
use Rattle.lit_rel.specs.declared.rows.Rows.{Rows}
use Rattle.lit_rel.proofs.BrokenLemmas.{incoherent-iff, torn-iff}
use Rattle.lit_rel.proofs.PlaceLemmas.{place-push}
use Rattle.lit_rel.proofs.SourceLemmas.{AreFirstReads-push, AreFirstReads-take, next_read, read_known, take_from}

-- the rows of a part that is seen as this value are happens-before, of as many events and sources
pub given_order : (part value : PartModel) (prefix_state : PrefixState) → part ≡ value → IsPrefixState part prefix_state → (events : List Event) (sources : List ℕ) → events ≡ part_events value → sources ≡ value.sources → IsOrder events sources prefix_state.before.rows
given_order part value prefix_state view is events sources same_events same_sources = rw (same_events, same_sources) (rw view at is.before)

-- no event has more than four bytes
pub small_events : (block : ℕ) (events : List Event) → AreEventsIn block events → (n : ℕ) → (event_at events n).size ≤ 4
small_events block events sound n =
    elim (cases_lt n (length events)) [
      | inl within ↦ let sized = sound.sized n within in grind arith
      | inr past ↦ rw (get_or_past events n no_event past) (omega arith)
    ]

-- a byte with its source is one of the first byte reads
pub record IsNextByte (part : PartModel) (bytes : List SourcedByte) (byte : SourcedByte) : Type 0 where
  pub left : slice_get (byte_reads (part_events part)) (length bytes) ≡ Some (read_of byte)
  pub candidate : IsCandidate (part_events part) byte.read byte.byte byte.source

pub next_known : (part : PartModel) (bytes : List SourcedByte) (byte : SourcedByte) → IsNextByte part bytes byte → IsKnown (length (part_events part)) byte
next_known part bytes byte new = (read_known (part_events part) (length bytes) byte.read byte.byte new.left, new.candidate.known)

pub IsNextByte-from : (part : PartModel) (bytes : List SourcedByte) (source : ℕ) → part.sources ≡ sources_of bytes → IsNextSource part source → (reads : List ByteRead) → map pair_of reads ≡ byte_reads (part_events part) → (n : ℕ) → n ≡ length bytes → (d : ByteRead) → IsNextByte part bytes (record { read = (get_or reads n d).read; byte = (get_or reads n d).byte; source = source })
IsNextByte-from part bytes source same next reads are n is d =
    let events = part_events part in
    let count : length part.sources ≡ n = ap length same ∙ length-map bytes (λ (b : SourcedByte). b.source) ∙ sym is in
    let found = next_read (byte_reads events) reads are n (next.read, next.byte) d (ap (slice_get (byte_reads events)) (sym count) ∙ next.left) in
    let same_read : (next.read, next.byte) ≡ pair_of (get_or reads n d) = same_Some (next.read, next.byte) (pair_of (get_or reads n d)) (sym (ap (slice_get (byte_reads events)) (sym count) ∙ next.left) ∙ found.1) in
    record {
      left = ap (slice_get (byte_reads events)) (sym is) ∙ found.1;
      candidate = subst (λ (q : ℕ × ℕ). IsCandidate events q.0 q.1 source) same_read next.candidate;
    }

-- so its source is a candidate too, and those before it
AreFirstSources-push : (part : PartModel) (byte : SourcedByte) → slice_get (byte_reads (part_events part)) (length part.sources) ≡ Some (read_of byte) → IsCandidate (part_events part) byte.read byte.byte byte.source
    → AreFirstSources part → AreFirstSources (with_sources part (part.sources ++ byte.source ∷ []))
AreFirstSources-push part byte left candidate are i r b w at_read at_source =
    elim (place-push part.sources byte.source i w at_source) [
      | inl old ↦ are i r b w at_read old.1
      | inr last ↦
          let same : read_of byte ≡ (r, b) = same_Some (read_of byte) (r, b) (sym left ∙ ap (slice_get (byte_reads (part_events part))) (sym last.0) ∙ at_read) in
          subst (λ (q : ℕ × ℕ). IsCandidate (part_events part) q.0 q.1 w) same (subst (IsCandidate (part_events part) byte.read byte.byte) last.1 candidate)
    ]

-- what is asked byte by byte says whether a part is broken
pub broken-iff : (t : Litmus) (c : ℕ) (bytes : List SourcedByte) (rows : Rows) → AreFirstReads (events_in t c) bytes → IsOrder (events_in t c) (sources_of bytes) rows
    → (HasBrokenBytes (events_in t c) (Holds rows) bytes ⊎ HasFalseGuard (part_of t c bytes)) ↔ IsBroken (part_of t c bytes)
broken-iff t c bytes rows first is =
    sums ((λ h. (h.0, (is.pairs h.0 h.0).0 h.1)), (λ h. (h.0, (is.pairs h.0 h.0).1 h.1)))
    (incoherent-iff (events_in t c) bytes first (Holds rows) is.pairs) (torn-iff (events_in t c) bytes first)
  where
    sums : {A B C A' B' C' D : Type 0} → A ↔ A' → B ↔ B' → C ↔ C' → ((A ⊎ B ⊎ C) ⊎ D) ↔ ((A' ⊎ B' ⊎ C') ⊎ D)
    sums a b c = grind arith

module _ (t : Litmus) (c : ℕ) (bytes : List SourcedByte) (earlier : List PrefixState) (now : PrefixState) where
  -- with one byte more
  module _ (byte : SourcedByte) (so_far : HasPrefixStates t c bytes earlier now) (new : IsNextByte (part_of t c bytes) bytes byte) where
    -- there is room for it
    pub few_bytes : length bytes < BYTE_READ_LIMIT
    few_bytes =
        let below : length bytes < length (byte_reads (events_in t c)) = slice_get_within (byte_reads (events_in t c)) (length bytes) (read_of byte) new.left in
        let few : length (byte_reads (events_in t c)) ≤ BYTE_READ_LIMIT = so_far.sound.few_reads in
        omega arith

    pub sources_more : (more : List SourcedByte) → more ≡ bytes ++ byte ∷ [] → sources_of more ≡ sources_of bytes ++ byte.source ∷ []
    sources_more more pushed = ap sources_of pushed ∙ map_push (λ (b : SourcedByte). b.source) bytes byte

    pub left_of : slice_get (byte_reads (events_in t c)) (length (sources_of bytes)) ≡ Some (read_of byte)
    left_of = ap (slice_get (byte_reads (events_in t c))) (length-map bytes (λ (b : SourcedByte). b.source)) ∙ new.left

    pub first_more : (more : List SourcedByte) → more ≡ bytes ++ byte ∷ [] → AreFirstReads (events_in t c) more
    first_more more pushed = AreFirstReads-push (events_in t c) bytes so_far.first_reads more byte pushed new.left

    pub known_more : (more : List SourcedByte) → more ≡ bytes ++ byte ∷ [] → All (IsKnown (length (events_in t c))) more
    known_more more pushed =
        rw pushed (All-push (IsKnown (length (events_in t c))) bytes byte so_far.known (next_known (part_of t c bytes) bytes byte new))

    pub HasPrefixStates-push : (more : List SourcedByte) (prefix_states : List PrefixState) (next : PrefixState) → more ≡ bytes ++ byte ∷ [] → prefix_states ≡ earlier ++ now ∷ [] → IsPrefixState (part_of t c more) next → HasPrefixStates t c more prefix_states next
    HasPrefixStates-push more prefix_states next pushed pushed_state is = record {
      sound = so_far.sound;
      first_reads = first_more more pushed;
      known = known_more more pushed;
      candidates = rw (sources_more more pushed) (AreFirstSources-push (part_of t c bytes) byte left_of new.candidate so_far.candidates);
      one_each = rw (pushed, pushed_state, length_push bytes byte, length_push earlier now, so_far.one_each);
      at_all = is;
      at_less = λ k l at_k. elim (place-push earlier now k l (rw pushed_state at at_k)) [
        | inl old ↦ rw (pushed, take-append-le k bytes (byte ∷ []) (omega (arith, old.0, so_far.one_each))) (so_far.at_less k l old.1)
        | inr last ↦ rw (← last.1, pushed, take_at bytes (byte ∷ []) k (omega (arith, last.0, so_far.one_each))) so_far.at_all
      ];
    }

  -- with one byte less
  pub HasPrefixStates-pop : (n : ℕ) (d : PrefixState) (less : List SourcedByte) (prefix_states : List PrefixState) → HasPrefixStates t c bytes earlier now → n + 1 ≡ length bytes → less ≡ take n bytes → prefix_states ≡ take n earlier → HasPrefixStates t c less prefix_states (get_or earlier n d)
  HasPrefixStates-pop n d less prefix_states so_far count is_less are_prefix_states =
      let one_each : length earlier ≡ length bytes = so_far.one_each in
      let lower : length prefix_states ≡ n = ap length are_prefix_states ∙ length-take-le n earlier (omega arith) in
      record {
        sound = so_far.sound;
        first_reads = rw is_less (AreFirstReads-take (events_in t c) bytes so_far.first_reads n (omega arith));
        known = rw is_less (All-take (IsKnown (length (events_in t c))) n bytes so_far.known);
        candidates = λ i r b w at_read at_source.
            so_far.candidates i r b w at_read (take_from n (sources_of bytes) i w (rw (is_less, ← take-map (λ (b : SourcedByte). b.source) n bytes) at at_source));
        one_each = rw (is_less, length-take-le n bytes (omega arith)) lower;
        at_all = rw is_less (so_far.at_less n (get_or earlier n d) (slice_get-get_or earlier n d (omega arith)));
        at_less = λ k l at_k.
            let within = slice_get_within prefix_states k l at_k in
            rw (is_less, take-take k n bytes (omega arith)) (so_far.at_less k l (take_from n earlier k l (rw are_prefix_states at at_k)));
      }
