-- Relations of the byte reads that have a source, with one byte more.
use Rattle.std.proofs.Common.{◌≡◌, ◌↔◌, ◌⊎◌, ℕ, ◌+◌, ◌<◌, List, [], ◌∷◌, ◌++◌, Some, length, take, get_or, inl, inr, refl, sym, ap, ◌∙◌, arith}
use Rattle.std.proofs.lemmas.List.{length-map, length-take-le, map_push, take_more}
use Rattle.std.proofs.lemmas.Option.{slice_get-get_or, some_pair_parts}
use Rattle.std.specs.List.{slice_get}
use Rattle.lit_paths.specs.declared.event.Event.{Event}
use Rattle.lit_paths.specs.ByteReads.{byte_reads}
use Rattle.lit_paths.specs.Event.{event_at}
use Rattle.lit_rel.specs.declared.given.SourcedByte.{SourcedByte}
use Rattle.lit_rel.specs.Forbidden.{IsForbiddenBetween, IsForbiddenTriple}
use Rattle.lit_rel.specs.Internal.Given.{AreFirstReads, sources_of}
use Rattle.lit_rel.specs.ReadsFrom.{ReadsByteFrom, ReadsFromBy}
use Rattle.lit_rel.specs.SynchronizesWith.{CanSynchronize, SynchronizesBy}
use Rattle.lit_rel.proofs.PlaceLemmas.{place-left, place-middle, place-push}
use Rattle.lit_rel.proofs.SourceLemmas.{read_place}

-- a loop puts in what is given more
pub put_more : {old new less more here there : Type 0} → new ↔ (old ⊎ here) → old ↔ less → more ↔ (less ⊎ there) → here ↔ there → new ↔ more
put_more put so_far adds is = grind arith

-- what is given, and what is given with byte b of read r from source w
module _ (given more : ℕ → ℕ → ℕ → Type 0) (r b w : ℕ) (adds : (r' b' w' : ℕ) → more r' b' w' ↔ (given r' b' w' ⊎ ((r' ≡ r) × (b' ≡ b) × (w' ≡ w)))) where
  pub reads_from_more : (r' w' : ℕ) → ReadsFromBy more r' w' ↔ (ReadsFromBy given r' w' ⊎ ((r' ≡ r) × (w' ≡ w)))
  reads_from_more r' w' = (
    (λ h. elim ((adds r' h.0 w').0 h.1) [ inl old ↦ inl (h.0, old) | inr new ↦ inr (new.0, new.2) ]),
    (λ h. elim h [ inl old ↦ (old.0, (adds r' old.0 w').1 (inl old.1)) | inr new ↦ (b, (adds r' b w').1 (inr (new.0, refl, new.1))) ]),
  )

  -- with something that is asked of the read and the source
  asked_more : (Asked : ℕ → ℕ → Type 0) (r' w' : ℕ)
      → (ReadsFromBy more r' w' × Asked r' w') ↔ ((ReadsFromBy given r' w' × Asked r' w') ⊎ ((r' ≡ r) × (w' ≡ w) × Asked r w))
  asked_more Asked r' w' =
      let reads = reads_from_more r' w' in (
        (λ h. elim (reads.0 h.0) [ inl old ↦ inl (old, h.1) | inr new ↦ inr (new.0, new.1, rw (← new.0, ← new.1) h.1) ]),
        (λ h. elim h [ inl old ↦ (reads.1 (inl old.0), old.1) | inr new ↦ (reads.1 (inr (new.0, new.1)), rw (new.0, new.1) new.2) ]),
      )

  pub synchronizes_more : (events : List Event) (w' r' : ℕ) → SynchronizesBy events more w' r'
      ↔ (SynchronizesBy events given w' r' ⊎ ((r' ≡ r) × (w' ≡ w) × CanSynchronize (event_at events w) (event_at events r)))
  synchronizes_more events w' r' =
      let asked = asked_more (λ x y. CanSynchronize (event_at events y) (event_at events x)) r' w' in (
        (λ s. elim (asked.0 (s.reads, s.can)) [ inl old ↦ inl record { reads = old.0; can = old.1 } | inr new ↦ inr new ]),
        (λ h. let s = asked.1 (elim h [ inl old ↦ inl (old.reads, old.can) | inr new ↦ inr new ]) in record { reads = s.0; can = s.1 }),
      )

  pub forbidden_more : (events : List Event) (before : ℕ → ℕ → Type 0) (w' r' v : ℕ) → IsForbiddenTriple events more before w' r' v
      ↔ (IsForbiddenTriple events given before w' r' v ⊎ ((r' ≡ r) × (w' ≡ w) × IsForbiddenBetween events before w r v))
  forbidden_more events before w' r' v =
      let asked = asked_more (λ x y. IsForbiddenBetween events before y x v) r' w' in (
        (λ f. elim (asked.0 (f.reads, f.between)) [ inl old ↦ inl record { reads = old.0; between = old.1 } | inr new ↦ inr new ]),
        (λ h. let f = asked.1 (elim h [ inl old ↦ inl (old.reads, old.between) | inr new ↦ inr new ]) in record { reads = f.0; between = f.1 }),
      )

-- the next byte read is given its source
pub ReadsByteFrom-push : (events : List Event) (sources : List ℕ) (r b w : ℕ) → slice_get (byte_reads events) (length sources) ≡ Some (r, b)
    → (r' b' w' : ℕ) → ReadsByteFrom events (sources ++ w ∷ []) r' b' w' ↔ (ReadsByteFrom events sources r' b' w' ⊎ ((r' ≡ r) × (b' ≡ b) × (w' ≡ w)))
ReadsByteFrom-push events sources r b w left r' b' w' = (
  (λ h. elim (place-push sources w h.0 w' h.2) [
    | inl old ↦ inl (h.0, h.1, old.1)
    | inr last ↦ let parts = some_pair_parts r r' b b' (sym left ∙ rw last.0 at h.1) in inr (sym parts.0, sym parts.1, sym last.1)
  ]),
  (λ h. elim h [
    | inl old ↦ (old.0, old.1, place-left sources (w ∷ []) old.0 w' old.2)
    | inr new ↦ (length sources, cc, place-middle sources [] w ∙ ap Some (sym new.2))
  ]),
)

-- the first n bytes are given
abbrev pub GivenFirst : List Event → List SourcedByte → ℕ → ℕ → ℕ → ℕ → Type 0
GivenFirst events bytes n = ReadsByteFrom events (sources_of (take n bytes))

pub one_more : (events : List Event) (bytes : List SourcedByte) → AreFirstReads events bytes → (i : ℕ) (d : SourcedByte) → i < length bytes
    → (r b w : ℕ) → GivenFirst events bytes (i + 1) r b w
    ↔ (GivenFirst events bytes i r b w ⊎ ((r ≡ (get_or bytes i d).read) × (b ≡ (get_or bytes i d).byte) × (w ≡ (get_or bytes i d).source)))
one_more events bytes first i d within =
    let p = get_or bytes i d in
    let count : length (sources_of (take i bytes)) ≡ i = length-map (take i bytes) (λ (q : SourcedByte). q.source) ∙ length-take-le i bytes (omega arith) in
    let place = read_place events bytes first i p (slice_get-get_or bytes i d within) in
    rw (take_more bytes i d within, map_push (λ (q : SourcedByte). q.source) (take i bytes) p)
    (ReadsByteFrom-push events (sources_of (take i bytes)) p.read p.byte p.source (rw count place))
