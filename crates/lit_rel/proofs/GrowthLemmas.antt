-- With more bytes given the relations grow, and a read all of whose bytes are given has the same value.
use Rattle.std.proofs.Common.{◌≡◌, ◌≢◌, ℕ, ◌==◌, suc, Some, List, [], ◌∷◌, ◌++◌, filter, get_or, map, refl, sym, subst, ap, ◌∙◌, ◌⊎◌, arith, inl, inr}
use Rattle.std.proofs.lemmas.Bool.{cases_eq}
use Rattle.std.proofs.lemmas.Bool.Decides.{nat_tests}
use Rattle.std.proofs.lemmas.Option.{none-some, same_Some, slice_get-get_or}
use Rattle.std.specs.List.{slice_get, zip}
use Rattle.lit_paths.specs.declared.event.Event.{Event}
use Rattle.lit_paths.specs.ByteReads.{byte_reads}
use Rattle.lit_paths.specs.Event.{event_at, payload_at}
use Rattle.lit_rel.specs.Growth.{HasCoherentReadsBy, IsForbiddenBy, GivenBy, GrowWithBytes, Grows, IsGivenWholeBy, ValuesStay}
use Rattle.lit_rel.specs.HappensBefore.{HappensBeforeBy, StepBy}
use Rattle.lit_rel.specs.ReadsFrom.{ReadsByteFrom, ReadsFromBy, composed, value_of}
use Rattle.lit_rel.specs.SynchronizesWith.{SynchronizesBy}
use Rattle.lit_rel.specs.TearFree.{ReadsWholeBy}
use Rattle.lit_rel.proofs.ByteReadLemmas.{read_once}
use Rattle.lit_rel.proofs.ChainLemmas.{Chain-same}
use Rattle.lit_rel.proofs.PlaceLemmas.{place-left}
use Rattle.lit_rel.proofs.SameRelations.{between_by, coherent_read_by}

module _ (events : List Event) (less more : ℕ → ℕ → ℕ → Type 0) (grows : (r b w : ℕ) → less r b w → more r b w) where
  reads_from : (r w : ℕ) → ReadsFromBy less r w → ReadsFromBy more r w
  reads_from r w h = (h.0, grows r h.0 w h.1)

  synchronizes : (w r : ℕ) → SynchronizesBy events less w r → SynchronizesBy events more w r
  synchronizes w r s = record { reads = reads_from r w s.reads; can = s.can }

  step : (e d : ℕ) → StepBy events less e d → StepBy events more e d
  step e d (inl ordered) = inl ordered
  step e d (inr rest) = elim rest [ inl s ↦ inr (inl (synchronizes e d s)) | inr made ↦ inr (inr made) ]

  happens_before : (e d : ℕ) → HappensBeforeBy events less e d → HappensBeforeBy events more e d
  happens_before e d h = record { middles = h.middles; chain = Chain-same (StepBy events less) (StepBy events more) step e h.middles d h.chain }

  forbidden : (w r v : ℕ) → IsForbiddenBy events less w r v → IsForbiddenBy events more w r v
  forbidden w r v f = record {
    reads = reads_from r w f.reads;
    between = between_by events (HappensBeforeBy events less) (HappensBeforeBy events more) happens_before w r v f.between;
  }

  coherent : HasCoherentReadsBy events more → HasCoherentReadsBy events less
  coherent has r b w h = coherent_read_by events (HappensBeforeBy events more) (HappensBeforeBy events less) happens_before r b w (has r b w (grows r b w h))

  whole : (r w : ℕ) → ReadsWholeBy events less r w → ReadsWholeBy events more r w
  whole r w h = record { reads = reads_from r w h.reads; can = h.can }

  pub Grows-from : Grows events less more
  Grows-from = record {
    reads_from = reads_from;
    synchronizes = synchronizes;
    happens_before = happens_before;
    forbidden = forbidden;
    coherent = coherent;
    tear_free = λ has r w v hw hv. has r w v (whole r w hw) (whole r v hv);
  }

pub ReadsByteFrom-longer : (events : List Event) (sources rest : List ℕ) (r b w : ℕ) → ReadsByteFrom events sources r b w → ReadsByteFrom events (sources ++ rest) r b w
ReadsByteFrom-longer events sources rest r b w h = (h.0, h.1, place-left sources rest h.0 w h.2)

pub grow_with_bytes : GrowWithBytes
grow_with_bytes = record {
  sets = λ events less more grows. Grows-from events (GivenBy less) (GivenBy more) grows;
  into_lists = λ events less sources grows. Grows-from events (GivenBy less) (ReadsByteFrom events sources) grows;
  lists = λ events sources rest. Grows-from events (ReadsByteFrom events sources) (ReadsByteFrom events (sources ++ rest)) (ReadsByteFrom-longer events sources rest);
}

-- the sources of a read, of which none come later
of_read : ℕ → List (ℕ × ℕ) → List ℕ → List ((ℕ × ℕ) × ℕ)
of_read r reads sources = filter (λ p. p.0.0 == r) (zip reads sources)

none_left : (r : ℕ) (reads : List (ℕ × ℕ)) (rest : List ℕ) → ((i b : ℕ) → slice_get reads i ≡ Some (r, b) → ⊥) → of_read r reads rest ≡ []
unfolding of_read
none_left r [] rest none = refl
none_left r (p ∷ reads) [] none = refl
none_left r (p ∷ reads) (w ∷ rest) none =
    let other : p.0 ≢ r = λ same. none 0 p.1 (ap (λ (k : ℕ). Some (k, p.1)) same) in
    let later : of_read r reads rest ≡ [] = none_left r reads rest (λ i b h. none (suc i) b h) in
    grind (arith, nat_tests)

-- the sources of its bytes are the same in two lists
of_read-same : (r : ℕ) (reads : List (ℕ × ℕ)) (sources others : List ℕ) → ((i b : ℕ) → slice_get reads i ≡ Some (r, b) → (w : ℕ) × (slice_get sources i ≡ Some w) × (slice_get others i ≡ Some w)) → of_read r reads others ≡ of_read r reads sources
unfolding of_read
of_read-same r [] sources others agree = refl
of_read-same r (p ∷ reads) [] others agree = none_left r (p ∷ reads) others (λ i b h. let a = agree i b h in none-some a.0 a.1)
of_read-same r (p ∷ reads) (v ∷ sources) [] agree = sym (none_left r (p ∷ reads) (v ∷ sources) (λ i b h. let a = agree i b h in none-some a.0 a.2))
of_read-same r (p ∷ reads) (v ∷ sources) (o ∷ others) agree = by (cases_eq p.0 r) (of_read-same r reads sources others (λ i b h. agree (suc i) b h))
  where
    by : (p.0 ≡ r) ⊎ (p.0 ≢ r) → of_read r reads others ≡ of_read r reads sources → of_read r (p ∷ reads) (o ∷ others) ≡ of_read r (p ∷ reads) (v ∷ sources)
    by (inl is) later =
        let a = agree 0 p.1 (ap (λ (k : ℕ). Some (k, p.1)) is) in
        let head : o ≡ v = same_Some o a.0 a.2 ∙ sym (same_Some v a.0 a.1) in
        rw (head, later)
    by (inr other) later = grind (arith, nat_tests)

-- the value of a read by lists of sources that have the same bytes of it
pub value-given : (events : List Event) (given : ℕ → ℕ → ℕ → Type 0) (sources others : List ℕ) (r : ℕ) → IsGivenWholeBy events given r → ((b w : ℕ) → given r b w → ReadsByteFrom events sources r b w) → ((b w : ℕ) → given r b w → ReadsByteFrom events others r b w)
    → value_of events others r ≡ value_of events sources r
unfolding of_read
value-given events given sources others r whole to other_to =
    ap (λ (ps : List ((ℕ × ℕ) × ℕ)). composed (map (λ p. payload_at (event_at events p.1) p.0.1) ps)) (of_read-same r (byte_reads events) sources others (λ i b at.
    let from = whole i b at in
    let one = to b from.0 from.1 in
    let two = other_to b from.0 from.1 in
    (from.0, subst (λ (j : ℕ). slice_get sources j ≡ Some from.0) (read_once events one.0 i (r, b) one.1 at) one.2, subst (λ (j : ℕ). slice_get others j ≡ Some from.0) (read_once events two.0 i (r, b) two.1 at) two.2)))

pub values_stay : ValuesStay
values_stay events sources rest r all =
    value-given events (ReadsByteFrom events sources) sources (sources ++ rest) r (λ i b at. (get_or sources i 0, (i, at, slice_get-get_or sources i 0 (all i b at)))) (λ b w from. from) (λ b w from. ReadsByteFrom-longer events sources rest r b w from)
