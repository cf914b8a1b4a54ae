-- What refuses a part, by relations that hold of the same pairs, and that a part that nothing refuses is not broken.
use Rattle.lit_why.specs.RacingPair.{IsLesserPair}
use Rattle.lit_rel.proofs.SourceLemmas.{read_from, read_here}
use Rattle.std.proofs.Common.{◌≡◌, ◌⊎◌, ◌↔◌, ℕ, ◌+◌, ◌<◌, ◌≤◌, ◌==◌, false, Option, Some, None, List, [], ◌∷◌, length, map, get_or, suc, refl, sym, ap, subst, eqb-true, arith, inl, inr, ◌∙◌}
use Rattle.std.proofs.lemmas.Bool.{cases_eq, cases_lt, cases_order, false_from_ne_true}
use Rattle.std.proofs.lemmas.Option.{get_or_from_slice_get, none-some, same_Some, slice_get-get_or, slice_get_within}
use Rattle.std.specs.List.{filter, slice_get, zip}
use Rattle.lit_paths.proofs.Rising.{RisesBy, append-rises, slice_get-map-found, slice_get-map-known}
use Rattle.lit_paths.specs.ByteReads.{byte_reads, byte_reads_from, bytes_read_by, pair_of}
use Rattle.lit_order.proofs.SameOrders.{IsOrderOf-same}
use Rattle.lit_order.specs.MemoryOrder.{HasOrder, IsMemoryOrder}
use Rattle.lit_paths.specs.Members.{AreSources}
use Rattle.lit_paths.specs.Event.{event_at, payload_at}
use Rattle.lit_paths.specs.Plan.{first_event, path_in}
use Rattle.lit_paths.specs.declared.byte_reads.ByteRead.{ByteRead}
use Rattle.lit_paths.specs.declared.event.Event.{Event}
use Rattle.lit_paths.specs.declared.path.Tested.{Tested}
use Rattle.lit_rel.proofs.ByteReadLemmas.{are_of_events}
use Rattle.lit_rel.specs.Broken.{HasFalseGuard, HasFalseGuardOn, IsBroken, number_on}
use Rattle.lit_rel.specs.Coherent.{HasCoherentReads, Hides, IsCoherentRead}
use Rattle.lit_rel.specs.Forbidden.{IsForbidden}
use Rattle.lit_rel.specs.Growth.{IsGivenWhole}
use Rattle.lit_rel.specs.Part.{PartModel, part_events}
use Rattle.lit_rel.specs.ReadsFrom.{ReadsFrom, composed, value_of}
use Rattle.lit_rel.specs.TearFree.{HasTearFreeReads}
use Rattle.lit_valid.specs.PartOutcome.{observed_value}
use Rattle.lit_why.specs.Internal.Refusing.{AreTorn, IsFirstFalse, IsFirstIncoherent, IsLeastCause, IsLeastFalse}
use Rattle.lit_why.specs.declared.refusals.causes.Refusal.{Refusal}
use Rattle.lit_why.specs.declared.refusals.causes.Refusal.TheVariants.{BeforeItself, FalseGuard, Incoherent, NoOrder, Torn}
use Rattle.lit_why.specs.Refusal.{IsRefusal, BeforeIn, HasNoCycle, HasNoFalse, IsFalseAt, IsFalseIn, IsIncoherentAt, IsRefutingCause, IsTornBy}
use Rattle.lit_why.specs.declared.refusals.causes.Incoherence.{Incoherence}
use Rattle.lit_why.specs.declared.refusals.causes.Incoherence.TheVariants.{HiddenBy, ReadFirst}

-- ---- a number that is no event's has no value
filter_none : (reads : List (ℕ × ℕ)) (sources : List ℕ) (r : ℕ) → ((k : ℕ) (q : ℕ × ℕ) → slice_get reads k ≡ Some q → q.0 ≡ r → ⊥)
    → filter (λ (p : (ℕ × ℕ) × ℕ). p.0.0 == r) (zip reads sources) ≡ []
filter_none [] sources r none = refl
filter_none (q ∷ reads) [] r none = refl
filter_none (q ∷ reads) (w ∷ sources) r none =
    let apart : (q.0 == r) ≡ false = false_from_ne_true (q.0 == r) (λ h. none 0 q refl (eqb-true q.0 r h)) in
    rw apart (filter_none reads sources r (λ k p at same. none (suc k) p at same))

pub value_past : (events : List Event) (sources : List ℕ) (r : ℕ) → length events ≤ r → value_of events sources r ≡ 0
value_past events sources r past =
    let none = filter_none (byte_reads events) sources r (λ k q at same. let known = (are_of_events events).known k q.0 q.1 at in absurd (omega arith)) in
    ap (λ (ps : List ((ℕ × ℕ) × ℕ)). composed (map (λ p. payload_at (event_at events p.1) p.0.1) ps)) none

-- ---- guards
module _ (part : PartModel) (agent : ℕ) (guards : List Tested) (first : ℕ) (is_guards : guards ≡ (path_in part.test part.combination agent).tests)
    (is_first : first ≡ first_event part.test part.combination agent) where
  pub none_here : ((k : ℕ) (guard : Tested) → slice_get guards k ≡ Some guard → ¬ IsFalseIn part first guard) → (p : ℕ) → IsFalseAt part agent p → ⊥
  none_here none p h = none p h.guard (rw is_guards h.at_place) (rw is_first h.is_false)

  pub least_here : agent < length part.test.agents → (place : ℕ) → IsFirstFalse part first guards place → ((a : ℕ) → a < agent → (p : ℕ) → IsFalseAt part a p → ⊥) → IsLeastFalse part agent place
  least_here known place h before = record {
    is_false = record { known = known; guard = h.guard; at_place = rw is_guards at h.at_place; is_false = rw is_first at h.is_false };
    least = λ a p other less. elim less [
      | inl less_agent ↦ before a less_agent p other
      | inr less_place ↦
          let here : IsFalseAt part agent p = (let P : ℕ → Type 0 = λ x. IsFalseAt part x p in subst P less_place.0 other) in
          h.least p here.guard less_place.1 (rw is_guards here.at_place) (rw is_first here.is_false)
    ];
  }

-- ---- bytes, one more
pub coherent_more : (events : List Event) (before : ℕ → ℕ → Type 0) (reads : List ByteRead) (sources : List ℕ) (place : ℕ) (d : ByteRead) (e : ℕ)
    → ((k : ℕ) (other : ByteRead) (u : ℕ) → k < place → slice_get reads k ≡ Some other → slice_get sources k ≡ Some u → IsCoherentRead events before other.read other.byte u)
    → IsCoherentRead events before (get_or reads place d).read (get_or reads place d).byte (get_or sources place e)
    → (k : ℕ) (other : ByteRead) (u : ℕ) → k < place + 1 → slice_get reads k ≡ Some other → slice_get sources k ≡ Some u → IsCoherentRead events before other.read other.byte u
coherent_more events before reads sources place d e so_far here k other u less at_read at_source =
    elim (cases_eq k place) [
      | inl same ↦
          let is_read = get_or_from_slice_get reads place other d (rw same at at_read) in
          let is_source = get_or_from_slice_get sources place u e (rw same at at_source) in
          rw (← is_read, ← is_source) here
      | inr apart ↦ so_far k other u (omega arith) at_read at_source
    ]

-- ---- byte reads rise
abbrev IsLess : ℕ × ℕ → ℕ × ℕ → Type 0
IsLess p q = (p.0 < q.0) ⊎ ((p.0 ≡ q.0) × (p.1 < q.1))

rises_from : (n : ℕ) (es : List Event) → RisesBy IsLess (byte_reads_from n es)
rises_from n [] = λ i j p q less here there. absurd (none-some p here)
rises_from n (e ∷ es) =
    append-rises IsLess (bytes_read_by n e) (byte_reads_from (n + 1) es)
    (λ i j p q less here there. let one = read_here n e i p here in let other = read_here n e j q there in inr (omega arith, omega arith))
    (rises_from (n + 1) es)
    (λ i j p q here there. let one = read_here n e i p here in let other = read_from (n + 1) es j q there in inl (omega arith))

not_lesser : (q c r b : ℕ) → IsLess (r, b) (q, c) → ¬ IsLesserPair q c r b
not_lesser q c r b (inl more) (inl less) = omega arith
not_lesser q c r b (inl more) (inr less) = let same : q ≡ r = less.0 in omega arith
not_lesser q c r b (inr more) (inl less) = let same : r ≡ q = more.0 in omega arith
not_lesser q c r b (inr more) (inr less) = let one : c < b = less.1 in let other : b < c = more.1 in omega arith

not_lesser_same : (q c r b : ℕ) → r ≡ q → b ≡ c → ¬ IsLesserPair q c r b
not_lesser_same q c r b same also (inl less) = omega arith
not_lesser_same q c r b same also (inr less) = let one : c < b = less.1 in omega arith

-- ---- by relations that hold of the same pairs
module _ (part : PartModel) (before reads : ℕ → ℕ → Type 0) (same : (e d : ℕ) → before e d ↔ BeforeIn part e d)
    (same_reads : (r w : ℕ) → reads r w ↔ ReadsFrom (part_events part) part.sources r w) where
  hides_same : (r b w v : ℕ) → Hides (part_events part) before r b w v → Hides (part_events part) (BeforeIn part) r b w v
  hides_same r b w v h = record { writes = h.writes; in_range = h.in_range; after_source = (same w v).0 h.after_source; before_read = (same v r).0 h.before_read }

  hides_back : (r b w v : ℕ) → Hides (part_events part) (BeforeIn part) r b w v → Hides (part_events part) before r b w v
  hides_back r b w v h = record { writes = h.writes; in_range = h.in_range; after_source = (same w v).1 h.after_source; before_read = (same v r).1 h.before_read }

  coherent_same : (r b w : ℕ) → IsCoherentRead (part_events part) before r b w → IsCoherentRead (part_events part) (BeforeIn part) r b w
  coherent_same r b w c = record { not_later = λ h. c.not_later ((same r w).1 h); not_hidden = λ v h. c.not_hidden v (hides_back r b w v h) }

  hidden_same : (r b w : ℕ) (cause : Incoherence) → IsLeastCause (part_events part) before r b w cause → IsRefutingCause part r b w cause
  hidden_same r b w ReadFirst h = (same r w).0 h
  hidden_same r b w (HiddenBy v) h = ((λ later. h.0 ((same r w).1 later)), hides_same r b w v h.1, λ u less hides. h.2 u less (hides_back r b w u hides))

  hidden_incoherent : (r b w : ℕ) (cause : Incoherence) → IsRefutingCause part r b w cause → ¬ IsCoherentRead (part_events part) (BeforeIn part) r b w
  hidden_incoherent r b w ReadFirst h c = c.not_later h
  hidden_incoherent r b w (HiddenBy v) h c = c.not_hidden v h.1

  module _ (list : List ByteRead) (sources : List ℕ) (is_list : map pair_of list ≡ byte_reads (part_events part)) (is_sources : sources ≡ part.sources) where
    at_byte : (k r b : ℕ) → slice_get (byte_reads (part_events part)) k ≡ Some (r, b) → (x : ByteRead) × (slice_get list k ≡ Some x) × (pair_of x ≡ (r, b))
    at_byte k r b at = slice_get-map-known pair_of list k (r, b) (rw is_list at)

    pub all_coherent : ((k : ℕ) (at : ByteRead) (w : ℕ) → slice_get list k ≡ Some at → slice_get sources k ≡ Some w → IsCoherentRead (part_events part) before at.read at.byte w)
        → HasCoherentReads (part_events part) part.sources
    all_coherent each r b w given =
        let x = at_byte given.0 r b given.1 in
        let P : ℕ × ℕ → Type 0 = λ p. IsCoherentRead (part_events part) (BeforeIn part) p.0 p.1 w in
        subst P x.2 (coherent_same x.0.read x.0.byte w (each given.0 x.0 w x.1 (rw is_sources given.2)))

    pub first_incoherent_same : (place r b w : ℕ) (cause : Incoherence) → IsFirstIncoherent (part_events part) before list sources place r b w cause
        → IsIncoherentAt part r b w × IsRefutingCause part r b w cause × ((q c u : ℕ) → IsIncoherentAt part q c u → ¬ IsLesserPair q c r b)
    first_incoherent_same place r b w cause h =
        let why = hidden_same r b w cause h.hidden in
        let at = rw (is_list, h.read, h.of_byte) at (slice_get-map-found pair_of list place h.byte h.at_read) in (
          record { given = (place, at, rw is_sources at h.at_source); incoherent = hidden_incoherent r b w cause why },
          why,
          (λ q c u inc. elim (cases_order inc.given.0 place) [
            | inl same ↦
                let one : (r, b) ≡ (q, c) = same_Some (r, b) (q, c) (sym at ∙ rw same at inc.given.1) in
                not_lesser_same q c r b (ap (λ (p : ℕ × ℕ). p.0) one) (ap (λ (p : ℕ × ℕ). p.1) one)
            | inr (inl less) ↦
                let x = at_byte inc.given.0 q c inc.given.1 in
                let P : ℕ × ℕ → Type 0 = λ p. IsCoherentRead (part_events part) (BeforeIn part) p.0 p.1 u in
                absurd (inc.incoherent (subst P x.2 (coherent_same x.0.read x.0.byte u (h.least inc.given.0 x.0 u less x.1 (rw is_sources inc.given.2)))))
            | inr (inr more) ↦ not_lesser q c r b (rises_from 0 (part_events part) place inc.given.0 (r, b) (q, c) more at inc.given.1)
          ]),
        )

  pub torn_same : (r w v : ℕ) → AreTorn (part_events part) reads r w v → IsTornBy part r w v
  torn_same r w v h = record {
    first = record { reads = (same_reads r w).0 h.first.0; can = h.first.1 };
    second = record { reads = (same_reads r v).0 h.second.0; can = h.second.1 };
    rising = h.rising;
  }

  pub torn_back : (r w v : ℕ) → IsTornBy part r w v → AreTorn (part_events part) reads r w v
  torn_back r w v h = record {
    first = ((same_reads r w).1 h.first.reads, h.first.can);
    second = ((same_reads r v).1 h.second.reads, h.second.can);
    rising = h.rising;
  }

  pub all_tear_free : ((r w v : ℕ) → ¬ AreTorn (part_events part) reads r w v) → HasTearFreeReads (part_events part) part.sources
  all_tear_free none r w v first second =
      elim (cases_eq v w) [
        | inl one ↦ one
        | inr apart ↦ elim (cases_lt w v) [
          | inl less ↦ absurd (none r w v (torn_back r w v (record { first = first; second = second; rising = less })))
          | inr other ↦ absurd (none r v w (torn_back r v w (record { first = second; second = first; rising = omega arith })))
        ]
      ]

-- ---- what nothing refuses is not broken
module _ (part : PartModel) where
  false_on : (asked : Option ℕ) (value : ℕ) → value ≡ observed_value part asked → HasFalseGuardOn part.test part.combination asked value → HasNoFalse part → ⊥
  false_on asked value is h none =
      none h.agent h.place (record { known = h.known; guard = h.test; at_place = h.at_place; is_false = rw (h.asks, ← is) h.is_false })

  pub not_broken : HasNoFalse part → HasNoCycle part → HasCoherentReads (part_events part) part.sources → HasTearFreeReads (part_events part) part.sources → ¬ IsBroken part
  not_broken no_false no_cycle coherent tear_free (inl (inl cycle)) = no_cycle cycle.0 cycle.1
  not_broken no_false no_cycle coherent tear_free (inl (inr (inl byte))) = byte.incoherent (coherent byte.read byte.byte byte.source byte.is_given)
  not_broken no_false no_cycle coherent tear_free (inl (inr (inr torn))) = torn.two_sources (tear_free torn.read torn.source torn.other torn.first torn.second)
  not_broken no_false no_cycle coherent tear_free (inr (inl unwritten)) = false_on None 0 refl unwritten no_false
  not_broken no_false no_cycle coherent tear_free (inr (inr read)) = false_on (Some read.0) (value_of (part_events part) part.sources read.0) refl read.2 no_false

-- sources are events
pub source_known : (events : List Event) (sources : List ℕ) → AreSources events sources → (k w : ℕ) → slice_get sources k ≡ Some w → w < length events
source_known events sources are k w at =
    let within = slice_get_within sources k w at in
    let inside : k < length (byte_reads events) = (let each = are.one_each in omega arith) in
    let read : ℕ × ℕ = get_or (byte_reads events) k (0, 0) in
    (are.each k read.0 read.1 w (slice_get-get_or (byte_reads events) k (0, 0) inside) at).known

pub read_known : (events : List Event) (list : List ByteRead) → map pair_of list ≡ byte_reads events → (k : ℕ) (at : ByteRead) → slice_get list k ≡ Some at → at.read < length events
read_known events list is k at at_k = (are_of_events events).known k at.read at.byte (rw is at (slice_get-map-found pair_of list k at at_k))

-- an order of what stands for happens-before and for the triples is a memory-order, and the other way round
pub orders_same : (part : PartModel) (n : ℕ) (before : ℕ → ℕ → Type 0) (forbidden : ℕ → ℕ → ℕ → Type 0) → n ≡ length (part_events part) → ((e d : ℕ) → before e d ↔ BeforeIn part e d)
    → ((w r v : ℕ) → forbidden w r v ↔ IsForbidden (part_events part) part.sources w r v)
    → HasOrder n before forbidden ↔ ((order : List ℕ) × IsMemoryOrder (part_events part) part.sources order)
orders_same part n before forbidden len same same_triples =
    let events = part_events part in (
      (λ h. (h.0, IsOrderOf-same n (length events) before (BeforeIn part) forbidden (IsForbidden events part.sources) len (λ a d. (same a d).1) (λ w r v. (same_triples w r v).1) h.0 h.1)),
      (λ h. (h.0, IsOrderOf-same (length events) n (BeforeIn part) before (IsForbidden events part.sources) forbidden (sym len) (λ a d. (same a d).0) (λ w r v. (same_triples w r v).0) h.0 h.1)),
    )

-- ---- what is refused is broken, or has no order
module _ (part : PartModel) (are : AreSources (part_events part) part.sources) where
  all_given : (r : ℕ) → IsGivenWhole (part_events part) part.sources r
  all_given r i b at =
      let within = slice_get_within (byte_reads (part_events part)) i (r, b) at in
      let each = are.one_each in
      omega arith

  false_breaks : (agent place : ℕ) → IsFalseAt part agent place → HasFalseGuard part
  false_breaks agent place h = go (number_on (first_event part.test part.combination agent) h.guard.on) refl
    where
      go : (asked : Option ℕ) → number_on (first_event part.test part.combination agent) h.guard.on ≡ asked → HasFalseGuard part
      go None asks = inl record { agent = agent; known = h.known; place = place; test = h.guard; at_place = h.at_place; asks = asks; is_false = rw asks at h.is_false }
      go (Some r) asks =
          inr (r, all_given r, record { agent = agent; known = h.known; place = place; test = h.guard; at_place = h.at_place; asks = asks; is_false = rw asks at h.is_false })

  pub refused : (refusal : Refusal) → IsRefusal part refusal → IsBroken part ⊎ (¬ IsBroken part × ((order : List ℕ) → ¬ IsMemoryOrder (part_events part) part.sources order))
  refused (FalseGuard agent place) h = inl (inr (false_breaks agent place h.0))
  refused (BeforeItself event) h = inl (inl (inl (event, h.1)))
  refused (Incoherent r b w cause) h =
      let at = h.2 in inl (inl (inr (inl record { read = r; byte = b; source = w; is_given = at.given; incoherent = at.incoherent })))
  refused (Torn r w v) h =
      let torn = h.3 in
      let less : w < v = torn.rising in
      inl (inl (inr (inr record { read = r; source = w; other = v; first = torn.first; second = torn.second; two_sources = λ same. absurd (omega arith) })))
  refused NoOrder h = inr (not_broken part h.0 h.1 h.2 h.3, h.4)
