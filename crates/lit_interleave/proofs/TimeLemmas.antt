-- The accesses that an agent makes on a walk, those of all agents in the order of time, and their numbers.
use Rattle.lit_interleave.proofs.Words.{◌+◌, ◌++◌, ◌-◌, ◌<◌, [], ap, append-nil, append_assoc, ap₂, AreStatementsIn, arith, Bool, cases_lt}
use Rattle.lit_interleave.proofs.Words.{cases_order, compare_exchange_event, CompareExchange, cond, End, Event, event_at, events_of}
use Rattle.lit_interleave.proofs.Words.{Exchange, false, filter, flat_map, get_or, get_or-append-add, get_or-flat_map}
use Rattle.lit_interleave.proofs.Words.{get_or-map-range_with_len, get_or-range_with_len, get_or_append_left, get_or_from_slice_get, If}
use Rattle.lit_interleave.proofs.Words.{init_event, init_events, inl, inr, is_in_block, IsAgentOrdered, IsListOfAll, IsMadeBefore}
use Rattle.lit_interleave.proofs.Words.{IsStatementIn, IsStatementWalk, IsTrue, IsWalk, length, length-append, length-flat_map-take}
use Rattle.lit_interleave.proofs.Words.{length-init_events, length-range_with_len, List, Load, map, map-append, maps, access_event}
use Rattle.lit_interleave.proofs.Words.{nat_tests, no_event, None, none-some, Option, order-other, range_with_len, refl}
use Rattle.lit_interleave.proofs.Words.{replicate, same_Some, slice_get, slice_get-get_or, slice_get-map-found, slice_get-map-known}
use Rattle.lit_interleave.proofs.Words.{slice_get_left, slice_get_right, slice_get_within, Some, StandsBefore, Statement, Statements, Step}
use Rattle.lit_interleave.proofs.Words.{Store, subst, suc, sym, take, Then, true, Window, window-in_block, zero, ℕ, ◌∙◌, ◌∷◌}
use Rattle.lit_interleave.proofs.Words.{◌≡◌, ◌≢◌, ◌≤◌, ◌⊎◌}
use Rattle.lit_paths.specs.declared.event.Order3.TheVariants.{Init}
use Rattle.lit_paths.specs.Path.{events_on}
use Rattle.lit_interleave.proofs.MomentLemmas.{few_bytes}
use Rattle.lit_interleave.proofs.ActLemmas.{is_owned_by, same_agent}
use Rattle.lit_interleave.proofs.FutureLemmas.{own_events}
use Rattle.lit_paths.specs.declared.event.Kind.{Kind}
use Rattle.lit_paths.specs.declared.event.Kind.TheVariants.{Read, Write, Modify}

-- an access of an agent, at a place in its own order
pub record IsAccessOf (bytes owner place : ℕ) (e : Event) : Type 0 where
  pub owned : e.owner ≡ Some owner
  pub placed : e.place ≡ place
  pub accessed : e.order ≢ Init
  pub in_block : e.first + e.size ≤ bytes
  pub stored : e.size ≤ length e.payload

-- accesses of an agent, of which the first has this place
abbrev pub AreAccessesOf : (bytes owner place : ℕ) → List Event → Type 0
AreAccessesOf bytes owner place [] = Unit {0}
AreAccessesOf bytes owner place (e ∷ es) = IsAccessOf bytes owner place e × AreAccessesOf bytes owner (place + 1) es

pub access_at : (bytes owner place : ℕ) (es : List Event) (k : ℕ) (e : Event) → AreAccessesOf bytes owner place es → slice_get es k ≡ Some e → IsAccessOf bytes owner (place + k) e
access_at bytes owner place [] k e are at = let no : None ≡ Some e = at in absurd (none-some e no)
access_at bytes owner place (x ∷ es) zero e are at =
    let same : x ≡ e = cc in
    subst (IsAccessOf bytes owner (place + 0)) same (subst (λ (p : ℕ). IsAccessOf bytes owner p x) (let s : place ≡ place + 0 = omega arith in s) are.0)
access_at bytes owner place (x ∷ es) (suc k) e are at =
    subst (λ (p : ℕ). IsAccessOf bytes owner p e) (let s : (place + 1) + k ≡ place + suc k = omega arith in s) (access_at bytes owner (place + 1) es k e are.1 at)

-- ---- one access

access_is : (bytes : ℕ) (kind : Kind) (owner place : ℕ) (window : Window) (index value : ℕ) (atomic : Bool) → IsTrue (is_in_block bytes window index)
    → IsAccessOf bytes owner place (access_event kind owner place window index value atomic)
access_is bytes kind owner place window index value atomic h = record { owned = refl; placed = refl; accessed = order-other atomic; in_block = window-in_block bytes index window h; stored = few_bytes window }

exchange_is : (bytes owner place : ℕ) (window : Window) (index value : ℕ) (succeeds : Bool) → IsTrue (is_in_block bytes window index) → IsAccessOf bytes owner place (compare_exchange_event owner place window index value succeeds)
exchange_is bytes owner place window index value true h = access_is bytes Modify owner place window index value true h
exchange_is bytes owner place window index value false h = access_is bytes Read owner place window index 0 true h

-- ---- the accesses of a walk
module _ (bytes owner : ℕ) where
  -- those of the steps from a place on
  abbrev AreMade : ℕ → List Step → Type 0
  AreMade place steps = AreAccessesOf bytes owner place (events_on owner place steps)

  mutual
    made_in : (s : Statement) (place : ℕ) (steps rest : List Step) → IsStatementIn bytes s → IsStatementWalk s steps → ((p : ℕ) → AreMade p rest) → AreMade place (steps ++ rest)
    made_in (Load reg window index atomic) place steps rest said walked later = rw walked
        (access_is bytes Read owner place window index 0 atomic said.1, later (place + 1))
    made_in (Store window index value atomic) place steps rest said walked later = rw walked
        (access_is bytes Write owner place window index value atomic said.0, later (place + 1))
    made_in (Exchange reg window index value) place steps rest said walked later = rw walked
        (access_is bytes Modify owner place window index value true said.1, later (place + 1))
    made_in (CompareExchange reg window index expected value) place steps rest said walked later = rw walked.1
        (exchange_is bytes owner place window index value walked.0 said.1, later (place + 1))
    made_in (If reg equal value body other) place steps rest said walked later =
        elim walked [
          | inl arm ↦ rw arm.1 (made body place arm.0 rest said.2 arm.2 later)
          | inr arm ↦ rw arm.1 (made other place arm.0 rest said.3 arm.2 later)
        ]

    made : (ss : Statements) (place : ℕ) (steps rest : List Step) → AreStatementsIn bytes ss → IsWalk ss steps → ((p : ℕ) → AreMade p rest) → AreMade place (steps ++ rest)
    made End place steps rest said walked later = rw walked (later place)
    made (Then s ss) place steps rest said walked later =
        rw (walked.2, append_assoc) (made_in s place walked.0 (walked.1 ++ rest) said.0 walked.3
        (λ p. made ss p walked.1 rest said.1 walked.4 later))

  pub accesses_of : (ss : Statements) (steps : List Step) → AreStatementsIn bytes ss → IsWalk ss steps → AreAccessesOf bytes owner 0 (events_on owner 0 steps)
  accesses_of ss steps said walked =
      let none : List Step = [] in
      subst (λ (l : List Step). AreAccessesOf bytes owner 0 (events_on owner 0 l)) (append-nil steps) (made ss 0 steps none said walked (λ p. tt))

-- ---- the accesses in the order of their turns, behind the events that make the block: a list of all events
-- an access that stands at a place, with its number
pub record IsAct (bytes : ℕ) (events : List Event) (number : ℕ) (e : Event) : Type 0 where
  pub is : event_at events number ≡ e
  pub behind : bytes ≤ number
  pub known : number < length events
  pub owner : ℕ
  pub place : ℕ
  pub access : IsAccessOf bytes owner place e

-- The acts, in the order of time, are all events but those that make the block. Those of an agent are in its order.
pub record IsTimeline (bytes : ℕ) (events acts : List Event) (number : Event → ℕ) : Type 0 where
  pub whole : bytes ≤ length events
  pub made : (b : ℕ) → b < bytes → event_at events b ≡ init_event b
  pub each : (k : ℕ) (e : Event) → slice_get acts k ≡ Some e → IsAct bytes events (number e) e
  pub all : (n : ℕ) → bytes ≤ n → n < length events → (k : ℕ) × (e : Event) × (slice_get acts k ≡ Some e) × (number e ≡ n)
  pub in_turn : (k l : ℕ) (e d : Event) → slice_get acts k ≡ Some e → slice_get acts l ≡ Some d → e.owner ≡ d.owner → e.place < d.place → k < l
  pub once : (k l : ℕ) (e d : Event) → slice_get acts k ≡ Some e → slice_get acts l ≡ Some d → number e ≡ number d → k ≡ l

-- the numbers of the events that make the block, and then those of the acts
abbrev pub order_in_turn : ℕ → List Event → (Event → ℕ) → List ℕ
order_in_turn bytes acts number = range_with_len 0 bytes ++ map number acts

-- a number stands at a place behind those that make the block
pub record StandsBehind (bytes : ℕ) (acts : List Event) (number : Event → ℕ) (p n : ℕ) : Type 0 where
  pub turn : ℕ
  pub act : Event
  pub at : p ≡ bytes + turn
  pub there : slice_get acts turn ≡ Some act
  pub numbered : number act ≡ n

module _ (bytes : ℕ) (events acts : List Event) (number : Event → ℕ) (is : IsTimeline bytes events acts number) where
  abbrev order : List ℕ
  order = order_in_turn bytes acts number

  -- ---- places
  pub init_place : (b : ℕ) → b < bytes → slice_get order b ≡ Some b
  init_place b lt =
      slice_get_left (range_with_len 0 bytes) (map number acts) b (omega (arith, lt, length-range_with_len 0 bytes))
      ∙ slice_get-get_or (range_with_len 0 bytes) b 0 (omega (arith, lt, length-range_with_len 0 bytes))
      ∙ ap Some (let e : _ ≡ b = omega (arith, get_or-range_with_len 0 bytes b 0 lt) in e)

  pub act_place : (k : ℕ) (e : Event) → slice_get acts k ≡ Some e → slice_get order (bytes + k) ≡ Some (number e)
  act_place k e at =
      slice_get_right (range_with_len 0 bytes) (map number acts) (bytes + k) k (omega (arith, length-range_with_len 0 bytes))
      ∙ slice_get-map-found number acts k e at

  pub place_of : (p n : ℕ) → slice_get order p ≡ Some n → ((p < bytes) × (n ≡ p)) ⊎ StandsBehind bytes acts number p n
  place_of p n at = elim (cases_lt p bytes) [
    | inl lt ↦ inl (lt, same_Some n p (sym at ∙ init_place p lt))
    | inr le ↦
        let there = slice_get-map-known number acts (p - bytes) n
        (sym (slice_get_right (range_with_len 0 bytes) (map number acts) p (p - bytes) (omega (arith, length-range_with_len 0 bytes)))
        ∙ at) in
        inr (record { turn = p - bytes; act = there.0; at = omega arith; there = there.1; numbered = there.2 })
  ]

  -- ---- a list of all events
  pub complete : IsListOfAll (length events) order
  complete = record {
    all = λ e lt. elim (cases_lt e bytes) [
      | inl early ↦ (e, init_place e early)
      | inr late ↦ let act = is.all e late lt in (bytes + act.0, act_place act.0 act.1 act.2 ∙ ap Some act.3)
    ];
    only = λ p n at. elim (place_of p n at) [
      | inl early ↦ omega (arith, is.whole)
      | inr late ↦ omega (arith, (is.each late.turn late.act late.there).known)
    ];
    once = λ p q n at there. elim (place_of p n at) [
      | inl a ↦ elim (place_of q n there) [ inl b ↦ omega arith | inr b ↦ omega (arith, (is.each b.turn b.act b.there).behind) ]
      | inr a ↦ elim (place_of q n there) [
        | inl b ↦ omega (arith, (is.each a.turn a.act a.there).behind)
        | inr b ↦ omega (arith, is.once a.turn b.turn a.act b.act a.there b.there (a.numbered ∙ sym b.numbered))
      ]
    ];
  }

  -- ---- which event a number is of
  -- it makes a byte, or it is an act
  pub event_of : (n : ℕ) → n < length events → ((n < bytes) × (event_at events n ≡ init_event n)) ⊎ ((k : ℕ) × (e : Event) × (slice_get acts k ≡ Some e) × (number e ≡ n) × (event_at events n ≡ e))
  event_of n lt = elim (cases_lt n bytes) [
    | inl early ↦ inl (early, is.made n early)
    | inr late ↦ let act = is.all n late lt in inr (
      act.0,
      act.1,
      act.2,
      act.3,
      ap (event_at events) (sym act.3) ∙ (is.each act.0 act.1 act.2).is,
    )
  ]

  pub init_earlier : (b k : ℕ) (e : Event) → b < bytes → slice_get acts k ≡ Some e → StandsBefore order b (number e)
  init_earlier b k e lt at = record { first = b; second = bytes + k; earlier = omega (arith, lt); first_is = init_place b lt; second_is = act_place k e at }

  pub act_earlier : (k l : ℕ) (e d : Event) → slice_get acts k ≡ Some e → slice_get acts l ≡ Some d → k < l → StandsBefore order (number e) (number d)
  act_earlier k l e d at there lt = record { first = bytes + k; second = bytes + l; earlier = omega (arith, lt); first_is = act_place k e at; second_is = act_place l d there }

  -- ---- it respects agent-order, and the event that makes a byte stands before all others on that byte
  pub respects_agents : (e d : ℕ) → IsAgentOrdered events e d → StandsBefore order e d
  respects_agents e d ordered = elim (event_of e ordered.first_known) [
    | inl a ↦ elim (event_of d ordered.second_known) [
      | inl b ↦ record {
        first = e;
        second = d;
        earlier = omega (arith, ordered.before, ap (λ (x : Event). x.place) a.1, ap (λ (x : Event). x.place) b.1);
        first_is = init_place e a.0;
        second_is = init_place d b.0;
      }
      | inr b ↦ cc (a.1, b.4, ordered.one_list, (is.each b.0 b.1 b.2).access.owned)
    ]
    | inr a ↦ elim (event_of d ordered.second_known) [
      | inl b ↦ cc (a.4, b.1, ordered.one_list, (is.each a.0 a.1 a.2).access.owned)
      | inr b ↦
          let same : a.1.owner ≡ b.1.owner = cc (a.4, b.4, ordered.one_list) in
          let less = is.in_turn a.0 b.0 a.1 b.1 a.2 b.2 same
          (omega (arith, ordered.before, ap (λ (x : Event). x.place) a.4, ap (λ (x : Event). x.place) b.4)) in
          rw (← a.3, ← b.3) (act_earlier a.0 b.0 a.1 b.1 a.2 b.2 less)
    ]
  ]

  pub respects_making : (e d : ℕ) → IsMadeBefore events e d → StandsBefore order e d
  respects_making e d makes = elim (event_of e makes.first_known) [
    | inl a ↦ elim (event_of d makes.second_known) [
      | inl b ↦
          let s = makes.shares in
          absurd (makes.other (omega (
            arith,
            ap (λ (x : Event). x.first) a.1,
            ap (λ (x : Event). x.size) a.1,
            ap (λ (x : Event). x.first) b.1,
            ap (λ (x : Event). x.size) b.1,
            s.1.0,
            s.1.1,
            s.2.0,
            s.2.1,
          )))
      | inr b ↦ subst (StandsBefore order e) b.3 (init_earlier e b.0 b.1 a.0 b.2)
    ]
    | inr a ↦ absurd ((is.each a.0 a.1 a.2).access.accessed (ap (λ (x : Event). x.order) (sym a.4) ∙ makes.makes))
  ]

  -- ---- whose the events are, in this order
  abbrev owner_at : ℕ → Option ℕ
  owner_at n = (event_at events n).owner

  nobody_first : (low count : ℕ) → low + count ≤ bytes → map owner_at (range_with_len low count) ≡ replicate count None
  nobody_first low zero within = refl
  nobody_first low (suc count) within =
      ap₂ (λ (o : Option ℕ) (os : List (Option ℕ)). o ∷ os) (ap (λ (x : Event). x.owner) (is.made low (omega (arith, within)))) (nobody_first (low + 1) count (omega (arith, within)))

  owners_same : (es : List Event) → ((k : ℕ) (e : Event) → slice_get es k ≡ Some e → event_at events (number e) ≡ e) → map (λ (e : Event). owner_at (number e)) es ≡ map (λ (e : Event). e.owner) es
  owners_same [] each = refl
  owners_same (e ∷ es) each = ap₂ (λ (o : Option ℕ) (os : List (Option ℕ)). o ∷ os) (ap (λ (x : Event). x.owner) (each 0 e refl)) (owners_same es (λ k d at. each (suc k) d at))

  pub owners_in_turn : map owner_at order ≡ replicate bytes None ++ map (λ (e : Event). e.owner) acts
  owners_in_turn =
      map-append owner_at (range_with_len 0 bytes) (map number acts)
      ∙ ap₂ (λ (xs ys : List (Option ℕ)). xs ++ ys) (nobody_first 0 bytes (omega arith)) (maps number owner_at acts ∙ owners_same acts (λ k e at. (is.each k e at).is))

-- ---- the numbers of accesses that are given in the order of their turns: agent after agent, each agent's by place
-- ---- members that a filter retains
-- a retained member comes behind the retained ones before it
pub retained_at : {X : Type 0} (p : X → Bool) (xs : List X) (k : ℕ) (x : X) → slice_get xs k ≡ Some x → p x ≡ true → slice_get (filter p xs) (length (filter p (take k xs))) ≡ Some x
retained_at p [] k x at passes = absurd (none-some x at)
retained_at p (y ∷ xs) zero x at passes =
    let same : y ≡ x = cc in
    rw (ap p same ∙ passes) at
retained_at p (y ∷ xs) (suc k) x at passes =
    elim (p y) as (λ t. slice_get (cond t (y ∷ filter p xs) (filter p xs))
    (length (cond t (y ∷ filter p (take k xs)) (filter p (take k xs)))) ≡ Some x) [
      | true ↦ retained_at p xs k x at passes
      | false ↦ retained_at p xs k x at passes
    ]

retained_less : {X : Type 0} (p : X → Bool) (xs : List X) (k l : ℕ) (x : X) → k < l → slice_get xs k ≡ Some x → p x ≡ true → length (filter p (take k xs)) < length (filter p (take l xs))
retained_less p xs k zero x lt at passes = absurd (omega (arith, lt))
retained_less p [] k (suc l) x lt at passes = absurd (none-some x at)
retained_less p (y ∷ xs) zero (suc l) x lt at passes =
    let same : y ≡ x = cc in
    rw (ap p same ∙ passes) (omega arith)
retained_less p (y ∷ xs) (suc k) (suc l) x lt at passes =
    elim (p y) as (λ t. length (cond t (y ∷ filter p (take k xs)) (filter p (take k xs))) < length
    (cond t (y ∷ filter p (take l xs)) (filter p (take l xs)))) [
      | true ↦ omega (arith, retained_less p xs k l x (omega (arith, lt)) at passes)
      | false ↦ retained_less p xs k l x (omega (arith, lt)) at passes
    ]

retained_from : {X : Type 0} (p : X → Bool) (xs : List X) (m : ℕ) (x : X) → slice_get (filter p xs) m ≡ Some x → (k : ℕ) × (slice_get xs k ≡ Some x) × (p x ≡ true)
retained_from p [] m x at = absurd (none-some x at)
retained_from {X} p (y ∷ xs) m x at = by (p y) refl m at (λ n there. retained_from p xs n x there)
  where
    by : (t : Bool) → p y ≡ t → (m : ℕ) → slice_get (cond t (y ∷ filter p xs) (filter p xs)) m ≡ Some x → ((n : ℕ) → slice_get (filter p xs) n ≡ Some x → (k : ℕ) × (slice_get xs k ≡ Some x) × (p x ≡ true))
        → (k : ℕ) × (slice_get (y ∷ xs) k ≡ Some x) × (p x ≡ true)
    by true is zero at rest = let same : y ≡ x = cc in (0, at, ap p (sym same) ∙ is)
    by true is (suc m) at rest = let r = rest m at in (suc r.0, r.1, r.2)
    by false is m at rest = let r = rest m at in (suc r.0, r.1, r.2)

-- ---- lists one after the other
abbrev pub start_in : List (List Event) → ℕ → ℕ
start_in lists i = length (flat_map (λ (es : List Event). es) (take i lists))

-- which list a member is of
record IsIn (lists : List (List Event)) (n : ℕ) : Type 0 where
  index : ℕ
  place : ℕ
  known : index < length lists
  within : place < length (get_or lists index [])
  at : n ≡ start_in lists index + place

is_in : (lists : List (List Event)) (n : ℕ) → n < length (flat_map (λ (es : List Event). es) lists) → IsIn lists n
is_in [] n inside = absurd (omega (arith, inside))
is_in (es ∷ lists) n inside = elim (cases_lt n (length es)) [
  | inl here ↦ record { index = 0; place = n; known = omega arith; within = here; at = omega arith }
  | inr past ↦
      let later = is_in lists (n - length es) (omega (arith, length-append es (flat_map (λ (es : List Event). es) lists))) in
      record {
        index = suc later.index;
        place = later.place;
        known = omega (arith, later.known);
        within = later.within;
        at = omega (arith, later.at, length-append es (flat_map (λ (es : List Event). es) (take later.index lists)));
      }
]

pub owner_is : (agent : ℕ) (o : Option ℕ) → is_owned_by agent o ≡ true → o ≡ Some agent
owner_is agent None is = absurd (let e : false ≡ true = is in cc)
owner_is agent (Some owner) is = let same : owner ≡ agent = grind (arith, nat_tests) in ap Some same

abbrev pub agent_in : Option ℕ → ℕ
agent_in None = 0
agent_in (Some agent) = agent

-- the number of an access, where the agents' accesses are these
abbrev pub number_in_lists : ℕ → List (List Event) → Event → ℕ
number_in_lists bytes lists e = (bytes + start_in lists (agent_in e.owner)) + e.place

module _ (bytes : ℕ) (acts : List Event) (lists : List (List Event)) (own : (i : ℕ) → i < length lists → get_or lists i [] ≡ own_events i acts)
    (made : (i : ℕ) → i < length lists → AreAccessesOf bytes i 0 (own_events i acts))
    (owned : (k : ℕ) (e : Event) → slice_get acts k ≡ Some e → (i : ℕ) × (i < length lists) × (e.owner ≡ Some i)) where
  abbrev events : List Event
  events = events_of bytes lists

  abbrev number : Event → ℕ
  number = number_in_lists bytes lists

  abbrev joined : List Event
  joined = flat_map (λ (es : List Event). es) lists

  -- an access of an agent, with its place among those of the agent
  pub record IsOwn (k : ℕ) (e : Event) (i : ℕ) : Type 0 where
    pub there : slice_get (own_events i acts) (length (own_events i (take k acts))) ≡ Some e
    pub access : IsAccessOf bytes i (length (own_events i (take k acts))) e
    pub numbered : number e ≡ (bytes + start_in lists i) + length (own_events i (take k acts))

  pub own_at : (k : ℕ) (e : Event) (i : ℕ) → i < length lists → slice_get acts k ≡ Some e → e.owner ≡ Some i → IsOwn k e i
  own_at k e i known at is =
      let m = length (own_events i (take k acts)) in
      let there : slice_get (own_events i acts) m ≡ Some e = retained_at (λ (x : Event). is_owned_by i x.owner) acts k e at (ap (is_owned_by i) is ∙ same_agent i) in
      let access : IsAccessOf bytes i m e = subst (λ (p : ℕ). IsAccessOf bytes i p e) (let s : 0 + m ≡ m = omega arith in s) (access_at bytes i 0 (own_events i acts) m e (made i known) there) in
      record {
        there = there;
        access = access;
        numbered = ap (λ (o : Option ℕ). (bytes + start_in lists (agent_in o)) + e.place) is ∙ ap (λ (p : ℕ). (bytes + start_in lists i) + p) access.placed;
      }

  act_is : (k : ℕ) (e : Event) → slice_get acts k ≡ Some e → IsAct bytes events (number e) e
  act_is k e at =
      let of = owned k e at in
      let i = of.0 in
      let m = length (own_events i (take k acts)) in
      let o = own_at k e i of.1 at of.2 in
      let mine : length (get_or lists i []) ≡ length (own_events i acts) = ap (λ (es : List Event). length es) (own i of.1) in
      let within : m < length (own_events i acts) = slice_get_within (own_events i acts) m e o.there in
      let all : length events ≡ bytes + length joined = (let e : length (init_events bytes ++ joined) ≡ bytes + length joined = omega (arith, length-append (init_events bytes) joined, length-init_events bytes) in e) in
      record {
        is = ap (event_at events) o.numbered
            ∙ ap (event_at events) (let e : (bytes + start_in lists i) + m ≡ length (init_events bytes) + (start_in lists i + m) = omega (arith, length-init_events bytes) in e)
            ∙ get_or-append-add (init_events bytes) joined (start_in lists i + m) no_event
            ∙ get_or-flat_map (λ (es : List Event). es) lists i m [] no_event of.1 (omega (arith, within, mine))
            ∙ ap (λ (es : List Event). get_or es m no_event) (own i of.1) ∙ get_or_from_slice_get (own_events i acts) m e no_event o.there;
        place = m;
        behind = omega (arith, o.numbered);
        known = omega (arith, o.numbered, all, within, mine, length-flat_map-take (λ (es : List Event). es) lists i [] of.1);
        owner = i;
        access = o.access;
      }

  -- earlier by turns is earlier by place
  earlier : (k l : ℕ) (e d : Event) → slice_get acts k ≡ Some e → slice_get acts l ≡ Some d → e.owner ≡ d.owner → k < l → e.place < d.place
  earlier k l e d at there same lt =
      let of = owned k e at in
      let i = of.0 in
      let first = own_at k e i of.1 at of.2 in
      let second = own_at l d i of.1 there (sym same ∙ of.2) in
      omega (arith, first.access.placed, second.access.placed, retained_less (λ (x : Event). is_owned_by i x.owner) acts k l e lt at (ap (is_owned_by i) of.2 ∙ same_agent i))

  same_act : (k l : ℕ) (e d : Event) → slice_get acts k ≡ Some e → slice_get acts l ≡ Some d → e ≡ d → k ≡ l
  same_act k l e d at there same = elim (cases_order k l) [
    | inl is ↦ is
    | inr apart ↦ elim apart [
      | inl lt ↦ omega (arith, earlier k l e d at there (ap (λ (x : Event). x.owner) same) lt, ap (λ (x : Event). x.place) same)
      | inr lt ↦ omega (arith, earlier l k d e there at (ap (λ (x : Event). x.owner) (sym same)) lt, ap (λ (x : Event). x.place) same)
    ]
  ]

  pub timeline : IsTimeline bytes events acts number
  timeline = record {
    whole = omega (arith, length-append (init_events bytes) joined, length-init_events bytes);
    made = λ b lt.
        get_or_append_left (init_events bytes) joined no_event b (omega (arith, lt, length-init_events bytes))
        ∙ get_or-map-range_with_len init_event 0 bytes b b no_event lt (let e : 0 + b ≡ b = omega arith in e);
    each = act_is;
    all = λ n behind inside.
        let found = is_in lists (n - bytes) (omega (arith, length-append (init_events bytes) joined, length-init_events bytes)) in
        let i = found.index in
        let m = found.place in
        let within : m < length (own_events i acts) = omega (
          arith,
          found.within,
          ap (λ (es : List Event). length es) (own i found.known),
        ) in
        let e = get_or (own_events i acts) m no_event in
        let there : slice_get (own_events i acts) m ≡ Some e = slice_get-get_or (own_events i acts) m no_event within in
        let from = retained_from (λ (x : Event). is_owned_by i x.owner) acts m e there in
        let access = access_at bytes i 0 (own_events i acts) m e (made i found.known) there in
        let numbered : number e ≡ (bytes + start_in lists i) + e.place =
        ap (λ (o : Option ℕ). (bytes + start_in lists (agent_in o)) + e.place) (owner_is i e.owner from.2) in
        (from.0, e, from.1, omega (arith, numbered, access.placed, found.at, behind));
    in_turn = λ k l e d at there same lt. elim (cases_order k l) [
      | inl is ↦ omega (arith, lt, ap (λ (x : Event). x.place) (same_Some e d (sym at ∙ ap (slice_get acts) is ∙ there)))
      | inr apart ↦ elim apart [ inl less ↦ less | inr less ↦ omega (arith, lt, earlier l k d e there at (sym same) less) ]
    ];
    once = λ k l e d at there same. same_act k l e d at there (sym (act_is k e at).is ∙ ap (event_at events) same ∙ (act_is l d there).is);
  }
