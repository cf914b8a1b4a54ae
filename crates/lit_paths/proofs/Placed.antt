-- Where the events of agents stand among all events of a combination.
use Rattle.std.proofs.Common.{◌≡◌, ◌≢◌, ℕ, zero, suc, ◌+◌, ◌-◌, ◌<◌, ◌≤◌, Bool, true, false, List, [], ◌∷◌, ◌++◌, length, take, get_or, slice_get, Some, None, Option, arith, refl, sym, ap, ◌∙◌, subst, ⊎_elim, length-append}
use Rattle.std.specs.Prelude.{IsSome, if◌then◌else◌}
use Rattle.std.proofs.lemmas.Bool.{cases_lt}
use Rattle.std.proofs.lemmas.Option.{slice_get_within}
use Rattle.std.proofs.lemmas.List.{get_or_append_left}
use Rattle.std.proofs.lemmas.List.FromFn.{get_or-map-range_with_len}
use Rattle.lit_syntax.specs.Syntax.{Litmus}
use Rattle.lit_paths.specs.declared.event.Event.{Event}
use Rattle.lit_paths.specs.declared.event.Order3.TheVariants.{Init, SeqCst, Unordered}
use Rattle.lit_paths.specs.Event.{no_event, event_at, init_event, init_events}
use Rattle.lit_paths.specs.Path.{Path, Step, LoadMet, StoreMet, ExchangeMet, CompareExchangeMet, IfMet, compare_exchange_event, events_on, path_on}
use Rattle.lit_paths.specs.Choice.{combinations_of}
use Rattle.lit_paths.specs.Plan.{combination_at, events_in, walk_in, first_event}
use Rattle.lit_paths.specs.Refusal.{accesses_on}
use Rattle.lit_paths.proofs.EventLists.{length-init_events}
use Rattle.lit_paths.proofs.CombinedPaths.{path_at, length-combination}

get_or_right : (xs ys : List Event) (n i : ℕ) (d : Event) → n ≡ length xs + i → get_or (xs ++ ys) n d ≡ get_or ys i d
get_or_right [] ys n i d same = ap (λ k. get_or ys k d) (let e : n ≡ i = omega (arith, same) in e)
get_or_right (x ∷ xs) ys zero i d same = absurd (omega (arith, same))
get_or_right (x ∷ xs) ys (suc n) i d same = get_or_right xs ys n i d (omega (arith, same))

-- ---- the events of a path
-- an access of the agent at this place
pub record IsAccessAt (owner place : ℕ) (e : Event) : Type 0 where
  pub owned : e.owner ≡ Some owner
  pub placed : e.place ≡ place
  pub accessed : e.order ≢ Init

pub order-other : (atomic : Bool) → (if atomic then SeqCst else Unordered) ≢ Init
order-other true = λ e. cc
order-other false = λ e. cc

exchange-at : (owner place : ℕ) (window : _) (index value : ℕ) (succeeds : Bool) → IsAccessAt owner place (compare_exchange_event owner place window index value succeeds)
exchange-at owner place window index value true = record { owned = refl; placed = refl; accessed = order-other true }
exchange-at owner place window index value false = record { owned = refl; placed = refl; accessed = order-other true }

abbrev ArePlaced : ℕ → ℕ → List Event → Type 0
ArePlaced owner place [] = Unit {0}
ArePlaced owner place (e ∷ es) = IsAccessAt owner place e × ArePlaced owner (place + 1) es

events_on-placed : (owner place : ℕ) (steps : List Step) → ArePlaced owner place (events_on owner place steps)
events_on-placed owner place [] = tt
events_on-placed owner place (LoadMet reg window index atomic ∷ steps) = (record { owned = refl; placed = refl; accessed = order-other atomic }, events_on-placed owner (place + 1) steps)
events_on-placed owner place (StoreMet window index value atomic ∷ steps) = (record { owned = refl; placed = refl; accessed = order-other atomic }, events_on-placed owner (place + 1) steps)
events_on-placed owner place (ExchangeMet reg window index value ∷ steps) = (record { owned = refl; placed = refl; accessed = order-other true }, events_on-placed owner (place + 1) steps)
events_on-placed owner place (CompareExchangeMet reg window index expected value succeeds ∷ steps) =
    (exchange-at owner place window index value succeeds, events_on-placed owner (place + 1) steps)
events_on-placed owner place (IfMet reg equal value holds ∷ steps) = events_on-placed owner place steps

placed-at : (owner place : ℕ) (es : List Event) (k : ℕ) (d : Event) → k < length es → ArePlaced owner place es → IsAccessAt owner (place + k) (get_or es k d)
placed-at owner place [] k d inside are = absurd (omega (arith, inside))
placed-at owner place (e ∷ es) zero d inside are = subst (λ (p : ℕ). IsAccessAt owner p e) (let s : place ≡ place + 0 = omega arith in s) are.0
placed-at owner place (e ∷ es) (suc k) d inside are =
    subst (λ (p : ℕ). IsAccessAt owner p (get_or es k d)) (let s : (place + 1) + k ≡ place + suc k = omega arith in s) (placed-at owner (place + 1) es k d (omega (arith, inside)) are.1)

-- ---- the events of paths one after the other
-- where the events of a path begin
abbrev pub start_of : List Path → ℕ → ℕ
start_of paths i = length (accesses_on (take i paths))

pub record StandsAt (all : List Event) (start : ℕ) (events : List Event) : Type 0 where
  pub within : start + length events ≤ length all
  pub each : (k : ℕ) (d : Event) → k < length events → get_or all (start + k) d ≡ get_or events k d

path-stands : (paths : List Path) (i : ℕ) (path : Path) → slice_get paths i ≡ Some path → StandsAt (accesses_on paths) (start_of paths i) path.events
path-stands [] i path at = cc
path-stands (p ∷ paths) zero path at =
    let same : p ≡ path = cc in
    subst (λ (q : Path). StandsAt (p.events ++ accesses_on paths) 0 q.events) same (record {
      within = omega (arith, length-append p.events (accesses_on paths));
      each = λ k d inside. ap (λ n. get_or (p.events ++ accesses_on paths) n d) (let e : 0 + k ≡ k = omega arith in e) ∙ get_or_append_left p.events (accesses_on paths) d k inside;
    })
path-stands (p ∷ paths) (suc i) path at =
    let later = path-stands paths i path at in
    let split = length-append p.events (accesses_on (take i paths)) in
    record {
      within = omega (arith, later.within, split, length-append p.events (accesses_on paths));
      each = λ k d inside.
          get_or_right p.events (accesses_on paths) (start_of (p ∷ paths) (suc i) + k) (start_of paths i + k) d (omega (arith, split)) ∙ later.each k d inside;
    }

-- which path an access is of
pub record Located (paths : List Path) (n : ℕ) : Type 0 where
  pub index : ℕ
  pub place : ℕ
  pub path : Path
  pub listed : slice_get paths index ≡ Some path
  pub at : n ≡ start_of paths index + place
  pub within : place < length path.events

located : (paths : List Path) (n : ℕ) → n < length (accesses_on paths) → Located paths n
located [] n inside = absurd (omega (arith, inside))
located (p ∷ paths) n inside =
    ⊎_elim
    (λ here. record { index = 0; place = n; path = p; listed = refl; at = omega arith; within = here })
    (λ past.
    let later = located paths (n - length p.events) (omega (arith, inside, past, length-append p.events (accesses_on paths))) in
    record {
      index = suc later.index;
      place = later.place;
      path = later.path;
      listed = later.listed;
      at = omega (arith, later.at, past, length-append p.events (accesses_on (take later.index paths)));
      within = later.within;
    })
    (cases_lt n (length p.events))

-- ---- all events

-- the path of an agent stands among all events from its first one on
pub agent-stands : (t : Litmus) (c agent : ℕ) → c < length (combinations_of t) → agent < length t.agents
    → StandsAt (events_in t c) (first_event t c agent) (path_on agent (walk_in t c agent)).events
agent-stands t c agent known inside =
    let paths : List Path = combination_at t c in
    let made : List Event = init_events t.bytes in
    let stands = path-stands paths agent (path_on agent (walk_in t c agent)) (path_at t c agent known inside) in
    record {
      within = omega (arith, stands.within, length-append made (accesses_on paths), length-init_events t.bytes);
      each = λ k d within.
          get_or_right made (accesses_on paths) (first_event t c agent + k) (start_of paths agent + k) d (omega (arith, length-init_events t.bytes)) ∙ stands.each k d within;
    }

-- an event that does not make the block is an access of an agent, whose events stand together
pub record IsOfAgent (t : Litmus) (c n : ℕ) : Type 0 where
  pub agent : ℕ
  pub place : ℕ
  pub at : n ≡ first_event t c agent + place
  pub is : IsAccessAt agent place (event_at (events_in t c) n)

pub of_agent : (t : Litmus) (c n : ℕ) → c < length (combinations_of t) → t.bytes ≤ n → n < length (events_in t c) → IsOfAgent t c n
of_agent t c n known behind inside =
    let paths : List Path = combination_at t c in
    let made : List Event = init_events t.bytes in
    let split = length-append made (accesses_on paths) in
    let found = located paths (n - t.bytes) (omega (arith, inside, behind, split, length-init_events t.bytes)) in
    let agent_known : found.index < length t.agents = omega (arith, slice_get_within paths found.index found.path found.listed, length-combination t c known) in
    let steps : List Step = walk_in t c found.index in
    let both : Some found.path ≡ Some (path_on found.index steps) = sym found.listed ∙ path_at t c found.index known agent_known in
    let same : found.path ≡ path_on found.index steps = cc in
    let at : n ≡ first_event t c found.index + found.place = omega (arith, found.at, behind) in
    let within : found.place < length (events_on found.index 0 steps) = omega (arith, found.within, ap (λ (p : Path). length p.events) same) in
    let stands = agent-stands t c found.index known agent_known in
    let event : event_at (events_in t c) n ≡ get_or (events_on found.index 0 steps) found.place no_event =
    ap (λ k. event_at (events_in t c) k) at ∙ stands.each found.place no_event within in
    record {
      agent = found.index;
      place = found.place;
      at = at;
      is = subst (λ (e : Event). IsAccessAt found.index found.place e) (sym event)
          (subst (λ (p : ℕ). IsAccessAt found.index p (get_or (events_on found.index 0 steps) found.place no_event)) (let e : 0 + found.place ≡ found.place = omega arith in e)
          (placed-at found.index 0 (events_on found.index 0 steps) found.place no_event within (events_on-placed found.index 0 steps)));
    }

pub made_at : (t : Litmus) (c b : ℕ) → b < t.bytes → event_at (events_in t c) b ≡ init_event b
made_at t c b inside =
    get_or_append_left (init_events t.bytes) (accesses_on (combination_at t c)) no_event b (omega (arith, inside, length-init_events t.bytes))
    ∙ get_or-map-range_with_len init_event 0 t.bytes b b no_event inside (omega arith)

pub event-owned : (t : Litmus) (c n : ℕ) → c < length (combinations_of t) → t.bytes ≤ n → n < length (events_in t c) → IsSome (event_at (events_in t c) n).owner
event-owned t c n known behind inside =
    let of = of_agent t c n known behind inside in
    subst (λ (o : Option ℕ). IsSome o) (sym of.is.owned) refl

pub event-accessed : (t : Litmus) (c n : ℕ) → c < length (combinations_of t) → t.bytes ≤ n → n < length (events_in t c) → (event_at (events_in t c) n).order ≢ Init
event-accessed t c n known behind inside = (of_agent t c n known behind inside).is.accessed

-- of two events of one list the earlier one has the lesser number
pub event-placed : (t : Litmus) (c e d : ℕ) → c < length (combinations_of t) → e < length (events_in t c) → d < length (events_in t c)
    → (event_at (events_in t c) e).owner ≡ (event_at (events_in t c) d).owner → (event_at (events_in t c) e).place < (event_at (events_in t c) d).place → e < d
event-placed t c e d known first second one_list before =
    let es : List Event = events_in t c in
    ⊎_elim
    (λ made_e.
    let at_e = made_at t c e made_e in
    ⊎_elim
    (λ made_d. omega (arith, before, ap (λ (x : Event). x.place) at_e, ap (λ (x : Event). x.place) (made_at t c d made_d)))
    (λ later_d. omega (arith, made_e, later_d))
    (cases_lt d t.bytes))
    (λ later_e.
    let of_e = of_agent t c e known later_e first in
    ⊎_elim
    (λ made_d.
    let clash : Some of_e.agent ≡ None = sym of_e.is.owned ∙ one_list ∙ ap (λ (x : Event). x.owner) (made_at t c d made_d) in
    cc)
    (λ later_d.
    let of_d = of_agent t c d known later_d second in
    let both : Some of_e.agent ≡ Some of_d.agent = sym of_e.is.owned ∙ one_list ∙ of_d.is.owned in
    let same : of_e.agent ≡ of_d.agent = cc in
    omega (arith, before, of_e.at, of_d.at, of_e.is.placed, of_d.is.placed, ap (first_event t c) same))
    (cases_lt d t.bytes))
    (cases_lt e t.bytes)
