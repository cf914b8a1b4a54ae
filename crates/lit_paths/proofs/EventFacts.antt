-- What holds of the events of a combination: sizes, ranges, payloads, and how many bytes are read.
use Rattle.std.proofs.Common.{◌≡◌, ◌⊎◌, ℕ, zero, suc, ◌+◌, ◌*◌, ◌<◌, ◌≤◌, Bool, true, false, List, [], ◌∷◌, ◌++◌, length, map, get_or, arith, refl, sym, ap, ◌∙◌, subst, inl, inr, ⊎_elim, append_assoc, append-nil, length-append}
use Rattle.std.specs.Prelude.{◌/◌, ◌≢◌, All, IsTrue, IsSome}
use Rattle.std.proofs.lemmas.Bool.{ltb-true, leb-true}
use Rattle.std.specs.List.{AllByRecursion, range_with_len}
use Rattle.std.proofs.lemmas.List.Elements.{All-from_recursion}
use Rattle.std.proofs.lemmas.List.{get_or_append_left}
use Rattle.std.proofs.lemmas.List.FromFn.{get_or-map-range_with_len}
use Rattle.lit_syntax.specs.Syntax.{Litmus, IsLitmus, Window, Uint8, Uint16, Uint32, DataView8, DataView16, DataView32, window_size, is_in_block, Statement, Statements, Load, Store, Exchange, CompareExchange, If, End, Then, IsStatementIn, AreStatementsIn, agent_of}
use Rattle.lit_paths.specs.declared.limits.TheConstants.{ACCESS_LIMIT}
use Rattle.lit_paths.specs.declared.event.Event.{Event}
use Rattle.lit_paths.specs.declared.event.Order3.TheVariants.{Init}
use Rattle.lit_paths.specs.Event.{no_event, event_at, init_event, init_events}
use Rattle.lit_paths.specs.Path.{Step, events_on, first_byte, payload_of, compare_exchange_event, access_event}
use Rattle.lit_paths.specs.Members.{IsStatementWalk, IsWalk}
use Rattle.lit_paths.specs.ByteReads.{byte_reads, byte_reads_from, bytes_read_by}
use Rattle.lit_paths.specs.Choice.{combinations_of}
use Rattle.lit_paths.specs.Plan.{AreEventsIn, events_in, walk_in, path_in}
use Rattle.lit_paths.specs.Internal.Walks.{longest_of}
use Rattle.lit_paths.proofs.ByteReads.{length-bytes_read_by}
use Rattle.lit_paths.proofs.EventLists.{length-init_events}
use Rattle.lit_paths.proofs.Placed.{event-owned, event-accessed, event-placed}
use Rattle.lit_paths.proofs.CombinedPaths.{accesses_before, accesses_of-combination, length-accesses_before, walk_in-walks}
use Rattle.lit_paths.specs.declared.event.Kind.{Kind}
use Rattle.lit_paths.specs.declared.event.Kind.TheVariants.{Read, Write, Modify}

-- ---- one event
pub record IsSound (bytes : ℕ) (e : Event) : Type 0 where
  pub sized : (e.size ≡ 1) ⊎ ((e.size ≡ 2) ⊎ (e.size ≡ 4))
  pub in_block : e.first + e.size ≤ bytes
  pub payload : All (λ b. b < 256) e.payload

below : (a b c d : ℕ) → a < 256 → b < 256 → c < 256 → d < 256 → All (λ x. x < 256) (a ∷ b ∷ c ∷ d ∷ [])
below a b c d h i j k = All-from_recursion (λ x. x < 256) (a ∷ b ∷ c ∷ d ∷ []) (h, (i, (j, (k, tt))))

payload-below : (value : ℕ) → All (λ b. b < 256) (payload_of value)
payload-below value = below _ _ _ _ (omega arith) (omega arith) (omega arith) (omega arith)

zeros-below : All (λ b. b < 256) (0 ∷ 0 ∷ 0 ∷ 0 ∷ [])
zeros-below = below 0 0 0 0 (omega arith) (omega arith) (omega arith) (omega arith)

window-sized : (window : Window) → (window_size window ≡ 1) ⊎ ((window_size window ≡ 2) ⊎ (window_size window ≡ 4))
window-sized Uint8 = inl refl
window-sized Uint16 = inr (inl refl)
window-sized Uint32 = inr (inr refl)
window-sized DataView8 = inl refl
window-sized DataView16 = inr (inl refl)
window-sized DataView32 = inr (inr refl)

pub window-in_block : (bytes index : ℕ) (window : Window) → IsTrue (is_in_block bytes window index) → first_byte window index + window_size window ≤ bytes
window-in_block bytes index Uint8 h = omega (arith, ltb-true index (bytes / 1) h)
window-in_block bytes index Uint16 h = omega (arith, ltb-true index (bytes / 2) h)
window-in_block bytes index Uint32 h = omega (arith, ltb-true index (bytes / 4) h)
window-in_block bytes index DataView8 h = omega (arith, leb-true (index + 1) bytes h)
window-in_block bytes index DataView16 h = omega (arith, leb-true (index + 2) bytes h)
window-in_block bytes index DataView32 h = omega (arith, leb-true (index + 4) bytes h)

access-sound : (bytes : ℕ) (kind : Kind) (owner place : ℕ) (window : Window) (index value : ℕ) (atomic : Bool) → IsTrue (is_in_block bytes window index)
    → IsSound bytes (access_event kind owner place window index value atomic)
access-sound bytes kind owner place window index value atomic h = record { sized = window-sized window; in_block = window-in_block bytes index window h; payload = payload-below value }

compare_exchange-sound : (bytes owner place index value : ℕ) (window : Window) (succeeds : Bool) → IsTrue (is_in_block bytes window index) → IsSound bytes (compare_exchange_event owner place window index value succeeds)
compare_exchange-sound bytes owner place index value window true h = access-sound bytes Modify owner place window index value true h
compare_exchange-sound bytes owner place index value window false h = access-sound bytes Read owner place window index 0 true h

-- ---- the events of a walk
abbrev AllSound : ℕ → List Event → Type 0
AllSound bytes events = AllByRecursion (IsSound bytes) events

mutual
  statement-sound : (bytes : ℕ) (s : Statement) (owner place : ℕ) (steps rest : List Step) → IsStatementIn bytes s → IsStatementWalk s steps
      → ((p : ℕ) → AllSound bytes (events_on owner p rest)) → AllSound bytes (events_on owner place (steps ++ rest))
  statement-sound bytes (Load reg window index atomic) owner place steps rest said is later =
      subst (λ (l : List Step). AllSound bytes (events_on owner place (l ++ rest))) (sym is) (access-sound bytes Read owner place window index 0 atomic said.1, later (place + 1))
  statement-sound bytes (Store window index value atomic) owner place steps rest said is later =
      subst (λ (l : List Step). AllSound bytes (events_on owner place (l ++ rest))) (sym is) (access-sound bytes Write owner place window index value atomic said.0, later (place + 1))
  statement-sound bytes (Exchange reg window index value) owner place steps rest said is later =
      subst (λ (l : List Step). AllSound bytes (events_on owner place (l ++ rest))) (sym is) (access-sound bytes Modify owner place window index value true said.1, later (place + 1))
  statement-sound bytes (CompareExchange reg window index expected value) owner place steps rest said is later =
      subst (λ (l : List Step). AllSound bytes (events_on owner place (l ++ rest))) (sym is.1) (compare_exchange-sound bytes owner place index value window is.0 said.1, later (place + 1))
  statement-sound bytes (If reg equal value body other) owner place steps rest said is later =
      ⊎_elim
      (λ arm. subst (λ (l : List Step). AllSound bytes (events_on owner place (l ++ rest))) (sym arm.1) (walk-sound bytes body owner place arm.0 rest said.2 arm.2 later))
      (λ arm. subst (λ (l : List Step). AllSound bytes (events_on owner place (l ++ rest))) (sym arm.1) (walk-sound bytes other owner place arm.0 rest said.3 arm.2 later))
      is

  walk-sound : (bytes : ℕ) (ss : Statements) (owner place : ℕ) (steps rest : List Step) → AreStatementsIn bytes ss → IsWalk ss steps
      → ((p : ℕ) → AllSound bytes (events_on owner p rest)) → AllSound bytes (events_on owner place (steps ++ rest))
  walk-sound bytes End owner place steps rest said is later =
      subst (λ (l : List Step). AllSound bytes (events_on owner place (l ++ rest))) (sym is) (later place)
  walk-sound bytes (Then s ss) owner place steps rest said is later =
      subst (λ (l : List Step). AllSound bytes (events_on owner place (l ++ rest))) (sym is.2)
      (subst (λ (l : List Step). AllSound bytes (events_on owner place l)) (sym (append_assoc is.0 is.1 rest))
      (statement-sound bytes s owner place is.0 (is.1 ++ rest) said.0 is.3 (λ p. walk-sound bytes ss owner p is.1 rest said.1 is.4 later)))

events-sound : (bytes : ℕ) (ss : Statements) (owner : ℕ) (steps : List Step) → AreStatementsIn bytes ss → IsWalk ss steps → AllSound bytes (events_on owner 0 steps)
events-sound bytes ss owner steps said is =
    let none : List Step = [] in
    subst (λ (l : List Step). AllSound bytes (events_on owner 0 l)) (append-nil steps) (walk-sound bytes ss owner 0 steps none said is (λ p. tt))

sound-append : (bytes : ℕ) (xs ys : List Event) → AllSound bytes xs → AllSound bytes ys → AllSound bytes (xs ++ ys)
sound-append bytes [] ys p q = q
sound-append bytes (x ∷ xs) ys p q = (p.0, sound-append bytes xs ys p.1 q)

accesses-sound : (t : Litmus) (c i : ℕ) → IsLitmus t → c < length (combinations_of t) → i ≤ length t.agents → AllSound t.bytes (accesses_before t c i)
accesses-sound t c zero litmus known le = tt
accesses-sound t c (suc i) litmus known le =
    sound-append t.bytes (accesses_before t c i) (path_in t c i).events (accesses-sound t c i litmus known (omega (arith, le)))
    (events-sound t.bytes (agent_of t i).body i (walk_in t c i) (litmus.bodies i (omega (arith, le))) (walk_in-walks t c i known (omega (arith, le))))

made-sound : (bytes low count : ℕ) → low + count ≤ bytes → AllSound bytes (map init_event (range_with_len low count))
made-sound bytes low zero le = tt
made-sound bytes low (suc count) le =
    (record { sized = inl refl; in_block = omega (arith, le); payload = zeros-below }, made-sound bytes (low + 1) count (omega (arith, le)))

sound-at : (bytes : ℕ) (events : List Event) (n : ℕ) (d : Event) → n < length events → AllSound bytes events → IsSound bytes (get_or events n d)
sound-at bytes [] n d inside all = absurd (omega (arith, inside))
sound-at bytes (e ∷ es) zero d inside all = all.0
sound-at bytes (e ∷ es) (suc n) d inside all = sound-at bytes es n d (omega (arith, inside)) all.1

-- ---- how many bytes are read
four : (bytes : ℕ) (e : Event) → IsSound bytes e → e.size ≤ 4
four bytes e is = ⊎_elim (λ a. omega (arith, a)) (λ b. ⊎_elim (λ c. omega (arith, c)) (λ d. omega (arith, d)) b) is.sized

reads-four : (bytes n : ℕ) (events : List Event) → AllSound bytes events → length (byte_reads_from n events) ≤ 4 * length events
reads-four bytes n [] all = omega arith
reads-four bytes n (e ∷ es) all =
    omega (arith, length-append (bytes_read_by n e) (byte_reads_from (n + 1) es), length-bytes_read_by n e, four bytes e all.0, reads-four bytes (n + 1) es all.1)

reads-append : (n : ℕ) (xs ys : List Event) → byte_reads_from n (xs ++ ys) ≡ byte_reads_from n xs ++ byte_reads_from (n + length xs) ys
reads-append n [] ys = ap (λ m. byte_reads_from m ys) (let e : n ≡ n + 0 = omega arith in e)
reads-append n (x ∷ xs) ys =
    ap (λ rs. bytes_read_by n x ++ rs) (reads-append (n + 1) xs ys)
    ∙ ap (λ m. bytes_read_by n x ++ (byte_reads_from (n + 1) xs ++ byte_reads_from m ys)) (let e : (n + 1) + length xs ≡ n + suc (length xs) = omega arith in e)
    ∙ sym (append_assoc (bytes_read_by n x) (byte_reads_from (n + 1) xs) (byte_reads_from (n + suc (length xs)) ys))

made-reads : (n low count : ℕ) → byte_reads_from n (map init_event (range_with_len low count)) ≡ []
made-reads n low zero = refl
made-reads n low (suc count) = made-reads (n + 1) (low + 1) count

-- ---- all events of a combination
abbrev accesses_in : Litmus → ℕ → List Event
accesses_in t c = accesses_before t c (length t.agents)

pub events_split : (t : Litmus) (c : ℕ) → c < length (combinations_of t) → events_in t c ≡ init_events t.bytes ++ accesses_in t c
events_split t c known = ap (λ xs. init_events t.bytes ++ xs) (accesses_of-combination t c known)

pub few_accesses : (t : Litmus) (c : ℕ) → c < length (combinations_of t) → longest_of t.agents ≤ ACCESS_LIMIT → length (accesses_in t c) ≤ ACCESS_LIMIT
few_accesses t c known short = omega (arith, length-accesses_before t c (length t.agents) known (omega arith), short)

all-sound : (t : Litmus) (c : ℕ) → IsLitmus t → c < length (combinations_of t) → AllSound t.bytes (init_events t.bytes ++ accesses_in t c)
all-sound t c litmus known =
    sound-append t.bytes (init_events t.bytes) (accesses_in t c) (made-sound t.bytes 0 t.bytes (omega arith)) (accesses-sound t c (length t.agents) litmus known (omega arith))

pub are_events : (t : Litmus) (c : ℕ) → IsLitmus t → longest_of t.agents ≤ ACCESS_LIMIT → c < length (combinations_of t) → AreEventsIn t.bytes (events_in t c)
are_events t c litmus short known =
    let made : List Event = init_events t.bytes in
    let all : List Event = made ++ accesses_in t c in
    let sound : AllSound t.bytes all = all-sound t c litmus known in
    let few : length (accesses_in t c) ≤ ACCESS_LIMIT = few_accesses t c known short in
    let long : length all ≡ t.bytes + length (accesses_in t c) = length-append made (accesses_in t c) ∙ ap (λ n. n + length (accesses_in t c)) (length-init_events t.bytes) in
    let reads : length (byte_reads all) ≤ 4 * length (accesses_in t c) =
    omega (
      arith,
      ap (λ rs. length rs) (reads-append 0 made (accesses_in t c)),
      ap (λ rs. length rs) (made-reads 0 0 t.bytes),
      length-append (byte_reads_from 0 made) (byte_reads_from (0 + length made) (accesses_in t c)),
      reads-four t.bytes (0 + length made) (accesses_in t c) (accesses-sound t c (length t.agents) litmus known (omega arith)),
    ) in
    let zero_add : (b : ℕ) → 0 + b ≡ b = λ b. omega arith in
    let split : events_in t c ≡ all = events_split t c known in
    subst (λ (es : List Event). AreEventsIn t.bytes es) (sym split) (record {
      few = omega (arith, long, few, litmus.block);
      few_accesses = omega (arith, long, few);
      few_reads = omega (arith, reads, few);
      made = omega (arith, long);
      making = λ b inside. get_or_append_left made (accesses_in t c) no_event b (omega (arith, inside, length-init_events t.bytes)) ∙ get_or-map-range_with_len init_event 0 t.bytes b b no_event inside (zero_add b);
      sized = λ n inside. (sound-at t.bytes all n no_event inside sound).sized;
      in_block = λ n inside. (sound-at t.bytes all n no_event inside sound).in_block;
      payload = λ n inside. (sound-at t.bytes all n no_event inside sound).payload;
      owned = subst (λ (es : List Event). (n : ℕ) → t.bytes ≤ n → n < length es → IsSome (event_at es n).owner) split (λ n behind inside. event-owned t c n known behind inside);
      accessed = subst (λ (es : List Event). (n : ℕ) → t.bytes ≤ n → n < length es → (event_at es n).order ≢ Init) split (λ n behind inside. event-accessed t c n known behind inside);
      placed = subst (λ (es : List Event). (e d : ℕ) → e < length es → d < length es → (event_at es e).owner ≡ (event_at es d).owner → (event_at es e).place < (event_at es d).place → e < d) split
          (λ e d first second one_list before. event-placed t c e d known first second one_list before);
    })
