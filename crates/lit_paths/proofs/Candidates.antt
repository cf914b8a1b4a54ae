-- The candidates of a byte of a read, event by event.
use Rattle.std.proofs.Common.{◌≡◌, ℕ, zero, suc, ◌+◌, ◌<◌, ◌≤◌, List, [], ◌∷◌, ◌++◌, append_assoc, length, map, filter, get_or, drop, Bool, true, false, cond, arith, refl, sym, ap, ◌∙◌, slice_get, Some, subst, add-zero, ◌≢◌, ◌&&◌, ◌==◌, not, nat_le, nat_lt}
use Rattle.std.proofs.lemmas.Bool.{and_from, and_parts, le-leb, lt-ltb, leb-true, ltb-true, eqb-false, ne_eqb, not-true, not_from_false}
use Rattle.std.specs.List.{enumerate_from}
use Rattle.std.proofs.lemmas.List.{drop_more, drop_all}
use Rattle.lit_paths.specs.declared.event.Event.{Event}
use Rattle.lit_paths.specs.Event.{event_at, no_event, does_write}
use Rattle.lit_paths.specs.Members.{IsCandidate}
use Rattle.lit_paths.specs.Choice.{is_candidate, candidates_of}

-- the candidates among these events, of which the first has number n
abbrev pub candidates_from : ℕ × ℕ → ℕ → List Event → List ℕ
candidates_from read n events = map (λ e. e.0) (filter (is_candidate read.0 read.1) (enumerate_from n events))

pub candidates_from-candidate : (read : ℕ × ℕ) (events : List Event) (i : ℕ) (d : Event) → i < length events
    → is_candidate read.0 read.1 (i, get_or events i d) ≡ true → candidates_from read i (drop i events) ≡ i ∷ candidates_from read (i + 1) (drop (i + 1) events)
candidates_from-candidate read events i d inside passes =
    ap (λ es. candidates_from read i es) (drop_more events i d inside)
    ∙ ap (λ b. map (λ p. p.0) (cond b ((i, get_or events i d) ∷ filter (is_candidate read.0 read.1) (enumerate_from (i + 1) (drop (i + 1) events))) (filter (is_candidate read.0 read.1) (enumerate_from (i + 1) (drop (i + 1) events))))) passes

pub candidates_from-other : (read : ℕ × ℕ) (events : List Event) (i : ℕ) (d : Event) → i < length events
    → is_candidate read.0 read.1 (i, get_or events i d) ≡ false → candidates_from read i (drop i events) ≡ candidates_from read (i + 1) (drop (i + 1) events)
candidates_from-other read events i d inside fails =
    ap (λ es. candidates_from read i es) (drop_more events i d inside)
    ∙ ap (λ b. map (λ p. p.0) (cond b ((i, get_or events i d) ∷ filter (is_candidate read.0 read.1) (enumerate_from (i + 1) (drop (i + 1) events))) (filter (is_candidate read.0 read.1) (enumerate_from (i + 1) (drop (i + 1) events))))) fails

-- one event more, of the candidates found so far
pub candidate_step : (read : ℕ × ℕ) (events : List Event) (i : ℕ) (d : Event) (done more all : List ℕ) → i < length events
    → is_candidate read.0 read.1 (i, get_or events i d) ≡ true → more ≡ done ++ i ∷ []
    → done ++ candidates_from read i (drop i events) ≡ all → more ++ candidates_from read (i + 1) (drop (i + 1) events) ≡ all
candidate_step read events i d done more all inside passes pushed before =
    ap (λ xs. xs ++ candidates_from read (i + 1) (drop (i + 1) events)) pushed
    ∙ append_assoc done (i ∷ []) (candidates_from read (i + 1) (drop (i + 1) events))
    ∙ ap (λ xs. done ++ xs) (sym (candidates_from-candidate read events i d inside passes)) ∙ before

pub other_step : (read : ℕ × ℕ) (events : List Event) (i : ℕ) (d : Event) (done more all : List ℕ) → i < length events
    → is_candidate read.0 read.1 (i, get_or events i d) ≡ false → more ≡ done
    → done ++ candidates_from read i (drop i events) ≡ all → more ++ candidates_from read (i + 1) (drop (i + 1) events) ≡ all
other_step read events i d done more all inside fails same before =
    ap (λ xs. xs ++ candidates_from read (i + 1) (drop (i + 1) events)) same
    ∙ ap (λ xs. done ++ xs) (sym (candidates_from-other read events i d inside fails)) ∙ before

pub length-candidates_from : (read : ℕ × ℕ) (n : ℕ) (events : List Event) → length (candidates_from read n events) ≤ length events
length-candidates_from read n [] = omega arith
length-candidates_from read n (e ∷ es) =
    let step : (b : Bool) → length (map (λ (p : ℕ × Event). p.0) (cond b ((n, e) ∷ filter (is_candidate read.0 read.1) (enumerate_from (n + 1) es)) (filter (is_candidate read.0 read.1) (enumerate_from (n + 1) es)))) ≤ length (e ∷ es)
    = λ b. elim b as (λ v. length (map (λ (p : ℕ × Event). p.0) (cond v ((n, e) ∷ filter (is_candidate read.0 read.1) (enumerate_from (n + 1) es)) (filter (is_candidate read.0 read.1) (enumerate_from (n + 1) es)))) ≤ length (e ∷ es))
    [ true ↦ omega (arith, length-candidates_from read (n + 1) es) | false ↦ omega (arith, length-candidates_from read (n + 1) es) ] in
    step (is_candidate read.0 read.1 (n, e))

-- no event is left at the end
pub candidates_from-end : (read : ℕ × ℕ) (events : List Event) (i : ℕ) → length events ≤ i → candidates_from read i (drop i events) ≡ []
candidates_from-end read events i past = ap (λ es. candidates_from read i es) (drop_all i events past)

pub candidates_from-found : (read : ℕ × ℕ) (n : ℕ) (events : List Event) (j : ℕ) (d : Event) → j < length events
    → is_candidate read.0 read.1 (n + j, get_or events j d) ≡ true → (k : ℕ) × (slice_get (candidates_from read n events) k ≡ Some (n + j))
candidates_from-found read n [] j d inside passes = absurd (omega (arith, inside))
candidates_from-found read n (e ∷ es) zero d inside passes =
    let first : is_candidate read.0 read.1 (n, e) ≡ true = subst (λ (m : ℕ). is_candidate read.0 read.1 (m, e) ≡ true) (add-zero n) passes in (
      0,
      ap (λ b. slice_get (map (λ (p : ℕ × Event). p.0) (cond b ((n, e) ∷ filter (is_candidate read.0 read.1) (enumerate_from (n + 1) es)) (filter (is_candidate read.0 read.1) (enumerate_from (n + 1) es)))) 0) first
          ∙ ap (λ m. Some m) (sym (add-zero n)),
    )
candidates_from-found read n (e ∷ es) (suc j) d inside passes =
    let same : n + suc j ≡ (n + 1) + j = omega arith in
    let later = candidates_from-found read (n + 1) es j d (omega (arith, inside)) (subst (λ (m : ℕ). is_candidate read.0 read.1 (m, get_or es j d) ≡ true) same passes) in
    let at : slice_get (candidates_from read (n + 1) es) later.0 ≡ Some (n + suc j) = later.1 ∙ ap (λ m. Some m) (sym same) in
    let shown : (b : Bool) → (k : ℕ) × (slice_get (map (λ (p : ℕ × Event). p.0) (cond b ((n, e) ∷ filter (is_candidate read.0 read.1) (enumerate_from (n + 1) es)) (filter (is_candidate read.0 read.1) (enumerate_from (n + 1) es)))) k ≡ Some (n + suc j))
    = λ b. elim b as (λ v. (k : ℕ) × (slice_get (map (λ (p : ℕ × Event). p.0) (cond v ((n, e) ∷ filter (is_candidate read.0 read.1) (enumerate_from (n + 1) es)) (filter (is_candidate read.0 read.1) (enumerate_from (n + 1) es)))) k ≡ Some (n + suc j)))
    [ true ↦ (suc later.0, at) | false ↦ (later.0, at) ] in
    shown (is_candidate read.0 read.1 (n, e))

-- what stands among the candidates of events from number n on
abbrev pub IsFound : ℕ × ℕ → ℕ → List Event → ℕ → Type 0
IsFound read n events w = (j : ℕ) × (w ≡ n + j) × (j < length events) × ((d : Event) → is_candidate read.0 read.1 (w, get_or events j d) ≡ true)

pub candidates_from-known : (read : ℕ × ℕ) (n : ℕ) (events : List Event) (k w : ℕ) → slice_get (candidates_from read n events) k ≡ Some w → IsFound read n events w
candidates_from-known read n [] k w at = cc
candidates_from-known read n (e ∷ es) k w at =
    let later : (i : ℕ) → slice_get (candidates_from read (n + 1) es) i ≡ Some w → IsFound read n (e ∷ es) w
    = λ i h. let rest = candidates_from-known read (n + 1) es i w h in (suc rest.0, omega (arith, rest.1), omega (arith, rest.2), rest.3) in
    let tail = filter (is_candidate read.0 read.1) (enumerate_from (n + 1) es) in
    let shown : (b : Bool) → is_candidate read.0 read.1 (n, e) ≡ b → (i : ℕ) → slice_get (map (λ (p : ℕ × Event). p.0) (cond b ((n, e) ∷ tail) tail)) i ≡ Some w → IsFound read n (e ∷ es) w
    = λ b. elim b as (λ v. is_candidate read.0 read.1 (n, e) ≡ v → (i : ℕ) → slice_get (map (λ (p : ℕ × Event). p.0) (cond v ((n, e) ∷ tail) tail)) i ≡ Some w → IsFound read n (e ∷ es) w) [
      | true ↦ λ test i. elim i as (λ m. slice_get (n ∷ map (λ (p : ℕ × Event). p.0) tail) m ≡ Some w → IsFound read n (e ∷ es) w) [
        | zero ↦ λ h. let same : n ≡ w = cc in (0, omega (arith, same), omega arith, λ d. subst (λ (m : ℕ). is_candidate read.0 read.1 (m, e) ≡ true) same test)
        | suc m ↦ λ h. later m h
      ]
      | false ↦ λ test i h. later i h
    ] in
    shown (is_candidate read.0 read.1 (n, e)) refl k at

pub candidates_from-rising : (read : ℕ × ℕ) (n : ℕ) (events : List Event) (i j a b : ℕ) → i < j
    → slice_get (candidates_from read n events) i ≡ Some a → slice_get (candidates_from read n events) j ≡ Some b → a < b
candidates_from-rising read n [] i j a b less here there = cc
candidates_from-rising read n (e ∷ es) i j a b less here there =
    let tail = filter (is_candidate read.0 read.1) (enumerate_from (n + 1) es) in
    let front : (m : ℕ) → slice_get (map (λ (p : ℕ × Event). p.0) tail) m ≡ Some b → n ≡ a → a < b
    = λ m h same. let known = candidates_from-known read (n + 1) es m b h in omega (arith, known.1, same) in
    let shown : (v : Bool) → (i j : ℕ) → i < j → slice_get (map (λ (p : ℕ × Event). p.0) (cond v ((n, e) ∷ tail) tail)) i ≡ Some a → slice_get (map (λ (p : ℕ × Event). p.0) (cond v ((n, e) ∷ tail) tail)) j ≡ Some b → a < b
    = λ v. elim v as (λ v. (i j : ℕ) → i < j → slice_get (map (λ (p : ℕ × Event). p.0) (cond v ((n, e) ∷ tail) tail)) i ≡ Some a → slice_get (map (λ (p : ℕ × Event). p.0) (cond v ((n, e) ∷ tail) tail)) j ≡ Some b → a < b) [
      | true ↦ λ i j. elim j as (λ q. i < q → slice_get (n ∷ map (λ (p : ℕ × Event). p.0) tail) i ≡ Some a → slice_get (n ∷ map (λ (p : ℕ × Event). p.0) tail) q ≡ Some b → a < b) [
        | zero ↦ λ l h g. absurd (omega (arith, l))
        | suc q ↦ λ l. elim i as (λ p. p < suc q → slice_get (n ∷ map (λ (p : ℕ × Event). p.0) tail) p ≡ Some a → slice_get (map (λ (p : ℕ × Event). p.0) tail) q ≡ Some b → a < b) [
          | zero ↦ λ l h g. front q g (let same : n ≡ a = cc in same)
          | suc p ↦ λ l h g. candidates_from-rising read (n + 1) es p q a b (omega (arith, l)) h g
        ] l
      ]
      | false ↦ λ i j l h g. candidates_from-rising read (n + 1) es i j a b l h g
    ] in
    shown (is_candidate read.0 read.1 (n, e)) i j less here there

-- ---- against the definition of a candidate
pub is_candidate-from : (r b w : ℕ) (e : Event) → does_write e.kind ≡ true → e.first ≤ b → b < e.first + e.size → w ≢ r → is_candidate r b (w, e) ≡ true
is_candidate-from r b w e writes low high other =
    and_from _ _ (and_from _ _ (and_from _ _ writes (le-leb e.first b low)) (lt-ltb b (e.first + e.size) high)) (not_from_false (w == r) (ne_eqb w r other))

pub is_candidate-parts : (r b w : ℕ) (e : Event) → is_candidate r b (w, e) ≡ true → (does_write e.kind ≡ true) × (e.first ≤ b) × (b < e.first + e.size) × (w ≢ r)
is_candidate-parts r b w e passes =
    let outer = and_parts (does_write e.kind && nat_le e.first b && nat_lt b (e.first + e.size)) (not (w == r)) passes in
    let middle = and_parts (does_write e.kind && nat_le e.first b) (nat_lt b (e.first + e.size)) outer.0 in
    let inner = and_parts (does_write e.kind) (nat_le e.first b) middle.0 in
    (inner.0, leb-true e.first b inner.1, ltb-true b (e.first + e.size) middle.1, eqb-false w r (not-true (w == r) outer.1))

pub candidates_of-known : (events : List Event) (r b k w : ℕ) → slice_get (candidates_of events (r, b)) k ≡ Some w → IsCandidate events r b w
candidates_of-known events r b k w at =
    let found = candidates_from-known (r, b) 0 events k w at in
    let same : w ≡ found.0 = omega (arith, found.1) in
    let parts = is_candidate-parts r b w (event_at events w) (subst (λ (m : ℕ). is_candidate r b (w, event_at events m) ≡ true) (sym same) (found.3 no_event)) in
    record { known = omega (arith, same, found.2); writes = parts.0; in_range = (parts.1, parts.2); other = parts.3 }

pub candidates_of-found : (events : List Event) (r b w : ℕ) → IsCandidate events r b w → (k : ℕ) × (slice_get (candidates_of events (r, b)) k ≡ Some w)
candidates_of-found events r b w is =
    let same : 0 + w ≡ w = omega arith in
    let test = is_candidate-from r b w (event_at events w) is.writes is.in_range.0 is.in_range.1 is.other in
    let found = candidates_from-found (r, b) 0 events w no_event is.known (subst (λ (m : ℕ). is_candidate r b (m, event_at events w) ≡ true) (sym same) test) in
    (found.0, found.1 ∙ ap (λ m. Some m) same)
