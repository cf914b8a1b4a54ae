-- The numbers of the choices that begin with given sources.
use Rattle.std.proofs.Common.{◌≡◌, ◌↔◌, ℕ, zero, suc, ◌+◌, ◌-◌, ◌*◌, ◌<◌, ◌≤◌, List, [], ◌∷◌, ◌++◌, length, map, flat_map, take, drop, get_or, slice_get, Some, arith, refl, sym, ap, ◌∙◌, subst, add-one, ⊎_elim, append_assoc, length-append, mul-le-mul}
use Rattle.std.specs.Cmp.Lexicographic.{slice_cmp}
use Rattle.std.specs.Ordering.{nat_cmp}
use Rattle.std.specs.declared.cmp.Ordering.TheVariants.{Less, Equal}
use Rattle.std.proofs.lemmas.Bool.{cases_lt}
use Rattle.std.proofs.lemmas.List.{drop_more, length_push}
use Rattle.std.proofs.lemmas.Option.{slice_get-get_or, slice_get_within}
use Rattle.lit_syntax.specs.Syntax.{Litmus}
use Rattle.lit_paths.specs.declared.event.Event.{Event}
use Rattle.lit_paths.specs.Path.{Path}
use Rattle.lit_paths.specs.ByteReads.{byte_reads, byte_read_at}
use Rattle.lit_paths.specs.Members.{IsCandidate}
use Rattle.lit_paths.specs.Choice.{Choice, product, candidates_of, sources_of, combinations_of, choices_on, choices_of}
use Rattle.lit_paths.specs.Numbers.{length_product, ways_from, IsBegunBy, AreNumbered, AreGiven, NumbersChoices}
use Rattle.lit_paths.specs.Plan.{combination_at, events_in, choices_before}
use Rattle.lit_paths.proofs.Candidates.{candidates_of-found, candidates_from-rising}
use Rattle.lit_paths.proofs.ChoiceLists.{choice_on, AreSources-sources_of}
use Rattle.lit_paths.proofs.Digits.{later_ways}
use Rattle.lit_paths.proofs.Entered.{ways_from-later, length_product-is}
use Rattle.lit_paths.proofs.PathLists.{combinations_of-rise}
use Rattle.lit_paths.proofs.Products.{fronted-known, slice_get-fronted, slice_get_right, slice_get_left}
use Rattle.lit_paths.proofs.Rising.{slice_get-map-found, slice_cmp-same, nat_cmp-same}
use Rattle.lit_paths.proofs.Totals.{before_more, choice_in}

-- ---- in a product of lists
-- the member with this number begins with these
pub record IsBegun (xss : List (List ℕ)) (given : List ℕ) (n : ℕ) : Type 0 where
  pub whole : List ℕ
  pub at : slice_get (product xss) n ≡ Some whole
  pub rest : List ℕ
  pub begun : whole ≡ given ++ rest

abbrev pub IsInterval : List (List ℕ) → List ℕ → ℕ → ℕ → Type 0
IsInterval xss given low count = (n : ℕ) → IsBegun xss given n ↔ ((low ≤ n) × (n < low + count))

-- no list has a member twice
abbrev pub AreRising : List (List ℕ) → Type 0
AreRising [] = Unit {0}
AreRising (xs ∷ rest) = ((i j a b : ℕ) → i < j → slice_get xs i ≡ Some a → slice_get xs j ≡ Some b → a < b) × AreRising rest

-- these members have these places in the first lists
abbrev pub Picks : List (List ℕ) → List ℕ → List ℕ → Type 0
Picks xss [] [] = Unit {0}
Picks xss [] (i ∷ is) = ⊥
Picks xss (g ∷ gs) [] = ⊥
Picks [] (g ∷ gs) (i ∷ is) = ⊥
Picks (xs ∷ rest) (g ∷ gs) (i ∷ is) = (slice_get xs i ≡ Some g) × Picks rest gs is

-- the first number that begins with the members at these places
abbrev pub low_of : List (List ℕ) → List ℕ → ℕ
low_of xss [] = 0
low_of [] (i ∷ is) = 0
low_of (xs ∷ rest) (i ∷ is) = i * length (product rest) + low_of rest is

one_place : (xs : List ℕ) → ((i j a b : ℕ) → i < j → slice_get xs i ≡ Some a → slice_get xs j ≡ Some b → a < b) → (i j g : ℕ) → slice_get xs i ≡ Some g → slice_get xs j ≡ Some g → i ≡ j
one_place xs rising i j g here there =
    ⊎_elim
    (λ less. absurd (omega (arith, rising i j g g less here there)))
    (λ not_less. ⊎_elim (λ more. absurd (omega (arith, rising j i g g more there here))) (λ not_more. omega (arith, not_less, not_more)) (cases_lt j i))
    (cases_lt i j)

pub intervals : (xss : List (List ℕ)) (given places : List ℕ) → AreRising xss → Picks xss given places → IsInterval xss given (low_of xss places) (length (product (drop (length given) xss)))
intervals xss [] [] rising picks = λ n. (
  λ is. (omega arith, omega (arith, slice_get_within (product xss) n is.whole is.at)),
  λ within. record { whole = get_or (product xss) n []; at = slice_get-get_or (product xss) n [] (omega (arith, within.1)); rest = get_or (product xss) n []; begun = refl },
)
intervals xss [] (i ∷ is) rising picks = absurd picks
intervals xss (g ∷ gs) [] rising picks = absurd picks
intervals [] (g ∷ gs) (i ∷ is) rising picks = absurd picks
intervals (xs ∷ rest) (g ∷ gs) (i ∷ is) rising picks = λ n. (
  λ begun.
      let from = fronted-known (product rest) xs n begun.whole begun.at in
      let both : from.first ∷ from.others ≡ g ∷ (gs ++ begun.rest) = sym from.whole ∙ begun.begun in
      let first : from.first ≡ g = cc in
      let others : from.others ≡ gs ++ begun.rest = cc in
      let same : from.index ≡ i = one_place xs rising.0 from.index i g (from.here ∙ ap (λ x. Some x) first) picks.0 in
      let later = (intervals rest gs is rising.1 picks.1 from.place).0 (record { whole = from.others; at = from.there; rest = begun.rest; begun = others }) in
      let at : n ≡ i * length (product rest) + from.place = from.at ∙ ap (λ k. k * length (product rest) + from.place) same in
      (omega (arith, at, later.0), omega (arith, at, later.1)),
  λ within.
      let place : ℕ = n - i * length (product rest) in
      let later = (intervals rest gs is rising.1 picks.1 place).1 (omega (arith, within.0), omega (arith, within.0, within.1)) in
      record {
        whole = g ∷ later.whole;
        at = slice_get-fronted (product rest) xs i place n g later.whole (omega (arith, within.0)) picks.0 later.at;
        rest = later.rest;
        begun = ap (λ ys. g ∷ ys) later.begun;
      },
)

-- ---- one member more
picks_more : (xss : List (List ℕ)) (given places : List ℕ) (xs : List ℕ) (i w : ℕ) → Picks xss given places → slice_get xss (length given) ≡ Some xs → slice_get xs i ≡ Some w
    → Picks xss (given ++ w ∷ []) (places ++ i ∷ [])
picks_more [] [] [] xs i w picks at here = cc
picks_more (ys ∷ rest) [] [] xs i w picks at here = let same : ys ≡ xs = cc in (ap (λ (l : List ℕ). slice_get l i) same ∙ here, tt)
picks_more xss [] (j ∷ js) xs i w picks at here = absurd picks
picks_more xss (g ∷ gs) [] xs i w picks at here = absurd picks
picks_more [] (g ∷ gs) (j ∷ js) xs i w picks at here = absurd picks
picks_more (ys ∷ rest) (g ∷ gs) (j ∷ js) xs i w picks at here = (picks.0, picks_more rest gs js xs i w picks.1 at here)

low_more : (xss : List (List ℕ)) (given places : List ℕ) (xs : List ℕ) (i : ℕ) → Picks xss given places → slice_get xss (length given) ≡ Some xs
    → low_of xss (places ++ i ∷ []) ≡ low_of xss places + i * later_ways xss (length given)
low_more [] [] [] xs i picks at = cc
low_more (ys ∷ rest) [] [] xs i picks at = omega arith
low_more xss [] (j ∷ js) xs i picks at = absurd picks
low_more xss (g ∷ gs) [] xs i picks at = absurd picks
low_more [] (g ∷ gs) (j ∷ js) xs i picks at = absurd picks
low_more (ys ∷ rest) (g ∷ gs) (j ∷ js) xs i picks at = omega (arith, low_more rest gs js xs i picks.1 at)

-- ---- in a combination
abbrev lists_of : List Event → List (List ℕ)
lists_of events = map (candidates_of events) (byte_reads events)

rising_lists : (events : List Event) (reads : List (ℕ × ℕ)) → AreRising (map (candidates_of events) reads)
rising_lists events [] = tt
rising_lists events (read ∷ reads) = (λ i j a b less here there. candidates_from-rising read 0 events i j a b less here there, rising_lists events reads)

ways_are : (events : List Event) (k : ℕ) → length (product (drop k (lists_of events))) ≡ ways_from events k
ways_are events zero = length_product-is (lists_of events)
ways_are events (suc k) = ways_from-later events k ∙ ap (ways_from events) (add-one k)

-- where a member of lists joined end to end is from
joined_known : {A B : Type 0} (f : A → List B) (xs : List A) (n : ℕ) (y : B) → slice_get (flat_map f xs) n ≡ Some y
    → (i : ℕ) × (i < length xs) × (length (flat_map f (take i xs)) ≤ n) × (n < length (flat_map f (take (suc i) xs)))
joined_known f [] n y at = cc
joined_known f (x ∷ xs) n y at =
    ⊎_elim
    (λ inside. (0, omega arith, omega arith, omega (arith, inside, length-append (f x) [])))
    (λ past.
    let later = joined_known f xs (n - length (f x)) y (sym (slice_get_right (f x) (flat_map f xs) n (n - length (f x)) (omega (arith, past))) ∙ at) in (
      suc later.0,
      omega (arith, later.1),
      omega (arith, later.2, past, length-append (f x) (flat_map f (take later.0 xs))),
      omega (arith, later.3, past, length-append (f x) (flat_map f (take (suc later.0) xs))),
    ))
    (cases_lt n (length (f x)))

-- the combination that a choice is of
found_in : (t : Litmus) (n : ℕ) (choice : Choice) → slice_get (choices_of t) n ≡ Some choice
    → (c : ℕ) × (c < length (combinations_of t)) × (choices_before t c ≤ n) × (n < choices_before t (c + 1))
unfolding choices_of
found_in t n choice at =
    let found = joined_known (choices_on t.bytes) (combinations_of t) n choice at in
    (found.0, found.1, found.2, omega (arith, found.3, ap (choices_before t) (add-one found.0)))

-- no two combinations have the same decisions
one_combination : (t : Litmus) (d c : ℕ) → d < length (combinations_of t) → c < length (combinations_of t)
    → map (λ (path : Path). path.decisions) (combination_at t d) ≡ map (λ (path : Path). path.decisions) (combination_at t c) → d ≡ c
one_combination t d c d_known c_known decided =
    let of : ℕ → List (List ℕ) = λ k. map (λ (path : Path). path.decisions) (combination_at t k) in
    let equal : (xs : List (List ℕ)) → slice_cmp (slice_cmp nat_cmp) xs xs ≡ Equal = λ xs. slice_cmp-same (slice_cmp nat_cmp) (λ ys. slice_cmp-same nat_cmp nat_cmp-same ys) xs in
    let clash : (i j : ℕ) → i < length (combinations_of t) → j < length (combinations_of t) → of i ≡ of j → i < j → ⊥ = λ i j i_known j_known same less.
    let before : slice_cmp (slice_cmp nat_cmp) (of i) (of j) ≡ Less =
    combinations_of-rise t i j (combination_at t i) (combination_at t j) less (slice_get-get_or (combinations_of t) i [] i_known) (slice_get-get_or (combinations_of t) j [] j_known) in
    let not_before : slice_cmp (slice_cmp nat_cmp) (of i) (of j) ≡ Equal = ap (λ (l : List (List ℕ)). slice_cmp (slice_cmp nat_cmp) l (of j)) same ∙ equal (of j) in
    let never : Less ≡ Equal = sym before ∙ not_before in
    cc in
    ⊎_elim
    (λ less. absurd (clash d c d_known c_known decided less))
    (λ not_less. ⊎_elim (λ more. absurd (clash c d c_known d_known (sym decided) more)) (λ not_more. omega (arith, not_less, not_more)) (cases_lt c d))
    (cases_lt d c)

-- a choice with a combination's decisions has one of its numbers
begun_in : (t : Litmus) (c : ℕ) (given : List ℕ) (n : ℕ) → c < length (combinations_of t) → IsBegunBy t c given n → (choices_before t c ≤ n) × IsBegun (lists_of (events_in t c)) given (n - choices_before t c)
begun_in t c given n known is =
    let found = found_in t n is.choice is.listed in
    let d : ℕ = found.0 in
    let place : ℕ = n - choices_before t d in
    let sources : List ℕ = get_or (sources_of (events_in t d)) place [] in
    let at : slice_get (sources_of (events_in t d)) place ≡ Some sources =
    slice_get-get_or (sources_of (events_in t d)) place [] (omega (arith, found.2, found.3, before_more t d found.1)) in
    let both : Some is.choice ≡ Some (choice_on (combination_at t d) sources) = sym is.listed ∙ choice_in t d n sources found.1 found.2 found.3 at in
    let same : is.choice ≡ choice_on (combination_at t d) sources = cc in
    let one : d ≡ c = one_combination t d c found.1 known (sym (ap (λ (k : Choice). k.decisions) same) ∙ sym is.on) in
    subst (λ (k : ℕ). (choices_before t k ≤ n) × IsBegun (lists_of (events_in t k)) given (n - choices_before t k)) one
    (found.2, record { whole = sources; at = at; rest = is.rest; begun = sym (ap (λ (k : Choice). k.sources) same) ∙ is.begun })

begun_from : (t : Litmus) (c : ℕ) (given : List ℕ) (n : ℕ) → c < length (combinations_of t) → choices_before t c ≤ n → IsBegun (lists_of (events_in t c)) given (n - choices_before t c) → IsBegunBy t c given n
begun_from t c given n known low is =
    let inside = slice_get_within (sources_of (events_in t c)) (n - choices_before t c) is.whole is.at in
    record {
      choice = choice_on (combination_at t c) is.whole;
      listed = choice_in t c n is.whole known low (omega (arith, low, inside, before_more t c known)) is.at;
      on = refl;
      rest = is.rest;
      begun = is.begun;
    }

numbered : (t : Litmus) (c : ℕ) (given places : List ℕ) → c < length (combinations_of t) → Picks (lists_of (events_in t c)) given places
    → AreNumbered t c given (choices_before t c + low_of (lists_of (events_in t c)) places) (ways_from (events_in t c) (length given))
numbered t c given places known picks n =
    let events : List Event = events_in t c in
    let xss : List (List ℕ) = lists_of events in
    let base : ℕ = choices_before t c in
    let count = ways_are events (length given) in
    let interval = intervals xss given places (rising_lists events (byte_reads events)) picks (n - base) in (
      λ is.
          let here = begun_in t c given n known is in
          let within = interval.0 here.1 in
          (omega (arith, here.0, within.0), omega (arith, here.0, within.1, count)),
      λ within. begun_from t c given n known (omega (arith, within.0)) (interval.1 (omega (arith, within.0), omega (arith, within.0, within.1, count))),
    )

-- ---- given sources have places among the candidates
picked : (events : List Event) (reads : List (ℕ × ℕ)) (given : List ℕ) → length given ≤ length reads
    → ((i r b w : ℕ) → slice_get reads i ≡ Some (r, b) → slice_get given i ≡ Some w → IsCandidate events r b w) → (places : List ℕ) × Picks (map (candidates_of events) reads) given places
picked events reads [] few each = ([], tt)
picked events [] (g ∷ gs) few each = absurd (omega (arith, few))
picked events (read ∷ reads) (g ∷ gs) few each =
    let here = candidates_of-found events read.0 read.1 g (each 0 read.0 read.1 g refl refl) in
    let later = picked events reads gs (omega (arith, few)) (λ i r b w at from. each (suc i) r b w at from) in
    (here.0 ∷ later.0, (here.1, later.1))

-- the beginning of what a choice takes is given
begun_given : (events : List Event) (n : ℕ) (given : List ℕ) → IsBegun (lists_of events) given n → AreGiven events given
begun_given events n given is =
    let are = AreSources-sources_of events n is.whole is.at in
    record {
      few = omega (arith, are.one_each, ap (λ (ws : List ℕ). length ws) is.begun, long given is.rest);
      each = λ i r b w at from. are.each i r b w at (ap (λ (ws : List ℕ). slice_get ws i) is.begun ∙ slice_get_left given is.rest i (slice_get_within given i w from) ∙ from);
    }
  where
    long : (xs ys : List ℕ) → length xs ≤ length (xs ++ ys)
    long [] ys = omega arith
    long (x ∷ xs) ys = omega (arith, long xs ys)

-- ---- the next byte read
list_next : (events : List Event) (k : ℕ) → k < length (byte_reads events) → slice_get (lists_of events) k ≡ Some (candidates_of events (byte_read_at events k))
list_next events k inside = slice_get-map-found (candidates_of events) (byte_reads events) k (byte_read_at events k) (slice_get-get_or (byte_reads events) k (0, 0) inside)

next_ways : (events : List Event) (k : ℕ) → k < length (byte_reads events) → ways_from events k ≡ length (candidates_of events (byte_read_at events k)) * ways_from events (k + 1)
next_ways events k inside = ap (λ (reads : List (ℕ × ℕ)). length_product (map (candidates_of events) reads)) (drop_more (byte_reads events) k (0, 0) inside)

begun_less : (t : Litmus) (c : ℕ) (given : List ℕ) (w n : ℕ) → IsBegunBy t c (given ++ w ∷ []) n → IsBegunBy t c given n
begun_less t c given w n is = record {
  choice = is.choice;
  listed = is.listed;
  on = is.on;
  rest = w ∷ is.rest;
  begun = is.begun ∙ append_assoc given (w ∷ []) is.rest;
}

next_numbered : (t : Litmus) (c : ℕ) → c < length (combinations_of t) → (given : List ℕ) (low i w : ℕ) → AreNumbered t c given low (ways_from (events_in t c) (length given)) → length given < length (byte_reads (events_in t c))
    → slice_get (candidates_of (events_in t c) (byte_read_at (events_in t c) (length given))) i ≡ Some w
    → AreNumbered t c (given ++ w ∷ []) (low + i * ways_from (events_in t c) (length given + 1)) (ways_from (events_in t c) (length given + 1))
next_numbered t c known given low i w are left here =
    let events : List Event = events_in t c in
    let k : ℕ = length given in
    let more : ℕ = ways_from events (k + 1) in
    let ways = next_ways events k left in
    let some : 1 ≤ length (candidates_of events (byte_read_at events k)) = omega (arith, slice_get_within (candidates_of events (byte_read_at events k)) i w here) in
    ⊎_elim
    (λ some_way.
    let first : IsBegunBy t c given low = (are low).1 (omega arith, omega (arith, some_way)) in
    let inside = begun_in t c given low known first in
    let given_are = begun_given events (low - choices_before t c) given inside.1 in
    let places = picked events (byte_reads events) given given_are.few given_are.each in
    let start : ℕ = choices_before t c + low_of (lists_of events) places.0 in
    let exact = numbered t c given places.0 known places.1 in
    let lower : start ≤ low = ((exact low).0 first).0 in
    let upper : low ≤ start = ((are start).0 ((exact start).1 (omega arith, omega (arith, some_way)))).0 in
    let same : low ≡ start = omega (arith, lower, upper) in
    let list = list_next events k left in
    let next = numbered t c (given ++ w ∷ []) (places.0 ++ i ∷ []) known (picks_more (lists_of events) given places.0 _ i w places.1 list here) in
    let at : choices_before t c + low_of (lists_of events) (places.0 ++ i ∷ []) ≡ low + i * more =
    ap (λ n. choices_before t c + n) (low_more (lists_of events) given places.0 _ i places.1 list ∙ ap (λ m. low_of (lists_of events) places.0 + i * m) (ways_from-later events k))
    ∙ omega (arith, same) in
    let long : ways_from events (length (given ++ w ∷ [])) ≡ more = ap (ways_from events) (length_push given w) in
    subst (λ (m : ℕ). AreNumbered t c (given ++ w ∷ []) (low + i * more) m) long
    (subst (λ (m : ℕ). AreNumbered t c (given ++ w ∷ []) m (ways_from events (length (given ++ w ∷ [])))) at next))
    (λ no_way.
    let none : more ≡ 0 = omega (arith, no_way, ways, mul-le-mul some (let le : more ≤ more = omega arith in le)) in
    λ n. (
      λ is. absurd (omega (arith, (are n).0 (begun_less t c given w n is), no_way)),
      λ within. absurd (omega (arith, within, none)),
    ))
    (cases_lt 0 (ways_from events k))

pub numbers_choices : (t : Litmus) (c : ℕ) → c < length (combinations_of t) → NumbersChoices t c
numbers_choices t c known = record {
  whole = let none : List ℕ = [] in
      subst (λ (low : ℕ). AreNumbered t c none low (ways_from (events_in t c) 0)) (let e : choices_before t c + 0 ≡ choices_before t c = omega arith in e) (numbered t c none none known tt);
  behind = omega (arith, before_more t c known, ways_are (events_in t c) 0);
  begun = λ given are.
      let places = picked (events_in t c) (byte_reads (events_in t c)) given are.few are.each in
      (choices_before t c + low_of (lists_of (events_in t c)) places.0, numbered t c given places.0 known places.1);
  next = λ given low i w are left here. next_numbered t c known given low i w are left here;
}
