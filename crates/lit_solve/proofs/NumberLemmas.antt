-- The number of the choice on a combination that has given sources: the digits of its byte reads, added up.
use Rattle.lit_solve.proofs.Words.{[], ◌*◌, ◌++◌, ◌+◌, ◌<◌, ◌==◌, ◌∙◌, ◌∷◌, ◌≡◌, ◌≢◌, ◌≤◌, ◌⊎◌, AgreeBeside, ap, ap₂, AreDistinct}
use Rattle.lit_solve.proofs.Words.{AreNumbered, AreSources, arith, byte_read_at, byte_reads, candidates_of, cases_eq, Choice}
use Rattle.lit_solve.proofs.Words.{choices_before, digit, digits_below, drop_all, Event, events_in, events_on}
use Rattle.lit_solve.proofs.Words.{get_or, HasSources, if◌then◌else◌, inl, inr, IsBegunBy, IsListed, IsOfCombination, length}
use Rattle.lit_solve.proofs.Words.{length-take-le, length_product, length_push, List, lists-candidates, Litmus, map, mul-le-mul_right}
use Rattle.lit_solve.proofs.Words.{nat_tests, none-some, NumbersChoices, OpenRead, place_in, refl, same_Some, share_below, shares_below}
use Rattle.lit_solve.proofs.Words.{slice_get-get_or, slice_get_within, Some, subst, suc, sym, take, take_all, take_more, ways_from, zero, ℕ}
use Rattle.std.proofs.Common.{slice_get}
use Rattle.lit_paths.proofs.ChoiceNumbers.{rest_none, ways_split}

-- the choices on a combination that begin with these sources have the numbers from `low` on
pub record BeginAt (t : Litmus) (c : ℕ) (given : List ℕ) (low : ℕ) : Type 0 where
  pub numbered : AreNumbered t c given low (ways_from (events_in t c) (length given))
  pub first : choices_before t c ≤ low
  pub end : low + ways_from (events_in t c) (length given) ≤ choices_before t (c + 1)

ways_end : (events : List Event) (k : ℕ) → length (byte_reads events) ≤ k → ways_from events k ≡ 1
ways_end events k past = ap (λ (rs : List (ℕ × ℕ)). length_product (map (candidates_of events) rs)) (drop_all k (byte_reads events) past)

module _ (t : Litmus) (c : ℕ) (numbers : NumbersChoices t c) where
  pub begin_none : BeginAt t c [] (choices_before t c)
  begin_none = record { numbered = numbers.whole; first = omega arith; end = omega (arith, numbers.behind) }

  module _ (given : List ℕ) (low i w : ℕ) (begun : BeginAt t c given low) (left : length given < length (byte_reads (events_in t c)))
      (here : slice_get (candidates_of (events_in t c) (byte_read_at (events_in t c) (length given))) i ≡ Some w) where
    -- the choices with the candidate, and those with an earlier candidate, are among the choices with the sources given
    pub earlier_fit : i * ways_from (events_in t c) (length given + 1) + ways_from (events_in t c) (length given + 1) ≤ ways_from (events_in t c) (length given)
    earlier_fit = grind (arith, mul-le-mul_right, slice_get_within, ways_split)

    pub begin_more : BeginAt t c (given ++ w ∷ []) (low + i * ways_from (events_in t c) (length given + 1))
    begin_more =
        let long : length given + 1 ≡ length (given ++ w ∷ []) = sym (length_push given w) in
        record {
          numbered =
              subst (λ (k : ℕ). AreNumbered t c (given ++ w ∷ []) (low + i * ways_from (events_in t c) (length given + 1))
              (ways_from (events_in t c) k)) long
              (numbers.next given low i w begun.numbered left here);
          first = omega (arith, begun.first);
          end = omega (arith, begun.end, earlier_fit, ap (ways_from (events_in t c)) long);
        }

  -- with a source for each byte read it is one choice
  module _ (sources : List ℕ) (n : ℕ) (begun : BeginAt t c sources n) (whole : length sources ≡ length (byte_reads (events_in t c))) where
    one_way : ways_from (events_in t c) (length sources) ≡ 1
    one_way = ways_end (events_in t c) (length sources) (omega (arith, whole))

    pub begin_within : n < choices_before t (c + 1)
    begin_within = omega (arith, begun.end, one_way)

    pub begin_has : IsOfCombination t n c → HasSources t n sources
    begin_has of =
        let is : IsBegunBy t c sources n = (begun.numbered n).1 (omega arith, omega (arith, one_way)) in
        let same : is.choice ≡ of.choice = same_Some is.choice of.choice (sym is.listed ∙ of.listed) in
        let long : length is.choice.sources ≡ length sources = ap (λ (ch : Choice). length ch.sources) same ∙ of.sourced.one_each ∙ sym whole in
        record {
          choice = is.choice;
          listed = is.listed;
          same = is.begun ∙ rest_none sources is.rest (sym long ∙ ap (λ (ws : List ℕ). length ws) is.begun);
        }

-- ---- digits
place_at : (xs : List ℕ) (w i : ℕ) → slice_get xs i ≡ Some w → slice_get xs (place_in xs w) ≡ Some w
place_at [] w i at = absurd (none-some w at)
place_at (x ∷ xs) w i at = by (cases_eq x w) i at (place_at xs w)
  where
    by : (x ≡ w) ⊎ (x ≢ w) → (i : ℕ) → slice_get (x ∷ xs) i ≡ Some w
        → ((j : ℕ) → slice_get xs j ≡ Some w → slice_get xs (place_in xs w) ≡ Some w) → slice_get (x ∷ xs) (place_in (x ∷ xs) w) ≡ Some w
    by (inl same) i there later = grind (arith, nat_tests)
    by (inr other) zero there later = absurd (other (same_Some x w there))
    by (inr other) (suc j) there later = let found = later j there in grind (arith, nat_tests)

pub first_place_is : (xs : List ℕ) (w i : ℕ) → slice_get xs i ≡ Some w → ((k : ℕ) → k < i → get_or xs k 0 ≢ w) → i ≡ place_in xs w
first_place_is [] w i at none = absurd (none-some w at)
first_place_is (x ∷ xs) w zero at none = let same = same_Some x w at in grind (arith, nat_tests)
first_place_is (x ∷ xs) w (suc i) at none =
    let other : x ≢ w = none 0 (omega arith) in
    let later = first_place_is xs w i at (λ k less. none (suc k) (omega (arith, less))) in
    grind (arith, nat_tests)

pub candidate_there : (events : List Event) (sources : List ℕ) (k : ℕ) → AreSources events sources → k < length sources
    → (i : ℕ) × (slice_get (candidates_of events (byte_read_at events k)) i ≡ Some (get_or sources k 0))
candidate_there events sources k are inside =
    let read = byte_read_at events k in
    let at : slice_get (byte_reads events) k ≡ Some read = slice_get-get_or (byte_reads events) k (0, 0) (omega (arith, inside, are.one_each)) in
    let source = slice_get-get_or sources k 0 inside in
    (lists-candidates events read.0 read.1).all (get_or sources k 0) (are.each k read.0 read.1 (get_or sources k 0) at source)

pub digits_more : (events : List Event) (sources : List ℕ) (k : ℕ)
    → digits_below events sources (k + 1) ≡ digits_below events sources k + digit events k (get_or sources k 0)
digits_more events sources k = let next : k + 1 ≡ suc k = omega arith in ap (digits_below events sources) next

pub share_more : (events : List Event) (r : ℕ) (sources : List ℕ) (k : ℕ)
    → share_below events r sources (k + 1)
    ≡ share_below events r sources k + (if (byte_read_at events k).0 == r then digit events k (get_or sources k 0) else 0)
share_more events r sources k = let next : k + 1 ≡ suc k = omega arith in ap (share_below events r sources) next

pub share_own : (events : List Event) (r : ℕ) (sources : List ℕ) (k : ℕ) → (byte_read_at events k).0 ≡ r
    → share_below events r sources (k + 1) ≡ share_below events r sources k + digit events k (get_or sources k 0)
share_own events r sources k its = let more = share_more events r sources k in grind (arith, nat_tests)

pub share_other : (events : List Event) (r : ℕ) (sources : List ℕ) (k : ℕ) → (byte_read_at events k).0 ≢ r
    → share_below events r sources (k + 1) ≡ share_below events r sources k
share_other events r sources k other = let more = share_more events r sources k in grind (arith, nat_tests)

pub share_within : (events : List Event) (r : ℕ) (sources : List ℕ) (k : ℕ) → share_below events r sources k ≤ digits_below events sources k
share_within events r sources zero = omega arith
share_within events r sources (suc k) = let before = share_within events r sources k in grind (arith, nat_tests)

-- ---- with sources for all byte reads, the first k of them are those of the choices from a number on
module _ (t : Litmus) (c : ℕ) (numbers : NumbersChoices t c) (sources : List ℕ) (are : AreSources (events_in t c) sources) where
  abbrev events : List Event
  events = events_in t c

  pub begun_at : (k : ℕ) → k ≤ length sources → BeginAt t c (take k sources) (choices_before t c + digits_below events sources k)
  begun_at zero few = subst (λ (n : ℕ). BeginAt t c [] n) (let none : choices_before t c ≡ choices_before t c + 0 = omega arith in none) (begin_none t c numbers)
  begun_at (suc k) few =
      let inside : k < length sources = omega (arith, few) in
      let long : length (take k sources) ≡ k = length-take-le k sources (omega (arith, inside)) in
      let next : k + 1 ≡ suc k = omega arith in
      let w = get_or sources k 0 in
      let read = byte_read_at events k in
      let found = candidate_there events sources k are inside in
      let place = place_in (candidates_of events read) w in
      let here : slice_get (candidates_of events read) place ≡ Some w = place_at (candidates_of events read) w found.0 found.1 in
      subst (λ (n : ℕ). BeginAt t c (take n sources) (choices_before t c + digits_below events sources n)) next
      (subst (λ (n : ℕ). BeginAt t c (take (k + 1) sources) n)
      (let sum : (choices_before t c + digits_below events sources k) + place * ways_from events (k + 1) ≡ choices_before t c + digits_below events sources (k + 1) =
      omega (arith, digits_more events sources k) in sum)
      (subst (λ (given : List ℕ). BeginAt t c given ((choices_before t c + digits_below events sources k) + place * ways_from events (k + 1)))
      (sym (take_more sources k 0 inside))
      (subst (λ (n : ℕ). BeginAt t c (take k sources ++ w ∷ []) ((choices_before t c + digits_below events sources k) + place * ways_from events (n + 1))) long
      (begin_more t c numbers (take k sources) (choices_before t c + digits_below events sources k) place w (begun_at k (omega (arith, inside)))
      (omega (arith, long, inside, are.one_each))
      (subst (λ (n : ℕ). slice_get (candidates_of events (byte_read_at events n)) place ≡ Some w) (sym long) here)))))

  pub digits_within : (k : ℕ) → k ≤ length sources → choices_before t c + digits_below events sources k ≤ choices_before t (c + 1)
  digits_within k few = let begun = begun_at k few in omega (arith, begun.end)

  pub digit_within : (k : ℕ) → k < length sources → (index later : ℕ) (candidates : List ℕ) → index ≡ place_in candidates (get_or sources k 0)
      → candidates ≡ candidates_of events (byte_read_at events k) → later ≡ ways_from events (k + 1)
      → (choices_before t c + digits_below events sources k) + index * later ≤ choices_before t (c + 1)
  digit_within k inside index later candidates is_index are_candidates is_later =
      let is_digit : index * later ≡ digit events k (get_or sources k 0) =
      ap₂ (λ (i n : ℕ). i * n) (is_index ∙ ap (λ (ws : List ℕ). place_in ws (get_or sources k 0)) are_candidates) is_later in
      omega (arith, is_digit, digits_more events sources k, digits_within (k + 1) (omega (arith, inside)))

  -- all of them: those of one choice
  abbrev number : ℕ
  number = choices_before t c + digits_below events sources (length (byte_reads events))

  begun_whole : BeginAt t c sources number
  begun_whole =
      subst (λ (given : List ℕ). BeginAt t c given number) (take_all (length (byte_reads events)) sources (omega (arith, are.one_each)))
      (begun_at (length (byte_reads events)) (omega (arith, are.one_each)))

  pub whole_within : number < choices_before t (c + 1)
  whole_within = begin_within t c numbers sources number begun_whole are.one_each

  pub whole_has : IsOfCombination t number c → HasSources t number sources
  whole_has of = begin_has t c numbers sources number begun_whole are.one_each of

-- ---- digits of listed reads
pub listed_first : (it : OpenRead) (reads : List OpenRead) → IsListed (it ∷ reads) it.read
listed_first it reads = record { place = 0; it = it; is = refl; same = refl }

pub listed_rest : (it : OpenRead) (reads : List OpenRead) (r : ℕ) → IsListed reads r → IsListed (it ∷ reads) r
listed_rest it reads r listed = record { place = suc listed.place; it = listed.it; is = listed.is; same = listed.same }

pub listed_in_rest : (it : OpenRead) (reads : List OpenRead) (r : ℕ) → it.read ≢ r → IsListed (it ∷ reads) r → IsListed reads r
listed_in_rest it reads r other listed = by listed.place listed.is
  where
    by : (place : ℕ) → slice_get (it ∷ reads) place ≡ Some listed.it → IsListed reads r
    by zero at = absurd (other (ap (λ (o : OpenRead). o.read) (same_Some it listed.it at) ∙ listed.same))
    by (suc k) at = record { place = k; it = listed.it; is = at; same = listed.same }

pub distinct_rest : (it : OpenRead) (reads : List OpenRead) → AreDistinct (it ∷ reads) → AreDistinct reads
distinct_rest it reads distinct i j first second less at later = distinct (suc i) (suc j) first second (omega (arith, less)) at later

pub first_not_listed : (it : OpenRead) (reads : List OpenRead) → AreDistinct (it ∷ reads) → ¬ IsListed reads it.read
first_not_listed it reads distinct listed = distinct 0 (suc listed.place) it listed.it (omega arith) refl listed.is (sym listed.same)

pub shares_none : (events : List Event) (reads : List OpenRead) (sources : List ℕ) → shares_below events reads sources 0 ≡ 0
shares_none events [] sources = refl
shares_none events (it ∷ reads) sources = let none = shares_none events reads sources in omega (arith, none)

module _ (events : List Event) (sources : List ℕ) (k : ℕ) where
  abbrev here : ℕ
  here = digit events k (get_or sources k 0)

  pub shares_other : (reads : List OpenRead) → ¬ IsListed reads (byte_read_at events k).0
      → shares_below events reads sources (k + 1) ≡ shares_below events reads sources k
  shares_other [] absent = refl
  shares_other (it ∷ reads) absent =
      let other : it.read ≢ (byte_read_at events k).0 = λ same. absent (subst (IsListed (it ∷ reads)) same (listed_first it reads)) in
      let more = share_more events it.read sources k in
      let later = shares_other reads (λ listed. absent (listed_rest it reads (byte_read_at events k).0 listed)) in
      grind (arith, nat_tests)

  pub shares_own : (reads : List OpenRead) → AreDistinct reads → IsListed reads (byte_read_at events k).0
      → shares_below events reads sources (k + 1) ≡ shares_below events reads sources k + here
  shares_own [] distinct listed = absurd (none-some listed.it listed.is)
  shares_own (it ∷ reads) distinct listed = by (cases_eq it.read (byte_read_at events k).0) (shares_own reads (distinct_rest it reads distinct))
    where
      by : (it.read ≡ (byte_read_at events k).0) ⊎ (it.read ≢ (byte_read_at events k).0)
          → (IsListed reads (byte_read_at events k).0 → shares_below events reads sources (k + 1) ≡ shares_below events reads sources k + here)
          → shares_below events (it ∷ reads) sources (k + 1) ≡ shares_below events (it ∷ reads) sources k + here
      by (inl same) rest =
          let more = share_more events it.read sources k in
          let later = shares_other reads (subst (λ (r : ℕ). ¬ IsListed reads r) same (first_not_listed it reads distinct)) in
          grind (arith, nat_tests)
      by (inr other) rest =
          let more = share_more events it.read sources k in
          let later = rest (listed_in_rest it reads (byte_read_at events k).0 other listed) in
          grind (arith, nat_tests)

-- the digits of the first k byte reads, but for those of the listed reads, add up to the number
abbrev pub IsSumBelow : Litmus × ℕ → List OpenRead → List ℕ → ℕ → ℕ → Type 0
IsSumBelow c reads sources k number =
    (others : List ℕ) → AgreeBeside (events_on c) reads sources others
    → choices_before c.0 c.1 + digits_below (events_on c) others k ≡ number + shares_below (events_on c) reads others k

-- the share of a read goes by its own sources
pub share_agrees : (events : List Event) (r : ℕ) (sources others : List ℕ) (k : ℕ) → k ≤ length (byte_reads events)
    → ((j b : ℕ) → slice_get (byte_reads events) j ≡ Some (r, b) → get_or others j 0 ≡ get_or sources j 0)
    → share_below events r others k ≡ share_below events r sources k
share_agrees events r sources others zero few agree = refl
share_agrees events r sources others (suc k) few agree = by (cases_eq (byte_read_at events k).0 r) (share_agrees events r sources others k (omega (arith, few)) agree)
  where
    by : ((byte_read_at events k).0 ≡ r) ⊎ ((byte_read_at events k).0 ≢ r) → share_below events r others k ≡ share_below events r sources k
        → share_below events r others (suc k) ≡ share_below events r sources (suc k)
    by (inl same) before =
        let at : slice_get (byte_reads events) k ≡ Some (r, (byte_read_at events k).1) =
        subst (λ (q : ℕ). slice_get (byte_reads events) k ≡ Some (q, (byte_read_at events k).1)) same (slice_get-get_or (byte_reads events) k (0, 0) (omega (arith, few))) in
        let own = agree k (byte_read_at events k).1 at in
        let digits : digit events k (get_or others k 0) ≡ digit events k (get_or sources k 0) = ap (digit events k) own in
        grind (arith, nat_tests)
    by (inr other) before = grind (arith, nat_tests)

-- one byte read more: it is of a listed read, or its digit is added
module _ (c : Litmus × ℕ) (reads : List OpenRead) (distinct : AreDistinct reads) (sources : List ℕ) (k number : ℕ)
    (inside : k < length (byte_reads (events_on c))) (sum : IsSumBelow c reads sources k number) where
  pub sum_listed : IsListed reads (byte_read_at (events_on c) k).0 → IsSumBelow c reads sources (k + 1) number
  sum_listed listed others agree =
      let before = sum others agree in
      let digits = digits_more (events_on c) others k in
      let shares = shares_own (events_on c) others k reads distinct listed in
      omega (arith, before, digits, shares)

  pub sum_other : ¬ IsListed reads (byte_read_at (events_on c) k).0
      → IsSumBelow c reads sources (k + 1) (number + digit (events_on c) k (get_or sources k 0))
  sum_other absent others agree =
      let before = sum others agree in
      let digits = digits_more (events_on c) others k in
      let shares = shares_other (events_on c) others k reads absent in
      let read = byte_read_at (events_on c) k in
      let same : digit (events_on c) k (get_or others k 0) ≡ digit (events_on c) k (get_or sources k 0) =
      ap (digit (events_on c) k) (agree k read.0 read.1 (slice_get-get_or (byte_reads (events_on c)) k (0, 0) inside) absent) in
      omega (arith, before, digits, shares, same)
