-- How many lists of sources make no difference, byte read by byte read.
use Rattle.std.proofs.Common.{◌≡◌, ℕ, zero, suc, ◌+◌, ◌*◌, ◌<◌, ◌≤◌, ◌&&◌, Bool, true, false, cond, List, [], ◌∷◌, ◌++◌, Some}
use Rattle.std.proofs.Common.{arith, refl, sym, ap, ap₂, ◌∙◌}
use Rattle.std.proofs.Common.{drop, filter, get_or, length, length-append, map}
use Rattle.std.specs.List.{flat_map}
use Rattle.std.specs.Prelude.{slice_get}
use Rattle.std.proofs.Math.Nat.{le_trans, mul-le-mul_left, mul-le-mul_right}
use Rattle.lit_paths.specs.declared.event.Event.{Event}
use Rattle.lit_paths.specs.ByteReads.{byte_read_at, byte_reads}
use Rattle.lit_paths.specs.Members.{IsCandidate, AreSources}
use Rattle.lit_paths.specs.Choice.{candidates_of, product, sources_of}
use Rattle.lit_paths.specs.Numbers.{length_product, ways_from}
use Rattle.lit_paths.proofs.Candidates.{candidates_of-found}
use Rattle.std.proofs.lemmas.List.{drop_all, drop_more}
use Rattle.lit_paths.specs.Plan.{events_in}
use Rattle.lit_syntax.specs.Syntax.{Litmus}
use Rattle.lit_why.specs.Asked.{is_asked}
use Rattle.lit_why.specs.Attempts.{agree, all_agree, give_same_values}
use Rattle.lit_why.proofs.AttemptLemmas.{agree_itself}

-- how many candidates of each byte read make no difference to the source there, all multiplied
abbrev pub same_value_ways : (ℕ → Bool) → List Event → List (ℕ × ℕ) → List ℕ → ℕ
same_value_ways asked events [] sources = 1
same_value_ways asked events (read ∷ reads) [] = 0
same_value_ways asked events (read ∷ reads) (w ∷ sources) =
    length (filter (agree (asked read.0) events read.1 w) (candidates_of events read))
    * same_value_ways asked events reads sources

filter-append : {X : Type 0} (p : X → Bool) (xs ys : List X) → filter p (xs ++ ys) ≡ filter p xs ++ filter p ys
filter-append {X = X} p [] ys = refl
filter-append {X = X} p (x ∷ xs) ys = by (p x) (filter-append p xs ys)
  where
    by : (b : Bool) → filter p (xs ++ ys) ≡ filter p xs ++ filter p ys
        → cond b (x ∷ filter p (xs ++ ys)) (filter p (xs ++ ys)) ≡ cond b (x ∷ filter p xs) (filter p xs) ++ filter p ys
    by true rest = ap (λ (zs : List X). x ∷ zs) rest
    by false rest = rest

-- those of the lists with one more first member that pass
headed : {X : Type 0} (x : X) (b : Bool) (p : List X → Bool) (lists : List (List X)) (q : List X → Bool)
    → ((ys : List X) → q (x ∷ ys) ≡ (b && p ys)) → length (filter q (map (λ ys. x ∷ ys) lists)) ≡ cond b (length (filter p lists)) 0
headed {X = X} x b p [] q same = by b
  where
    by : (b : Bool) → zero ≡ cond b zero zero
    by true = refl
    by false = refl
headed {X = X} x b p (ys ∷ lists) q same = by b (p ys) (q (x ∷ ys)) (same ys) (headed x b p lists q same)
  where
    rest : List (List X)
    rest = filter q (map (λ zs. x ∷ zs) lists)

    by : (b c d : Bool) → d ≡ (b && c) → length rest ≡ cond b (length (filter p lists)) 0
        → length (cond d ((x ∷ ys) ∷ rest) rest) ≡ cond b (length (cond c (ys ∷ filter p lists) (filter p lists))) 0
    by true true true is later = ap suc later
    by true true false is later = absurd (let e = is in cc)
    by true false true is later = absurd (let e = is in cc)
    by true false false is later = later
    by false c true is later = absurd (let e = is in cc)
    by false c false is later = later

-- of a product, those whose first member passes and whose others do
pub multiplied : (f : ℕ → Bool) (p q : List ℕ → Bool) (firsts : List ℕ) (rest : List (List ℕ))
    → ((x : ℕ) (ys : List ℕ) → q (x ∷ ys) ≡ (f x && p ys))
    → length (filter q (flat_map (λ x. map (λ ys. x ∷ ys) rest) firsts)) ≡ length (filter f firsts) * length (filter p rest)
multiplied f p q [] rest same = omega arith
multiplied f p q (x ∷ firsts) rest same =
    ap length (filter-append q (map (λ ys. x ∷ ys) rest) (flat_map (λ x. map (λ ys. x ∷ ys) rest) firsts))
    ∙ length-append (filter q (map (λ ys. x ∷ ys) rest)) (filter q (flat_map (λ x. map (λ ys. x ∷ ys) rest) firsts))
    ∙ ap₂ (λ (a b : ℕ). a + b) (headed x (f x) p rest q (same x)) (multiplied f p q firsts rest same)
    ∙ by (f x)
  where
    by : (b : Bool) → cond b (length (filter p rest)) 0 + length (filter f firsts) * length (filter p rest)
        ≡ length (cond b (x ∷ filter f firsts) (filter f firsts)) * length (filter p rest)
    by true = omega arith
    by false = omega arith

pub ways_are : (asked : ℕ → Bool) (events : List Event) (reads : List (ℕ × ℕ)) (sources : List ℕ) → length sources ≡ length reads
    → length (filter (all_agree asked events reads sources) (product (map (candidates_of events) reads))) ≡ same_value_ways asked events reads sources
ways_are asked events [] sources long = refl
ways_are asked events (read ∷ reads) [] long = absurd (omega (arith, long))
ways_are asked events (read ∷ reads) (w ∷ sources) long =
    multiplied (agree (asked read.0) events read.1 w) (all_agree asked events reads sources)
    (all_agree asked events (read ∷ reads) (w ∷ sources)) (candidates_of events read) (product (map (candidates_of events) reads))
    (λ x ys. refl)
    ∙ ap (λ (n : ℕ). length (filter (agree (asked read.0) events read.1 w)
    (candidates_of events read)) * n)
    (ways_are asked events reads sources (omega (arith, long)))

-- ---- from the last byte read on
-- a member that passes is counted
counts_itself : (f : ℕ → Bool) (w : ℕ) (xs : List ℕ) (k : ℕ) → slice_get xs k ≡ Some w → f w ≡ true → 1 ≤ length (filter f xs)
counts_itself f w [] k at is = absurd (let e = at in cc)
counts_itself f w (x ∷ xs) zero at is =
    let same : x ≡ w = (let e : Some x ≡ Some w = at in cc) in
    let passes : f x ≡ true = ap f same ∙ is in
    rw passes (let e : 1 ≤ length (x ∷ filter f xs) = omega arith in e)
counts_itself f w (x ∷ xs) (suc k) at is = by (f x) (counts_itself f w xs k at is)
  where
    by : (b : Bool) → 1 ≤ length (filter f xs) → 1 ≤ length (cond b (x ∷ filter f xs) (filter f xs))
    by true later = omega arith
    by false later = later

count_within : (f : ℕ → Bool) (xs : List ℕ) → length (filter f xs) ≤ length xs
count_within f [] = omega arith
count_within f (x ∷ xs) = by (f x) (count_within f xs)
  where
    by : (b : Bool) → length (filter f xs) ≤ length xs → length (cond b (x ∷ filter f xs) (filter f xs)) ≤ suc (length xs)
    by true later = omega (arith, later)
    by false later = omega (arith, later)

-- no more than there are in all
pub ways_within : (asked : ℕ → Bool) (events : List Event) (reads : List (ℕ × ℕ)) (sources : List ℕ) → same_value_ways asked events reads sources
    ≤ length_product (map (candidates_of events) reads)
ways_within asked events [] sources = omega arith
ways_within asked events (read ∷ reads) [] = omega arith
ways_within asked events (read ∷ reads) (w ∷ sources) =
    let f : ℕ → Bool = agree (asked read.0) events read.1 w in
    le_trans (mul-le-mul_right (same_value_ways asked events reads sources) (count_within f (candidates_of events read)))
    (mul-le-mul_left (length (candidates_of events read)) (ways_within asked events reads sources))

-- no fewer than from a place on
pub ways_later : (asked : ℕ → Bool) (events : List Event) (reads : List (ℕ × ℕ)) (sources : List ℕ) (k : ℕ) → length sources ≡ length reads
    → ((i w : ℕ) (read : ℕ × ℕ) → slice_get reads i ≡ Some read → slice_get sources i ≡ Some w → IsCandidate events read.0 read.1 w)
    → same_value_ways asked events (drop k reads) (drop k sources) ≤ same_value_ways asked events reads sources
ways_later asked events reads sources zero long each = omega arith
ways_later asked events [] [] (suc k) long each = omega arith
ways_later asked events [] (w ∷ sources) (suc k) long each = absurd (omega (arith, long))
ways_later asked events (read ∷ reads) [] (suc k) long each = absurd (omega (arith, long))
ways_later asked events (read ∷ reads) (w ∷ sources) (suc k) long each =
    let f : ℕ → Bool = agree (asked read.0) events read.1 w in
    let found = candidates_of-found events read.0 read.1 w (each 0 w read refl refl) in
    let some : 1 ≤ length (filter f (candidates_of events read)) = counts_itself f w (candidates_of events read) found.0 found.1
    (agree_itself (asked read.0) events read.1 w) in
    let later = ways_later asked events reads sources k (omega (arith, long)) (λ i v other at is. each (suc i) v other at is) in
    let more : 1 * same_value_ways asked events reads sources ≤ length (filter f (candidates_of events read)) * same_value_ways asked events reads sources =
    mul-le-mul_right (same_value_ways asked events reads sources) some in
    omega (arith, later, more)

-- ---- the byte reads of a combination, from the last one to the first
module _ (t : Litmus) (c : ℕ) (sources : List ℕ) (are : AreSources (events_in t c) sources) where
  abbrev events : List Event
  events = events_in t c

  abbrev asked : ℕ → Bool
  asked = is_asked t c

  abbrev reads : List (ℕ × ℕ)
  reads = byte_reads events

  each : (i w : ℕ) (read : ℕ × ℕ) → slice_get reads i ≡ Some read → slice_get sources i ≡ Some w → IsCandidate events read.0 read.1 w
  each i w read at is = are.each i read.0 read.1 w at is

  -- how many from a place on
  abbrev pub ways_on : ℕ → ℕ
  ways_on k = same_value_ways asked events (drop k reads) (drop k sources)

  pub ways_end : (k : ℕ) → length sources ≤ k → ways_on k ≡ 1
  ways_end k past =
      ap₂ (same_value_ways asked events) (drop_all k reads (omega (arith, past, are.one_each))) (drop_all k sources past)

  pub ways_step : (k : ℕ) → k < length sources
      → ways_on k ≡ length (filter (agree (asked (byte_read_at events k).0) events (byte_read_at events k).1 (get_or sources k 0))
      (candidates_of events (byte_read_at events k))) * ways_on (k + 1)
  ways_step k inside = ap₂ (same_value_ways asked events) (drop_more reads k (0, 0) (omega (arith, inside, are.one_each)))
      (drop_more sources k 0 inside)

  pub ways_small : (k : ℕ) → ways_on k ≤ ways_from events 0
  ways_small k = le_trans (ways_later asked events reads sources k are.one_each each) (ways_within asked events reads sources)

  pub ways_all : ways_on 0 ≡ length (filter (give_same_values t c sources) (sources_of events))
  ways_all = sym (ways_are asked events reads sources are.one_each)
