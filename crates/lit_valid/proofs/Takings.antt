-- The values of all runs of an execution, run by run: valid chosen reads say that each run is given what its reads take.
use Rattle.std.proofs.Common.{◌≡◌, ℕ, zero, suc, ◌+◌, ◌<◌, Bool, true, false, cond, List, [], ◌∷◌, ◌++◌, length, map, take, Some, refl, sym, ap, ap₂, subst, ◌∙◌, arith, length-append}
use Rattle.std.specs.Prelude.{slice_get}
use Rattle.std.specs.List.{flat_map, range_with_len}
use Rattle.std.proofs.lemmas.List.{map-append}
use Rattle.lit_paths.specs.declared.event.Event.{Event}
use Rattle.lit_paths.specs.Event.{does_read, init_event, init_events}
use Rattle.lit_paths.specs.Run.{Run, run_path}
use Rattle.lit_paths.specs.Refusal.{accesses_on}
use Rattle.lit_paths.specs.Told.{read_places}
use Rattle.lit_valid.specs.ValidExecution.{read_numbers_from}
use Rattle.lit_paths.proofs.EventLists.{length-init_events}
use Rattle.lit_valid.proofs.ObservedLemmas.{length-taken}

-- ---- the numbers of reads
read_numbers_from-append : (n : ℕ) (xs ys : List Event) → read_numbers_from n (xs ++ ys) ≡ read_numbers_from n xs ++ read_numbers_from (n + length xs) ys
read_numbers_from-append n [] ys = ap (λ (k : ℕ). read_numbers_from k ys) (let e : n ≡ n + 0 = omega arith in e)
read_numbers_from-append n (x ∷ xs) ys =
    by (does_read x.kind)
    (read_numbers_from-append (n + 1) xs ys
    ∙ ap (λ (k : ℕ). read_numbers_from (n + 1) xs ++ read_numbers_from k ys) (let e : (n + 1) + length xs ≡ n + suc (length xs) = omega arith in e))
  where
    by : (b : Bool) → read_numbers_from (n + 1) (xs ++ ys) ≡ read_numbers_from (n + 1) xs ++ read_numbers_from (n + suc (length xs)) ys
        → cond b (n ∷ read_numbers_from (n + 1) (xs ++ ys)) (read_numbers_from (n + 1) (xs ++ ys)) ≡ cond b (n ∷ read_numbers_from (n + 1) xs)
        (read_numbers_from (n + 1) xs) ++ read_numbers_from (n + suc (length xs)) ys
    by true e = ap (λ (ns : List ℕ). n ∷ ns) e
    by false e = e

no_reads : (n low count : ℕ) → read_numbers_from n (map init_event (range_with_len low count)) ≡ []
no_reads n low zero = refl
no_reads n low (suc count) = no_reads (n + 1) (low + 1) count

-- those of a block's events and then others are those of the others
pub read_numbers-accesses : (bytes : ℕ) (accesses : List Event) → read_numbers_from 0 (init_events bytes ++ accesses) ≡ read_numbers_from bytes accesses
read_numbers-accesses bytes accesses =
    read_numbers_from-append 0 (init_events bytes) accesses
    ∙ ap (λ (ns : List ℕ). ns ++ read_numbers_from (0 + length (init_events bytes)) accesses) (no_reads 0 0 bytes)
    ∙ ap (λ (k : ℕ). read_numbers_from k accesses) (let e : 0 + length (init_events bytes) ≡ bytes = omega (arith, length-init_events bytes) in e)

-- two lists that begin with as many members are the same part by part
record AreSplit (xs ys us vs : List ℕ) : Type 0 where
  pub first : xs ≡ us
  pub second : ys ≡ vs

split : (xs ys us vs : List ℕ) → length xs ≡ length us → xs ++ ys ≡ us ++ vs → AreSplit xs ys us vs
split [] ys [] vs long e = record { first = refl; second = e }
split [] ys (u ∷ us) vs long e = absurd (omega (arith, long))
split (x ∷ xs) ys [] vs long e = absurd (omega (arith, long))
split (x ∷ xs) ys (u ∷ us) vs long e =
    let heads : x ≡ u = cc in
    let tails : xs ++ ys ≡ us ++ vs = cc in
    let s = split xs ys us vs (omega (arith, long)) tails in
    record { first = ap₂ (λ k zs. k ∷ zs) heads s.first; second = s.second }

module _ (value : ℕ → ℕ) where
  -- what the reads among these events take, of which the first has number n
  abbrev pub taken : ℕ → List Event → List ℕ
  taken n es = map value (read_numbers_from n es)

  -- each run is given what its reads take, where the first event of the first run has number n
  abbrev pub AreTaken : ℕ → List Run → Type 0
  AreTaken n [] = Unit {0}
  AreTaken n (r ∷ rs) = (r.values ≡ taken n r.events) × AreTaken (n + length r.events) rs

  abbrev all_events : List Run → List Event
  all_events rs = flat_map (λ es. es) (map (λ run. run.events) rs)

  abbrev all_values : List Run → List ℕ
  all_values rs = flat_map (λ run. run.values) rs

  taken-append : (n : ℕ) (xs ys : List Event) → taken n (xs ++ ys) ≡ taken n xs ++ taken (n + length xs) ys
  taken-append n xs ys = ap (map value) (read_numbers_from-append n xs ys) ∙ map-append value (read_numbers_from n xs) (read_numbers_from (n + length xs) ys)

  -- each run has a value for each of its reads
  abbrev pub AreCounted : List Run → Type 0
  AreCounted [] = Unit {0}
  AreCounted (r ∷ rs) = (length r.values ≡ length (read_places r.events)) × AreCounted rs

  pub taken_apart : (n : ℕ) (rs : List Run) → AreCounted rs → all_values rs ≡ taken n (all_events rs) → AreTaken n rs
  taken_apart n [] counted is = tt
  taken_apart n (r ∷ rs) counted is =
      let s = split r.values (all_values rs) (taken n r.events) (taken (n + length r.events) (all_events rs))
      (counted.0 ∙ sym (length-taken value n r.events)) (is ∙ taken-append n r.events (all_events rs)) in
      (s.first, taken_apart (n + length r.events) rs counted.1 s.second)

  pub taken_together : (n : ℕ) (rs : List Run) → AreTaken n rs → all_values rs ≡ taken n (all_events rs)
  taken_together n [] are = refl
  taken_together n (r ∷ rs) are = ap₂ (λ xs ys. xs ++ ys) are.0 (taken_together (n + length r.events) rs are.1) ∙ sym (taken-append n r.events (all_events rs))

  -- the number of the first event of the run at a place
  abbrev pub number_at : ℕ → List Run → ℕ → ℕ
  number_at n rs i = n + length (accesses_on (take i (map run_path rs)))

  number_more : (n : ℕ) (r : Run) (rs : List Run) (i : ℕ) → number_at (n + length r.events) rs i ≡ number_at n (r ∷ rs) (suc i)
  number_more n r rs i = omega (arith, length-append r.events (accesses_on (take i (map run_path rs))))

  pub taken_at : (n : ℕ) (rs : List Run) → AreTaken n rs → (i : ℕ) (run : Run) → slice_get rs i ≡ Some run → run.values ≡ taken (number_at n rs i) run.events
  taken_at n [] are i run is = absurd (let e = is in cc)
  taken_at n (r ∷ rs) are zero run is =
      let same : r ≡ run = (let e : Some r ≡ Some run = is in cc) in
      subst (λ (q : Run). q.values ≡ taken (n + 0) q.events) same (are.0 ∙ ap (λ k. taken k r.events) (let e : n ≡ n + 0 = omega arith in e))
  taken_at n (r ∷ rs) are (suc i) run is = taken_at (n + length r.events) rs are.1 i run is ∙ ap (λ k. taken k run.events) (number_more n r rs i)

  pub taken_each : (n : ℕ) (rs : List Run) → ((i : ℕ) (run : Run) → slice_get rs i ≡ Some run → run.values ≡ taken (number_at n rs i) run.events)
      → AreTaken n rs
  taken_each n [] each = tt
  taken_each n (r ∷ rs) each = (
    each 0 r refl ∙ ap (λ k. taken k r.events) (let e : n + 0 ≡ n = omega arith in e),
    taken_each (n + length r.events) rs (λ i run is. each (suc i) run is ∙ ap (λ k. taken k run.events) (sym (number_more n r rs i))),
  )

  pub counted_each : (rs : List Run) → ((i : ℕ) (run : Run) → slice_get rs i ≡ Some run → length run.values ≡ length (read_places run.events)) → AreCounted rs
  counted_each [] each = tt
  counted_each (r ∷ rs) each = (each 0 r refl, counted_each rs (λ i run is. each (suc i) run is))

-- ---- runs, one for each number
pub gathered : (P : ℕ → Run → Type 0) (low count : ℕ) → ((i : ℕ) → i < count → (run : Run) × P (low + i) run)
    → (rs : List Run) × (length rs ≡ count) × ((i : ℕ) (run : Run) → slice_get rs i ≡ Some run → P (low + i) run)
gathered P low zero each = ([], refl, λ i run is. absurd (let e = is in cc))
gathered P low (suc count) each =
    let first = each 0 (omega arith) in
    let rest = gathered P (low + 1) count
    (λ i inside. let next = each (suc i)
    (omega (arith, inside)) in (next.0, subst (λ k. P k next.0) (let e : low + suc i ≡ (low + 1) + i = omega arith in e) next.1)) in
    (first.0 ∷ rest.0, ap suc rest.1, found first.0 rest.0 first.1 rest.2)
  where
    found : (r : Run) (rs : List Run) → P (low + 0) r → ((i : ℕ) (run : Run) → slice_get rs i ≡ Some run → P ((low + 1) + i) run)
        → (i : ℕ) (run : Run) → slice_get (r ∷ rs) i ≡ Some run → P (low + i) run
    found r rs here others zero run is = subst (λ (q : Run). P (low + 0) q) (let e : Some r ≡ Some run = is in let same : r ≡ run = cc in same) here
    found r rs here others (suc i) run is = subst (λ k. P k run) (let e : (low + 1) + i ≡ low + suc i = omega arith in e) (others i run is)
