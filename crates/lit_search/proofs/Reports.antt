-- Reports of sets of choices: of two sets, that a set has one, and that the report of all choices has the outcome of each schedule.
use Rattle.lit_search.proofs.Words.{◌<◌, [], All, and_from, ap, ap₂, AreEntries, AreMerged, arith, Bool, cases_lt, choices_of, Entry}
use Rattle.lit_search.proofs.Words.{Equal, exact_bytes, example_cmp, execution_choice, execution_events, false≢true, Gives, GivesRace}
use Rattle.lit_search.proofs.Words.{Greater, HasExecution, HasInEither, HasLeastOrder, in_either, in_range, inl, inr, interleaved, is_gt}
use Rattle.lit_search.proofs.Words.{IsEntry, IsFalse, IsLeastMemoryOrder, IsMerge, IsReport, IsReported, IsTrue, Laws, le-leb, length}
use Rattle.lit_search.proofs.Words.{Less, List, Litmus, lt-ltb, nat_cmp_is, nat_le, nat_lt, or_left, or_right, refl, Report}
use Rattle.lit_search.proofs.Words.{slice_get_within, subst, sym, true, ℕ, ◌∙◌, ◌≡◌, ◌≤◌, ◌⊎◌}
use Rattle.lit_search.proofs.NumberSets.{either_cases, same_test}
use Rattle.lit_search.proofs.MergedEntries.{Stands, cmp, reversed, same_rising}

-- ---- what a choice gives
listed : (t : Litmus) (n : ℕ) (outcome : List ℕ) → Gives t n outcome → n < length (choices_of t)
listed t n outcome g = slice_get_within (choices_of t) n (execution_choice g.execution) g.chosen

-- its least order is one
pub one_order : (t : Litmus) (n : ℕ) (outcome first second : List ℕ) → Gives t n outcome → HasLeastOrder t n first → HasLeastOrder t n second → first ≡ second
one_order t n outcome first second g f s =
    let x = g.execution in
    let p : IsLeastMemoryOrder (execution_events t x) x.sources first = f x g.valid g.chosen in
    let q : IsLeastMemoryOrder (execution_events t x) x.sources second = s x g.valid g.chosen in
    (elim (cmp first second) as (λ o. cmp first second ≡ o → first ≡ second) [
      | Less ↦ λ e. absurd (q.least first p.is_order e)
      | Equal ↦ λ e. exact_bytes first second e
      | Greater ↦ λ e. absurd (p.least second q.is_order (reversed first second e))
    ]) refl

-- ---- reports
-- a report of a set with the same of the test's choices
AreEntries-same : (t : Litmus) (some others : ℕ → Bool) (r : List Entry) → ((n : ℕ) → n < length (choices_of t) → some n ≡ others n) → AreEntries t some r → AreEntries t others r
AreEntries-same t some others r same h = record {
  rising = h.rising;
  each = λ i e is.
      let k = h.each i e is in
      record {
        among = sym (same e.choice (listed t e.choice e.outcome k.gives)) ∙ k.among;
        gives = k.gives;
        least_choice = λ n inside lt g. k.least_choice n (same n (listed t n e.outcome g) ∙ inside) lt g;
        least_order = k.least_order;
      };
  whole = λ n outcome inside g. h.whole n outcome (same n (listed t n outcome g) ∙ inside) g;
}

-- ---- merging
-- what is not greater by its example has no greater choice
choice_of_least : (e w : Entry) → IsFalse (is_gt (example_cmp e w)) → e.choice ≤ w.choice
choice_of_least e w h = elim (cases_lt w.choice e.choice) [
  | inl lt ↦ let greater : is_gt (example_cmp e w) ≡ true = rw (← nat_cmp_is e.choice w.choice Greater lt) refl in absurd
      (false≢true (sym h ∙ greater))
  | inr le ↦ le
]

-- an entry has no greater choice than one of the set that gives its outcome
no_greater : (t : Litmus) (numbers : ℕ → Bool) (e : Entry) (n : ℕ) (outcome : List ℕ) → IsEntry t numbers e → IsTrue (numbers n) → Gives t n outcome → e.outcome ≡ outcome
    → e.choice ≤ n
no_greater t numbers e n outcome is inside g same = elim (cases_lt n e.choice) [
  | inl lt ↦ absurd (is.least_choice n inside lt (subst (λ (o : List ℕ). Gives t n o) (sym same) g))
  | inr le ↦ le
]

module _ (t : Litmus) (some others : ℕ → Bool) (a b c : List Entry) (h : AreEntries t some a) (k : AreEntries t others b) (m : AreMerged a b c) where
  -- the outcome that a number of either set gives is reported in one of the two, with no greater choice
  reported : (n : ℕ) (outcome : List ℕ) → IsTrue (some n) ⊎ IsTrue (others n) → Gives t n outcome
      → (w : Entry) × HasInEither a b w × (w.outcome ≡ outcome) × (w.choice ≤ n)
  reported n outcome (inl p) g =
      let w = h.whole n outcome p g in
      (w.1, inl (w.0, w.2), w.3, no_greater t some w.1 n outcome (h.each w.0 w.1 w.2) p g w.3)
  reported n outcome (inr q) g =
      let w = k.whole n outcome q g in
      (w.1, inr (w.0, w.2), w.3, no_greater t others w.1 n outcome (k.each w.0 w.1 w.2) q g w.3)

  of_either : (e : Entry) → HasInEither a b e → IsTrue (in_either some others e.choice) × Gives t e.choice e.outcome × HasLeastOrder t e.choice e.order
  of_either e (inl p) = let is = h.each p.0 e p.1 in (or_left (some e.choice) (others e.choice) is.among, is.gives, is.least_order)
  of_either e (inr q) = let is = k.each q.0 e q.1 in (or_right (some e.choice) (others e.choice) is.among, is.gives, is.least_order)

  AreEntries-merged : AreEntries t (in_either some others) c
  AreEntries-merged = record {
    rising = m.rising;
    each = λ i e is.
        let o = of_either e (m.of_either e (i, is)) in
        record {
          among = o.0;
          gives = o.1;
          least_choice = λ n inside lt g.
              let w = reported n e.outcome (either_cases (some n) (others n) inside) g in
              omega (arith, choice_of_least e w.0 (m.least e w.0 (i, is) w.1 w.2), w.3, lt);
          least_order = o.2;
        };
    whole = λ n outcome inside g.
        let w = reported n outcome (either_cases (some n) (others n) inside) g in
        let e = m.whole w.0 w.1 in
        (e.1.0, e.0, e.1.1, e.2 ∙ w.2);
  }

-- ---- a set has one report
one_entry : (t : Litmus) (numbers : ℕ → Bool) (e f : Entry) → IsEntry t numbers e → IsEntry t numbers f → e.outcome ≡ f.outcome → e ≡ f
one_entry t numbers e f is other same =
    let choices : e.choice ≡ f.choice = omega (
      arith,
      no_greater t numbers e f.choice f.outcome is other.among other.gives same,
      no_greater t numbers f e.choice e.outcome other is.among is.gives (sym same),
    ) in
    let orders = one_order t e.choice e.outcome e.order f.order is.gives is.least_order
    (subst (λ (n : ℕ). HasLeastOrder t n f.order) (sym choices) other.least_order) in
    ap (λ (o : List ℕ). record { outcome = o; choice = e.choice; order = e.order }) same
    ∙ ap₂ (λ (n : ℕ) (o : List ℕ). record { outcome = f.outcome; choice = n; order = o }) choices orders

into : (t : Litmus) (numbers : ℕ → Bool) (a b : List Entry) → AreEntries t numbers a → AreEntries t numbers b → (e : Entry) → Stands a e → Stands b e
into t numbers a b h k e s =
    let is = h.each s.0 e s.1 in
    let w = k.whole e.choice e.outcome is.among is.gives in
    let same : w.1 ≡ e = one_entry t numbers w.1 e (k.each w.0 w.1 w.2) is w.3 in
    let P : Entry → Type 0 = λ v. Stands b v in
    subst P same (w.0, w.2)

AreEntries-unique : (t : Litmus) (numbers : ℕ → Bool) (a b : List Entry) → AreEntries t numbers a → AreEntries t numbers b → a ≡ b
AreEntries-unique t numbers a b h k = same_rising a b h.rising k.rising (into t numbers a b h k) (into t numbers b a k h)

-- ---- entries, and whether there is a data race
pub IsReport-same : (t : Litmus) (some others : ℕ → Bool) (r : Report) → ((n : ℕ) → n < length (choices_of t) → some n ≡ others n) → IsReport t some r → IsReport t others r
IsReport-same t some others r same h = record {
  listed = AreEntries-same t some others r.entries same h.listed;
  raced = (
    (λ race. let one = h.raced.0 race in (one.0, sym (same one.0 (race_listed one.0 one.2)) ∙ one.1, one.2)),
    (λ one. h.raced.1 (one.0, same one.0 (race_listed one.0 one.2) ∙ one.1, one.2)),
  );
}
  where
    race_listed : (n : ℕ) → GivesRace t n → n < length (choices_of t)
    race_listed n g = slice_get_within (choices_of t) n (execution_choice g.execution) g.chosen

pub IsReport-merged : (t : Litmus) (some others : ℕ → Bool) (a b c : Report) → IsReport t some a → IsReport t others b → IsMerge a b c → IsReport t (in_either some others) c
IsReport-merged t some others a b c h k m = record {
  listed = AreEntries-merged t some others a.entries b.entries c.entries h.listed k.listed m.entries;
  raced = (
    λ p. elim (either_cases a.race b.race (sym m.race ∙ p)) [
      | inl q ↦ (let one = h.raced.0 q in (one.0, or_left (some one.0) (others one.0) one.1, one.2))
      | inr q ↦ (let one = k.raced.0 q in (one.0, or_right (some one.0) (others one.0) one.1, one.2))
    ],
    λ one. m.race ∙ elim (either_cases (some one.0) (others one.0) one.1) [
      | inl p ↦ or_left a.race b.race (h.raced.1 (one.0, p, one.2))
      | inr q ↦ or_right a.race b.race (k.raced.1 (one.0, q, one.2))
    ],
  );
}

pub IsReport-unique : (t : Litmus) (numbers : ℕ → Bool) (a b : Report) → IsReport t numbers a → IsReport t numbers b → a ≡ b
IsReport-unique t numbers a b h k =
    let entries : a.entries ≡ b.entries = AreEntries-unique t numbers a.entries b.entries h.listed k.listed in
    let race : a.race ≡ b.race = same_test a.race b.race (λ p. k.raced.1 (h.raced.0 p)) (λ q. h.raced.1 (k.raced.0 q)) in
    ap (λ (xs : List Entry). record { entries = xs; race = a.race }) entries ∙ ap (λ (raced : Bool). record { entries = b.entries; race = raced }) race

-- ---- the outcome of each schedule in the report of all choices
pub is_reported : Laws → (t : Litmus) (schedule : List ℕ) (report : Report) → HasExecution t schedule → IsReport t (in_range 0 (length (choices_of t))) report → IsReported t schedule report
is_reported laws t schedule report has reports =
    let x = has.0 in
    let is = has.2 in
    let listed = (laws.chosen t).all (execution_choice x) (laws.choice t x is.valid.candidate) in
    let n = listed.0 in
    let total = length (choices_of t) in
    let inside : n < total = slice_get_within (choices_of t) n (execution_choice x) listed.1 in
    reports.listed.whole n (interleaved t schedule) (and_from (nat_le 0 n) (nat_lt n total) (le-leb 0 n (omega arith)) (lt-ltb n total inside))
    (record { execution = x; valid = is.valid; chosen = listed.1; result = is.result })

pub some_entry : (t : Litmus) (report : Report) → (All (λ agent. agent < length t.agents) [] → IsReported t [] report) → 1 ≤ length report.entries
some_entry t report reported =
    let is = reported (λ k d lt. absurd (omega (arith, lt))) in
    omega (arith, slice_get_within report.entries is.0 is.1 is.2)
