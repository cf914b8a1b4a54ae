-- What is gained by one set of choices and then by another, and the reports that come of it.
use Rattle.lit_search.proofs.Words.{◌++◌, ◌<◌, [], ap, append-nil, append_assoc, are_same, arith, Bool, cases_lt, Entry, false, false≢true}
use Rattle.lit_search.proofs.Words.{Gains, GoesOn, HasEntry, HasOutcome, HasTaken, in_either, in_range, inl, inr, IsDistinct, IsReport}
use Rattle.lit_search.proofs.Words.{IsTrue, length, List, Litmus, or_left, or_right, outcome_stays, refl, risen, slice_get, Some, subst}
use Rattle.lit_search.proofs.Words.{suc, sym, take, take-append_seam, zero, ℕ, ◌↔◌, ◌∙◌, ◌∷◌, ◌≡◌, ◌≤◌, ◌⊎◌}
use Rattle.lit_search.proofs.NumberSets.{before_end, either_cases, not_below, within}
use Rattle.lit_search.proofs.RisenEntries.{retained_from, retained_to, risen_from, risen_to, rises}

-- ---- lists that go on
in_one : (xs ys : List Entry) (i : ℕ) (e : Entry) → slice_get (xs ++ ys) i ≡ Some e → HasEntry xs e ⊎ HasEntry ys e
in_one [] ys i e is = inr (i, is)
in_one (x ∷ xs) ys zero e is = inl (0, is)
in_one (x ∷ xs) ys (suc i) e is = elim (in_one xs ys i e is) [ inl h ↦ inl (suc h.0, h.1) | inr h ↦ inr h ]

has_more : (a b : List Entry) (outcome : List ℕ) → GoesOn a b → HasOutcome a outcome → HasOutcome b outcome
has_more a b outcome on o = subst (λ (es : List Entry). HasOutcome es outcome) (sym on.is) (outcome_stays a on.added outcome o)

abbrev pub goes_more : (a b c : List Entry) → GoesOn a b → GoesOn b c → GoesOn a c
goes_more a b c g h = record {
  added = g.added ++ h.added;
  is = h.is ∙ ap (λ (es : List Entry). es ++ h.added) g.is ∙ append_assoc a g.added h.added;
}

-- a list that went on, cut back
pub cut_back : (a b : List Entry) (count : ℕ) → count ≡ length a → GoesOn a b → take count b ≡ a
cut_back a b count is on = ap (λ (n : ℕ). take n b) is ∙ ap (take (length a)) on.is ∙ take-append_seam a on.added

-- ---- what is gained
module _ (t : Litmus) where
  pub gains_none : (Numbers : ℕ → Type 0) (a : List Entry) (raced : Bool) → ((n : ℕ) → ¬ Numbers n) → Gains t Numbers a a raced raced
  gains_none Numbers a raced none = record {
    goes_on = record { added = []; is = sym (append-nil a) };
    each = λ e there. absurd (let f = there.1 in cc);
    lacked = λ e there. absurd (let f = there.1 in cc);
    whole = λ n outcome p g. absurd (none n p);
    race = (λ p. inl p, λ h. elim h [ inl p ↦ p | inr one ↦ absurd (none one.0 one.1) ]);
  }

  -- by some, and then by others behind them
  module _ (First Second Both : ℕ → Type 0) (same : (n : ℕ) → (First n ⊎ Second n) ↔ Both n) (a b c : List Entry) (raced some all : Bool)
      (behind : (m n : ℕ) → First m → Second n → m < n) (g : Gains t First a b raced some) (h : Gains t Second b c some all) where
    pub gains_more : Gains t Both a c raced all
    gains_more = record {
      goes_on = goes_more a b c g.goes_on h.goes_on;
      each = λ e there. elim (in_one g.goes_on.added h.goes_on.added there.0 e there.1) [
        | inl one ↦
            let k = g.each e one in
            record {
              among = (same e.choice).0 (inl k.among);
              gives = k.gives;
              least_choice = λ n which less gives. elim ((same n).1 which) [
                | inl p ↦ k.least_choice n p less gives
                | inr q ↦ omega (arith, behind e.choice n k.among q, less)
              ];
              least_order = k.least_order;
            }
        | inr one ↦
            let k = h.each e one in
            record {
              among = (same e.choice).0 (inr k.among);
              gives = k.gives;
              least_choice = λ n which less gives. elim ((same n).1 which) [
                | inl p ↦ h.lacked e one (g.whole n e.outcome p gives)
                | inr q ↦ k.least_choice n q less gives
              ];
              least_order = k.least_order;
            }
      ];
      lacked = λ e there. elim (in_one g.goes_on.added h.goes_on.added there.0 e there.1) [
        | inl one ↦ g.lacked e one
        | inr one ↦ (λ o. h.lacked e one (has_more a b e.outcome g.goes_on o))
      ];
      whole = λ n outcome p gives. elim ((same n).1 p) [
        | inl q ↦ has_more b c outcome h.goes_on (g.whole n outcome q gives)
        | inr q ↦ h.whole n outcome q gives
      ];
      race = (
        λ p. elim (h.race.0 p) [
          | inl q ↦ elim (g.race.0 q) [ inl m ↦ inl m | inr one ↦ inr (one.0, (same one.0).0 (inl one.1), one.2) ]
          | inr one ↦ inr (one.0, (same one.0).0 (inr one.1), one.2)
        ],
        λ some. elim some [
          | inl m ↦ h.race.1 (inl (g.race.1 (inl m)))
          | inr one ↦ elim ((same one.0).1 one.1) [
            | inl p ↦ h.race.1 (inl (g.race.1 (inr (one.0, p, one.2))))
            | inr q ↦ h.race.1 (inr (one.0, q, one.2))
          ]
        ],
      );
    }

  -- ---- reports
  recorded : (taken : ℕ → Bool) (es : List Entry) (race : Bool) → IsDistinct are_same es → IsReport t taken (record { entries = risen es; race = race })
      → Gains t (λ n. IsTrue (taken n)) [] es false race
  recorded taken es race apart h = record {
    goes_on = record { added = es; is = refl };
    each = λ e there.
        let s = risen_to es apart e there in
        let k = h.listed.each s.0 e s.1 in
        record { among = k.among; gives = k.gives; least_choice = k.least_choice; least_order = k.least_order };
    lacked = λ e there o. absurd (let f = o.is in cc);
    whole = λ n outcome p gives.
        let w = h.listed.whole n outcome p gives in
        retained_from es outcome (record { place = w.0; entry = w.1; is = w.2; same = w.3 });
    race = (λ p. inr (h.raced.0 p), λ one. h.raced.1 (elim one [ inl p ↦ absurd (false≢true p) | inr q ↦ q ]));
  }

  pub reported : (numbers : ℕ → Bool) (es : List Entry) (race : Bool) → Gains t (λ n. IsTrue (numbers n)) [] es false race
      → IsReport t numbers (record { entries = risen es; race = race })
  reported numbers es race g = record {
    listed = record {
      rising = rises es;
      each = λ i e is.
          let s = risen_from es e (i, is) in
          let k = g.each e (s.0, subst (λ (xs : List Entry). slice_get xs s.0 ≡ Some e) g.goes_on.is s.1) in
          record { among = k.among; gives = k.gives; least_choice = k.least_choice; least_order = k.least_order };
      whole = λ n outcome p gives. let k = retained_to es outcome (g.whole n outcome p gives) in (k.place, k.entry, k.is, k.same);
    };
    raced = (λ p. elim (g.race.0 p) [ inl q ↦ absurd (false≢true q) | inr one ↦ one ], λ one. g.race.1 (inr one));
  }

  -- the choices of a range besides those taken before, which have lesser numbers
  pub taken_more : (taken : ℕ → Bool) (end from to : ℕ) (before after : List Entry) (race raced : Bool) → end ≤ from → from ≤ to → IsDistinct are_same before
      → Gains t (λ n. IsTrue (in_range from to n)) before after race raced
      → HasTaken taken (record { test = t; end = end; report = record { entries = risen before; race = race } })
      → HasTaken (in_either taken (in_range from to)) (record { test = t; end = to; report = record { entries = risen after; race = raced } })
  taken_more taken end from to before after race raced follows order apart gains h = record {
    below = λ n p. elim (either_cases (taken n) (in_range from to n) p) [
      | inl q ↦ omega (arith, h.below n q, follows, order)
      | inr q ↦ before_end from to n q
    ];
    reported = reported (in_either taken (in_range from to)) after raced
        (gains_more (λ n. IsTrue (taken n)) (λ n. IsTrue (in_range from to n)) (λ n. IsTrue (in_either taken (in_range from to) n))
        (λ n. (
          λ some. elim some [ inl p ↦ or_left (taken n) (in_range from to n) p | inr q ↦ or_right (taken n) (in_range from to n) q ],
          λ p. either_cases (taken n) (in_range from to n) p,
        ))
        [] before after false race raced
        (λ m n p q. omega (arith, h.below m p, follows, not_below from to n q)) (recorded taken before race apart h.reported) gains);
  }

  -- a range up to a number, and one from there on
  pub gains_on : (from mid to : ℕ) → from ≤ mid → mid ≤ to → (a b c : List Entry) (raced some all : Bool) → Gains t (λ n. IsTrue (in_range from mid n)) a b raced some
      → Gains t (λ n. IsTrue (in_range mid to n)) b c some all → Gains t (λ n. IsTrue (in_range from to n)) a c raced all
  gains_on from mid to low high a b c raced some all g h =
      gains_more (λ n. IsTrue (in_range from mid n)) (λ n. IsTrue (in_range mid to n)) (λ n. IsTrue (in_range from to n))
      (λ n. (
        λ either. elim either [
          | inl p ↦ within from to n (not_below from mid n p) (omega (arith, before_end from mid n p, high))
          | inr q ↦ within from to n (omega (arith, not_below mid to n q, low)) (before_end mid to n q)
        ],
        λ p. elim (cases_lt n mid) [
          | inl less ↦ inl (within from mid n (not_below from to n p) less)
          | inr more ↦ inr (within mid to n more (before_end from to n p))
        ],
      ))
      a b c raced some all (λ m n p q. omega (arith, before_end from mid m p, not_below mid to n q)) g h

-- a range without a number has nothing
pub none_within : (from n : ℕ) → IsTrue (in_range from from n) → ⊥
none_within from n p = absurd (omega (arith, not_below from from n p, before_end from from n p))
