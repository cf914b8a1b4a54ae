-- How a list of attempts grows: by none, by one, and by two lists in turn.
use Rattle.std.proofs.Common.{◌≡◌, ◌↔◌, ◌⊎◌, inl, inr, ℕ, zero, suc, ◌+◌, ◌-◌, ◌<◌, ◌≤◌, List, [], ◌∷◌, ◌++◌, Some, length, length-append}
use Rattle.std.proofs.Common.{refl, sym, ap, subst, ◌∙◌, arith}
use Rattle.std.specs.Prelude.{slice_get}
use Rattle.std.proofs.lemmas.Bool.{cases_lt}
use Rattle.std.proofs.lemmas.List.{append-nil, append_assoc}
use Rattle.std.proofs.lemmas.Option.{same_Some, slice_get_within}
use Rattle.lit_syntax.specs.Syntax.{Litmus}
use Rattle.lit_paths.proofs.Products.{slice_get_left, slice_get_right}
use Rattle.lit_why.specs.declared.attempt.Attempt.{Attempt}
use Rattle.lit_why.specs.Attempts.{AreBefore, AreRising, HasAttempt, HasSoMany}
use Rattle.lit_why.specs.Internal.Added.{Adds}

none_in : (i : ℕ) (a : Attempt) → slice_get [] i ≡ Some a → ⊥
none_in i a at = let e = at in cc

-- nothing is added where there is nothing, or the list is as long as it may be
pub adds_none : (t : Litmus) (most : ℕ) (holds : ℕ → Type 0) (old : List Attempt) → length old ≤ most
    → ((n : ℕ) → holds n → length old ≡ most)
    → Adds t most holds old old
adds_none t most holds old few none = record {
  added = [];
  goes_on = sym (append-nil old);
  few = few;
  each = λ i a at. absurd (none_in i a at);
  rising = λ i j a b less at_a at_b. absurd (none_in i a at_a);
  whole = λ n is. inr (none n is, λ i a at. absurd (none_in i a at));
}

only_one : (a b : Attempt) (i : ℕ) → slice_get (a ∷ []) i ≡ Some b → (i ≡ 0) × (a ≡ b)
only_one a b zero at = (refl, same_Some a b at)
only_one a b (suc i) at = absurd (none_in i b at)

pub adds_one : (t : Litmus) (most : ℕ) (holds : ℕ → Type 0) (old : List Attempt) (a : Attempt) → length old < most → holds a.choice
    → HasSoMany t a.choice a.choices → ((n : ℕ) → holds n → a.choice ≡ n) → Adds t most holds old (old ++ a ∷ [])
adds_one t most holds old a room is many only = record {
  added = a ∷ [];
  goes_on = refl;
  few = omega (arith, room, length-append old (a ∷ []));
  each = λ i b at. subst (λ (c : Attempt). holds c.choice × HasSoMany t c.choice c.choices) (only_one a b i at).1 (is, many);
  rising = λ i j b c less at_b at_c. absurd (omega (arith, less, (only_one a c j at_c).0));
  whole = λ n h. inl (record { place = 0; attempt = a; is = refl; same = only n h });
}

-- the same of what holds of the same numbers
pub adds_same : (t : Litmus) (most : ℕ) (holds other : ℕ → Type 0) (old new : List Attempt) → ((n : ℕ) → holds n ↔ other n)
    → Adds t most holds old new
    → Adds t most other old new
adds_same t most holds other old new same adds = record {
  added = adds.added;
  goes_on = adds.goes_on;
  few = adds.few;
  each = λ i a at. let h = adds.each i a at in ((same a.choice).0 h.0, h.1);
  rising = adds.rising;
  whole = λ n is. adds.whole n ((same n).1 is);
}

-- ---- one after the other
-- what stands in two lists appended is in one of them
parted : (xs ys : List Attempt) (i : ℕ) (a : Attempt) → slice_get (xs ++ ys) i ≡ Some a
    → (slice_get xs i ≡ Some a) ⊎ ((length xs ≤ i) × (slice_get ys (i - length xs) ≡ Some a))
parted xs ys i a at = elim (cases_lt i (length xs)) [
  | inl inside ↦ inl (sym (slice_get_left xs ys i inside) ∙ at)
  | inr past ↦ inr (past, sym (slice_get_right xs ys i (i - length xs) (omega (arith, past))) ∙ at)
]

has_left : (xs ys : List Attempt) (n : ℕ) → HasAttempt xs n → HasAttempt (xs ++ ys) n
has_left xs ys n h = record {
  place = h.place;
  attempt = h.attempt;
  is = slice_get_left xs ys h.place (slice_get_within xs h.place h.attempt h.is) ∙ h.is;
  same = h.same;
}

has_right : (xs ys : List Attempt) (n : ℕ) → HasAttempt ys n → HasAttempt (xs ++ ys) n
has_right xs ys n h = record {
  place = length xs + h.place;
  attempt = h.attempt;
  is = slice_get_right xs ys (length xs + h.place) h.place (omega arith) ∙ h.is;
  same = h.same;
}

module _ (t : Litmus) (most : ℕ) (first second all : ℕ → Type 0) (old mid new : List Attempt) (before : Adds t most first old mid)
    (behind : Adds t most second mid new) (rise : (m n : ℕ) → first m → second n → m < n)
    (both : (n : ℕ) → all n ↔ (first n ⊎ second n)) where
  abbrev xs : List Attempt
  xs = before.added

  abbrev ys : List Attempt
  ys = behind.added

  appended : new ≡ old ++ (xs ++ ys)
  appended = behind.goes_on ∙ ap (λ (zs : List Attempt). zs ++ ys) before.goes_on ∙ append_assoc old xs ys

  rising : AreRising (xs ++ ys)
  rising i j a b less at_a at_b = elim (parted xs ys i a at_a) [
    | inl a_left ↦ elim (parted xs ys j b at_b) [
      | inl b_left ↦ before.rising i j a b less a_left b_left
      | inr b_right ↦ rise a.choice b.choice (before.each i a a_left).0 (behind.each (j - length xs) b b_right.1).0
    ]
    | inr a_right ↦ elim (parted xs ys j b at_b) [
      | inl b_left ↦ absurd (omega (arith, less, a_right.0, slice_get_within xs j b b_left))
      | inr b_right ↦ behind.rising (i - length xs) (j - length xs) a b (omega (arith, less, a_right.0)) a_right.1 b_right.1
    ]
  ]

  -- where the list was full, nothing more came
  full : length mid ≡ most → (length new ≡ most) × (length ys ≡ 0)
  full is =
      let long : length new ≡ length mid + length ys = ap length behind.goes_on ∙ length-append mid ys in
      (omega (arith, is, long, behind.few), omega (arith, is, long, behind.few))

  whole : (n : ℕ) → first n ⊎ second n → HasAttempt (xs ++ ys) n ⊎ ((length new ≡ most) × AreBefore (xs ++ ys) n)
  whole n (inl h) = elim (before.whole n h) [
    | inl has ↦ inl (has_left xs ys n has)
    | inr past ↦ inr (
      (full past.0).0,
      λ i a at. elim (parted xs ys i a at) [
        | inl left ↦ past.1 i a left
        | inr right ↦ absurd (omega (arith, (full past.0).1, slice_get_within ys (i - length xs) a right.1))
      ],
    )
  ]
  whole n (inr h) = elim (behind.whole n h) [
    | inl has ↦ inl (has_right xs ys n has)
    | inr past ↦ inr (
      past.0,
      λ i a at. elim (parted xs ys i a at) [
        | inl left ↦ rise a.choice n (before.each i a left).0 h
        | inr right ↦ past.1 (i - length xs) a right.1
      ],
    )
  ]

  pub adds_more : Adds t most all old new
  adds_more = record {
    added = xs ++ ys;
    goes_on = appended;
    few = behind.few;
    each = λ i a at. elim (parted xs ys i a at) [
      | inl left ↦ let h = before.each i a left in ((both a.choice).1 (inl h.0), h.1)
      | inr right ↦ let h = behind.each (i - length xs) a right.1 in ((both a.choice).1 (inr h.0), h.1)
    ];
    rising = rising;
    whole = λ n is. whole n ((both n).0 is);
  }
