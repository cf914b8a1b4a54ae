-- Lists: members, distinct members, and sums.
use Rattle.std.proofs.Common.{◌≡◌, ◌≢◌, ℕ, zero, suc, ◌<◌, ◌≤◌, ◌⊎◌, Bool, true, false, true≢false, cond, eqb, List, [], ◌∷◌, get_or, filter, sum_by, inl, inr, ⊎_elim, refl, sym, ap, ◌∙◌, subst, arith}
use Rattle.std.specs.Prelude.{All, AllPairs, Contains}
use Rattle.std.specs.List.{AllByRecursion, IsDistinct}
use Rattle.std.proofs.lemmas.List.Elements.{All-nil, All-cons, All-head, All-tail, All-filter, Contains-append_right, All-from_recursion, recursion_from_All, All-weaker}
use Rattle.std.proofs.lemmas.List.Sums.{sum_by-cons}
use Rattle.std.proofs.lemmas.Map.Keys.{IsDistinct-head, IsDistinct-tail, IsDistinct-cons, apart_from_distinct}
use Rattle.std.proofs.lemmas.Bool.Decides.{eqb_tells}
use Rattle.std.proofs.lemmas.Bool.{cases_lt}
use Rattle.lit_desk.specs.Internal.Rule.{numbers_below}

module _ {X : Type 0} where
  pub contains_here : (x : X) (xs : List X) → Contains (x ∷ xs) x
  contains_here x xs = (0, omega arith, refl)

  pub contains_later : (y : X) (xs : List X) (x : X) → Contains xs x → Contains (y ∷ xs) x
  contains_later y xs x h = Contains-append_right (y ∷ []) xs x h

  pub contains_cases : (y : X) (xs : List X) (x : X) → Contains (y ∷ xs) x → (y ≡ x) ⊎ Contains xs x
  contains_cases y xs x (zero, h, e) = inl e
  contains_cases y xs x (suc k, h, e) = inr (k, omega arith, e)

  pub contains_none : (x : X) → Contains [] x → ⊥
  contains_none x (k, h, e) = omega arith

  retained_beside : (b : Bool) (x n : X) (xs : List X) → Contains xs n → Contains (cond b (x ∷ xs) xs) n
  retained_beside true x n xs h = contains_later x xs n h
  retained_beside false x n xs h = h

  pub filter_retains : (p : X → Bool) (xs : List X) (n : X) → Contains xs n → p n ≡ true → Contains (filter p xs) n
  filter_retains p [] n h passes = absurd (contains_none n h)
  filter_retains p (x ∷ xs) n h passes = ⊎_elim
      (λ (e : x ≡ n). subst (λ b. Contains (cond b (x ∷ filter p xs) (filter p xs)) n) (sym (ap p e ∙ passes)) (subst (λ y. Contains (x ∷ filter p xs) y) e (contains_here x (filter p xs))))
      (λ (t : Contains xs n). retained_beside (p x) x n (filter p xs) (filter_retains p xs n t passes))
      (contains_cases x xs n h)

  retained_from : (p : X → Bool) (b : Bool) (x n : X) (xs : List X) → p x ≡ b → (Contains (filter p xs) n → Contains xs n × (p n ≡ true)) → Contains (cond b (x ∷ filter p xs) (filter p xs)) n → Contains (x ∷ xs) n × (p n ≡ true)
  retained_from p true x n xs is later h = ⊎_elim
      (λ (e : x ≡ n). (subst (λ y. Contains (x ∷ xs) y) e (contains_here x xs), subst (λ y. p y ≡ true) e is))
      (λ (t : Contains (filter p xs) n). let (there, passes) = later t in (contains_later x xs n there, passes))
      (contains_cases x (filter p xs) n h)
  retained_from p false x n xs is later h = let (there, passes) = later h in (contains_later x xs n there, passes)

  pub filter_retained : (p : X → Bool) (xs : List X) (n : X) → Contains (filter p xs) n → Contains xs n × (p n ≡ true)
  filter_retained p [] n h = absurd (contains_none n h)
  filter_retained p (x ∷ xs) n h = retained_from p (p x) x n xs refl (λ t. filter_retained p xs n t) h

  pub filter_none : (p : X → Bool) (xs : List X) → All (λ x. p x ≡ false) xs → filter p xs ≡ []
  filter_none p [] h = refl
  filter_none p (x ∷ xs) h = ap (λ b. cond b (x ∷ filter p xs) (filter p xs)) (All-head (λ y. p y ≡ false) x xs h) ∙ filter_none p xs (All-tail (λ y. p y ≡ false) x xs h)

  pub distinct_cons_if : (e : X → X → Bool) (b : Bool) (x : X) (xs : List X) → AllByRecursion (λ y. e x y ≡ false) xs → IsDistinct e xs → IsDistinct e (cond b (x ∷ xs) xs)
  distinct_cons_if e true x xs apart h = IsDistinct-cons e x xs apart h
  distinct_cons_if e false x xs apart h = h

  pub distinct_filter : (e : X → X → Bool) (p : X → Bool) (xs : List X) → IsDistinct e xs → IsDistinct e (filter p xs)
  distinct_filter e p [] h = h
  distinct_filter e p (x ∷ xs) h =
      distinct_cons_if e (p x) x (filter p xs)
      (recursion_from_All (λ y. e x y ≡ false) (filter p xs) (All-filter p (λ y. e x y ≡ false) xs (All-from_recursion (λ y. e x y ≡ false) xs (IsDistinct-head e x xs h))))
      (distinct_filter e p xs (IsDistinct-tail e x xs h))

  pub sum_at_most : (f g : X → ℕ) (xs : List X) → All (λ x. f x ≤ g x) xs → sum_by f xs ≤ sum_by g xs
  sum_at_most f g [] h = omega arith
  sum_at_most f g (x ∷ xs) h = let here = All-head (λ y. f y ≤ g y) x xs h in let rest = sum_at_most f g xs (All-tail (λ y. f y ≤ g y) x xs h) in omega (arith, sum_by-cons f x xs, sum_by-cons g x xs)

  pub first_changed : (P : X → Type 0) (v w : X) (xs : List X) → P w → All P (v ∷ xs) → All P (w ∷ xs)
  first_changed P v w xs h all = All-cons P w xs h (All-tail P v xs all)

pub distinct_apart : (xs : List ℕ) → IsDistinct eqb xs → AllPairs (λ m n. m ≢ n) xs
distinct_apart xs h = λ i j d lt in' same. let apart = apart_from_distinct eqb xs i j d h lt in' in
    ⊎_elim (λ (t : (eqb (get_or xs i d) (get_or xs j d) ≡ true) × (get_or xs i d ≡ get_or xs j d)). absurd (true≢false (sym t.0 ∙ apart))) (λ (t : (eqb (get_or xs i d) (get_or xs j d) ≡ false) × (get_or xs i d ≢ get_or xs j d)). absurd (t.1 same)) (eqb_tells (get_or xs i d) (get_or xs j d))

pub below_all : (n : ℕ) → All (λ m. m < n) (numbers_below n)
below_all zero = All-nil (λ m. m < zero)
below_all (suc n) = All-cons (λ m. m < suc n) n (numbers_below n) (omega arith) (All-weaker (λ m. m < n) (λ m. m < suc n) (λ m h. omega arith) (numbers_below n) (below_all n))

pub below_contains : (n m : ℕ) → m < n → Contains (numbers_below n) m
below_contains zero m h = absurd (omega arith)
below_contains (suc n) m h = ⊎_elim (λ (l : m < n). contains_later n (numbers_below n) m (below_contains n m l)) (λ (l : n ≤ m). let same : n ≡ m = omega arith in subst (λ k. Contains (n ∷ numbers_below n) k) same (contains_here n (numbers_below n))) (cases_lt m n)

pub below_distinct : (n : ℕ) → IsDistinct eqb (numbers_below n)
unfolding IsDistinct
below_distinct zero = tt
below_distinct (suc n) =
    IsDistinct-cons eqb n (numbers_below n)
    (recursion_from_All (λ m. eqb n m ≡ false) (numbers_below n) (All-weaker (λ m. m < n) (λ m. eqb n m ≡ false) (λ m h. not_same n m (omega arith)) (numbers_below n) (below_all n)))
    (below_distinct n)
  where
    not_same : (a b : ℕ) → a ≢ b → eqb a b ≡ false
    not_same a b ne = ⊎_elim (λ (t : (eqb a b ≡ true) × (a ≡ b)). absurd (ne t.1)) (λ (t : (eqb a b ≡ false) × (a ≢ b)). t.0) (eqb_tells a b)
