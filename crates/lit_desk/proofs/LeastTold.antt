-- The least number told in a class: its word, and the numbers told and seen.
use Rattle.std.proofs.Common.{◌≡◌, ◌≢◌, ℕ, ◌<◌, ◌≤◌, ◌⊎◌, true, false, cond, eqb, min, Option, Some, None, List, [], ◌∷◌, ◌++◌, length, refl, sym, ap, ◌∙◌, subst, ⊎_elim, inl, inr, append_assoc, arith}
use Rattle.std.specs.Prelude.{All, Contains, MatchOption}
use Rattle.std.specs.List.Sorted.{IsPermutation}
use Rattle.std.proofs.lemmas.List.Sorted.{IsPermutation-refl, IsPermutation-sym, IsPermutation-middle, length_permutation, All-permutation, Contains-permutation}
use Rattle.std.proofs.lemmas.List.{nil_from_length}
use Rattle.std.proofs.lemmas.List.Elements.{All-nil, All-cons, All-head, All-tail, All-weaker, Contains-append_right}
use Rattle.std.proofs.lemmas.Bool.Decides.{eqb_tells}
use Rattle.std.proofs.lemmas.Bool.{cases_lt}
use Rattle.lit_desk.specs.declared.words.TheConstants.{NONE_TOLD}
use Rattle.lit_desk.specs.Desk.{IsLeastOf}
use Rattle.lit_desk.specs.Internal.Words.{number_in}
use Rattle.lit_desk.specs.Internal.Rule.{IsLeastTold}

module _ {X : Type 0} where
  pub empty_front : (xs ys : List X) → xs ++ ys ≡ [] → xs ≡ []
  empty_front [] ys e = refl
  empty_front (x ∷ xs) ys e = absurd (cc)

  pub All-front : (P : X → Type 0) (xs ys : List X) → All P (xs ++ ys) → All P xs
  All-front P [] ys h = All-nil P
  All-front P (x ∷ xs) ys h = All-cons P x xs (All-head P x (xs ++ ys) h) (All-front P xs ys (All-tail P x (xs ++ ys) h))

  -- one more behind the first of two parts
  pub more_moved : (xs ys : List X) (x : X) → IsPermutation (x ∷ (xs ++ ys)) ((xs ++ x ∷ []) ++ ys)
  more_moved xs ys x = subst (λ l. IsPermutation (x ∷ (xs ++ ys)) l) (sym (append_assoc xs (x ∷ []) ys)) (IsPermutation-sym (xs ++ x ∷ ys) (x ∷ (xs ++ ys)) (IsPermutation-middle xs x ys))

  pub none_contained : (xs : List X) (x : X) → xs ≡ [] → Contains xs x → ⊥
  none_contained xs x e h = let none = subst (λ (l : List X). Contains l x) e h in absurd (omega (arith, none.1))

pub number_some : (w : ℕ) → w < NONE_TOLD → number_in w ≡ Some w
number_some w h = ⊎_elim (λ (t : (eqb w NONE_TOLD ≡ true) × (w ≡ NONE_TOLD)). absurd (omega arith)) (λ (t : (eqb w NONE_TOLD ≡ false) × (w ≢ NONE_TOLD)). ap (λ b. cond b None (Some w)) t.0) (eqb_tells w NONE_TOLD)

-- a word says that none was told, or is a number
pub number_cases : (w : ℕ) → ((w ≡ NONE_TOLD) × (number_in w ≡ None)) ⊎ (number_in w ≡ Some w)
number_cases w = ⊎_elim (λ (t : (eqb w NONE_TOLD ≡ true) × (w ≡ NONE_TOLD)). inl (t.1, ap (λ b. cond b None (Some w)) t.0)) (λ (t : (eqb w NONE_TOLD ≡ false) × (w ≢ NONE_TOLD)). inr (ap (λ b. cond b None (Some w)) t.0)) (eqb_tells w NONE_TOLD)

least_moved : (ts us : List ℕ) (o : Option ℕ) → IsPermutation ts us → IsLeastOf ts o → IsLeastOf us o
least_moved ts us None p h = nil_from_length us (length_permutation ts us p ∙ ap length h)
least_moved ts us (Some n) p h = (Contains-permutation ts us n p h.0, All-permutation (λ m. n ≤ m) ts us p h.1)

pub least_told_permuted : (w : ℕ) (ts us ss rs : List ℕ) → IsPermutation ts us → IsPermutation ss rs → IsLeastTold w ts ss → IsLeastTold w us rs
least_told_permuted w ts us ss rs p q h = record {
  least = least_moved ts us (number_in w) p h.least;
  all_seen = All-weaker (λ n. Contains ts n × (w ≤ n)) (λ n. Contains us n × (w ≤ n)) (λ n x. (Contains-permutation ts us n p x.0, x.1)) rs (All-permutation (λ n. Contains ts n × (w ≤ n)) ss rs q h.all_seen);
}

-- no number told is below the word
floor : (w : ℕ) (ts : List ℕ) (o : Option ℕ) → ((o ≡ None) ⊎ (o ≡ Some w)) → IsLeastOf ts o → All (λ n. w ≤ n) ts
floor w ts None c h = subst (λ l. All (λ n. w ≤ n) l) (sym h) (All-nil (λ n. w ≤ n))
floor w ts (Some n) c h = ⊎_elim (λ (e : Some n ≡ None). absurd (cc)) (λ (e : Some n ≡ Some w). let same : n ≡ w = cc in subst (λ m. All (λ k. m ≤ k) ts) same h.1) c

pub word_is_least : (w : ℕ) (ts : List ℕ) → IsLeastOf ts (number_in w) → All (λ n. w ≤ n) ts
word_is_least w ts h = floor w ts (number_in w) (⊎_elim (λ (t : (w ≡ NONE_TOLD) × (number_in w ≡ None)). inl t.1) (λ (t : number_in w ≡ Some w). inr t) (number_cases w)) h

one_more_least : (w k : ℕ) (ts : List ℕ) → k < NONE_TOLD → IsLeastOf ts (number_in w) → ((w ≤ k) ⊎ (k < w)) → Contains (k ∷ ts) (min w k)
one_more_least w k ts small h (inl le) =
    let least = subst (λ (o : Option ℕ). IsLeastOf ts o) (number_some w (omega arith)) h in
    let same : w ≡ min w k = omega arith in
    subst (λ n. Contains (k ∷ ts) n) same (Contains-append_right (k ∷ []) ts w least.0)
one_more_least w k ts small h (inr lt) =
    let same : k ≡ min w k = omega arith in
    subst (λ n. Contains (k ∷ ts) n) same (0, omega arith, refl)

least_told_more : (w k : ℕ) (ts ss : List ℕ) → k < NONE_TOLD → IsLeastTold w ts ss → IsLeastTold (min w k) (k ∷ ts) ss
least_told_more w k ts ss small h = record {
  least =
      let low : min w k ≤ w = omega arith in
      let at_most : min w k ≤ k = omega arith in
      subst (λ (o : Option ℕ). IsLeastOf (k ∷ ts) o) (sym (number_some (min w k) (omega arith)))
      (one_more_least w k ts small h.least (cases w k), All-cons (λ n. min w k ≤ n) k ts at_most (All-weaker (λ n. w ≤ n) (λ n. min w k ≤ n) (λ n le. omega arith) ts (word_is_least w ts h.least)));
  all_seen = All-weaker (λ n. Contains ts n × (w ≤ n)) (λ n. Contains (k ∷ ts) n × (min w k ≤ n)) (λ n x. let le = x.1 in (Contains-append_right (k ∷ []) ts n x.0, omega arith)) ss h.all_seen;
}
  where
    cases : (a b : ℕ) → (a ≤ b) ⊎ (b < a)
    cases a b = ⊎_elim (λ (l : b < a). inr l) (λ (l : a ≤ b). inl l) (cases_lt b a)

-- a number was told behind the first of two parts
pub least_told_after_tell : (w k : ℕ) (ts us ss : List ℕ) → k < NONE_TOLD → IsLeastTold w (ts ++ us) ss → IsLeastTold (min w k) ((ts ++ k ∷ []) ++ us) ss
least_told_after_tell w k ts us ss small h = least_told_permuted (min w k) (k ∷ (ts ++ us)) ((ts ++ k ∷ []) ++ us) ss ss (more_moved ts us k) (IsPermutation-refl ss) (least_told_more w k (ts ++ us) ss small h)

-- the word was seen behind the first of two parts
pub least_told_after_look : (w : ℕ) (ts ss rs : List ℕ) → number_in w ≡ Some w → IsLeastTold w ts (ss ++ rs) → IsLeastTold w ts ((ss ++ w ∷ []) ++ rs)
least_told_after_look w ts ss rs some h = least_told_permuted w ts ts (w ∷ (ss ++ rs)) ((ss ++ w ∷ []) ++ rs) (IsPermutation-refl ts) (more_moved ss rs w) (record {
  least = h.least;
  all_seen = All-cons (λ n. Contains ts n × (w ≤ n)) w (ss ++ rs) ((subst (λ (o : Option ℕ). IsLeastOf ts o) some h.least).0, omega arith) h.all_seen;
})

-- what a seat with the first parts learns from the word
pub own_numbers_at_least : (w : ℕ) (ts us ss rs : List ℕ) → IsLeastTold w (ts ++ us) (ss ++ rs) → MatchOption (number_in w) ((ts ≡ []) × (ss ≡ [])) (λ n. All (λ m. n ≤ m) ts × All (λ m. n ≤ m) ss)
own_numbers_at_least w ts us ss rs h = ⊎_elim
    (λ (t : (w ≡ NONE_TOLD) × (number_in w ≡ None)).
    let none = subst (λ (o : Option ℕ). IsLeastOf (ts ++ us) o) t.1 h.least in
    subst (λ (o : Option ℕ). MatchOption o ((ts ≡ []) × (ss ≡ [])) (λ n. All (λ m. n ≤ m) ts × All (λ m. n ≤ m) ss)) (sym t.1) (empty_front ts us none, unseen ss none (All-front (λ n. Contains (ts ++ us) n × (w ≤ n)) ss rs h.all_seen)))
    (λ (t : number_in w ≡ Some w).
    subst (λ (o : Option ℕ). MatchOption o ((ts ≡ []) × (ss ≡ [])) (λ n. All (λ m. n ≤ m) ts × All (λ m. n ≤ m) ss)) (sym t)
    (All-front (λ m. w ≤ m) ts us (word_is_least w (ts ++ us) h.least), All-weaker (λ n. Contains (ts ++ us) n × (w ≤ n)) (λ n. w ≤ n) (λ n x. x.1) ss (All-front (λ n. Contains (ts ++ us) n × (w ≤ n)) ss rs h.all_seen)))
    (number_cases w)
  where
    unseen : (xs : List ℕ) → ts ++ us ≡ [] → All (λ n. Contains (ts ++ us) n × (w ≤ n)) xs → xs ≡ []
    unseen [] e a = refl
    unseen (x ∷ xs) e a = absurd (none_contained (ts ++ us) x e (All-head (λ n. Contains (ts ++ us) n × (w ≤ n)) x xs a).0)
