-- Each step of a desk preserves the rule.
use Rattle.std.proofs.Common.{◌≡◌, ◌≢◌, ℕ, suc, ◌+◌, ◌-◌, ◌%◌, ◌^◌, ◌<◌, ◌≤◌, min, Option, Some, None, List, [], ◌∷◌, ◌++◌, length, set, ⊎_elim, refl, sym, ap, ◌∙◌, subst, add-one, arith}
use Rattle.std.specs.Prelude.{All, slice_index, MatchOption}
use Rattle.std.proofs.Math.Nat.{mod-eq_of_lt}
use mathlib.Core.Option.{some}
use lib.ListN.{get_elem?}
use Rattle.atomic_table.specs.Table.{State, Me, keeps, Allows, Splits, Joins, Enters}
use Rattle.atomic_table.proofs.Lists.{at_set}
use Rattle.lit_desk.specs.declared.account.Account.{Account}
use Rattle.lit_desk.specs.declared.class.Class2.{Class2}
use Rattle.lit_desk.specs.declared.class.Class2.TheVariants.{Met, Unmet}
use Rattle.lit_desk.specs.declared.rule.Terms.{Terms}
use Rattle.lit_desk.specs.declared.words.TheConstants.{NONE_TOLD, TICKET_WORD, MET_WORD, UNMET_WORD}
use Rattle.lit_desk.specs.Accounts.{new_account, numbers_in, took, told, saw}
use Rattle.lit_desk.specs.Internal.Gathered.{merged_accounts}
use Rattle.lit_desk.specs.Internal.Words.{number_in, word_of}
use Rattle.lit_desk.specs.Internal.Rule.{late_of, all_told_in, all_seen_in, AreFair, IsFair}
use Rattle.lit_desk.specs.Internal.Steps.{Takes, Tells, Sees, SeesIn}
use Rattle.lit_desk.proofs.Equivalent.{AreEquivalent, equivalent_trans, equivalent_cons, without, front_equivalent, set_equivalent, last_equivalent, other_place}
use Rattle.lit_desk.proofs.LeastTold.{own_numbers_at_least, number_cases}
use Rattle.lit_desk.proofs.Fair.{fair_equivalent, fair_bound, fair_took, fair_above, fair_told_met, fair_told_unmet, fair_saw_met, fair_saw_unmet, fair_given, fair_joined, fair_sat}

-- the rule, as the table states it
abbrev pub Holds : Terms → State (Unit {0}) Account → Type 0
Holds t s = IsFair t s.words s.views

-- a seat's account put in front, and another one put in its place
fair_front : (t : Terms) (n m u : ℕ) (views : List Account) (id : ℕ) (v : Account) → get_elem? views id ≡ some v → AreFair t n m u views → AreFair t n m u (v ∷ without views id)
fair_front t n m u views id v at h = fair_equivalent t n m u views (v ∷ without views id) (front_equivalent views id v at) h

fair_set : (t : Terms) (n m u : ℕ) (views : List Account) (id : ℕ) (v w : Account) → get_elem? views id ≡ some v → AreFair t n m u (w ∷ without views id) → AreFair t n m u (set views id w)
fair_set t n m u views id v w at h = fair_equivalent t n m u (w ∷ without views id) (set views id w) (set_equivalent views id v w at) h

pub draws : (t : Terms) (slots id : ℕ) (v : Account) → t.pieces + t.seats + 1 < 2 ^ 64 → length (late_of t.pieces v) ≡ 0 → 0 < v.places
    → Allows (Holds t) slots id (v, []) TICKET_WORD (λ n. (n + 1) % 2 ^ 64) (λ found now. Takes v found now.0 × (now.1 ≡ []))
draws t slots id v small none stands s h homes at below =
    let (n, m, u, is, fair) = h in
    let front = fair_front t n m u s.views id v at fair in
    let bound = fair_bound t n m u s.views fair in
    let found : slice_index s.words TICKET_WORD ≡ n = ap (λ ws. slice_index ws TICKET_WORD) is in
    let fits : n + 1 < 2 ^ 64 = omega arith in
    let next : (n + 1) % 2 ^ 64 ≡ suc n = mod-eq_of_lt fits ∙ add-one n in
    let words : set s.words TICKET_WORD ((slice_index s.words TICKET_WORD + 1) % 2 ^ 64) ≡ suc n ∷ m ∷ u ∷ [] = ap (λ ws. set ws TICKET_WORD ((slice_index ws TICKET_WORD + 1) % 2 ^ 64)) is ∙ ap (λ k. k ∷ m ∷ u ∷ []) next in (
      took v n,
      keeps,
      tt,
      (suc n, m, u, words, fair_set t (suc n) m u s.views id v (took v n) at (fair_took t n m u v (without s.views id) none stands front)),
      (subst (λ k. Takes v k (took v n)) (sym found) (refl, fair_above t n m u v (without s.views id) front), refl),
    )

pub tells : (t : Terms) (slots id : ℕ) (v : Account) (class : Class2) (k : ℕ) → k < NONE_TOLD → 0 < v.places
    → Allows (Holds t) slots id (v, []) (word_of class) (λ n. min n k) (λ found now. Tells (word_of class) v k now.0 × (now.1 ≡ []))
tells t slots id v Met k small stands s h homes at below =
    let (n, m, u, is, fair) = h in
    let front = fair_front t n m u s.views id v at fair in (
      told Met v k,
      keeps,
      tt,
      (n, min m k, u, ap (λ ws. set ws MET_WORD (min (slice_index ws MET_WORD) k)) is, fair_set t n (min m k) u s.views id v (told Met v k) at (fair_told_met t n m u k v (without s.views id) small stands front)),
      (refl, refl),
    )
tells t slots id v Unmet k small stands s h homes at below =
    let (n, m, u, is, fair) = h in
    let front = fair_front t n m u s.views id v at fair in (
      told Unmet v k,
      keeps,
      tt,
      (n, m, min u k, ap (λ ws. set ws UNMET_WORD (min (slice_index ws UNMET_WORD) k)) is, fair_set t n m (min u k) s.views id v (told Unmet v k) at (fair_told_unmet t n m u k v (without s.views id) small stands front)),
      (refl, refl),
    )

-- what a word tells a seat of its own numbers in a class
abbrev KnowsOwn : Class2 → Account → Option ℕ → Type 0
KnowsOwn class v o = MatchOption o (((numbers_in class v).told ≡ []) × ((numbers_in class v).seen ≡ [])) (λ n. All (λ m. n ≤ m) (numbers_in class v).told × All (λ m. n ≤ m) (numbers_in class v).seen)

sees_none : (class : Class2) (v : Account) (o : Option ℕ) → o ≡ None → KnowsOwn class v o → MatchOption o ((v ≡ v) × ((numbers_in class v).told ≡ []) × ((numbers_in class v).seen ≡ [])) (λ n. (v ≡ saw class v n) × All (λ m. n ≤ m) (numbers_in class v).told × All (λ m. n ≤ m) (numbers_in class v).seen)
sees_none class v None none own = (refl, own.0, own.1)
sees_none class v (Some n) none own = absurd (cc)

sees_some : (class : Class2) (v : Account) (w : ℕ) (o : Option ℕ) → o ≡ Some w → KnowsOwn class v o → MatchOption o ((saw class v w ≡ v) × ((numbers_in class v).told ≡ []) × ((numbers_in class v).seen ≡ [])) (λ n. (saw class v w ≡ saw class v n) × All (λ m. n ≤ m) (numbers_in class v).told × All (λ m. n ≤ m) (numbers_in class v).seen)
sees_some class v w None told own = absurd (cc)
sees_some class v w (Some n) told own = let same : w ≡ n = cc in (ap (λ k. saw class v k) same, own.0, own.1)

-- a look that finds w, where the rule holds with the same account and, if w is a number, with it seen
looks_at : (t : Terms) (words : List ℕ) (views : List Account) (id found w : ℕ) (v : Account) (class : Class2) → found ≡ w → KnowsOwn class v (number_in w)
    → IsFair t words (set views id v) → (number_in w ≡ Some w → IsFair t words (set views id (saw class v w)))
    → (x : Account) × IsFair t words (set views id x) × SeesIn class v found x
looks_at t words views id found w v class is own same seen = ⊎_elim
    (λ (c : (w ≡ NONE_TOLD) × (number_in w ≡ None)). (v, same, subst (λ k. SeesIn class v k v) (sym is) (sees_none class v (number_in w) c.1 own)))
    (λ (c : number_in w ≡ Some w). (saw class v w, seen c, subst (λ k. SeesIn class v k (saw class v w)) (sym is) (sees_some class v w (number_in w) c own)))
    (number_cases w)

pub looks : (t : Terms) (slots id : ℕ) (v : Account) (class : Class2) → 0 < v.places
    → Allows (Holds t) slots id (v, []) (word_of class) (λ n. n) (λ found now. Sees (word_of class) v found now.0 × (now.1 ≡ []))
looks t slots id v Met stands s h homes at below =
    let (n, m, u, is, fair) = h in
    let rest = without s.views id in
    let front = fair_front t n m u s.views id v at fair in
    let words : set s.words MET_WORD (slice_index s.words MET_WORD) ≡ n ∷ m ∷ u ∷ [] = ap (λ ws. set ws MET_WORD (slice_index ws MET_WORD)) is in
    let own = own_numbers_at_least m v.met.told (all_told_in Met rest) v.met.seen (all_seen_in Met rest) front.met_least in
    let (x, keeps_rule, learned) =
    looks_at t (set s.words MET_WORD (slice_index s.words MET_WORD)) s.views id (slice_index s.words MET_WORD) m v Met (ap (λ ws. slice_index ws MET_WORD) is) own (n, m, u, words, fair_set t n m u s.views id v v at front)
    (λ told. (n, m, u, words, fair_set t n m u s.views id v (saw Met v m) at (fair_saw_met t n m u v rest told stands front))) in
    (x, keeps, tt, keeps_rule, (learned, refl))
looks t slots id v Unmet stands s h homes at below =
    let (n, m, u, is, fair) = h in
    let rest = without s.views id in
    let front = fair_front t n m u s.views id v at fair in
    let words : set s.words UNMET_WORD (slice_index s.words UNMET_WORD) ≡ n ∷ m ∷ u ∷ [] = ap (λ ws. set ws UNMET_WORD (slice_index ws UNMET_WORD)) is in
    let own = own_numbers_at_least u v.unmet.told (all_told_in Unmet rest) v.unmet.seen (all_seen_in Unmet rest) front.unmet_least in
    let (x, keeps_rule, learned) =
    looks_at t (set s.words UNMET_WORD (slice_index s.words UNMET_WORD)) s.views id (slice_index s.words UNMET_WORD) u v Unmet (ap (λ ws. slice_index ws UNMET_WORD) is) own (n, m, u, words, fair_set t n m u s.views id v v at front)
    (λ told. (n, m, u, words, fair_set t n m u s.views id v (saw Unmet v u) at (fair_saw_unmet t n m u v rest told stands front))) in
    (x, keeps, tt, keeps_rule, (learned, refl))

pub gives_place : (t : Terms) (id k : ℕ) → Splits (Holds t) id (new_account (suc k)) (new_account k) (new_account 1)
gives_place t id k s h at =
    let (n, m, u, is, fair) = h in
    let R = without s.views id in
    let now = fair_given t n m u k R (fair_front t n m u s.views id (new_account (suc k)) at fair) in
    let seats = set s.views id (new_account k) in
    let there = equivalent_trans (new_account 1 ∷ new_account k ∷ R) (new_account 1 ∷ seats) (seats ++ new_account 1 ∷ []) (equivalent_cons (new_account 1) (new_account k ∷ R) seats (set_equivalent s.views id (new_account (suc k)) (new_account k) at)) (last_equivalent (new_account 1) seats) in
    (n, m, u, is, fair_equivalent t n m u (new_account 1 ∷ new_account k ∷ R) (seats ++ new_account 1 ∷ []) there now)

pub gathers : (t : Terms) (id : ℕ) (v : Account) (other : ℕ) (w : Account) → Joins (Holds t) id v other w (merged_accounts w v) (new_account 0)
gathers t id v other w s h at apart there =
    let (n, m, u, is, fair) = h in
    let both = merged_accounts w v in
    let was : get_elem? s.views other ≡ some w = ⊎_elim (λ (x : (other ≡ id) × (both ≡ w)). absurd (apart x.0)) (λ (x : (other ≢ id) × (get_elem? s.views other ≡ some w)). x.1) (at_set s.views id other both w there) in
    let (k, found, moved) = other_place s.views id other v w apart at was in
    let R = without s.views other in
    let rest = without R k in
    let before = equivalent_trans s.views (w ∷ R) (w ∷ v ∷ rest) (front_equivalent s.views other w was) (equivalent_cons w R (v ∷ rest) (front_equivalent R k v found)) in
    let seats = set s.views id both in
    let taken = set_equivalent seats other w (new_account 0) there in
    let after = equivalent_trans (new_account 0 ∷ both ∷ rest) (new_account 0 ∷ without seats other) (set seats other (new_account 0))
    (subst (λ l. AreEquivalent (new_account 0 ∷ both ∷ rest) (new_account 0 ∷ l)) (sym (moved both)) (equivalent_cons (new_account 0) (both ∷ rest) (set R k both) (set_equivalent R k v both found))) taken in
    (n, m, u, is, fair_equivalent t n m u (new_account 0 ∷ both ∷ rest) (set seats other (new_account 0)) after (fair_joined t n m u v w rest (fair_equivalent t n m u s.views (w ∷ v ∷ rest) before fair)))

pub sits : (t : Terms) (slots i : ℕ) → Enters (Holds t) slots i (λ _ w. w ≡ new_account 0)
sits t slots i s h homes below =
    let (n, m, u, is, fair) = h in
    (new_account 0, (n, m, u, is, fair_equivalent t n m u (new_account 0 ∷ s.views) (s.views ++ new_account 0 ∷ []) (last_equivalent (new_account 0) s.views) (fair_sat t n m u s.views fair)), refl)

-- the same of a seat that holds no slot
empty_handed : (me : Me (Unit {0}) Account) → me.1 ≡ [] → (me.0, []) ≡ me
empty_handed me none = λ i. (me.0, sym none i)

pub draws_as : (t : Terms) (slots id : ℕ) (me : Me (Unit {0}) Account) → me.1 ≡ [] → t.pieces + t.seats + 1 < 2 ^ 64 → length (late_of t.pieces me.0) ≡ 0 → 0 < me.0.places
    → Allows (Holds t) slots id me TICKET_WORD (λ n. (n + 1) % 2 ^ 64) (λ found now. Takes me.0 found now.0 × (now.1 ≡ me.1))
draws_as t slots id me none small early stands =
    subst (λ (x : Me (Unit {0}) Account). Allows (Holds t) slots id x TICKET_WORD (λ n. (n + 1) % 2 ^ 64) (λ found now. Takes x.0 found now.0 × (now.1 ≡ x.1))) (empty_handed me none) (draws t slots id me.0 small early stands)

pub tells_as : (t : Terms) (slots id : ℕ) (me : Me (Unit {0}) Account) (class : Class2) (word k : ℕ) → word ≡ word_of class → me.1 ≡ [] → k < NONE_TOLD → 0 < me.0.places
    → Allows (Holds t) slots id me word (λ n. min n k) (λ found now. Tells word me.0 k now.0 × (now.1 ≡ me.1))
tells_as t slots id me class word k is none small stands =
    subst (λ w. Allows (Holds t) slots id me w (λ n. min n k) (λ found now. Tells w me.0 k now.0 × (now.1 ≡ me.1))) (sym is)
    (subst (λ (x : Me (Unit {0}) Account). Allows (Holds t) slots id x (word_of class) (λ n. min n k) (λ found now. Tells (word_of class) x.0 k now.0 × (now.1 ≡ x.1))) (empty_handed me none) (tells t slots id me.0 class k small stands))

pub looks_as : (t : Terms) (slots id : ℕ) (me : Me (Unit {0}) Account) (class : Class2) (word : ℕ) → word ≡ word_of class → me.1 ≡ [] → 0 < me.0.places
    → Allows (Holds t) slots id me word (λ n. n) (λ found now. Sees word me.0 found now.0 × (now.1 ≡ me.1))
looks_as t slots id me class word is none stands =
    subst (λ w. Allows (Holds t) slots id me w (λ n. n) (λ found now. Sees w me.0 found now.0 × (now.1 ≡ me.1))) (sym is)
    (subst (λ (x : Me (Unit {0}) Account). Allows (Holds t) slots id x (word_of class) (λ n. n) (λ found now. Sees (word_of class) x.0 found now.0 × (now.1 ≡ x.1))) (empty_handed me none) (looks t slots id me.0 class stands))

pub gives_place_as : (t : Terms) (id : ℕ) (v : Account) (k : ℕ) → v ≡ new_account (suc k) → Splits (Holds t) id v (new_account (v.places - 1)) (new_account 1)
gives_place_as t id v k is = subst (λ (x : Account). Splits (Holds t) id x (new_account (x.places - 1)) (new_account 1)) (sym is) (subst (λ j. Splits (Holds t) id (new_account (suc k)) (new_account j) (new_account 1)) (sym (less_one k)) (gives_place t id k))
  where
    less_one : (j : ℕ) → suc j - 1 ≡ j
    less_one j = omega arith
