-- The rule of a desk holds of the accounts in any order, and each step of the seat at the front preserves it.
use Rattle.std.proofs.Common.{◌≡◌, ℕ, suc, ◌+◌, ◌<◌, ◌≤◌, Bool, true, false, cond, leb, min, Some, List, [], ◌∷◌, ◌++◌, length, filter, ⊎_elim, refl, sym, ap, ◌∙◌, subst, append_assoc, length-append, arith}
use Rattle.std.specs.Prelude.{All}
use Rattle.std.specs.List.Sorted.{IsPermutation}
use Rattle.std.proofs.lemmas.List.Sorted.{IsPermutation-sym, IsPermutation-cons, IsPermutation-trans, All-permutation, sum_by-IsPermutation}
use Rattle.std.proofs.lemmas.List.Elements.{All-cons, All-head, All-tail, filter-append}
use Rattle.std.proofs.lemmas.List.Sums.{sum_by-cons}
use Rattle.std.proofs.lemmas.Bool.Decides.{leb_tells}
use Rattle.lit_desk.specs.declared.account.Account.{Account}
use Rattle.lit_desk.specs.declared.class.Class2.TheVariants.{Met, Unmet}
use Rattle.lit_desk.specs.declared.rule.Terms.{Terms}
use Rattle.lit_desk.specs.declared.words.TheConstants.{NONE_TOLD}
use Rattle.lit_desk.specs.Accounts.{new_account, took, told, saw}
use Rattle.lit_desk.specs.Internal.Gathered.{merged_accounts}
use Rattle.lit_desk.specs.Internal.Words.{number_in}
use Rattle.lit_desk.specs.Internal.Rule.{numbers_below, all_tickets, late_of, all_told_in, all_seen_in, IsLeastTold, AreFair}
use Rattle.lit_desk.proofs.Equivalent.{AreEquivalent}
use Rattle.lit_desk.proofs.Lists.{sum_at_most, first_changed, below_all}
use Rattle.lit_desk.proofs.LeastTold.{All-front, more_moved, least_told_permuted, least_told_after_tell, least_told_after_look}

pub fair_equivalent : (t : Terms) (n m u : ℕ) (xs ys : List Account) → AreEquivalent xs ys → AreFair t n m u xs → AreFair t n m u ys
fair_equivalent t n m u xs ys a h = record {
  tickets = IsPermutation-trans (all_tickets ys) (all_tickets xs) (numbers_below n) (IsPermutation-sym (all_tickets xs) (all_tickets ys) (a.joined (λ v. v.tickets))) h.tickets;
  late = All-permutation (λ v. length (late_of t.pieces v) ≤ v.places) xs ys a.moved h.late;
  places = sum_by-IsPermutation (λ v. v.places) xs ys a.moved ∙ h.places;
  reached = omega (arith, h.reached, sum_by-IsPermutation (λ v. length (late_of t.pieces v)) xs ys a.moved);
  met_least = least_told_permuted m (all_told_in Met xs) (all_told_in Met ys) (all_seen_in Met xs) (all_seen_in Met ys) (a.joined (λ v. v.met.told)) (a.joined (λ v. v.met.seen)) h.met_least;
  unmet_least = least_told_permuted u (all_told_in Unmet xs) (all_told_in Unmet ys) (all_seen_in Unmet xs) (all_seen_in Unmet ys) (a.joined (λ v. v.unmet.told)) (a.joined (λ v. v.unmet.seen)) h.unmet_least;
  spent = All-permutation (λ v. v.places ≡ 0 → v ≡ new_account 0) xs ys a.moved h.spent;
}

-- the first word is no higher than the pieces and the seats together
pub fair_bound : (t : Terms) (n m u : ℕ) (views : List Account) → AreFair t n m u views → n ≤ t.pieces + t.seats
fair_bound t n m u views h = let late = sum_at_most (λ v. length (late_of t.pieces v)) (λ v. v.places) views h.late in omega (arith, h.reached, h.places)

late_by : (b : Bool) (n : ℕ) → length (cond b (n ∷ []) []) ≡ cond b 1 0
late_by true n = refl
late_by false n = refl

pub late_took : (pieces : ℕ) (v : Account) (n : ℕ) → length (late_of pieces (took v n)) ≡ length (late_of pieces v) + cond (leb pieces n) 1 0
late_took pieces v n = ap length (filter-append (λ k. leb pieces k) v.tickets (n ∷ [])) ∙ length-append (late_of pieces v) (filter (λ k. leb pieces k) (n ∷ [])) ∙ ap (λ k. length (late_of pieces v) + k) (late_by (leb pieces n) n)

-- a seat that stands for a place and has no late ticket takes the next one
pub fair_took : (t : Terms) (n m u : ℕ) (v : Account) (vs : List Account) → length (late_of t.pieces v) ≡ 0 → 0 < v.places → AreFair t n m u (v ∷ vs) → AreFair t (suc n) m u (took v n ∷ vs)
fair_took t n m u v vs none some h =
    let LateOf : Account → ℕ = λ x. length (late_of t.pieces x) in
    let Late : Account → Type 0 = λ x. length (late_of t.pieces x) ≤ x.places in
    let one = late_took t.pieces v n in record {
      tickets =
          IsPermutation-trans ((v.tickets ++ n ∷ []) ++ all_tickets vs) (n ∷ (v.tickets ++ all_tickets vs)) (n ∷ numbers_below n)
          (IsPermutation-sym (n ∷ (v.tickets ++ all_tickets vs)) ((v.tickets ++ n ∷ []) ++ all_tickets vs) (more_moved v.tickets (all_tickets vs) n))
          (IsPermutation-cons n (v.tickets ++ all_tickets vs) (numbers_below n) h.tickets);
      late = first_changed Late v (took v n) vs (at_most (leb t.pieces n) (length (late_of t.pieces (took v n))) one) h.late;
      places = h.places;
      reached =
          ⊎_elim
          (λ (c : (leb t.pieces n ≡ true) × (t.pieces ≤ n)). let now : length (late_of t.pieces (took v n)) ≡ length (late_of t.pieces v) + 1 = one ∙ ap (λ b. length (late_of t.pieces v) + cond b 1 0) c.0 in omega (arith, h.reached, sum_by-cons LateOf v vs, sum_by-cons LateOf (took v n) vs))
          (λ (c : (leb t.pieces n ≡ false) × (n < t.pieces)). omega arith)
          (leb_tells t.pieces n);
      met_least = h.met_least;
      unmet_least = h.unmet_least;
      spent = first_changed (λ x. x.places ≡ 0 → x ≡ new_account 0) v (took v n) vs (λ e. absurd (omega arith)) h.spent;
    }
  where
    at_most : (b : Bool) (k : ℕ) → k ≡ length (late_of t.pieces v) + cond b 1 0 → k ≤ v.places
    at_most true k e = omega arith
    at_most false k e = omega arith

-- its own tickets are below the next
pub fair_above : (t : Terms) (n m u : ℕ) (v : Account) (vs : List Account) → AreFair t n m u (v ∷ vs) → All (λ k. k < n) v.tickets
fair_above t n m u v vs h = All-front (λ k. k < n) v.tickets (all_tickets vs) (All-permutation (λ k. k < n) (numbers_below n) (all_tickets (v ∷ vs)) (IsPermutation-sym (all_tickets (v ∷ vs)) (numbers_below n) h.tickets) (below_all n))

-- a seat that stands for a place changes its numbers, and a word goes with them
changed : (t : Terms) (n m u m' u' : ℕ) (v w : Account) (vs : List Account) → w.tickets ≡ v.tickets → w.places ≡ v.places → 0 < v.places
    → IsLeastTold m' (all_told_in Met (w ∷ vs)) (all_seen_in Met (w ∷ vs)) → IsLeastTold u' (all_told_in Unmet (w ∷ vs)) (all_seen_in Unmet (w ∷ vs))
    → AreFair t n m u (v ∷ vs) → AreFair t n m' u' (w ∷ vs)
changed t n m u m' u' v w vs tickets places some met unmet h =
    let LateOf : Account → ℕ = λ x. length (late_of t.pieces x) in
    let same : length (late_of t.pieces w) ≡ length (late_of t.pieces v) = ap (λ l. length (filter (λ k. leb t.pieces k) l)) tickets in
    let here = All-head (λ x. length (late_of t.pieces x) ≤ x.places) v vs h.late in record {
      tickets = subst (λ l. IsPermutation (l ++ all_tickets vs) (numbers_below n)) (sym tickets) h.tickets;
      late = first_changed (λ x. length (late_of t.pieces x) ≤ x.places) v w vs (omega arith) h.late;
      places = omega (arith, h.places, sum_by-cons (λ (x : Account). x.places) v vs, sum_by-cons (λ (x : Account). x.places) w vs);
      reached = omega (arith, h.reached, sum_by-cons LateOf v vs, sum_by-cons LateOf w vs);
      met_least = met;
      unmet_least = unmet;
      spent = first_changed (λ x. x.places ≡ 0 → x ≡ new_account 0) v w vs (λ e. absurd (omega arith)) h.spent;
    }

pub fair_told_met : (t : Terms) (n m u k : ℕ) (v : Account) (vs : List Account) → k < NONE_TOLD → 0 < v.places → AreFair t n m u (v ∷ vs) → AreFair t n (min m k) u (told Met v k ∷ vs)
fair_told_met t n m u k v vs small some h = changed t n m u (min m k) u v (told Met v k) vs refl refl some (least_told_after_tell m k v.met.told (all_told_in Met vs) (all_seen_in Met (v ∷ vs)) small h.met_least) h.unmet_least h

pub fair_told_unmet : (t : Terms) (n m u k : ℕ) (v : Account) (vs : List Account) → k < NONE_TOLD → 0 < v.places → AreFair t n m u (v ∷ vs) → AreFair t n m (min u k) (told Unmet v k ∷ vs)
fair_told_unmet t n m u k v vs small some h = changed t n m u m (min u k) v (told Unmet v k) vs refl refl some h.met_least (least_told_after_tell u k v.unmet.told (all_told_in Unmet vs) (all_seen_in Unmet (v ∷ vs)) small h.unmet_least) h

pub fair_saw_met : (t : Terms) (n m u : ℕ) (v : Account) (vs : List Account) → number_in m ≡ Some m → 0 < v.places → AreFair t n m u (v ∷ vs) → AreFair t n m u (saw Met v m ∷ vs)
fair_saw_met t n m u v vs told some h = changed t n m u m u v (saw Met v m) vs refl refl some (least_told_after_look m (all_told_in Met (v ∷ vs)) v.met.seen (all_seen_in Met vs) told h.met_least) h.unmet_least h

pub fair_saw_unmet : (t : Terms) (n m u : ℕ) (v : Account) (vs : List Account) → number_in u ≡ Some u → 0 < v.places → AreFair t n m u (v ∷ vs) → AreFair t n m u (saw Unmet v u ∷ vs)
fair_saw_unmet t n m u v vs told some h = changed t n m u m u v (saw Unmet v u) vs refl refl some h.met_least (least_told_after_look u (all_told_in Unmet (v ∷ vs)) v.unmet.seen (all_seen_in Unmet vs) told h.unmet_least) h

-- a seat where nothing was done gives one of its places to another
pub fair_given : (t : Terms) (n m u k : ℕ) (vs : List Account) → AreFair t n m u (new_account (suc k) ∷ vs) → AreFair t n m u (new_account 1 ∷ new_account k ∷ vs)
fair_given t n m u k vs h =
    let Late : Account → Type 0 = λ x. length (late_of t.pieces x) ≤ x.places in
    let Spent : Account → Type 0 = λ x. x.places ≡ 0 → x ≡ new_account 0 in
    let Places : Account → ℕ = λ x. x.places in record {
      tickets = h.tickets;
      late = All-cons Late (new_account 1) (new_account k ∷ vs) (omega arith) (first_changed Late (new_account (suc k)) (new_account k) vs (omega arith) h.late);
      places = omega (arith, h.places, sum_by-cons Places (new_account 1) (new_account k ∷ vs), sum_by-cons Places (new_account k) vs, sum_by-cons Places (new_account (suc k)) vs);
      reached = h.reached;
      met_least = h.met_least;
      unmet_least = h.unmet_least;
      spent = All-cons Spent (new_account 1) (new_account k ∷ vs) (λ e. absurd (omega arith)) (first_changed Spent (new_account (suc k)) (new_account k) vs (λ e. ap new_account e) h.spent);
    }

-- the numbers of a class, where the lists of two seats become those of one
least_told_merged : (w : ℕ) (rs bs ts cs ds ss : List ℕ) → IsLeastTold w (rs ++ (bs ++ ts)) (cs ++ (ds ++ ss)) → IsLeastTold w ((rs ++ bs) ++ ts) ((cs ++ ds) ++ ss)
least_told_merged w rs bs ts cs ds ss h = subst (λ l. IsLeastTold w l ((cs ++ ds) ++ ss)) (sym (append_assoc rs bs ts)) (subst (λ l. IsLeastTold w (rs ++ (bs ++ ts)) l) (sym (append_assoc cs ds ss)) h)

-- a seat takes in another, which is spent
pub fair_joined : (t : Terms) (n m u : ℕ) (v w : Account) (vs : List Account) → AreFair t n m u (w ∷ v ∷ vs) → AreFair t n m u (new_account 0 ∷ merged_accounts w v ∷ vs)
fair_joined t n m u v w vs h =
    let LateOf : Account → ℕ = λ x. length (late_of t.pieces x) in
    let Late : Account → Type 0 = λ x. length (late_of t.pieces x) ≤ x.places in
    let Spent : Account → Type 0 = λ x. x.places ≡ 0 → x ≡ new_account 0 in
    let Places : Account → ℕ = λ x. x.places in
    let late_w = All-head Late w (v ∷ vs) h.late in
    let late_vs = All-tail Late w (v ∷ vs) h.late in
    let late_v = All-head Late v vs late_vs in
    let spent_vs = All-tail Spent w (v ∷ vs) h.spent in
    let both : length (late_of t.pieces (merged_accounts w v)) ≡ length (late_of t.pieces w) + length (late_of t.pieces v) = ap length (filter-append (λ k. leb t.pieces k) w.tickets v.tickets) ∙ length-append (late_of t.pieces w) (late_of t.pieces v) in record {
      tickets = subst (λ l. IsPermutation l (numbers_below n)) (sym (append_assoc w.tickets v.tickets (all_tickets vs))) h.tickets;
      late = All-cons Late (new_account 0) (merged_accounts w v ∷ vs) (omega arith) (first_changed Late v (merged_accounts w v) vs (omega arith) late_vs);
      places = omega (arith, h.places, sum_by-cons Places w (v ∷ vs), sum_by-cons Places v vs, sum_by-cons Places (new_account 0) (merged_accounts w v ∷ vs), sum_by-cons Places (merged_accounts w v) vs);
      reached = omega (arith, h.reached, sum_by-cons LateOf w (v ∷ vs), sum_by-cons LateOf v vs, sum_by-cons LateOf (new_account 0) (merged_accounts w v ∷ vs), sum_by-cons LateOf (merged_accounts w v) vs);
      met_least = least_told_merged m w.met.told v.met.told (all_told_in Met vs) w.met.seen v.met.seen (all_seen_in Met vs) h.met_least;
      unmet_least = least_told_merged u w.unmet.told v.unmet.told (all_told_in Unmet vs) w.unmet.seen v.unmet.seen (all_seen_in Unmet vs) h.unmet_least;
      spent =
          All-cons Spent (new_account 0) (merged_accounts w v ∷ vs) (λ _. refl)
          (first_changed Spent v (merged_accounts w v) vs
          (λ e.
          let w_none : w.places ≡ 0 = omega arith in
          let v_none : v.places ≡ 0 = omega arith in
          ap (λ (x : Account). merged_accounts x v) (All-head Spent w (v ∷ vs) h.spent w_none) ∙ ap (λ (x : Account). merged_accounts (new_account 0) x) (All-head Spent v vs spent_vs v_none))
          spent_vs);
    }

-- a seat that stands for no place joins
pub fair_sat : (t : Terms) (n m u : ℕ) (vs : List Account) → AreFair t n m u vs → AreFair t n m u (new_account 0 ∷ vs)
fair_sat t n m u vs h =
    let LateOf : Account → ℕ = λ x. length (late_of t.pieces x) in
    let Late : Account → Type 0 = λ x. length (late_of t.pieces x) ≤ x.places in
    let Spent : Account → Type 0 = λ x. x.places ≡ 0 → x ≡ new_account 0 in
    let Places : Account → ℕ = λ x. x.places in record {
      tickets = h.tickets;
      late = All-cons Late (new_account 0) vs (omega arith) h.late;
      places = omega (arith, h.places, sum_by-cons Places (new_account 0) vs);
      reached = omega (arith, h.reached, sum_by-cons LateOf (new_account 0) vs);
      met_least = h.met_least;
      unmet_least = h.unmet_least;
      spent = All-cons Spent (new_account 0) vs (λ _. refl) h.spent;
    }
