-- What a closed desk says of all its places.
use Rattle.std.proofs.Common.{◌≡◌, ◌≢◌, ℕ, suc, ◌<◌, ◌≤◌, true, false, eqb, ltb, leb, min, List, [], ◌∷◌, ◌++◌, filter, sum_by, ⊎_elim, refl, sym, ap, ◌∙◌, subst, append-nil, arith}
use Rattle.std.specs.Prelude.{All, AllPairs, Any, Contains, ◌↔◌}
use Rattle.std.specs.List.{flat_map}
use Rattle.std.specs.List.Sorted.{IsPermutation}
use Rattle.std.proofs.lemmas.List.Sorted.{IsPermutation-sym, Contains-permutation}
use Rattle.std.proofs.lemmas.List.Elements.{All-nil, All-cons, All-head, All-tail, All-weaker, All-contains, Contains-append_left, Contains-append_right, filter-append}
use Rattle.std.proofs.lemmas.List.Sums.{sum_by-cons}
use Rattle.std.proofs.lemmas.Map.Keys.{IsDistinct-IsPermutation}
use Rattle.std.proofs.lemmas.Bool.Decides.{leb_tells, eqb_tells}
use mathlib.Core.Option.{some, some-injective}
use lib.ListN.{get_elem?}
use Rattle.atomic_table.specs.Table.{Seen, Final}
use Rattle.lit_desk.specs.declared.account.Account.{Account}
use Rattle.lit_desk.specs.declared.class.Class2.{Class2}
use Rattle.lit_desk.specs.declared.class.Class2.TheVariants.{Met, Unmet}
use Rattle.lit_desk.specs.declared.rule.Terms.{Terms}
use Rattle.lit_desk.specs.declared.words.TheConstants.{TICKET_WORD, MET_WORD, UNMET_WORD}
use Rattle.lit_desk.specs.Accounts.{new_account, numbers_in}
use Rattle.lit_desk.specs.Desk.{DeskName, PlaceLists, IsPlaceOf, IsDone, IsLeastOf, draws_of, all_draws, all_told, all_seen}
use Rattle.lit_desk.specs.Internal.Gathered.{gathered_account}
use Rattle.lit_desk.specs.Internal.Words.{number_in}
use Rattle.lit_desk.specs.Internal.Rule.{numbers_below, all_told_in, IsLeastTold, AreFair}
use Rattle.lit_desk.proofs.Equivalent.{without, front_equivalent}
use Rattle.lit_desk.proofs.Lists.{contains_cases, contains_none, filter_retains, filter_retained, distinct_filter, distinct_apart, below_all, below_contains, below_distinct}
use Rattle.lit_desk.proofs.Fair.{fair_equivalent}
use Rattle.lit_desk.proofs.Moves.{Holds}

-- a seat that stands for no place has done nothing
none_left : (vs : List Account) → sum_by (λ (v : Account). v.places) vs ≡ 0 → All (λ v. v.places ≡ 0 → v ≡ new_account 0) vs → All (λ v. v ≡ new_account 0) vs
none_left [] e h = All-nil (λ v. v ≡ new_account 0)
none_left (v ∷ vs) e h =
    let sums = sum_by-cons (λ (x : Account). x.places) v vs in
    let here : v.places ≡ 0 = omega arith in
    All-cons (λ x. x ≡ new_account 0) v vs (All-head (λ x. x.places ≡ 0 → x ≡ new_account 0) v vs h here) (none_left vs (omega arith) (All-tail (λ x. x.places ≡ 0 → x ≡ new_account 0) v vs h))

nothing_in : (f : Account → List ℕ) → f (new_account 0) ≡ [] → (vs : List Account) → All (λ v. v ≡ new_account 0) vs → flat_map f vs ≡ []
nothing_in f none [] h = refl
nothing_in f none (v ∷ vs) h = ap (λ l. l ++ flat_map f vs) (ap f (All-head (λ x. x ≡ new_account 0) v vs h) ∙ none) ∙ nothing_in f none vs (All-tail (λ x. x ≡ new_account 0) v vs h)

-- what the rule says of a seat that stands for all places
pub record IsWhole (n m u : ℕ) (v : Account) : Type 0 where
  pub tickets : IsPermutation v.tickets (numbers_below n)
  pub met_least : IsLeastTold m v.met.told v.met.seen
  pub unmet_least : IsLeastTold u v.unmet.told v.unmet.seen

alone : (f : Account → List ℕ) → f (new_account 0) ≡ [] → (v : Account) (vs : List Account) → All (λ x. x ≡ new_account 0) vs → flat_map f (v ∷ vs) ≡ f v
alone f none v vs h = ap (λ l. f v ++ l) (nothing_in f none vs h) ∙ append-nil (f v)

whole : (t : Terms) (n m u : ℕ) (v : Account) (vs : List Account) → v.places ≡ t.seats → AreFair t n m u (v ∷ vs) → IsWhole n m u v
whole t n m u v vs all h =
    let sums = sum_by-cons (λ (x : Account). x.places) v vs in
    let places = h.places in
    let none = none_left vs (omega arith) (All-tail (λ x. x.places ≡ 0 → x ≡ new_account 0) v vs h.spent) in record {
      tickets = subst (λ l. IsPermutation l (numbers_below n)) (alone (λ x. x.tickets) refl v vs none) h.tickets;
      met_least = subst (λ l. IsLeastTold m l v.met.seen) (alone (λ x. x.met.told) refl v vs none) (subst (λ l. IsLeastTold m (all_told_in Met (v ∷ vs)) l) (alone (λ x. x.met.seen) refl v vs none) h.met_least);
      unmet_least = subst (λ l. IsLeastTold u l v.unmet.seen) (alone (λ x. x.unmet.told) refl v vs none) (subst (λ l. IsLeastTold u (all_told_in Unmet (v ∷ vs)) l) (alone (λ x. x.unmet.seen) refl v vs none) h.unmet_least);
    }

gathered_told : (class : Class2) (ps : List PlaceLists) → (numbers_in class (gathered_account ps)).told ≡ all_told class ps
gathered_told Met [] = refl
gathered_told Met (p ∷ ps) = ap (λ l. p.account.met.told ++ l) (gathered_told Met ps)
gathered_told Unmet [] = refl
gathered_told Unmet (p ∷ ps) = ap (λ l. p.account.unmet.told ++ l) (gathered_told Unmet ps)

gathered_seen : (class : Class2) (ps : List PlaceLists) → (numbers_in class (gathered_account ps)).seen ≡ all_seen class ps
gathered_seen Met [] = refl
gathered_seen Met (p ∷ ps) = ap (λ l. p.account.met.seen ++ l) (gathered_seen Met ps)
gathered_seen Unmet [] = refl
gathered_seen Unmet (p ∷ ps) = ap (λ l. p.account.unmet.seen ++ l) (gathered_seen Unmet ps)

-- the draws of the places of one desk
draws_gathered : (d : DeskName) (ps : List PlaceLists) → All (IsPlaceOf d) ps → all_draws ps ≡ filter (λ n. ltb n d.pieces) (gathered_account ps).tickets
draws_gathered d [] h = refl
draws_gathered d (p ∷ ps) h =
    ap (λ l. draws_of p ++ l) (draws_gathered d ps (All-tail (IsPlaceOf d) p ps h))
    ∙ ap (λ (e : DeskName). filter (λ n. ltb n e.pieces) p.account.tickets ++ filter (λ n. ltb n d.pieces) (gathered_account ps).tickets) (All-head (IsPlaceOf d) p ps h)
    ∙ sym (filter-append (λ n. ltb n d.pieces) p.account.tickets (gathered_account ps).tickets)

-- a ticket of a place is one of all places
ticket_gathered : (ps : List PlaceLists) (p : PlaceLists) (n : ℕ) → Contains ps p → Contains p.account.tickets n → Contains (gathered_account ps).tickets n
ticket_gathered [] p n there h = absurd (contains_none p there)
ticket_gathered (q ∷ ps) p n there h = ⊎_elim
    (λ (e : q ≡ p). Contains-append_left q.account.tickets (gathered_account ps).tickets n (subst (λ (x : PlaceLists). Contains x.account.tickets n) (sym e) h))
    (λ (t : Contains ps p). Contains-append_right q.account.tickets (gathered_account ps).tickets n (ticket_gathered ps p n t h))
    (contains_cases q ps p there)

same_flipped : (x y : ℕ) → eqb x y ≡ eqb y x
same_flipped x y = ⊎_elim
    (λ (t : (eqb x y ≡ true) × (x ≡ y)). ⊎_elim (λ (r : (eqb y x ≡ true) × (y ≡ x)). t.0 ∙ sym r.0) (λ (r : (eqb y x ≡ false) × (y ≢ x)). absurd (r.1 (sym t.1))) (eqb_tells y x))
    (λ (t : (eqb x y ≡ false) × (x ≢ y)). ⊎_elim (λ (r : (eqb y x ≡ true) × (y ≡ x)). absurd (t.1 (sym r.1))) (λ (r : (eqb y x ≡ false) × (y ≢ x)). t.0 ∙ sym r.0) (eqb_tells y x))
    (eqb_tells x y)

ticket_below : (ts : List ℕ) (n x : ℕ) → IsPermutation ts (numbers_below n) → Contains ts x → x < n
ticket_below ts n x h there = All-contains (λ k. k < n) (numbers_below n) x (below_all n) (Contains-permutation ts (numbers_below n) x h there)

below_drawn : (ts : List ℕ) (n pieces x : ℕ) → IsPermutation ts (numbers_below n) → Contains (filter (λ k. ltb k pieces) ts) x → x < min n pieces
below_drawn ts n pieces x h there =
    let (ticket, small) = filter_retained (λ k. ltb k pieces) ts x there in
    let below = ticket_below ts n x h ticket in
    ⊎_elim (λ (t : (leb (suc x) pieces ≡ true) × (suc x ≤ pieces)). omega arith) (λ (t : (leb (suc x) pieces ≡ false) × (pieces < suc x)). absurd (cc (small, t.0))) (leb_tells (suc x) pieces)

drawn_below : (ts : List ℕ) (n pieces x : ℕ) → IsPermutation ts (numbers_below n) → x < min n pieces → Contains (filter (λ k. ltb k pieces) ts) x
drawn_below ts n pieces x h less =
    let ticket = Contains-permutation (numbers_below n) ts x (IsPermutation-sym ts (numbers_below n) h) (below_contains n x (omega arith)) in
    filter_retains (λ k. ltb k pieces) ts x ticket (⊎_elim (λ (t : (leb (suc x) pieces ≡ true) × (suc x ≤ pieces)). t.0) (λ (t : (leb (suc x) pieces ≡ false) × (pieces < suc x)). absurd (omega arith)) (leb_tells (suc x) pieces))

-- what `close` says, where the words are these
pub record Closes (desk : DeskName) (places : List PlaceLists) (n m u : ℕ) : Type 0 where
  pub once : AllPairs (λ i j. i ≢ j) (all_draws places)
  pub drawn : (x : ℕ) → Contains (all_draws places) x ↔ (x < min n desk.pieces)
  pub done : Any IsDone places → min n desk.pieces ≡ desk.pieces
  pub met : IsLeastOf (all_told Met places) (number_in m)
  pub unmet : IsLeastOf (all_told Unmet places) (number_in u)
  pub seen : (class : Class2) → All (Contains (all_told class places)) (all_seen class places)

seen_were_told : (w : ℕ) (ts ss us rs : List ℕ) → ts ≡ us → ss ≡ rs → IsLeastTold w ts ss → All (Contains us) rs
seen_were_told w ts ss us rs e f h = subst (λ l. All (Contains l) rs) e (subst (λ l. All (Contains ts) l) f (All-weaker (λ k. Contains ts k × (w ≤ k)) (Contains ts) (λ k x. x.0) ss h.all_seen))

whole_closes : (d : DeskName) (ps : List PlaceLists) (n m u : ℕ) → All (IsPlaceOf d) ps → IsWhole n m u (gathered_account ps) → Closes d ps n m u
whole_closes d ps n m u own h =
    let ts = (gathered_account ps).tickets in
    let draws = draws_gathered d ps own in record {
      once =
          subst (λ l. AllPairs (λ i j. i ≢ j) l) (sym draws)
          (distinct_apart (filter (λ k. ltb k d.pieces) ts) (distinct_filter eqb (λ k. ltb k d.pieces) ts (IsDistinct-IsPermutation eqb same_flipped (numbers_below n) ts (IsPermutation-sym ts (numbers_below n) h.tickets) (below_distinct n))));
      drawn = λ x. ((λ there. below_drawn ts n d.pieces x h.tickets (subst (λ l. Contains l x) draws there)), (λ less. subst (λ l. Contains l x) (sym draws) (drawn_below ts n d.pieces x h.tickets less)));
      done = λ any.
          let (k, p, within, at, late) = any in
          let (j, x, inside, here, past) = late in
          let own_pieces = ap (λ (e : DeskName). e.pieces) (All-contains (IsPlaceOf d) ps p own (k, within, at)) in
          let below = ticket_below ts n x h.tickets (ticket_gathered ps p x (k, within, at) (j, inside, here)) in
          omega arith;
      met = subst (λ l. IsLeastOf l (number_in m)) (gathered_told Met ps) h.met_least.least;
      unmet = subst (λ l. IsLeastOf l (number_in u)) (gathered_told Unmet ps) h.unmet_least.least;
      seen = λ class. seen_in class ps n m u h;
    }
  where
    seen_in : (class : Class2) (qs : List PlaceLists) (n m u : ℕ) → IsWhole n m u (gathered_account qs) → All (Contains (all_told class qs)) (all_seen class qs)
    seen_in Met qs n m u w = seen_were_told m (gathered_account qs).met.told (gathered_account qs).met.seen (all_told Met qs) (all_seen Met qs) (gathered_told Met qs) (gathered_seen Met qs) w.met_least
    seen_in Unmet qs n m u w = seen_were_told u (gathered_account qs).unmet.told (gathered_account qs).unmet.seen (all_told Unmet qs) (all_seen Unmet qs) (gathered_told Unmet qs) (gathered_seen Unmet qs) w.unmet_least

-- from the last state of the table, which has the words and the account of all places
pub closes : (t : Terms) (d : DeskName) (ps : List PlaceLists) (words : List ℕ) (homes : List (Unit {0})) (id : ℕ) (v : Account) (n m u : ℕ)
    → Final (Seen (Holds t) id v) words homes → get_elem? words TICKET_WORD ≡ some n → get_elem? words MET_WORD ≡ some m → get_elem? words UNMET_WORD ≡ some u
    → v ≡ gathered_account ps → v.places ≡ t.seats → All (IsPlaceOf d) ps → Closes d ps n m u
closes t d ps words homes id v n m u last at_ticket at_met at_unmet is all own =
    let (s, seen, same, rest, values) = last in
    let ((n', m', u', words_are, fair), at) = seen in
    let these : words ≡ n' ∷ m' ∷ u' ∷ [] = sym same ∙ words_are in
    let n_is : n' ≡ n = some-injective n' n (sym (ap (λ ws. get_elem? ws TICKET_WORD) these) ∙ at_ticket) in
    let m_is : m' ≡ m = some-injective m' m (sym (ap (λ ws. get_elem? ws MET_WORD) these) ∙ at_met) in
    let u_is : u' ≡ u = some-injective u' u (sym (ap (λ ws. get_elem? ws UNMET_WORD) these) ∙ at_unmet) in
    let front = fair_equivalent t n' m' u' s.views (v ∷ without s.views id) (front_equivalent s.views id v at) fair in
    let whole_of = subst (λ (a : Account). IsWhole n' m' u' a) is (whole t n' m' u' v (without s.views id) all front) in
    subst (λ k. Closes d ps k m u) n_is (subst (λ k. Closes d ps n' k u) m_is (subst (λ k. Closes d ps n' m' k) u_is (whole_closes d ps n' m' u' own whole_of)))
