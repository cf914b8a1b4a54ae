-- Of a place's tickets and flag.
use Rattle.std.proofs.Common.{Bool, ◌≡◌, ℕ, zero, suc, ◌+◌, ◌<◌, ◌≤◌, true, false, cond, leb, ltb, Option, Some, None, List, [], ◌∷◌, ◌++◌, length, filter, ⊎_elim, refl, sym, ap, ◌∙◌, subst, append-nil, arith}
use Rattle.std.specs.Prelude.{All, Any, MatchBool, MatchOption, replicate}
use Rattle.lit_desk.specs.Desk.{PlaceLists}
use Rattle.std.proofs.lemmas.List.Elements.{All-weaker, filter-append}
use Rattle.std.proofs.lemmas.List.Quantifiers.{Any-push}
use Rattle.std.proofs.lemmas.Bool.Decides.{leb_tells}
use Rattle.atomic_table.specs.Table.{Me}
use Rattle.lit_desk.specs.declared.account.Account.{Account}
use Rattle.lit_desk.specs.declared.class.Class2.{Class2}
use Rattle.lit_desk.specs.declared.class.Class2.TheVariants.{Met, Unmet}
use Rattle.lit_desk.specs.Accounts.{numbers_in, took, told, saw}
use Rattle.lit_desk.specs.Internal.Words.{number_in, word_of}
use Rattle.lit_desk.specs.Internal.Rule.{late_of}
use Rattle.lit_desk.specs.Internal.Steps.{SeesIn}
use Rattle.lit_desk.specs.Internal.Place.{IsTaken}
use Rattle.lit_desk.proofs.Lists.{filter_none}

not_at_most : (a b : ℕ) → b < a → leb a b ≡ false
not_at_most a b l = ⊎_elim (λ (t : (leb a b ≡ true) × (a ≤ b)). absurd (omega arith)) (λ (t : (leb a b ≡ false) × (b < a)). t.0) (leb_tells a b)

-- where all tickets are pieces, none is late
pub no_late : (pieces known : ℕ) (v : Account) → known ≡ pieces → All (λ n. n < known) v.tickets → length (late_of pieces v) ≡ 0
no_late pieces known v is h = ap length (filter_none (λ n. leb pieces n) v.tickets (All-weaker (λ n. n < known) (λ n. leb pieces n ≡ false) (λ n l. not_at_most pieces n (omega arith)) v.tickets h))

-- a late ticket is no draw
pub draws_after_late : (pieces : ℕ) (old new : Account) (found : ℕ) → new ≡ took old found → pieces ≤ found → filter (λ n. ltb n pieces) new.tickets ≡ filter (λ n. ltb n pieces) old.tickets
draws_after_late pieces old new found is late =
    ap (λ (a : Account). filter (λ n. ltb n pieces) a.tickets) is
    ∙ filter-append (λ n. ltb n pieces) old.tickets (found ∷ [])
    ∙ ap (λ b. filter (λ n. ltb n pieces) old.tickets ++ cond b (found ∷ []) []) (not_at_most (suc found) pieces (omega arith))
    ∙ append-nil (filter (λ n. ltb n pieces) old.tickets)

pub late_joins : (pieces : ℕ) (old new : Account) (found : ℕ) → new ≡ took old found → pieces ≤ found → Any (λ n. pieces ≤ n) new.tickets
late_joins pieces old new found is late = subst (λ (a : Account). Any (λ n. pieces ≤ n) a.tickets) (sym is) (Any-push (λ n. pieces ≤ n) old.tickets found late)

-- a step that takes no ticket leaves a place as sound as it was
pub taken_after : (me now : Me (Unit {0}) Account) (pieces : ℕ) (is_done : Bool) → (now.0.tickets ≡ me.0.tickets) × (now.0.places ≡ me.0.places) → now.1 ≡ me.1 → IsTaken me pieces is_done → IsTaken now pieces is_done
taken_after me now pieces is_done same slots h = record {
  slots = slots ∙ h.slots;
  places = same.1 ∙ h.places;
  done = subst (λ l. MatchBool is_done (Any (λ n. pieces ≤ n) l) (All (λ n. n < pieces) l)) (sym same.0) h.done;
}

pub told_same : (class : Class2) (v w : Account) (k : ℕ) → w ≡ told class v k → (w.tickets ≡ v.tickets) × (w.places ≡ v.places)
told_same Met v w k is = (ap (λ (a : Account). a.tickets) is, ap (λ (a : Account). a.places) is)
told_same Unmet v w k is = (ap (λ (a : Account). a.tickets) is, ap (λ (a : Account). a.places) is)

saw_same : (class : Class2) (v w : Account) (k : ℕ) → w ≡ saw class v k → (w.tickets ≡ v.tickets) × (w.places ≡ v.places)
saw_same Met v w k is = (ap (λ (a : Account). a.tickets) is, ap (λ (a : Account). a.places) is)
saw_same Unmet v w k is = (ap (λ (a : Account). a.tickets) is, ap (λ (a : Account). a.places) is)

seen_same : (class : Class2) (v w : Account) (o : Option ℕ) → MatchOption o ((w ≡ v) × ((numbers_in class v).told ≡ []) × ((numbers_in class v).seen ≡ [])) (λ n. (w ≡ saw class v n) × All (λ m. n ≤ m) (numbers_in class v).told × All (λ m. n ≤ m) (numbers_in class v).seen) → (w.tickets ≡ v.tickets) × (w.places ≡ v.places)
seen_same class v w None h = (ap (λ (a : Account). a.tickets) h.0, ap (λ (a : Account). a.places) h.0)
seen_same class v w (Some n) h = saw_same class v w n h.0

pub sees_same : (class : Class2) (v w : Account) (found : ℕ) → SeesIn class v found w → (w.tickets ≡ v.tickets) × (w.places ≡ v.places)
sees_same class v w found h = seen_same class v w (number_in found) h

pub word_is_small : (class : Class2) (word : ℕ) → word ≡ word_of class → word < 3
word_is_small Met word is = omega arith
word_is_small Unmet word is = omega arith

replicate_push : (n : ℕ) (x : PlaceLists) → replicate n x ++ x ∷ [] ≡ replicate (suc n) x
replicate_push zero x = refl
replicate_push (suc n) x = ap (λ l. x ∷ l) (replicate_push n x)

-- one more of the same
pub one_more_place : (xs ys : List PlaceLists) (n m : ℕ) (p x : PlaceLists) → m ≡ n + 1 → xs ≡ replicate n x → p ≡ x → ys ≡ xs ++ p ∷ [] → ys ≡ replicate m x
one_more_place xs ys n m p x count is same pushed =
    let next : suc n ≡ m = omega arith in
    pushed ∙ ap (λ l. l ++ p ∷ []) is ∙ ap (λ q. replicate n x ++ q ∷ []) same ∙ replicate_push n x ∙ ap (λ k. replicate k x) next
