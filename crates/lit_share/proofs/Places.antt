-- What a step of a place at the desk preserves, and what a place tells and retains.
use Rattle.std.proofs.Common.{◌≡◌, ◌≤◌, ◌⊎◌, inl, inr, ℕ, List, [], ◌∷◌, ◌++◌, Option, Some, None, refl, sym, ap, subst, ◌∙◌}
use Rattle.std.specs.Prelude.{All, Contains, IfSome, IfNone}
use Rattle.std.proofs.Math.Seq.{drop-append_seam}
use Rattle.std.proofs.lemmas.List.{append-nil}
use Rattle.std.proofs.lemmas.List.Elements.{All-nil, All-cons, All-append, Contains-append_left, Contains-push}
use Rattle.lit_desk.specs.declared.class.Class2.{Class2}
use Rattle.lit_desk.specs.declared.class.Class2.TheVariants.{Met, Unmet}
use Rattle.lit_desk.specs.Desk.{DeskName, PlaceLists, IsPlaceOf, IsDone, new_place, told_by, seen_by, with_ticket, with_told, with_seen}
use Rattle.lit_syntax.specs.Syntax.{Litmus}
use Rattle.lit_valid.specs.declared.class.Class.{Class}
use Rattle.lit_valid.specs.declared.class.Class.TheVariants as of_test
use Rattle.lit_valid.specs.Class.{GivesClass}
use Rattle.lit_share.specs.Drawn.{since, drawn_since}
use Rattle.lit_share.specs.Hunted.{desk_class, IsHunted, HasTold}
use Rattle.lit_share.specs.Internal.Workers.{IsHuntedOut}
use Rattle.lit_share.proofs.Rising.{since_more, grown_more}

-- ---- a ticket leaves what was told and seen
pub told_ticket : (class : Class2) (p : PlaceLists) (n : ℕ) → told_by class (with_ticket p n) ≡ told_by class p
told_ticket Met p n = refl
told_ticket Unmet p n = refl

pub seen_ticket : (class : Class2) (p : PlaceLists) (n : ℕ) → seen_by class (with_ticket p n) ≡ seen_by class p
seen_ticket Met p n = refl
seen_ticket Unmet p n = refl

module _ (t : Litmus) (class : Class) where
  abbrev told : PlaceLists → List ℕ
  told p = told_by (desk_class class) p

  abbrev seen : PlaceLists → List ℕ
  seen p = seen_by (desk_class class) p

  -- what was told and seen since is this
  told_with : (p q : PlaceLists) (xs ys : List ℕ) → told q ≡ told p ++ xs → seen q ≡ seen p ++ ys → All (GivesClass t class) xs → HasTold t class p q
  told_with p q xs ys e f all =
      let told_more = ap (since (told p)) e ∙ drop-append_seam (told p) xs in
      let seen_more = ap (since (seen p)) f ∙ drop-append_seam (seen p) ys in
      record {
        told = e ∙ ap (λ (l : List ℕ). told p ++ l) (sym told_more);
        seen = f ∙ ap (λ (l : List ℕ). seen p ++ l) (sym seen_more);
        valid = subst (All (GivesClass t class)) (sym told_more) all;
      }

  pub told_none : (p : PlaceLists) → HasTold t class p p
  told_none p = told_with p p [] [] (sym (append-nil (told p))) (sym (append-nil (seen p))) (All-nil (GivesClass t class))

  -- a place with the same lists
  pub told_as : (p q r : PlaceLists) → told r ≡ told q → seen r ≡ seen q → HasTold t class p q → HasTold t class p r
  told_as p q r same_told same_seen h = record {
    told = subst (λ (ys : List ℕ). ys ≡ told p ++ since (told p) ys) (sym same_told) h.told;
    seen = subst (λ (ys : List ℕ). ys ≡ seen p ++ since (seen p) ys) (sym same_seen) h.seen;
    valid = subst (λ (ys : List ℕ). All (GivesClass t class) (since (told p) ys)) (sym same_told) h.valid;
  }

  pub told_then : (p q r : PlaceLists) → HasTold t class p q → HasTold t class q r → HasTold t class p r
  told_then p q r h k = record {
    told = subst (λ (ys : List ℕ). ys ≡ told p ++ since (told p) ys) (sym k.told) (grown_more (told p) (told q) (since (told q) (told r)) h.told);
    seen = subst (λ (ys : List ℕ). ys ≡ seen p ++ since (seen p) ys) (sym k.seen) (grown_more (seen p) (seen q) (since (seen q) (seen r)) h.seen);
    valid =
        subst (All (GivesClass t class)) (sym (ap (since (told p)) k.told ∙ since_more (told p) (told q) (since (told q) (told r)) h.told))
        (All-append (GivesClass t class) (since (told p) (told q)) (since (told q) (told r)) h.valid k.valid);
  }

  -- what a piece's hunt gave stays
  pub hunted_on : (cut : ℕ) (p q : PlaceLists) (piece : ℕ) → HasTold t class p q → IsHunted t cut class p piece → IsHunted t cut class q piece
  hunted_on cut p q piece h (inl first) = inl (first.0, first.1, subst (λ (ys : List ℕ). Contains ys first.0) (sym h.told) (Contains-append_left (told p) (since (told p) (told q)) first.0 first.2))
  hunted_on cut p q piece h (inr (inl none)) = inr (inl none)
  hunted_on cut p q piece h (inr (inr (n, below, inl c))) = inr (inr (n, below, inl (subst (λ (ys : List ℕ). Contains ys n) (sym h.told) (Contains-append_left (told p) (since (told p) (told q)) n c))))
  hunted_on cut p q piece h (inr (inr (n, below, inr c))) = inr (inr (n, below, inr (subst (λ (ys : List ℕ). Contains ys n) (sym h.seen) (Contains-append_left (seen p) (since (seen p) (seen q)) n c))))

-- ---- a look and a tell, in each class
module _ (t : Litmus) where
  seen_told : (class : Class) (of : Class2) (p : PlaceLists) (n : ℕ) → HasTold t class p (with_seen of p n)
  seen_told of_test.Met Met p n = told_with t of_test.Met p (with_seen Met p n) [] (n ∷ []) (sym (append-nil _)) refl (All-nil (GivesClass t of_test.Met))
  seen_told of_test.Met Unmet p n = told_as t of_test.Met p p (with_seen Unmet p n) refl refl (told_none t of_test.Met p)
  seen_told of_test.Unmet Met p n = told_as t of_test.Unmet p p (with_seen Met p n) refl refl (told_none t of_test.Unmet p)
  seen_told of_test.Unmet Unmet p n = told_with t of_test.Unmet p (with_seen Unmet p n) [] (n ∷ []) (sym (append-nil _)) refl (All-nil (GivesClass t of_test.Unmet))

  pub look_told : (class : Class) (of : Class2) (p q : PlaceLists) (found : Option ℕ) → IfSome found (λ n. q ≡ with_seen of p n)
      → IfNone found ((q ≡ p) × (told_by of p ≡ []) × (seen_by of p ≡ [])) → HasTold t class p q
  look_told class of p q (Some n) some none = subst (HasTold t class p) (sym some) (seen_told class of p n)
  look_told class of p q None some none = subst (HasTold t class p) (sym none.0) (told_none t class p)

  pub tell_told : (class other : Class) (p : PlaceLists) (n : ℕ) → GivesClass t other n → HasTold t class p (with_told (desk_class other) p n)
  tell_told of_test.Met of_test.Met p n g = told_with t of_test.Met p (with_told Met p n) (n ∷ []) [] refl (sym (append-nil _)) (All-cons (GivesClass t of_test.Met) n [] g (All-nil (GivesClass t of_test.Met)))
  tell_told of_test.Met of_test.Unmet p n g = told_as t of_test.Met p p (with_told Unmet p n) refl refl (told_none t of_test.Met p)
  tell_told of_test.Unmet of_test.Met p n g = told_as t of_test.Unmet p p (with_told Met p n) refl refl (told_none t of_test.Unmet p)
  tell_told of_test.Unmet of_test.Unmet p n g = told_with t of_test.Unmet p (with_told Unmet p n) (n ∷ []) [] refl (sym (append-nil _)) (All-cons (GivesClass t of_test.Unmet) n [] g (All-nil (GivesClass t of_test.Unmet)))

-- what was told last was told, and what was seen last was seen
pub told_it : (of : Class2) (p : PlaceLists) (n : ℕ) → Contains (told_by of (with_told of p n)) n
told_it Met p n = Contains-push (told_by Met p) n
told_it Unmet p n = Contains-push (told_by Unmet p) n

pub saw_it : (of : Class2) (p : PlaceLists) (n : ℕ) → Contains (seen_by of (with_seen of p n)) n
saw_it Met p n = Contains-push (seen_by Met p) n
saw_it Unmet p n = Contains-push (seen_by Unmet p) n

-- a ticket tells nothing
pub ticket_told : (t : Litmus) (class : Class) (p : PlaceLists) (n : ℕ) → HasTold t class p (with_ticket p n)
ticket_told t class p n = told_as t class p p (with_ticket p n) (told_ticket (desk_class class) p n) (seen_ticket (desk_class class) p n) (told_none t class p)

-- where a draw gives nothing, nothing is told
pub late_told : (t : Litmus) (class : Class) (pieces : ℕ) (p q : PlaceLists) → (q ≡ p) ⊎ ((n : ℕ) × (pieces ≤ n) × (q ≡ with_ticket p n)) → HasTold t class p q
late_told t class pieces p q (inl same) = subst (HasTold t class p) (sym same) (told_none t class p)
late_told t class pieces p q (inr (n, late, is)) = subst (HasTold t class p) (sym is) (ticket_told t class p n)

-- what holds of both classes holds of each
pub in_both : (P : Class → Type 0) → P of_test.Met → P of_test.Unmet → (class : Class) → P class
in_both P met unmet of_test.Met = met
in_both P met unmet of_test.Unmet = unmet

-- a new place that told and drew as it had to
pub hunted_out : (t : Litmus) (cut : ℕ) (desk : DeskName) (p q : PlaceLists) → p ≡ new_place desk → IsPlaceOf desk q → IsDone q → ((class : Class) → HasTold t class p q)
    → ((class : Class) → All (IsHunted t cut class q) (drawn_since p q)) → IsHuntedOut t cut desk q
hunted_out t cut desk p q new own done told hunted =
    let told_new : (class : Class) → HasTold t class (new_place desk) q = λ class. subst (λ (r : PlaceLists). HasTold t class r q) new (told class) in
    let hunted_new : (class : Class) → All (IsHunted t cut class q) (drawn_since (new_place desk) q) = λ class. subst (λ (r : PlaceLists). All (IsHunted t cut class q) (drawn_since r q)) new (hunted class) in
    record {
      own = own;
      done = done;
      valid = in_both (λ class. All (GivesClass t class) (told_by (desk_class class) q)) (told_new of_test.Met).valid (told_new of_test.Unmet).valid;
      hunted = hunted_new;
    }
