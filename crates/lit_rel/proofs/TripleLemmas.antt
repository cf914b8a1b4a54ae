-- Triples of events: one pair more, and more events of a pair.
use Rattle.std.proofs.Common.{◌≡◌, ◌⊎◌, ◌↔◌, ℕ, ◌<◌, Some, List, [], ◌∷◌, ◌++◌, length, sym, ◌∙◌, inl, inr, arith}
use Rattle.std.proofs.Math.ListN.{set}
use Rattle.std.proofs.lemmas.Bool.{cases_eq}
use Rattle.std.proofs.lemmas.Option.{same_Some}
use Rattle.std.specs.List.{slice_get}
use Rattle.lit_rel.specs.declared.event_set.EventSet.{EventSet}
use Rattle.lit_rel.specs.declared.between.Pair.{Pair}
use Rattle.lit_rel.specs.Between.{BetweenModel, IsPairOf, Forbids}
use Rattle.lit_rel.specs.EventSet.{HasEvent, no_events}
use Rattle.lit_rel.proofs.PlaceLemmas.{place-left, place-middle, place-push, place-set_same, place-set_other}

-- what a slice of pairs gives past its end
abbrev pub no_pair : Pair
no_pair = record { source = 0; read = 0; others = no_events }

-- some element is so
abbrev SomeIn : {X : Type 0} → (X → Type 0) → List X → Type 0
SomeIn {X} P xs = (k : ℕ) × (x : X) × (slice_get xs k ≡ Some x) × P x

module _ {X : Type 0} (P : X → Type 0) (xs : List X) (more : Type 0) where
  some_push : (x : X) → P x ↔ more → SomeIn P (xs ++ x ∷ []) ↔ (SomeIn P xs ⊎ more)
  some_push x is = (
    (λ h. elim (place-push xs x h.0 h.1 h.2) [ inl was ↦ inl (h.0, h.1, was.1, h.3) | inr last ↦ inr (is.0 (rw last.1 h.3)) ]),
    (λ h. elim h [
      | inl was ↦ (was.0, was.1, place-left xs (x ∷ []) was.0 was.1 was.2, was.3)
      | inr here ↦ (length xs, x, place-middle xs [] x, is.1 here)
    ]),
  )

  some_set : (i : ℕ) (old new : X) → slice_get xs i ≡ Some old → P new ↔ (P old ⊎ more) → SomeIn P (set xs i new) ↔ (SomeIn P xs ⊎ more)
  some_set i old new there wider =
      let here = place-set_same xs i new old there in (
        (λ h. elim (cases_eq h.0 i) [
          | inl same ↦
              let is_new : new ≡ h.1 = same_Some new h.1 (sym here ∙ rw same at h.2) in
              elim (wider.0 (rw is_new h.3)) [ inl was ↦ inl (i, old, there, was) | inr put ↦ inr put ]
          | inr other ↦ inl (h.0, h.1, sym (place-set_other xs i h.0 new other) ∙ h.2, h.3)
        ]),
        (λ h. elim h [
          | inl was ↦
              elim (cases_eq was.0 i) [
                | inl same ↦
                    let is_old : old ≡ was.1 = same_Some old was.1 (sym there ∙ rw same at was.2) in
                    (i, new, here, wider.1 (inl (rw is_old was.3)))
                | inr other ↦ (was.0, was.1, place-set_other xs i was.0 new other ∙ was.2, was.3)
              ]
          | inr put ↦ (i, new, here, wider.1 (inr put))
        ]),
      )

-- the pairs as they were and as they are after a call, and what the call forbids
module _ (n w r : ℕ) (pairs more : List Pair) (others : EventSet) (old : BetweenModel) (view : record { len = n; pairs = pairs } ≡ old) (w_known : w < old.len) (r_known : r < old.len) (x y v : ℕ) where
  abbrev Marks : Pair → Type 0
  Marks p = IsPairOf x y p × HasEvent p.others v

  abbrev Put : Type 0
  Put = (w ≡ x) × (r ≡ y) × HasEvent others v

  abbrev pub ForbidsMore : Type 0
  ForbidsMore = Forbids (record { len = n; pairs = more }) x y v ↔ (Forbids old x y v ⊎ ((x ≡ w) × (y ≡ r) × (v < old.len) × HasEvent others v))

  forbids : (ps : List Pair) → x < n → y < n → v < n → SomeIn Marks ps → Forbids (record { len = n; pairs = ps }) x y v
  forbids ps a b c s =
      record { source_known = a; read_known = b; other_known = c; place = s.0; pair = s.1; at_place = s.2; is_pair = s.3.0; marked = s.3.1 }

  forbids_more : SomeIn Marks more ↔ (SomeIn Marks pairs ⊎ Put) → ForbidsMore
  forbids_more iff = rw (← view) (
    (λ f. elim (iff.0 (f.place, f.pair, f.at_place, (f.is_pair, f.marked))) [
      | inl was ↦ inl (forbids pairs f.source_known f.read_known f.other_known was)
      | inr put ↦ inr (sym put.0, sym put.1, f.other_known, put.2)
    ]),
    (λ h. elim h [
      | inl f ↦ forbids more f.source_known f.read_known f.other_known (iff.1 (inl (f.place, f.pair, f.at_place, (f.is_pair, f.marked))))
      | inr put ↦ forbids more (rw put.0 (rw (← view) at w_known)) (rw put.1 (rw (← view) at r_known)) put.2 (iff.1 (inr (sym put.0, sym put.1, put.3)))
    ]),
  )

  -- a pair that was not there
  pub Forbids-push : more ≡ pairs ++ record { source = w; read = r; others = others } ∷ [] → ForbidsMore
  Forbids-push pushed =
      forbids_more (rw pushed (some_push Marks pairs Put (record { source = w; read = r; others = others })
      ((λ m. (m.0.source, m.0.read, m.1)), (λ put. (record { source = put.0; read = put.1 }, put.2)))))

  -- a pair that was there, now with more events
  pub Forbids-set : (place : ℕ) (was new : Pair) → slice_get pairs place ≡ Some was → IsPairOf w r was → new.source ≡ was.source → new.read ≡ was.read
      → HasEvent new.others v ↔ (HasEvent was.others v ⊎ HasEvent others v) → more ≡ set pairs place new → ForbidsMore
  Forbids-set place was new there is_pair same_source same_read wider written =
      forbids_more (rw written (some_set Marks pairs Put place was new there (grind arith)))
