-- A strict relation that decides every triple has a linear extension that avoids the triples.
use Rattle.std.proofs.Common.{◌≡◌, ◌≢◌, ◌⊎◌, ℕ, ◌+◌, ◌<◌, ◌≤◌, suc, zero, List, [], ◌∷◌, ◌++◌, length, eqb, arith, inl, inr, subst, sym, ◌∙◌}
use Rattle.std.proofs.lemmas.Bool.{cases_eq, cases_Bool, false≢true}
use Rattle.std.proofs.lemmas.List.{length_push}
use Rattle.std.specs.List.{list_any}
use Rattle.lit_order.specs.Internal.Beginning.{Stands, IsBeginning, CanStandNext}
use Rattle.lit_order.specs.Internal.Deciding.{AreDecided}
use Rattle.lit_order.specs.MemoryOrder.{IsOrderOf}
use Rattle.lit_order.proofs.ForcedLemmas.{AreTriplesBelow}
use Rattle.lit_order.proofs.OrderLemmas.{IsBeginning-nil, IsBeginning-push, IsOrderOf-from_beginning}
use Rattle.lit_order.proofs.CountLemmas.{any_from_place, place_from_any, length_from_all}

-- an event stands in a list or does not
pub stands_or_not : (order : List ℕ) (e : ℕ) → Stands order e ⊎ ¬ Stands order e
stands_or_not order e =
    elim (cases_Bool (list_any (eqb e) order)) [
      | inl found ↦ inl (place_from_any order e found)
      | inr missing ↦ inr (λ s. false≢true (sym missing ∙ any_from_place order s.place e s.at_place))
    ]

-- what can be lined up: a relation without a cycle, among events below n, that decides each triple
pub record IsStrict (n : ℕ) (before : ℕ → ℕ → Type 0) : Type 0 where
  pub known : (a d : ℕ) → before a d → a < n
  pub known_after : (a d : ℕ) → before a d → d < n
  pub cases : (a d : ℕ) → before a d ⊎ ¬ before a d
  pub through : (a m d : ℕ) → before a m → before m d → before a d
  pub no_cycle : (e : ℕ) → ¬ before e e

-- an event below k that does not stand, before which no other such event is
pub record IsFirstLeft (before : ℕ → ℕ → Type 0) (order : List ℕ) (k m : ℕ) : Type 0 where
  pub below : m < k
  pub left : ¬ Stands order m
  pub first : (y : ℕ) → y < k → ¬ Stands order y → ¬ before y m

module _ (n : ℕ) (before : ℕ → ℕ → Type 0) (strict : IsStrict n before) where
  first_left : (order : List ℕ) (k : ℕ) → ((m : ℕ) × IsFirstLeft before order k m) ⊎ ((e : ℕ) → e < k → Stands order e)
  first_left order zero = inr (λ e h. absurd (omega arith))
  first_left order (suc k) = elim (stands_or_not order k) [ inl here ↦ skipped here (first_left order k) | inr left ↦ one_more left (first_left order k) ]
    where
      split : (y : ℕ) → y < suc k → (y < k) ⊎ (y ≡ k)
      split y h = elim (cases_eq y k) [ inl same ↦ inr same | inr other ↦ inl (omega arith) ]

      still_first : (m : ℕ) → IsFirstLeft before order k m → (¬ Stands order k → ¬ before k m) → IsFirstLeft before order (suc k) m
      still_first m f last = record {
        below = omega (arith, f.below);
        left = f.left;
        first = λ y h left b. elim (split y h) [ inl l ↦ f.first y l left b | inr same ↦ last (rw same at left) (rw same at b) ];
      }

      skipped : Stands order k → ((m : ℕ) × IsFirstLeft before order k m) ⊎ ((e : ℕ) → e < k → Stands order e) → ((m : ℕ) × IsFirstLeft before order (suc k) m) ⊎ ((e : ℕ) → e < suc k → Stands order e)
      skipped here (inl found) = inl (found.0, still_first found.0 found.1 (λ left b. left here))
      skipped here (inr all) = inr (λ e h. elim (split e h) [ inl l ↦ all e l | inr same ↦ rw same here ])

      itself : ¬ Stands order k → ((y : ℕ) → y < k → ¬ Stands order y → ¬ before y k) → IsFirstLeft before order (suc k) k
      itself left none = record {
        below = omega arith;
        left = left;
        first = λ y h other b. elim (split y h) [ inl l ↦ none y l other b | inr same ↦ strict.no_cycle k (rw same at b) ];
      }

      one_more : ¬ Stands order k → ((m : ℕ) × IsFirstLeft before order k m) ⊎ ((e : ℕ) → e < k → Stands order e) → ((m : ℕ) × IsFirstLeft before order (suc k) m) ⊎ ((e : ℕ) → e < suc k → Stands order e)
      one_more left (inr all) = inl (k, itself left (λ y l other b. other (all y l)))
      one_more left (inl found) =
          elim (strict.cases k found.0) [
            | inl earlier ↦ inl (k, itself left (λ y l other b. found.1.first y l other (strict.through y k found.0 b earlier)))
            | inr not_earlier ↦ inl (found.0, still_first found.0 found.1 (λ other. not_earlier))
          ]

  module _ (forbidden : ℕ → ℕ → ℕ → Type 0) (triples : AreTriplesBelow n forbidden) (decided : AreDecided before forbidden) where
    first_can_stand : (order : List ℕ) (m : ℕ) → IsBeginning n before forbidden order → IsFirstLeft before order n m → CanStandNext before forbidden (Stands order) m
    first_can_stand order m b f = record { new = f.left; follows = follows; whole = whole }
      where
        follows : (a : ℕ) → before a m → Stands order a
        follows a h = elim (stands_or_not order a) [ inl here ↦ here | inr left ↦ absurd (f.first a (strict.known a m h) left h) ]

        -- m is not before a source that stands
        not_earlier : (w : ℕ) → Stands order w → ¬ before m w
        not_earlier w here h =
            let s = b.closed m w here.place h here.at_place in
            f.left (record { place = s.first; at_place = s.first_is })

        apart : (w r : ℕ) → forbidden w r m → Stands order w → m ≢ r → Stands order r
        apart w r h here other =
            elim (decided w r m h (λ same. f.left (subst (Stands order) (sym same) here)) other) [
              | inl after ↦ follows r after
              | inr earlier ↦ absurd (not_earlier w here earlier)
            ]

        whole : (w r : ℕ) → forbidden w r m → Stands order w → (r ≡ m) ⊎ Stands order r
        whole w r h here = elim (cases_eq m r) [ inl same ↦ inl (sym same) | inr other ↦ inr (apart w r h here other) ]

    grown : (k : ℕ) (order : List ℕ) → length order + k ≡ n → IsBeginning n before forbidden order → (full : List ℕ) × IsOrderOf n before forbidden full
    grown zero order len b = (order, IsOrderOf-from_beginning n before forbidden order strict.known_after (omega arith) b)
    grown (suc k) order len b =
        elim (first_left order n) [
          | inl found ↦
              grown k (order ++ found.0 ∷ []) (omega (arith, length_push order found.0))
              (IsBeginning-push n before forbidden (Stands order) order found.0 (λ e. ((λ s. s), (λ s. s))) found.1.below b (first_can_stand order found.0 b found.1))
          | inr all ↦
              let long : n ≤ length order = length_from_all order n all in
              absurd (omega arith)
        ]

    -- there is an order
    pub lined_up : (full : List ℕ) × IsOrderOf n before forbidden full
    lined_up = grown n [] (omega arith) (IsBeginning-nil n before forbidden)
