-- Events from which another is reached in so many steps: one step more, and that all numbers are below some.
use Rattle.std.proofs.Common.{◌≡◌, ◌⊎◌, ◌↔◌, ℕ, ◌+◌, ◌<◌, suc, zero, List, [], ◌∷◌, ◌++◌, length, get_or, refl, subst, arith, inl, inr}
use Rattle.std.proofs.Math.Seq.{get_or-append_seam}
use Rattle.std.proofs.lemmas.Bool.{cases_eq, cases_lt}
use Rattle.std.proofs.lemmas.List.{get_or_append_left, length-append}
use Rattle.lit_rel.specs.declared.event_set.EventSet.{EventSet}
use Rattle.lit_rel.specs.EventSet.{HasEvent, no_events}
use Rattle.lit_rel.specs.HappensBefore.{Chain}
use Rattle.lit_why.specs.Internal.Reaching.{AreLevels, IsReachedBy, IsUnreached}

module _ (step : ℕ → ℕ → Type 0) (d : ℕ) where
  pub reached_at_once : (e : ℕ) → IsReachedBy step d 0 e → step e d
  reached_at_once e h = from h.middles h.count h.chain
    where
      from : (middles : List ℕ) → length middles ≡ 0 → Chain step e middles d → step e d
      from [] none chain = chain
      from (m ∷ middles) none chain = absurd (omega arith)

  pub reached_next : (k e : ℕ) → IsReachedBy step d (k + 1) e → (m : ℕ) × step e m × IsReachedBy step d k m
  reached_next k e h = from h.middles h.count h.chain
    where
      from : (middles : List ℕ) → length middles ≡ k + 1 → Chain step e middles d → (m : ℕ) × step e m × IsReachedBy step d k m
      from [] none chain = absurd (omega arith)
      from (m ∷ middles) count chain = (m, chain.0, record { middles = middles; count = omega arith; chain = chain.1 })

  pub reached_before : (k e m : ℕ) → step e m → IsReachedBy step d k m → IsReachedBy step d (k + 1) e
  reached_before k e m one h = record { middles = m ∷ h.middles; count = omega (arith, h.count); chain = (one, h.chain) }

  pub reached_known : (n : ℕ) → ((x y : ℕ) → step x y → x < n) → (k e : ℕ) → IsReachedBy step d k e → e < n
  reached_known n known k e h = from h.middles h.chain
    where
      from : (middles : List ℕ) → Chain step e middles d → e < n
      from [] chain = known e d chain
      from (m ∷ middles) chain = known e m chain.0

  -- where all that is reached by n + 1 steps is reached by fewer, and so all that is reached by one, no further steps reach more
  pub all_below : (n : ℕ) → ((e : ℕ) → IsReachedBy step d n e → (k : ℕ) × (k < n) × IsReachedBy step d k e)
      → (middles : List ℕ) (e : ℕ) → Chain step e middles d → (k : ℕ) × (k < n) × IsReachedBy step d k e
  all_below zero within [] e chain = within e (record { middles = []; count = refl; chain = chain })
  all_below (suc n) within [] e chain = (0, omega arith, record { middles = []; count = refl; chain = chain })
  all_below n within (m ∷ middles) e chain =
      let rest = all_below n within middles m chain.1 in
      let longer = reached_before rest.0 e m chain.0 rest.2 in
      elim (cases_lt (rest.0 + 1) n) [
        | inl fewer ↦ (rest.0 + 1, fewer, longer)
        | inr enough ↦ let same : rest.0 + 1 ≡ n = (let less : rest.0 < n = rest.1 in omega arith) in within e (rw (← same) longer)
      ]

-- ---- levels, of which each further one has what leads to the one before it
module _ (step : ℕ → ℕ → Type 0) (d from : ℕ) where
  -- the levels so far, the next one, and the union of those so far
  pub record AreReached (levels : List EventSet) (level reached : EventSet) : Type 0 where
    pub are_levels : AreLevels step d levels
    pub next : (e : ℕ) → HasEvent level e ↔ IsReachedBy step d (length levels) e
    pub together : (e : ℕ) → HasEvent reached e ↔ ((k : ℕ) × (k < length levels) × IsReachedBy step d k e)
    pub below : (k : ℕ) → k < length levels → ¬ IsReachedBy step d k from

  module _ (level reached : EventSet) where
    pub reached_first : (single : EventSet) → ((e : ℕ) → HasEvent single e ↔ (e ≡ d)) → ((e : ℕ) → HasEvent level e ↔ ((x : ℕ) × step e x × HasEvent single x))
        → ((e : ℕ) → ¬ HasEvent reached e) → AreReached [] level reached
    reached_first single is_single leads none = record {
      are_levels = λ k inside. absurd (omega arith);
      next = λ e. (
        (λ h. let x = (leads e).0 h in record { middles = []; count = refl; chain = let P : ℕ → Type 0 = λ y. step e y in subst P ((is_single x.0).0 x.2) x.1 }),
        (λ h. (leads e).1 (d, reached_at_once step d e h, (is_single d).1 refl)),
      );
      together = λ e. ((λ h. absurd (none e h)), (λ h. let inside : h.0 < 0 = h.1 in absurd (omega arith)));
      below = λ k inside. absurd (omega arith);
    }

    pub reached_more : (levels : List EventSet) (next more : EventSet) → AreReached levels level reached → ¬ HasEvent level from
        → ((e : ℕ) → HasEvent next e ↔ ((x : ℕ) × step e x × HasEvent level x)) → ((e : ℕ) → HasEvent more e ↔ (HasEvent reached e ⊎ HasEvent level e))
        → (all : List EventSet) → all ≡ levels ++ level ∷ [] → AreReached all next more
    reached_more levels next more reaches lacks leads united all is =
        let n = length levels in
        let count : length all ≡ n + 1 = rw is (length-append levels (level ∷ [])) in
        let earlier : (k : ℕ) → k < n → get_or all k no_events ≡ get_or levels k no_events = λ k inside. rw is (get_or_append_left levels (level ∷ []) no_events k inside) in
        let here : get_or all n no_events ≡ level = rw is (get_or-append_seam levels level [] no_events) in
        record {
          are_levels = λ k inside e. elim (cases_eq k n) [
            | inl same ↦ rw (same, here) (reaches.next e)
            | inr other ↦ let less : k < n = omega arith in rw (earlier k less) (reaches.are_levels k less e)
          ];
          next = λ e. rw count (
            (λ h. let x = (leads e).0 h in reached_before step d n e x.0 x.1 ((reaches.next x.0).0 x.2)),
            (λ h. let x = reached_next step d n e h in (leads e).1 (x.0, x.1, (reaches.next x.0).1 x.2)),
          );
          together = λ e. rw count (
            (λ h. elim ((united e).0 h) [
              | inl old ↦ let at = (reaches.together e).0 old in let less : at.0 < n = at.1 in (at.0, omega arith, at.2)
              | inr new ↦ (n, omega arith, (reaches.next e).0 new)
            ]),
            (λ h. (united e).1 (elim (cases_eq h.0 n) [
              | inl same ↦ inr ((reaches.next e).1 (rw same at h.2))
              | inr other ↦ let inside : h.0 < n + 1 = h.1 in inl ((reaches.together e).1 (h.0, omega arith, h.2))
            ])),
          );
          below = λ k inside h. elim (cases_eq k n) [
            | inl same ↦ lacks ((reaches.next from).1 (rw same at h))
            | inr other ↦ reaches.below k (omega arith) h
          ];
        }

    -- where the next one has nothing new, nothing reaches d from here
    pub reached_all : (levels : List EventSet) → AreReached levels level reached → ((e : ℕ) → HasEvent level e → HasEvent reached e) → IsUnreached step from d
    reached_all levels reaches old middles chain =
        let found = all_below step d (length levels) (λ e h. (reaches.together e).0 (old e ((reaches.next e).1 h))) middles from chain in
        reaches.below found.0 found.1 found.2

-- ---- one event more of a set
module _ (leads cur : ℕ → Type 0) (event : ℕ) (so_far : (e : ℕ) → cur e ↔ ((e < event) × leads e)) where
  pub lead_more : (new : ℕ → Type 0) → leads event → ((e : ℕ) → new e ↔ (cur e ⊎ (e ≡ event))) → (e : ℕ) → new e ↔ ((e < event + 1) × leads e)
  lead_more new here put e = (
    (λ h. elim ((put e).0 h) [
      | inl old ↦ let at = (so_far e).0 old in let less : e < event = at.0 in (omega arith, at.1)
      | inr same ↦ (omega arith, rw same here)
    ]),
    (λ h. (put e).1 (elim (cases_eq e event) [ inl same ↦ inr same | inr other ↦ let less : e < event + 1 = h.0 in inl ((so_far e).1 (omega arith, h.1)) ])),
  )

  pub lead_skip : ¬ leads event → (e : ℕ) → cur e ↔ ((e < event + 1) × leads e)
  lead_skip not_here e = (
    (λ h. let at = (so_far e).0 h in let less : e < event = at.0 in (omega arith, at.1)),
    (λ h. elim (cases_eq e event) [ inl same ↦ absurd (not_here (rw same at h.1)) | inr other ↦ let less : e < event + 1 = h.0 in (so_far e).1 (omega arith, h.1) ]),
  )
