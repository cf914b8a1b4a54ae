-- How prefixes of orders grow, event by event, to the least order.
use Rattle.std.proofs.Common.{◌≡◌, ◌⊎◌, ◌↔◌, ℕ, ◌<◌, ◌≤◌, ◌≢◌, Some, List, [], ◌∷◌, ◌++◌, length, take, ◌-◌, refl, sym, ap, ◌∙◌, arith, inl, inr, append_assoc, append-nil}
use Rattle.std.proofs.lemmas.Bool.{cases_eq, cases_lt, cases_order}
use Rattle.std.proofs.lemmas.List.{length_push, take_at}
use Rattle.std.proofs.lemmas.Bool.Decides.{nat_tests}
use Rattle.std.proofs.lemmas.Option.{none-some, same_Some, slice_get_within}
use Rattle.std.specs.Cmp.Lexicographic.{slice_cmp}
use Rattle.std.specs.List.{slice_get}
use Rattle.std.specs.Ordering.{nat_cmp}
use Rattle.std.specs.declared.cmp.Ordering.TheVariants.{Less, Greater}
use Rattle.lit_order.specs.Internal.Beginning.{Stands, IsBeginning, IsPlaced, CanStandNext, HasNoOrder, IsLeastFrom}
use Rattle.lit_order.specs.MemoryOrder.{StandsBefore, IsOrderOf, IsLeastOrderOf}
use Rattle.lit_rel.proofs.GivenLemmas.{put_more}
use Rattle.lit_rel.proofs.PlaceLemmas.{place-left, place_from-left, place-middle, place-push}
use Rattle.lit_paths.proofs.Rising.{nat_cmp-same}
use Rattle.lit_order.proofs.CountLemmas.{length_from_all, all_from_length}

pub StandsBefore-left : (xs ys : List ℕ) (a d : ℕ) → StandsBefore xs a d → StandsBefore (xs ++ ys) a d
StandsBefore-left xs ys a d h =
    record { first = h.first; second = h.second; earlier = h.earlier; first_is = place-left xs ys h.first a h.first_is; second_is = place-left xs ys h.second d h.second_is }

-- what has a place in the list stands before what comes after the list
pub StandsBefore-middle : (xs ys : List ℕ) (a e : ℕ) → Stands xs a → StandsBefore (xs ++ e ∷ ys) a e
StandsBefore-middle xs ys a e s =
    record { first = s.place; second = length xs; earlier = slice_get_within xs s.place a s.at_place; first_is = place-left xs (e ∷ ys) s.place a s.at_place; second_is = place-middle xs ys e }

-- with one event more
stands_push : (order : List ℕ) (event e : ℕ) → Stands (order ++ event ∷ []) e ↔ (Stands order e ⊎ (e ≡ event))
stands_push order event e = (
  (λ s. elim (place-push order event s.place e s.at_place) [ inl old ↦ inl record { place = s.place; at_place = old.1 } | inr last ↦ inr (sym last.1) ]),
  (λ h. elim h [
    | inl s ↦ record { place = s.place; at_place = place-left order (event ∷ []) s.place e s.at_place }
    | inr same ↦ record { place = length order; at_place = place-middle order [] event ∙ ap Some (sym same) }
  ]),
)

before_push : (order : List ℕ) (event a d : ℕ) → StandsBefore (order ++ event ∷ []) a d ↔ (StandsBefore order a d ⊎ (Stands order a × (d ≡ event)))
before_push order event a d = (
  (λ s. elim (place-push order event s.second d s.second_is) [
    | inl old ↦
        inl record { first = s.first; second = s.second; earlier = s.earlier; first_is = place_from-left order (event ∷ []) s.first a (omega (arith, s.earlier, old.0)) s.first_is; second_is = old.1 }
    | inr last ↦ inr (record { place = s.first; at_place = place_from-left order (event ∷ []) s.first a (omega (arith, s.earlier, last.0)) s.first_is }, sym last.1)
  ]),
  (λ h. elim h [ inl s ↦ StandsBefore-left order (event ∷ []) a d s | inr last ↦ rw last.1 (StandsBefore-middle order [] a event last.0) ]),
)

module _ (n : ℕ) (before : ℕ → ℕ → Type 0) (forbidden : ℕ → ℕ → ℕ → Type 0) (placed : ℕ → Type 0) (order : List ℕ) (event : ℕ) (is_placed : (e : ℕ) → placed e ↔ Stands order e) where
  -- an event that can stand next makes a beginning
  pub IsBeginning-push : event < n → IsBeginning n before forbidden order → CanStandNext before forbidden placed event → IsBeginning n before forbidden (order ++ event ∷ [])
  IsBeginning-push within b can = record { only = only; once = once; closed = closed; whole = whole }
    where
      only : (k e : ℕ) → slice_get (order ++ event ∷ []) k ≡ Some e → e < n
      only k e h = elim (place-push order event k e h) [ inl old ↦ b.only k e old.1 | inr last ↦ rw (← last.1) within ]

      absent : (k e : ℕ) → slice_get order k ≡ Some e → event ≡ e → ⊥
      absent k e h same = can.new ((is_placed event).1 (record { place = k; at_place = rw same h }))

      once : (k l e : ℕ) → slice_get (order ++ event ∷ []) k ≡ Some e → slice_get (order ++ event ∷ []) l ≡ Some e → k ≡ l
      once k l e hk hl =
          elim (place-push order event k e hk) [
            | inl old ↦ elim (place-push order event l e hl) [ inl other ↦ b.once k l e old.1 other.1 | inr last ↦ absurd (absent k e old.1 last.1) ]
            | inr last ↦ elim (place-push order event l e hl) [ inl old ↦ absurd (absent l e old.1 last.1) | inr also ↦ last.0 ∙ sym also.0 ]
          ]

      closed : (a d k : ℕ) → before a d → slice_get (order ++ event ∷ []) k ≡ Some d → StandsBefore (order ++ event ∷ []) a d
      closed a d k h at_k =
          (before_push order event a d).1 (elim (place-push order event k d at_k) [
            | inl old ↦ inl (b.closed a d k h old.1)
            | inr last ↦ inr ((is_placed a).0 (can.follows a (rw last.1 h)), sym last.1)
          ])

      whole : (w r v : ℕ) → forbidden w r v → StandsBefore (order ++ event ∷ []) w v → (r ≡ v) ⊎ StandsBefore (order ++ event ∷ []) r v
      whole w r v h s =
          elim ((before_push order event w v).0 s) [
            | inl old ↦ elim (b.whole w r v h old) [ inl same ↦ inl same | inr left ↦ inr ((before_push order event r v).1 (inl left)) ]
            | inr last ↦
                elim (can.whole w r (rw (← last.1) h) ((is_placed w).1 last.0)) [
                  | inl same ↦ inl (same ∙ sym last.1)
                  | inr left ↦ inr ((before_push order event r v).1 (inr ((is_placed r).0 left, last.1)))
                ]
          ]

  -- where an order goes on with an event, that event can stand next
  pub CanStandNext-from_order : (rest : List ℕ) → ((w r v : ℕ) → forbidden w r v → r < n) → IsOrderOf n before forbidden (order ++ event ∷ rest) → CanStandNext before forbidden placed event
  CanStandNext-from_order rest known o = record { new = new; follows = follows; whole = whole }
    where
      only_at : (k : ℕ) → slice_get (order ++ event ∷ rest) k ≡ Some event → k ≡ length order
      only_at k h = o.complete.once k (length order) event h (place-middle order rest event)

      new : placed event → ⊥
      new p =
          let s = (is_placed event).0 p in
          let there = only_at s.place (place-left order (event ∷ rest) s.place event s.at_place) in
          absurd (omega (arith, there, slice_get_within order s.place event s.at_place))

      follows : (a : ℕ) → before a event → placed a
      follows a h =
          let s = o.keeps a event h in
          let within : s.first < length order = omega (arith, only_at s.second s.second_is, s.earlier) in
          (is_placed a).1 (record { place = s.first; at_place = place_from-left order (event ∷ rest) s.first a within s.first_is })

      whole : (w r : ℕ) → forbidden w r event → placed w → (r ≡ event) ⊎ placed r
      whole w r h p =
          let s = o.complete.all r (known w r event h) in
          elim (cases_lt s.0 (length order)) [
            | inl earlier ↦ inr ((is_placed r).1 (record { place = s.0; at_place = place_from-left order (event ∷ rest) s.0 r earlier s.1 }))
            | inr later ↦
                elim (cases_eq s.0 (length order)) [
                  | inl same ↦ inl (same_Some r event (sym s.1 ∙ ap (slice_get (order ++ event ∷ rest)) same ∙ place-middle order rest event))
                  | inr other ↦
                      absurd (o.avoids w r event h
                      (StandsBefore-middle order rest w event ((is_placed w).0 p))
                      (record { first = length order; second = s.0; earlier = omega arith; first_is = place-middle order rest event; second_is = s.1 }))
                ]
          ]

nat_cmp-greater : (x y : ℕ) → y ≤ x → x ≢ y → nat_cmp x y ≡ Greater
nat_cmp-greater x y h ne = grind (arith, nat_tests)

-- lists are compared by what follows a common front
slice_cmp-front : (p xs ys : List ℕ) → slice_cmp nat_cmp (p ++ xs) (p ++ ys) ≡ slice_cmp nat_cmp xs ys
slice_cmp-front [] xs ys = refl
slice_cmp-front (x ∷ p) xs ys = rw (nat_cmp-same x) (slice_cmp-front p xs ys)

never_less_than_front : (p xs : List ℕ) → slice_cmp nat_cmp (p ++ xs) p ≢ Less
never_less_than_front [] [] h = cc
never_less_than_front [] (x ∷ xs) h = cc
never_less_than_front (x ∷ p) xs h = never_less_than_front p xs (rw (nat_cmp-same x) at h)

module _ (n : ℕ) (before : ℕ → ℕ → Type 0) (forbidden : ℕ → ℕ → ℕ → Type 0) (order : List ℕ) where
  -- a beginning with all events is an order
  pub IsOrderOf-from_beginning : ((a d : ℕ) → before a d → d < n) → length order ≡ n → IsBeginning n before forbidden order → IsOrderOf n before forbidden order
  IsOrderOf-from_beginning known is b = record { complete = record { all = all; only = b.only; once = b.once }; keeps = keeps; avoids = avoids }
    where
      stands : (e : ℕ) → e < n → Stands order e
      stands = all_from_length order n b.only b.once is

      all : (e : ℕ) → e < n → (k : ℕ) × (slice_get order k ≡ Some e)
      all e h = let s = stands e h in (s.place, s.at_place)

      keeps : (a d : ℕ) → before a d → StandsBefore order a d
      keeps a d h = let s = stands d (known a d h) in b.closed a d s.place h s.at_place

      avoids : (w r v : ℕ) → forbidden w r v → StandsBefore order w v → StandsBefore order v r → ⊥
      avoids w r v h s t =
          elim (b.whole w r v h s) [
            | inl same ↦ absurd (omega (arith, t.earlier, b.once t.first t.second v t.first_is (t.second_is ∙ ap Some same)))
            | inr u ↦
                let first = b.once u.first t.second r u.first_is t.second_is in
                absurd (omega (arith, t.earlier, u.earlier, first, b.once u.second t.first v u.second_is t.first_is))
          ]

  -- a beginning with all events is the least order that begins so
  pub IsLeastFrom-itself : IsOrderOf n before forbidden order → IsLeastFrom n before forbidden order order
  IsLeastFrom-itself o = record { is_order = o; rest = []; begins = sym (append-nil order); least = λ other h. never_less_than_front order other }

  -- with fewer events it is none
  not_order_yet : length order < n → IsOrderOf n before forbidden (order ++ []) → ⊥
  not_order_yet short o =
      let full : IsOrderOf n before forbidden order = rw (append-nil order) at o in
      absurd (omega (arith, length_from_all order n (λ e h. let s = full.complete.all e h in record { place = s.0; at_place = s.1 })))

  -- no event can come next
  pub HasNoOrder-from_each : length order < n → ((e : ℕ) → e < n → HasNoOrder n before forbidden (order ++ e ∷ [])) → HasNoOrder n before forbidden order
  HasNoOrder-from_each short each [] o = not_order_yet short o
  HasNoOrder-from_each short each (e ∷ rest) o =
      each e (o.complete.only (length order) e (place-middle order rest e)) rest (rw (append_assoc order (e ∷ []) rest) o)

  -- an event comes next, and none less can
  pub IsLeastFrom-push : (event : ℕ) (found : List ℕ) → length order < n → ((e : ℕ) → e < event → HasNoOrder n before forbidden (order ++ e ∷ [])) → IsLeastFrom n before forbidden (order ++ event ∷ []) found → IsLeastFrom n before forbidden order found
  IsLeastFrom-push event found short none f =
      record { is_order = f.is_order; rest = event ∷ f.rest; begins = f.begins ∙ append_assoc order (event ∷ []) f.rest; least = least }
    where
      least : (other : List ℕ) → IsOrderOf n before forbidden (order ++ other) → slice_cmp nat_cmp (order ++ other) found ≢ Less
      least [] o h = not_order_yet short o
      least (e ∷ rest) o h =
          elim (cases_order e event) [
            | inl same ↦ f.least rest (rw (append_assoc order (event ∷ []) rest, ← same) o) (rw (append_assoc order (event ∷ []) rest, ← same) h)
            | inr apart ↦ elim apart [
              | inl less ↦ none e less rest (rw (append_assoc order (e ∷ []) rest) o)
              | inr more ↦
                  let greater : nat_cmp e event ≡ Greater = nat_cmp-greater e event (omega arith) (λ same. absurd (omega arith)) in
                  let is_found : found ≡ order ++ event ∷ f.rest = f.begins ∙ append_assoc order (event ∷ []) f.rest in
                  let differs = rw (is_found, slice_cmp-front order (e ∷ rest) (event ∷ f.rest), greater) at h in
                  cc
            ]
          ]

  -- the least order that begins with nothing is the least order
  pub IsLeastOrderOf-from_nothing : (found : List ℕ) → order ≡ [] → IsLeastFrom n before forbidden order found → IsLeastOrderOf n before forbidden found
  IsLeastOrderOf-from_nothing found empty f =
      let from_nothing = rw empty at f in
      record { is_order = from_nothing.is_order; least = from_nothing.least }

-- nothing is a beginning
pub IsBeginning-nil : (n : ℕ) (before : ℕ → ℕ → Type 0) (forbidden : ℕ → ℕ → ℕ → Type 0) → IsBeginning n before forbidden []
IsBeginning-nil n before forbidden =
    record {
      only = λ k e h. absurd (none-some e h);
      once = λ k l e h _. absurd (none-some e h);
      closed = λ a d k _ h. absurd (none-some d h);
      whole = λ w r v _ s. absurd (none-some w s.first_is);
    }

-- The same, where the program's lists are equal to the prefix: its list now, and its list after a push.
module _ (n : ℕ) (before : ℕ → ℕ → Type 0) (forbidden : ℕ → ℕ → ℕ → Type 0) (placed : ℕ → Type 0) (order : List ℕ) (event : ℕ) (is : IsPlaced n before forbidden placed order) where
  pub IsPlaced-next : (next : ℕ → Type 0) (now more : List ℕ) → now ≡ order → more ≡ now ++ event ∷ [] → event < n → CanStandNext before forbidden placed event
      → ((e : ℕ) → next e ↔ (placed e ⊎ (e ≡ event))) → IsPlaced n before forbidden next more
  IsPlaced-next next now more unchanged pushed within can puts = rw (pushed, unchanged) record {
    begins = IsBeginning-push n before forbidden placed order event is.events within is.begins can;
    events = λ e. put_more (puts e) (is.events e) (stands_push order event e) ((λ h. h), (λ h. h));
  }

  pub HasNoOrder-cannot : ((w r v : ℕ) → forbidden w r v → r < n) → (CanStandNext before forbidden placed event → ⊥) → HasNoOrder n before forbidden (order ++ event ∷ [])
  HasNoOrder-cannot known cannot rest o =
      cannot (CanStandNext-from_order n before forbidden placed order event is.events rest known (rw (append_assoc order (event ∷ []) rest) at o))

-- a pop takes a push back
pub popped_is : (order now pushed after popped : List ℕ) (event : ℕ) → now ≡ order → pushed ≡ now ++ event ∷ [] → after ≡ pushed → popped ≡ take (length after - 1) after → popped ≡ order
popped_is order now pushed after popped event unchanged push same pop =
    let count : length order ≡ length (order ++ event ∷ []) - 1 = omega (arith, length_push order event) in
    rw (pop, same, push, unchanged) (take_at order (event ∷ []) (length (order ++ event ∷ []) - 1) count)
