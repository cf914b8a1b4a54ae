-- An event put before all that do not stand yet comes next in each order.
use Rattle.std.proofs.Common.{◌≡◌, ◌≢◌, ◌⊎◌, ◌↔◌, ℕ, ◌<◌, List, [], ◌∷◌, ◌++◌, length, refl, sym, ap, ◌∙◌, subst, arith, inl, inr, append_assoc, append-nil}
use Rattle.std.proofs.lemmas.Bool.{cases_eq, cases_order}
use Rattle.std.proofs.lemmas.Option.{same_Some, slice_get_within}
use Rattle.std.specs.List.{slice_get}
use Rattle.lit_order.specs.Internal.Beginning.{Stands, HasNoOrder}
use Rattle.lit_order.specs.Internal.Restricted.{IsRestricted}
use Rattle.lit_order.specs.MemoryOrder.{StandsBefore, HasOrder, IsOrderOf}
use Rattle.lit_rel.proofs.PlaceLemmas.{place-left, place_from-left, place-middle}

-- a relation with no more pairs has all orders
pub IsOrderOf-fewer : (n : ℕ) (before other : ℕ → ℕ → Type 0) (forbidden : ℕ → ℕ → ℕ → Type 0) → ((a d : ℕ) → other a d → before a d) → (order : List ℕ) → IsOrderOf n before forbidden order → IsOrderOf n other forbidden order
IsOrderOf-fewer n before other forbidden fewer order o = record { complete = o.complete; keeps = λ a d h. o.keeps a d (fewer a d h); avoids = o.avoids }

-- the restriction to the empty prefix is the relation itself
pub IsRestricted-nil : (n : ℕ) (before : ℕ → ℕ → Type 0) (forbidden : ℕ → ℕ → ℕ → Type 0) (restriction : ℕ → ℕ → Type 0) → ((a d : ℕ) → restriction a d ↔ before a d) → IsRestricted n before forbidden restriction []
IsRestricted-nil n before forbidden restriction same = record {
  only = λ order o. IsOrderOf-fewer n restriction before forbidden (λ a d h. (same a d).1 h) order o;
  begins = λ order o. (order, refl);
  all = λ rest o. IsOrderOf-fewer n before restriction forbidden (λ a d h. (same a d).0 h) rest o;
}

-- the event is put before all others that do not stand
abbrev pub PutsNext : (n : ℕ) (restriction next : ℕ → ℕ → Type 0) (start : List ℕ) (event : ℕ) → Type 0
PutsNext n restriction next start event = (a d : ℕ) → next a d ↔ (restriction a d ⊎ ((a ≡ event) × (d < n) × ¬ (Stands start d ⊎ (d ≡ event))))

module _ (n : ℕ) (before : ℕ → ℕ → Type 0) (forbidden : ℕ → ℕ → ℕ → Type 0) (restriction next : ℕ → ℕ → Type 0) (start : List ℕ) (event : ℕ) (within : event < n) (left : ¬ Stands start event) (puts : PutsNext n restriction next start event) (restricted : IsRestricted n before forbidden restriction start) where
  as_restriction : (order : List ℕ) → IsOrderOf n next forbidden order → IsOrderOf n restriction forbidden order
  as_restriction order o = IsOrderOf-fewer n next restriction forbidden (λ a d h. (puts a d).1 (inl h)) order o

  -- another event can't come next
  not_other : (y : ℕ) (rest : List ℕ) → IsOrderOf n next forbidden (start ++ y ∷ rest) → ¬ (y ≢ event)
  not_other y rest o other =
      let in_y : y < n = o.complete.only (length start) y (place-middle start rest y) in
      let not_there : ¬ (Stands start y ⊎ (y ≡ event)) = λ s. elim s [
        | inl here ↦
            let same = o.complete.once here.place (length start) y (place-left start (y ∷ rest) here.place y here.at_place) (place-middle start rest y) in
            absurd (omega (arith, same, slice_get_within start here.place y here.at_place))
        | inr same ↦ other same
      ] in
      let s = o.keeps event y ((puts event y).1 (inr (refl, in_y, not_there))) in
      let within : s.first < length start = omega (arith, s.earlier, o.complete.once s.second (length start) y s.second_is (place-middle start rest y)) in
      left (record { place = s.first; at_place = place_from-left start (y ∷ rest) s.first event within s.first_is })

  begins_next : (rest : List ℕ) → IsOrderOf n next forbidden (start ++ rest) → (more : List ℕ) × (start ++ rest ≡ (start ++ event ∷ []) ++ more)
  begins_next [] o =
      let here = o.complete.all event within in
      absurd (left (record { place = here.0; at_place = rw append-nil at here.1 }))
  begins_next (y ∷ rest) o =
      elim (cases_eq y event) [
        | inl same ↦ (rest, ap (λ (x : ℕ). start ++ x ∷ rest) same ∙ sym (append_assoc start (event ∷ []) rest))
        | inr other ↦ absurd (not_other y rest o other)
      ]

  begins : (order : List ℕ) → IsOrderOf n next forbidden order → (rest : List ℕ) × (order ≡ (start ++ event ∷ []) ++ rest)
  begins order o =
      let first = restricted.begins order (as_restriction order o) in
      let more = begins_next first.0 (subst (λ (xs : List ℕ). IsOrderOf n next forbidden xs) first.1 o) in
      (more.0, first.1 ∙ more.1)

  -- what does not stand yet comes after the event
  comes_after : (rest : List ℕ) → IsOrderOf n restriction forbidden (start ++ event ∷ rest) → (d : ℕ) → d < n → ¬ (Stands start d ⊎ (d ≡ event)) → StandsBefore (start ++ event ∷ rest) event d
  comes_after rest o d in_d not_there =
      let here = o.complete.all d in_d in
      let behind : length start < here.0 = elim (cases_order here.0 (length start)) [
        | inl same ↦ absurd (not_there (inr (same_Some d event (sym here.1 ∙ ap (slice_get (start ++ event ∷ rest)) same ∙ place-middle start rest event))))
        | inr apart ↦ elim apart [
          | inl earlier ↦ absurd (not_there (inl (record { place = here.0; at_place = place_from-left start (event ∷ rest) here.0 d earlier here.1 })))
          | inr later ↦ later
        ]
      ] in
      record { first = length start; second = here.0; earlier = behind; first_is = place-middle start rest event; second_is = here.1 }

  all : (rest : List ℕ) → IsOrderOf n before forbidden (start ++ event ∷ rest) → IsOrderOf n next forbidden (start ++ event ∷ rest)
  all rest o =
      let restricted_order = restricted.all (event ∷ rest) o in
      record {
        complete = o.complete;
        keeps = λ a d h. elim ((puts a d).0 h) [
          | inl old ↦ restricted_order.keeps a d old
          | inr put ↦ subst (λ (x : ℕ). StandsBefore (start ++ event ∷ rest) x d) (sym put.0) (comes_after rest restricted_order d put.1 put.2)
        ];
        avoids = o.avoids;
      }

  pub IsRestricted-next : IsRestricted n before forbidden next (start ++ event ∷ [])
  IsRestricted-next = record {
    only = λ order o. restricted.only order (as_restriction order o);
    begins = begins;
    all = λ rest o.
        let regrouped : IsOrderOf n before forbidden (start ++ event ∷ rest) = subst (λ (xs : List ℕ). IsOrderOf n before forbidden xs) (append_assoc start (event ∷ []) rest) o in
        subst (λ (xs : List ℕ). IsOrderOf n next forbidden xs) (sym (append_assoc start (event ∷ []) rest)) (all rest regrouped);
  }

-- the same, of the events placed
pub PutsNext-from_placed : (n m : ℕ) (restriction next : ℕ → ℕ → Type 0) (start : List ℕ) (event : ℕ) (placed more : ℕ → Type 0) → m ≡ n → ((e : ℕ) → placed e ↔ Stands start e) → ((e : ℕ) → more e ↔ (placed e ⊎ (e ≡ event)))
    → ((a d : ℕ) → next a d ↔ (restriction a d ⊎ ((a ≡ event) × (d < m) × ¬ more d))) → PutsNext n restriction next start event
PutsNext-from_placed n m restriction next start event placed more len is_placed with_event pairs a d =
    put_next (rw len at (pairs a d)) (with_event d) (is_placed d)
  where
    put_next : {Next Restriction First Below More Placed Standing Same : Type 0} → Next ↔ (Restriction ⊎ (First × Below × ¬ More)) → More ↔ (Placed ⊎ Same)
        → Placed ↔ Standing → Next ↔ (Restriction ⊎ (First × Below × ¬ (Standing ⊎ Same)))
    put_next next more placed = grind arith

-- where the restriction has no order, no order has the prefix
pub HasNoOrder-restriction : (n m : ℕ) (before : ℕ → ℕ → Type 0) (forbidden : ℕ → ℕ → ℕ → Type 0) (restriction : ℕ → ℕ → Type 0) (start : List ℕ) → m ≡ n → IsRestricted n before forbidden restriction start → ¬ HasOrder m restriction forbidden → HasNoOrder n before forbidden start
HasNoOrder-restriction n m before forbidden restriction start len restricted none rest o =
    none (start ++ rest, subst (λ (x : ℕ). IsOrderOf x restriction forbidden (start ++ rest)) (sym len) (restricted.all rest o))

-- where it has one, some order has the prefix
pub not_HasNoOrder : (n m : ℕ) (before : ℕ → ℕ → Type 0) (forbidden : ℕ → ℕ → ℕ → Type 0) (restriction : ℕ → ℕ → Type 0) (start : List ℕ) → m ≡ n → IsRestricted n before forbidden restriction start → HasOrder m restriction forbidden → ¬ HasNoOrder n before forbidden start
not_HasNoOrder n m before forbidden restriction start len restricted some none =
    let o = subst (λ (x : ℕ). IsOrderOf x restriction forbidden some.0) len some.1 in
    let begins = restricted.begins some.0 o in
    none begins.0 (subst (λ (xs : List ℕ). IsOrderOf n before forbidden xs) begins.1 (restricted.only some.0 o))
