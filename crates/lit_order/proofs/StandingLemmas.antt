-- How events stand in a list that has each once.
use Rattle.std.proofs.Common.{◌≢◌, ◌⊎◌, ℕ, ◌<◌, List, sym, ap, ◌∙◌, arith, inl, inr}
use Rattle.std.proofs.lemmas.Bool.{cases_order}
use Rattle.std.proofs.lemmas.Option.{same_Some}
use Rattle.std.specs.List.{slice_get}
use Rattle.lit_order.specs.MemoryOrder.{StandsBefore, IsListOfAll}
use Rattle.lit_order.proofs.CountLemmas.{IsOnce}

module _ (order : List ℕ) (once : IsOnce order) where
  pub StandsBefore-through : (a m d : ℕ) → StandsBefore order a m → StandsBefore order m d → StandsBefore order a d
  StandsBefore-through a m d p q =
      let earlier : p.first < q.second = omega (arith, p.earlier, q.earlier, once p.second q.first m p.second_is q.first_is) in
      record { first = p.first; second = q.second; earlier = earlier; first_is = p.first_is; second_is = q.second_is }

  pub never_before_itself : (a : ℕ) → StandsBefore order a a → ⊥
  never_before_itself a p = absurd (omega (arith, p.earlier, once p.first p.second a p.first_is p.second_is))

-- of two events one stands before the other
pub either_before : (n : ℕ) (order : List ℕ) → IsListOfAll n order → (a d : ℕ) → a < n → d < n → a ≢ d → StandsBefore order a d ⊎ StandsBefore order d a
either_before n order l a d in_a in_d other =
    let first = l.all a in_a in
    let second = l.all d in_d in
    elim (cases_order first.0 second.0) [
      | inl same ↦ absurd (other (same_Some a d (sym first.1 ∙ ap (slice_get order) same ∙ second.1)))
      | inr apart ↦
          elim apart [
            | inl earlier ↦ inl (record { first = first.0; second = second.0; earlier = earlier; first_is = first.1; second_is = second.1 })
            | inr later ↦ inr (record { first = second.0; second = first.0; earlier = later; first_is = second.1; second_is = first.1 })
          ]
    ]
