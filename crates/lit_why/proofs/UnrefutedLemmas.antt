-- When what is given in a box breaks no clause.
use Rattle.std.proofs.Common.{◌≡◌, ◌↔◌, ℕ, Some, None, arith, inl, inr, length, sym}
use Rattle.std.proofs.lemmas.Bool.{cases_lt}
use Rattle.lit_rel.specs.ReadsFrom.{ReadsFromBy}
use Rattle.lit_rel.specs.TearFree.{ReadsWholeBy}
use Rattle.lit_order.specs.MemoryOrder.{HasOrder}
use Rattle.lit_solve.specs.Box.{Box, box_events}
use Rattle.lit_solve.specs.Given.{GivenIn, HappensBeforeIn, IsForbiddenIn}
use Rattle.lit_why.specs.Internal.Refusing.{AreTorn, IsWholeBy}
use Rattle.lit_why.specs.Internal.Relations.{IsCoherentAt}
use Rattle.lit_why.specs.Refutation.{IsRefutation}
use Rattle.lit_why.specs.declared.refusals.causes.Refusal.{Refusal}
use Rattle.lit_why.specs.declared.refusals.causes.Refusal.TheVariants.{BeforeItself, FalseGuard, Incoherent, NoOrder, Torn}
use Rattle.lit_why.specs.declared.refusals.causes.Incoherence.TheVariants.{HiddenBy, ReadFirst}

-- where no two events tear a read, it reads whole from one at the most
pub one_whole : (box : Box) (reads : ℕ → ℕ → Type 0) → ((r w : ℕ) → reads r w ↔ ReadsFromBy (GivenIn box) r w)
    → ((r w v : ℕ) → ¬ AreTorn (box_events box) reads r w v) → (r w v : ℕ) → ReadsWholeBy (box_events box) (GivenIn box) r w
    → ReadsWholeBy (box_events box) (GivenIn box) r v → v ≡ w
one_whole box reads same none r w v one two =
    let first : IsWholeBy (box_events box) reads r w = ((same r w).1 one.reads, one.can) in
    let second : IsWholeBy (box_events box) reads r v = ((same r v).1 two.reads, two.can) in
    elim (cases_lt w v) [
      | inl less ↦ absurd (none r w v (record { first = first; second = second; rising = less }))
      | inr not ↦ elim (cases_lt v w) [
        | inl less ↦ absurd (none r v w (record { first = second; second = first; rising = less }))
        | inr also ↦ omega (arith, not, also)
      ]
    ]

module _ (box : Box) (strict : (e : ℕ) → ¬ HappensBeforeIn box e e) (coherent : (k : ℕ) → IsCoherentAt box k)
    (whole : (r w v : ℕ) → ReadsWholeBy (box_events box) (GivenIn box) r w → ReadsWholeBy (box_events box) (GivenIn box) r v → v ≡ w)
    (order : HasOrder (length (box_events box)) (HappensBeforeIn box) (IsForbiddenIn box)) where
  pub unrefuted : (refusal : Refusal) → ¬ IsRefutation box refusal
  unrefuted (FalseGuard agent place) h = h
  unrefuted (BeforeItself event) h = strict event h
  unrefuted (Incoherent r b w ReadFirst) h = (coherent h.0.place r b w h.0.is_read h.0.alone).not_later h.1
  unrefuted (Incoherent r b w (HiddenBy v)) h = (coherent h.0.place r b w h.0.is_read h.0.alone).not_hidden v h.1
  unrefuted (Torn r w v) h = h.2 (sym (whole r w v h.0 h.1))
  unrefuted NoOrder h = h order
