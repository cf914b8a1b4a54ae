use Rattle.lit_solve.proofs.Words.{◌<◌, arith, Box, box_with, byte_read_at, byte_reads, common_steps, event_or_not, events_on, HasEvent}
use Rattle.lit_solve.proofs.Words.{HasSource, inl, inr, IsBox, IsProblem, IsPrunable, IsRefusedOn, length, length-set, Litmus, Prunes, subst, sym}
use Rattle.lit_solve.proofs.Words.{ℕ, ◌∙◌, ◌≡◌, ◌⊎◌}
use Rattle.lit_solve.proofs.DomainLemmas.{pruned_at, pruned_is_box, prunes, prunes_on, source_other}
use Rattle.lit_solve.proofs.FrameLemmas.{below_or_last, not_true}
use Rattle.lit_solve.proofs.PruningLemmas.{source_known}
use Rattle.lit_solve.proofs.problem.Problem.consistent.Goals as goal
use Rattle.lit_solve.proofs.problem.Problem.consistent.Goals.{After-difference}

-- the box of the domains so far, and what is left of the next one
abbrev box_so_far : After-difference → Box
box_so_far c = box_with c.args.self.now c.loop-place.left

abbrev next_box : After-difference → Box
next_box c = pruned_at (box_so_far c) c.loop-place.place c.difference.result

inside : (c : After-difference) → c.loop-place.place < length (byte_reads (events_on c.args.self.now))
inside c = omega (arith, c.reads-place-end.ensures.value, c.loop-place-test.true)

room : (c : After-difference) → c.loop-place.place < length (box_so_far c).domains
room c = omega (arith, c.loop-place.invariant.len, c.reads-place-end.ensures.few, c.loop-place-test.true)

within : (c : After-difference) (w : ℕ) → HasEvent c.difference.result w → HasSource (box_so_far c) c.loop-place.place w
within c w there = ((c.difference.ensures w).0 there).0

next_is_box : (c : After-difference) → IsBox (next_box c)
next_is_box c = pruned_is_box (box_so_far c) c.loop-place.place c.difference.result (room c) (within c) c.loop-place.invariant.is_box

next_prunes : (c : After-difference) → Prunes (box_with c.args.self.now c.args.domains.now) (next_box c)
next_prunes c = prunes_on (box_with c.args.self.now c.args.domains.now) (box_so_far c) (next_box c) c.loop-place.invariant.prunes
    (prunes (box_so_far c) c.loop-place.place c.difference.result (room c) c.loop-place.invariant.is_box is.sound
    (c.completions_have_no_prunable_source.ensures (box_so_far c)) (inside c) prunable (within c))
  where
    is : IsProblem c.args.self.now c.self.inside.candidates c.self.inside.peers c.self.inside.names.now c.self.inside.guarded
    is = subst (λ (q : Litmus × ℕ). IsProblem q c.self.inside.candidates c.self.inside.peers c.self.inside.names.now c.self.inside.guarded)
        c.self.view_is c.self.invariant

    read : ℕ × ℕ
    read = byte_read_at (events_on c.args.self.now) c.loop-place.place

    refuses : (w : ℕ) → HasEvent c.refused_among.result w → IsRefusedOn c.args.self.now read.0 read.1 w
    refuses w refused =
        subst (λ (q : Litmus × ℕ). IsRefusedOn q (byte_read_at (events_on q) c.loop-place.place).0 (byte_read_at (events_on q) c.loop-place.place).1 w)
        c.self.view_is ((c.refused_among.ensures w).0 refused).1

    prunable : (w : ℕ) → HasSource (box_so_far c) c.loop-place.place w → ¬ HasEvent c.difference.result w → IsPrunable (box_so_far c) read.0 read.1 w
    prunable w there lost = elim (event_or_not _ w) [
      | inl refused ↦ inl (refuses w refused)
      | inr is_refused ↦ absurd (lost ((c.difference.ensures w).1 (there, is_refused)))
    ]

pub loop-place-init : goal.loop-place-init
loop-place-init c = grind (arith, common_steps, prunes)

pub refused_among-requires-clause-known : goal.refused_among-requires-clause-known
refused_among-requires-clause-known c w there =
    subst (λ (q : Litmus × ℕ). w < length (events_on q)) (sym c.self.view_is)
    (source_known (box_with c.args.self.now c.loop-place.left) c.loop-place.invariant.is_box c.loop-place.place w
    (omega (arith, c.reads-place-end.ensures.value, c.loop-place-test.true)) there)

pub returns-then-is_empty-clause-none : goal.returns-then-is_empty-clause-none
returns-then-is_empty-clause-none c x is =
    let at = (goal.at.returns-then-is_empty-clause-none c).After-difference in
    let none : (w : ℕ) → ¬ HasSource (next_box at) c.loop-place.place w = c.is_empty.ensures.0 c.if-is_empty.true in
    c.refuted_boxes_have_no_completion.ensures (next_box at) x (next_is_box at) (inr (inl (c.loop-place.place, inside at, none)))
    ((next_prunes at).retained x is)

pub loop-place-preserved : goal.loop-place-preserved
loop-place-preserved c = record {
  len = length-set c.loop-place.left c.loop-place.place c.difference.result ∙ c.loop-place.invariant.len;
  is_box = next_is_box at;
  prunes = next_prunes at;
  some = λ k below none. some k none (below_or_last k c.loop-place.place below);
}
  where
    at : After-difference
    at = (goal.at.loop-place-preserved c).After-difference

    some : (k : ℕ) → ((w : ℕ) → ¬ HasSource (next_box at) k w) → (k < c.loop-place.place) ⊎ (k ≡ c.loop-place.place) → ⊥
    some k none (inl earlier) =
        c.loop-place.invariant.some k earlier
        (λ w there. none w (source_other (box_so_far at) c.loop-place.place c.difference.result (room at) k w (omega (arith, earlier)) there))
    some k none (inr here) =
        not_true c.is_empty.result c.if-is_empty.false
        (c.is_empty.ensures.1 (λ w there. none w (subst (λ (j : ℕ). HasSource (next_box at) j w) (sym here) there)))
