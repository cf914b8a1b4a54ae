use Rattle.lit_solve.proofs.Words.{◌+◌, ◌++◌, ◌<◌, [], ap, arith, length, length-append, List, Litmus, names_of, Observes, same_Some}
use Rattle.lit_solve.proofs.Words.{slice_get, Some, subst, sym, ℕ, ◌↔◌, ◌∙◌, ◌∷◌, ◌≡◌}
use Rattle.lit_solve.proofs.OpenReadLemmas.{register_new, register_other, register_reads}
use Rattle.lit_solve.proofs.problem.Problem.registers_of.Goals as goal
use Rattle.lit_solve.proofs.problem.Problem.registers_of.Goals.{in-Some+then-observed-from, in-Some+else-observed-from, in_default}

pub loop-i-preserved : goal.loop-i-preserved
loop-i-preserved c =
    let i = c.loop-i.i in
    let is = register_reads c.self.inside.combination c.self.inside.names.now c.args.self.now i c.observed_read.result c.self.invariant.named c.self.view_is c.observed_read.ensures.value in
    let inside : c.loop-i.i < length (names_of c.args.self.now.0) =
    omega (arith, c.loop-i-test.true, ap (λ (ns : List (ℕ × ℕ)). length ns) (c.self.invariant.named ∙ ap (λ (p : Litmus × ℕ). names_of p.0) c.self.view_is)) in
    let kept = λ (items : c.match-observed_read.places.items ≡ c.loop-i.places.items) (other : ¬ Observes c.args.self.now c.args.read i).
    subst (λ (ns : List ℕ). (j : ℕ) → ((k : ℕ) × (slice_get ns k ≡ Some j)) ↔ ((j < i + 1) × Observes c.args.self.now c.args.read j))
    (sym items) (register_other c.args.self.now c.args.read i c.loop-i.places.items c.loop-i.invariant.are other) in
    elim c.match-observed_read.branch [
      | in-Some+then-observed-from w ↦
          (let items : c.match-observed_read.places.items ≡ c.loop-i.places.items ++ c.loop-i.i ∷ [] = ap (λ v. v.items) w.places-is ∙ w.push.ensures.items in
          let observes : Observes c.args.self.now c.args.read c.loop-i.i = record {
            inside = inside;
            reads = is ∙ w.in-Some.is ∙ ap (λ (r : ℕ). Some r) (w.if-observed-from.true ∙ w.from.ensures);
          } in
          record {
            few = omega (arith, ap (λ (ns : List ℕ). length ns) items, length-append c.loop-i.places.items (c.loop-i.i ∷ []), c.loop-i.invariant.few);
            are = subst (λ (ns : List ℕ). (j : ℕ) → ((k : ℕ) × (slice_get ns k ≡ Some j)) ↔ ((j < c.loop-i.i + 1) × Observes c.args.self.now c.args.read j))
                (sym items) (register_new c.args.self.now c.args.read c.loop-i.i c.loop-i.places.items c.loop-i.invariant.are observes);
          })
      | in-Some+else-observed-from w ↦
          (let items : c.match-observed_read.places.items ≡ c.loop-i.places.items = ap (λ v. v.items) w.places-is in
          record {
            few = omega (arith, ap (λ (ns : List ℕ). length ns) items, c.loop-i.invariant.few);
            are = kept items (λ observes.
                w.if-observed-from.false (same_Some w.in-Some.observed c.args.read (sym w.in-Some.is ∙ sym is ∙ observes.reads) ∙ sym w.from.ensures));
          })
      | in_default w ↦
          (let items : c.match-observed_read.places.items ≡ c.loop-i.places.items = ap (λ v. v.items) w.places-is in
          record {
            few = omega (arith, ap (λ (ns : List ℕ). length ns) items, c.loop-i.invariant.few);
            are = kept items (λ observes. w.in_default.not-Some c.args.read (sym is ∙ observes.reads));
          })
    ]

pub returns : goal.returns
returns c j = (
  λ member. ((c.loop-i.invariant.are j).0 member).1,
  λ observes. (c.loop-i.invariant.are j).1 (
    omega (
      arith,
      observes.inside,
      c.loop-i-test.false,
      ap (λ (ns : List (ℕ × ℕ)). length ns) (c.self.invariant.named ∙ ap (λ (p : Litmus × ℕ). names_of p.0) c.self.view_is),
    ),
    observes,
  ),
)
