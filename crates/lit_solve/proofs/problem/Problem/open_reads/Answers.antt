use Rattle.lit_solve.proofs.Words.{◌+◌, ◌<◌, ap, AreOpenReads, arith, box_with, get_or, inl, inr, IsListed, IsValueBeside, length, List}
use Rattle.lit_solve.proofs.Words.{Litmus, names_of, None, OpenRead, Option, refl, Some, subst, sym, ℕ, ◌∙◌, ◌≡◌, ◌≢◌}
use Rattle.lit_solve.proofs.FillLemmas.{sources_lie}
use Rattle.lit_solve.proofs.OpenReadLemmas.{register_reads, values_more}
use Rattle.lit_solve.proofs.ProductLemmas.{outcome_at, outcome_unobserved}
use Rattle.lit_solve.proofs.problem.Problem.open_reads.Goals as goal
use Rattle.lit_solve.proofs.problem.Problem.open_reads.Goals.{in-Some+then-not-is_listed+in-Known, in-Some+then-not-is_listed+in-Open+in_ok-list_read-in-Open}
use Rattle.lit_solve.proofs.problem.Problem.open_reads.Goals.{in-Some+else-not-is_listed, in_default}

pub list_read-requires-clause-observed : goal.list_read-requires-clause-observed
list_read-requires-clause-observed c =
    let names = c.self.invariant.named ∙ ap (λ (p : Litmus × ℕ). names_of p.0) c.self.view_is in (
      c.loop-i.i,
      record {
        inside = omega (arith, c.loop-i-test.true, ap (λ (ns : List (ℕ × ℕ)). length ns) names);
        reads = register_reads c.self.inside.combination c.self.inside.names.now c.args.self.now c.loop-i.i c.observed_read.result c.self.invariant.named
            c.self.view_is c.observed_read.ensures.value ∙ c.in-Some.is;
      },
    )

none_is : (read : Option ℕ) → ((r : ℕ) → read ≢ Some r) → read ≡ None
none_is None other = refl
none_is (Some r) other = absurd (other r refl)

pub loop-i-preserved : goal.loop-i-preserved
loop-i-preserved c =
    let box = box_with c.args.self.now c.args.domains.now in
    let i = c.loop-i.i in
    let names = c.self.invariant.named ∙ ap (λ (p : Litmus × ℕ). names_of p.0) c.self.view_is in
    let inside : c.loop-i.i < length (names_of c.args.self.now.0) = omega (arith, c.loop-i-test.true, ap (λ (ns : List (ℕ × ℕ)). length ns) names) in
    let reads = register_reads c.self.inside.combination c.self.inside.names.now c.args.self.now c.loop-i.i c.observed_read.result c.self.invariant.named
    c.self.view_is c.observed_read.ensures.value in
    let with_value = λ (now : List OpenRead) (stays : (r : ℕ) → IsListed c.loop-i.reads.items r → IsListed now r)
    (last : IsValueBeside box now i c.match-observed_read.value).
    values_more box c.loop-i.reads.items now c.loop-i.values.items c.push.new.self.items c.match-observed_read.value i stays
    c.loop-i.invariant.count c.loop-i.invariant.each last c.push.ensures.items in
    let count : length c.push.new.self.items ≡ c.loop-i.i + 1 = omega (arith, c.push.ensures.len, c.loop-i.invariant.count) in
    let Goes = λ (rs : List OpenRead). AreOpenReads box rs × ((j : ℕ) → j < i + 1 → IsValueBeside box rs j (get_or c.push.new.self.items j 0)) in
    let goes = λ (now : List OpenRead) (its : Goes now) (same : c.match-observed_read.reads.items ≡ now). subst Goes (sym same) its in
    let kept = λ (last : IsValueBeside box c.loop-i.reads.items i c.match-observed_read.value).
    goes c.loop-i.reads.items (c.loop-i.invariant.reads, with_value c.loop-i.reads.items (λ r listed. listed) last) in
    let all : Goes c.match-observed_read.reads.items =
    elim c.match-observed_read.branch [
      | in-Some+then-not-is_listed+in-Known w ↦ kept (inr (λ x is.
          outcome_at c.laws_below.ensures box c.requires.independent x is w.in-Some.read i (record { inside = inside; reads = reads ∙ w.in-Some.is })
          ∙ w.in-Known.ensures x.sources (sources_lie box x is) ∙ sym w.value-is)) (ap (λ v. v.items) w.reads-is)
      | in-Some+then-not-is_listed+in-Open+in_ok-list_read-in-Open w ↦ goes w.list_read.new.reads.items (
        w.in_ok-list_read-in-Open.ensures.reads,
        with_value w.list_read.new.reads.items w.in_ok-list_read-in-Open.ensures.stays
            (inl (w.in-Some.read, record { inside = inside; reads = reads ∙ w.in-Some.is }, w.in_ok-list_read-in-Open.ensures.listed)),
      ) (ap (λ v. v.items) w.reads-is)
      | in-Some+else-not-is_listed w ↦ kept (inl (
        w.in-Some.read,
        record { inside = inside; reads = reads ∙ w.in-Some.is },
        subst (λ (rs : List OpenRead). IsListed rs w.in-Some.read) w.as_slice.ensures.value (w.is_listed.ensures.0 w.if-not-is_listed.false),
      )) (ap (λ v. v.items) w.reads-is)
      | in_default w ↦ kept (inr (λ x is.
          outcome_unobserved c.laws_below.ensures box c.requires.independent x is i inside (reads ∙ none_is c.observed_read.result w.in_default.not-Some)
          ∙ sym w.value-is)) (ap (λ v. v.items) w.reads-is)
    ] in
    record { reads = all.0; count = count; each = all.1 }

pub returns-clause-values : goal.returns-clause-values
returns-clause-values c =
    let names = c.self.invariant.named ∙ ap (λ (p : Litmus × ℕ). names_of p.0) c.self.view_is in
    record {
      long = omega (arith, c.loop-i.invariant.count, c.loop-i.auto.i-end, c.loop-i-test.false, ap (λ (ns : List (ℕ × ℕ)). length ns) names);
      each = λ j below. c.loop-i.invariant.each j (omega (arith, below, c.loop-i.invariant.count));
    }
