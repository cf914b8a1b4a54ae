use Rattle.std.proofs.Common.{inl, inr}
use Rattle.std.proofs.lemmas.Bool.{cases_eq}
use Rattle.lit_solve.specs.Box.{box_with}
use Rattle.lit_solve.proofs.PruningLemmas.{source_known}
use Rattle.lit_why.proofs.cases.given.given_source.Goals as goal

pub returns-then-is_empty : goal.returns-then-is_empty
returns-then-is_empty c =
    let box = box_with c.args.problem.now c.args.domains.now in (
      record {
        there = c.in_ok-source.ensures.there;
        alone = λ v there. elim (cases_eq v c.in_ok-source.source) [
          | inl same ↦ same
          | inr other ↦ absurd (c.is_empty.ensures.0 c.if-is_empty.true v ((c.in_ok-source.ensures.rest v).1 (there, other)))
        ];
      },
      source_known box c.requires.is_box c.args.place c.in_ok-source.source c.requires.place c.in_ok-source.ensures.there,
    )
