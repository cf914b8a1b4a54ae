use Rattle.lit_solve.proofs.Words.{box_with, event_or_not, inl, inr, sym}
use Rattle.lit_solve.proofs.ReadValueLemmas.{undecided_by}
use Rattle.lit_solve.proofs.PruningLemmas.{source_known}
use Rattle.lit_solve.proofs.problem.Problem.has_other_byte.Goals as goal

pub storing_same-matching-requires-clause-source : goal.storing_same-matching-requires-clause-source
storing_same-matching-requires-clause-source c =
    source_known (box_with c.args.self.now c.args.domains.now) c.requires.is_box c.args.place c.args.source c.requires.place c.requires.there

pub storing_same-matching-requires-clause-known : goal.storing_same-matching-requires-clause-known
storing_same-matching-requires-clause-known c w there =
    source_known (box_with c.args.self.now c.args.domains.now) c.requires.is_box c.args.place w c.requires.place there

pub returns-in-Some : goal.returns-in-Some
returns-in-Some c =
    let box = box_with c.args.self.now c.args.domains.now in
    let other = c.in-Some._other.0 in
    let differs = (c.difference.ensures other).0 c.in-Some.ensures.there in
    undecided_by box c.args.place c.args.source other c.requires.place c.requires.there differs.0
    (λ same. differs.1 ((c.storing_same-matching.ensures other).1 (differs.0, sym same)))

pub returns-in-None : goal.returns-in-None
returns-in-None c w there =
    elim (event_or_not c.storing_same-matching.result w) [
      | inl matching ↦ ((c.storing_same-matching.ensures w).0 matching).1
      | inr other ↦ absurd (c.in-None.ensures w ((c.difference.ensures w).1 (there, other)))
    ]
