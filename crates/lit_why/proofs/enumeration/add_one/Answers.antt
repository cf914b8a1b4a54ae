use Rattle.std.proofs.Common.{List, subst, sym}
use Rattle.std.proofs.Common.{ℕ}
use Rattle.lit_solve.specs.Box.{box_with}
use Rattle.lit_why.specs.declared.attempt.Attempt.{Attempt}
use Rattle.lit_why.specs.Attempts.{IsOn}
use Rattle.lit_why.specs.Internal.Added.{Adds}
use Rattle.lit_why.specs.Internal.Trials.{TriesIn}
use Rattle.lit_why.proofs.NodeLemmas.{leaf_adds}
use Rattle.lit_why.proofs.enumeration.add_one.Goals as goal

pub returns : goal.returns
returns c =
    let p = c.args.problem.now in
    let box = box_with p c.args.domains.now in
    let sources = c.least_sources-sources.result.items in
    subst (λ (new : List Attempt). Adds p.0 c.args.most (TriesIn box c.args.class) c.args.attempts.now.items new)
    (sym c.in_ok-push.ensures.items)
    (leaf_adds c.laws_below.ensures box c.args.class c.requires.node c.args.most c.args.attempts.now.items sources c.attempt_of.result
    c.requires.room
    c.least_sources-sources.ensures c.requires.can_try
    (subst (λ (ws : List ℕ). IsOn p.0 c.attempt_of.result.choice p.1 ws) c.as_slice.ensures.value c.attempt_of.ensures.on)
    c.attempt_of.ensures.many)
