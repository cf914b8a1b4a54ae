use Rattle.std.proofs.Common.{ℕ, arith, subst, sym, ◌∙◌}
use Rattle.std.proofs.lemmas.Bool.{false≢true}
use Rattle.std.proofs.lemmas.Result.{on_ok_weaker}
use Rattle.lit_syntax.specs.Syntax.{Litmus}
use Rattle.lit_solve.specs.Box.{box_with}
use Rattle.lit_why.specs.Internal.Domains.{AreDomainsBy}
use Rattle.lit_why.specs.Internal.Trials.{IsLeastTryOn, IsRepresentative, TriesIn}
use Rattle.lit_why.proofs.AddedLemmas.{adds_none, adds_same}
use Rattle.lit_why.proofs.AttemptLemmas.{first_by}
use Rattle.lit_why.proofs.DomainLemmas.{box_by}
use Rattle.lit_why.proofs.NodeLemmas.{tries_at}
use Rattle.lit_why.proofs.TrialLemmas.{events_are}
use Rattle.lit_why.proofs.enumeration.add_on.Goals as goal

pub returns-then-has_empty : goal.returns-then-has_empty
returns-then-has_empty c =
    let p = c.args.problem.now in
    let domains = c.representatives-domains.result in
    let box = box_with p domains in
    let by = subst (λ (q : Litmus × ℕ). AreDomainsBy q (IsRepresentative q) domains) c.combination-2.ensures
    c.representatives-domains.ensures in
    let sound = events_are p c.combination.result.now c.events-events.result.now c.events-events.ensures.value
    c.events-events.ensures.sound c.combination.ensures in
    let empty = c.has_empty.ensures.0 c.if-has_empty.true in
    adds_none p.0 c.args.most (IsLeastTryOn p.0 c.args.class p.1) c.args.attempts.now.items c.requires.few (λ n first.
    let tries = (first_by c.laws_below.ensures c.refused_bytes_make_guards_false.ensures p c.args.class c.requires.known sound domains by
    n).1 first in
    let at = tries_at c.laws_below.ensures box c.args.class empty.0 n tries empty.1 in
    absurd (empty.2 _ (tries.lies empty.0 _ at)))

pub add-requires-clause-node : goal.add-requires-clause-node
add-requires-clause-node c =
    let p = c.args.problem.now in
    let domains = c.representatives-domains.result in
    let by = subst (λ (q : Litmus × ℕ). AreDomainsBy q (IsRepresentative q) domains) c.combination-2.ensures
    c.representatives-domains.ensures in
    record {
      is_box = box_by p (IsRepresentative p) domains c.requires.litmus c.requires.known by (λ read w is. is.candidate);
      some = λ empty. false≢true (sym c.if-has_empty.false ∙ c.has_empty.ensures.1 empty);
      within = omega arith;
      alone = λ k below. absurd (omega (arith, below));
    }

pub returns : goal.returns
returns c =
    let p = c.args.problem.now in
    let domains = c.representatives-domains.result in
    let box = box_with p domains in
    let by = subst (λ (q : Litmus × ℕ). AreDomainsBy q (IsRepresentative q) domains) c.combination-2.ensures
    c.representatives-domains.ensures in
    let sound = events_are p c.combination.result.now c.events-events.result.now c.events-events.ensures.value
    c.events-events.ensures.sound c.combination.ensures in
    on_ok_weaker c.add.result (λ adds.
    adds_same p.0 c.args.most (TriesIn box c.args.class)
    (IsLeastTryOn p.0 c.args.class p.1) c.args.attempts.now.items c.add.new.attempts.items
    (first_by c.laws_below.ensures c.refused_bytes_make_guards_false.ensures p c.args.class c.requires.known sound domains by) adds)
    c.add.ensures
