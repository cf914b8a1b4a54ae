use Rattle.lit_solve.proofs.Words.{ArePeers, events_on, Holds, Litmus, subst, ℕ}
use Rattle.lit_solve.proofs.PeerLemmas.{forbidden_ranged}
use Rattle.lit_solve.proofs.problem.Problem.others_among.Goals as goal

pub returns-then-is_empty : goal.returns-then-is_empty
returns-then-is_empty c v =
    let none = c.is_empty.ensures.0 c.if-is_empty.true in
    let are = subst (λ (p : Litmus × ℕ). ArePeers (events_on p) c.self.inside.peers) c.self.view_is c.self.invariant.same_range in (
      (λ there. absurd (none v there)),
      (λ h. absurd (none v ((c.intersection-left.ensures v).1 (
        h.0,
        forbidden_ranged (events_on c.args.self.now) (Holds c.args.frame.now.happens_before.rows) c.args.source c.args.read v c.requires.source
            c.requires.read h.1 h.2 c.self.inside.peers c.successors.result c.successors-2.result c.union-ranged.result are c.successors.ensures
            c.successors-2.ensures c.union-ranged.ensures,
      )))),
    )

pub returns : goal.returns
returns c v =
    let are = subst (λ (p : Litmus × ℕ). ArePeers (events_on p) c.self.inside.peers) c.self.view_is c.self.invariant.same_range in
    let others = (rw c.events-events.ensures.value at c.others_between.ensures) v in (
      (λ there.
          let both = (c.intersection.ensures v).0 there in
          let found = others.0 both.1 in (((c.intersection-left.ensures v).0 both.0).0, found.0, found.1)),
      (λ h. (c.intersection.ensures v).1 (
        (c.intersection-left.ensures v).1 (
          h.0,
          forbidden_ranged (events_on c.args.self.now) (Holds c.args.frame.now.happens_before.rows) c.args.source c.args.read v c.requires.source
              c.requires.read h.1 h.2 c.self.inside.peers c.successors.result c.successors-2.result c.union-ranged.result are c.successors.ensures
              c.successors-2.ensures c.union-ranged.ensures,
        ),
        others.1 (h.1, h.2),
      )),
    )
