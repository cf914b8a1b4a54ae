use Rattle.lit_solve.proofs.Words.{events_on, write_known}
use Rattle.lit_solve.proofs.PruningLemmas.{some_exactly}
use Rattle.lit_solve.proofs.problem.Problem.is_forced_between.Goals as goal

pub returns : goal.returns
returns c =
    let forced = c.args.frame.now.forced in
    let some = some_exactly c.others_among.result c.is_empty.result c.is_empty.ensures in (
      (λ t.
          let found = some.0 t in
          let other = (c.others_among.ensures found.0).0 found.1 in
          let between = (c.intersection-between.ensures found.0).0 other.0 in (
            found.0,
            other.2,
            (c.successors-after.ensures found.0).0 between.0,
            (forced.same.pairs found.0 c.args.read).0 ((c.successors.ensures found.0).0 between.1),
          )),
      (λ h. some.1 (
        h.0,
        (c.others_among.ensures h.0).1 (
          (c.intersection-between.ensures h.0).1
              ((c.successors-after.ensures h.0).1 h.2, (c.successors.ensures h.0).1 ((forced.same.pairs h.0 c.args.read).1 h.3)),
          write_known (events_on c.args.self.now) h.0 h.1.writes,
          h.1,
        ),
      )),
    )
