use Rattle.lit_solve.proofs.Words.{inl, inr}
use Rattle.lit_solve.proofs.problem.Problem.unsettled_others.Goals as goal

pub returns : goal.returns
returns c v =
    let forced = c.args.frame.now.forced in
    let others = c.others_among.ensures v in
    let unsettled = c.difference-unsettled.ensures v in
    let all = rw c.events.ensures.value at c.below.ensures in (
      (λ there.
          let found = others.0 there in
          let out = (unsettled.0 found.0).1 in (
            found.1,
            found.2,
            record {
              not_after = λ after. out ((c.union.ensures v).1 (inl ((c.with-after.ensures v).1 (inl ((c.successors.ensures v).1 after)))));
              not_earlier = λ earlier. out ((c.union.ensures v).1 (inr ((c.with-earlier.ensures v).1 (inl ((c.successors-2.ensures v).1
                  ((forced.same.pairs v c.args.source).1 earlier))))));
            },
          )),
      (λ h. others.1 (
        unsettled.1 (
          (all v).1 h.0,
          λ settled. elim ((c.union.ensures v).0 settled) [
            | inl after ↦ elim ((c.with-after.ensures v).0 after) [
              | inl there ↦ h.2.not_after ((c.successors.ensures v).0 there)
              | inr same ↦ h.1.not_read same
            ]
            | inr earlier ↦ elim ((c.with-earlier.ensures v).0 earlier) [
              | inl there ↦ h.2.not_earlier ((forced.same.pairs v c.args.source).0 ((c.successors-2.ensures v).0 there))
              | inr same ↦ h.1.not_source same
            ]
          ],
        ),
        h.0,
        h.1,
      )),
    )
