use Rattle.std.proofs.Common.{inl, inr, refl}
use Rattle.std.proofs.lemmas.Bool.{false≢true}
use Rattle.lit_rel.specs.Rows.{Holds}
use Rattle.lit_rel.proofs.PartLemmas.{given_order}
use Rattle.lit_rel.proofs.RaceLemmas.{data_race-iff}
use Rattle.lit_rel.proofs.part.Part.race.Goals as goal

pub returns-then-has_racing_read : goal.returns-then-has_racing_read
returns-then-has_racing_read c =
    let given = c.given-given.result in
    let order = given_order _ c.args.self.now _ c.self.view_is c.self.invariant.at_all _ _ c.given-given.ensures.events c.given-given.ensures.sources in
    let is = data_race-iff given.events.now given.bytes.now given.first_reads (Holds c.self.inside.prefix_state.before.rows) _ order.pairs in
    ((λ _. rw (c.given-given.ensures.events, c.given-given.ensures.sources) at (is.0 (inl (c.if-has_racing_read.ensures.0 refl)))), (λ _. c.if-has_racing_read.true))

pub returns-else-has_racing_read : goal.returns-else-has_racing_read
returns-else-has_racing_read c =
    let given = c.given-given.result in
    let order = given_order _ c.args.self.now _ c.self.view_is c.self.invariant.at_all _ _ c.given-given.ensures.events c.given-given.ensures.sources in
    let is = data_race-iff given.events.now given.bytes.now given.first_reads (Holds c.self.inside.prefix_state.before.rows) _ order.pairs in (
      (λ h. rw (c.given-given.ensures.events, c.given-given.ensures.sources) at (is.0 (inr (c.has_racing_writes.ensures.0 h)))),
      (λ race. elim (is.1 (rw (c.given-given.ensures.events, c.given-given.ensures.sources) race)) [
        | inl reads ↦ absurd (false≢true (c.if-has_racing_read.ensures.1 reads))
        | inr writes ↦ c.has_racing_writes.ensures.1 writes
      ]),
    )
