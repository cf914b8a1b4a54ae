use Rattle.std.proofs.Common.{◌≡◌, ◌↔◌, Bool, ℕ, List, ap, get_or, subst, ◌∙◌}
use Rattle.std.specs.Prelude.{IsTrue}
use Rattle.lit_paths.specs.ByteReads.{byte_read_at, pair_of}
use Rattle.lit_paths.specs.declared.byte_reads.ByteRead.{ByteRead}
use Rattle.lit_paths.specs.declared.event.Event.{Event}
use Rattle.lit_rel.specs.EventSet.{HasEvent}
use Rattle.lit_solve.specs.Box.{events_on}
use Rattle.lit_solve.proofs.PruningLemmas.{read_listed, read_there}
use Rattle.lit_why.specs.Asked.{is_asked}
use Rattle.lit_why.specs.Attempts.{agree}
use Rattle.lit_why.proofs.cases.attempt_box.sources_at.Goals as goal

abbrev no_read : ByteRead
no_read = record { read = 0; byte = 0 }

pub returns : goal.returns
returns c w =
    let p = c.args.combination.now in
    let events = events_on p in
    let reads = c.byte_reads.result.now in
    let at = get_or reads c.args.place no_read in
    let listed = read_listed events reads c.args.place no_read c.byte_reads.ensures c.requires.place in
    let same : pair_of at ≡ byte_read_at events c.args.place = read_there events c.args.place at listed in
    let all = c.candidates_of-candidates in
    let is : HasEvent c.agreeing.result w
    ↔ (HasEvent all.result w × IsTrue (agree (is_asked p.0 p.1 at.read) events at.byte c.args.source w)) =
    subst (λ (es : List Event). HasEvent c.agreeing.result w
    ↔ (HasEvent all.result w × IsTrue (agree (is_asked p.0 p.1 at.read) es at.byte c.args.source w))) c.events-events.ensures.value
    (subst (λ (asked : Bool). HasEvent c.agreeing.result w
    ↔ (HasEvent all.result w × IsTrue (agree asked c.events-events.result.now at.byte c.args.source w)))
    (c.asks-asked.ensures ∙ ap (λ (r : ℕ). is_asked p.0 p.1 r) c.from.ensures) (c.agreeing.ensures w)) in
    let there : HasEvent c.agreeing.result w
    ↔ (HasEvent all.result w × IsTrue (agree (is_asked p.0 p.1 (byte_read_at events c.args.place).0) events
    (byte_read_at events c.args.place).1 c.args.source w)) =
    subst (λ (q : ℕ × ℕ). HasEvent c.agreeing.result w
    ↔ (HasEvent all.result w × IsTrue (agree (is_asked p.0 p.1 q.0) events q.1 c.args.source w))) same is in (
      λ h. let both = there.0 h in ((all.ensures w).0 both.0, both.1),
      λ both. there.1 ((all.ensures w).1 both.0, both.1),
    )
