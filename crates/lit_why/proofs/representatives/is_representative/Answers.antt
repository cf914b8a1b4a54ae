use Rattle.std.proofs.Common.{ℕ, ◌<◌, ◌↔◌, ◌≡◌, Bool, ap, get_or, List, subst, sym, ◌∙◌, not}
use Rattle.std.specs.Prelude.{IsTrue}
use Rattle.std.proofs.lemmas.Bool.{false≢true}
use Rattle.lit_paths.specs.declared.byte_reads.ByteRead.{ByteRead}
use Rattle.lit_paths.specs.declared.event.Event.{Event}
use Rattle.lit_paths.specs.ByteReads.{byte_read_at, pair_of}
use Rattle.lit_paths.specs.Members.{IsCandidate}
use Rattle.lit_rel.specs.EventSet.{HasEvent}
use Rattle.lit_solve.specs.Box.{events_on}
use Rattle.lit_solve.specs.Prunable.{IsRefusedOn}
use Rattle.lit_solve.proofs.PruningLemmas.{read_known, read_listed, read_there}
use Rattle.lit_why.specs.Asked.{is_asked}
use Rattle.lit_why.specs.Attempts.{agree}
use Rattle.lit_why.specs.Internal.Trials.{IsRepresentative}
use Rattle.lit_why.proofs.RepresentativeLemmas.{unless_before}
use Rattle.lit_why.proofs.representatives.is_representative.Goals as goal

abbrev no_read : ByteRead
no_read = record { read = 0; byte = 0 }

pub is_source_refused-requires-clause-read : goal.is_source_refused-requires-clause-read
is_source_refused-requires-clause-read c =
    let events = events_on c.args.combination.now in
    read_known events (c.byte_reads_are_of_events.ensures events) c.byte_reads.result.now c.args.place no_read c.byte_reads.ensures
    c.requires.place

pub returns-then-is_source_refused : goal.returns-then-is_source_refused
returns-then-is_source_refused c =
    let events = events_on c.args.combination.now in
    let reads = c.byte_reads.result.now in
    let listed = read_listed events reads c.args.place no_read c.byte_reads.ensures c.requires.place in
    let same = read_there events c.args.place (get_or reads c.args.place no_read) listed in
    let Refused : ℕ × ℕ → Type 0 = λ p. IsRefusedOn c.args.combination.now p.0 p.1 c.args.source in (
      λ never. absurd (false≢true never),
      λ is. absurd (is.allowed (subst Refused same (c.is_source_refused.ensures.0 c.if-is_source_refused.true))),
    )

pub returns : goal.returns
returns c =
    let p = c.args.combination.now in
    let events = events_on p in
    let reads = c.byte_reads.result.now in
    let at = get_or reads c.args.place no_read in
    let listed = read_listed events reads c.args.place no_read c.byte_reads.ensures c.requires.place in
    let same : pair_of at ≡ byte_read_at events c.args.place = read_there events c.args.place at listed in
    subst (λ (q : ℕ × ℕ). IsTrue (not c.is_stored_before.result) ↔ IsRepresentative p q c.args.source) same
    (unless_before p c.args.candidates (pair_of at) c.args.source c.is_stored_before.result
    (subst (λ (q : ℕ × ℕ). (w : ℕ) → HasEvent c.args.candidates w ↔ IsCandidate events q.0 q.1 w) (sym same) c.requires.exact)
    c.requires.there (λ is. false≢true (sym c.if-is_source_refused.false ∙ c.is_source_refused.ensures.1 is))
    (subst (λ (es : List Event). IsTrue c.is_stored_before.result ↔ ((v : ℕ) × HasEvent c.args.candidates v × (v < c.args.source)
    × IsTrue (agree (is_asked p.0 p.1 at.read) es at.byte v c.args.source))) c.events-events.ensures.value
    (subst (λ (asked : Bool). IsTrue c.is_stored_before.result ↔ ((v : ℕ) × HasEvent c.args.candidates v × (v < c.args.source)
    × IsTrue (agree asked c.events-events.result.now at.byte v c.args.source)))
    (c.asks-asked.ensures ∙ ap (λ (r : ℕ). is_asked p.0 p.1 r) c.from.ensures) c.is_stored_before.ensures)))
