use Rattle.std.proofs.Common.{arith, ap, sym, ◌∙◌, subst, length, List, ℕ, ◌+◌, ◌≤◌}
use Rattle.lit_paths.specs.declared.event.Event.{Event}
use Rattle.lit_paths.specs.Event.{event_at}
use Rattle.lit_paths.specs.Choice.{candidates_of}
use Rattle.lit_paths.specs.Plan.{events_in}
use Rattle.lit_paths.specs.Members.{ListsCandidates}
use Rattle.lit_paths.specs.declared.limits.TheConstants.{EVENT_LIMIT}
use Rattle.lit_paths.proofs.Candidates.{length-candidates_from}
use Rattle.lit_paths.proofs.PlanFacts.{lists-candidates}
use Rattle.lit_paths.proofs.planning.Plan.candidates.Goals as goal

pub candidates_of-requires : goal.candidates_of-requires
candidates_of-requires c =
    let few : length c.as_slice-events.result.now ≤ EVENT_LIMIT = omega (arith, ap length c.as_slice-events.ensures.value, c.events-events.ensures.sound.few) in
    (omega arith, (few, omega (arith, few, length-candidates_from (c.args.read, c.event_at.result.now.first + c.args.byte) 0 c.as_slice-events.result.now)))

pub returns : goal.returns
returns c =
    let same = c.as_slice-events.ensures.value ∙ c.events-events.ensures.value in
    let all = events_in c.args.self.now c.args.combination in
    let first = ap (λ (e : Event). e.first) c.event_at.ensures ∙ ap (λ n. (event_at c.as_slice-events.result.now n).first) c.from.ensures ∙ ap (λ (es : List Event). (event_at es c.args.read).first) same in
    subst (λ (ws : List ℕ). ListsCandidates all c.args.read ((event_at all c.args.read).first + c.args.byte) ws)
    (sym (c.candidates_of.ensures ∙ ap (λ (es : List Event). candidates_of es (c.args.read, c.event_at.result.now.first + c.args.byte)) same
    ∙ ap (λ f. candidates_of all (c.args.read, f + c.args.byte)) first))
    (lists-candidates all c.args.read ((event_at all c.args.read).first + c.args.byte))
