use Rattle.std.proofs.Common.{◌≡◌, ◌<◌, ◌+◌, ◌/◌, ◌%◌, ◌++◌, arith, refl, ap, sym, subst, ◌∙◌, length, map, drop, List}
use Rattle.std.specs.List.{range_with_len}
use Rattle.lit_paths.specs.declared.limits.TheConstants.{EVENT_LIMIT}
use Rattle.std.proofs.lemmas.List.FromFn.{length-map-range_with_len}
use Rattle.lit_paths.specs.declared.event.Event.{Event}
use Rattle.lit_paths.specs.Choice.{combinations_of}
use Rattle.lit_paths.specs.Event.{init_events}
use Rattle.lit_paths.specs.Plan.{AreEventsIn, first_event}
use Rattle.lit_paths.specs.Internal.Combining.{walk_number}
use Rattle.lit_paths.proofs.AgentPaths.{count_of-some}
use Rattle.lit_paths.proofs.Walks.{walks_of-some}
use Rattle.lit_syntax.specs.Syntax.{agent_of}
use Rattle.lit_paths.proofs.CombinedPaths.{count_of-combinations, events_whole, numbered_is, next_path_is, joined_none, joined_more, accesses_room, IsNextPath}
use Rattle.lit_paths.proofs.EventFacts.{are_events}
use Rattle.lit_paths.proofs.combination.paths.join.Goals as goal

pub loop-agent-init : goal.loop-agent-init
loop-agent-init c =
    joined_none c.args.paths.now c.args.combination c.combinations-later.result _ _ _ c.combinations-later.ensures.value c.clear.ensures c.clear-2.ensures
    (c.make_events.ensures ∙ ap init_events (c.bytes.ensures.value ∙ ap (λ t. t.bytes) c.test.ensures))

pub nonzero_div-later : goal.nonzero_div-later
nonzero_div-later c = omega (arith, c.count-count.ensures, walks_of-some (agent_of c.args.paths.now c.loop-agent.agent).body)

pub nonzero_div-number : goal.nonzero_div-number
nonzero_div-number c =
    omega (
      arith,
      (numbered_is c.args.paths.now c.args.combination c.loop-agent.agent c.count-count.result c.loop-agent.later _ _ _ _ (omega (arith, c.loop-agent-test.true, c.agents-agent-end.ensures.value, ap (λ t. length t.agents) c.test-2.ensures)) c.count-count.ensures refl c.loop-agent.invariant).0,
      count_of-some (drop (c.loop-agent.agent + 1) c.args.paths.now.agents),
    )

pub nonzero_rem-number : goal.nonzero_rem-number
nonzero_rem-number c = omega (arith, c.count-count.ensures, walks_of-some (agent_of c.args.paths.now c.loop-agent.agent).body)

pub push-requires : goal.push-requires
push-requires c = (
  omega arith,
  omega (
    arith,
    ap length c.loop-agent.invariant.all_numbers,
    length-map-range_with_len (walk_number c.args.paths.now c.args.combination) 0 c.loop-agent.agent,
    c.loop-agent-test.true,
    c.agents-agent-end.ensures.value,
    ap (λ t. length t.agents) c.test-2.ensures,
    c.combinations-later.ensures.limits.litmus.few_agents,
  ),
)

pub push-requires-in-loop-agent : goal.push-requires-in-loop-agent
push-requires-in-loop-agent c = (
  omega arith,
  omega (
    arith,
    ap length c.loop-agent.invariant.all_firsts,
    length-map-range_with_len (first_event c.args.paths.now c.args.combination) 0 c.loop-agent.agent,
    c.loop-agent-test.true,
    c.agents-agent-end.ensures.value,
    ap (λ t. length t.agents) c.test-2.ensures,
    c.combinations-later.ensures.limits.litmus.few_agents,
  ),
)

pub path-requires-clause-number : goal.path-requires-clause-number
path-requires-clause-number c =
    let some : 0 < c.count-count.result = omega (arith, c.count-count.ensures, walks_of-some (agent_of c.args.paths.now c.loop-agent.agent).body) in
    omega (arith, some, c.count-count.ensures)

pub returns-clause-combination_paths : goal.returns-clause-combination_paths
returns-clause-combination_paths c =
    let all : c.loop-agent.agent ≡ length c.args.paths.now.agents =
    omega (arith, c.loop-agent-test.false, c.agents-agent-end.ensures.value, ap (λ t. length t.agents) c.test-2.ensures, c.loop-agent.auto.agent-end) in
    record {
      numbers = c.loop-agent.invariant.all_numbers ∙ ap (λ n. map (walk_number c.args.paths.now c.args.combination) (range_with_len 0 n)) all;
      firsts = c.loop-agent.invariant.all_firsts ∙ ap (λ n. map (first_event c.args.paths.now c.args.combination) (range_with_len 0 n)) all;
      events = events_whole c.args.paths.now c.args.combination c.loop-agent.agent c.loop-agent.combination_paths.events.items (omega (arith, c.requires, count_of-combinations c.args.paths.now)) all c.loop-agent.invariant.all_events;
    }

pub returns-clause-sound : goal.returns-clause-sound
returns-clause-sound c =
    let known : c.args.combination < length (combinations_of c.args.paths.now) = omega (arith, c.requires, count_of-combinations c.args.paths.now) in
    let all : c.loop-agent.agent ≡ length c.args.paths.now.agents =
    omega (arith, c.loop-agent-test.false, c.agents-agent-end.ensures.value, ap (λ t. length t.agents) c.test-2.ensures, c.loop-agent.auto.agent-end) in
    subst (λ (es : List Event). AreEventsIn c.args.paths.now.bytes es)
    (sym (events_whole c.args.paths.now c.args.combination c.loop-agent.agent c.loop-agent.combination_paths.events.items known all c.loop-agent.invariant.all_events))
    (are_events c.args.paths.now c.args.combination c.combinations-later.ensures.limits.litmus c.combinations-later.ensures.limits.short.short known)

pub push_events-requires : goal.push_events-requires
push_events-requires c =
    let known : c.args.combination < length (combinations_of c.args.paths.now) = omega (arith, c.requires, count_of-combinations c.args.paths.now) in
    let inside : c.loop-agent.agent < length c.args.paths.now.agents = omega (arith, c.loop-agent-test.true, c.agents-agent-end.ensures.value, ap (λ t. length t.agents) c.test-2.ensures) in
    let next : IsNextPath c.args.paths.now c.args.combination c.loop-agent.agent c.count-count.result c.loop-agent.later (c.loop-agent.later / c.count-count.result) (c.args.combination / (c.loop-agent.later / c.count-count.result) % c.count-count.result) (length c.loop-agent.combination_paths.events.items) c.loop-agent.combination_paths.events.items c.path.result.now (c.loop-agent.combination_paths.events.items ++ c.path.result.now.events) = record { known = known; inside = inside; counted = c.count-count.ensures; left_is = refl; number_is = refl; first_is = refl; path_is = c.path.ensures; pushed = refl } in
    accesses_room c.args.paths.now c.args.combination c.loop-agent.agent EVENT_LIMIT c.loop-agent.combination_paths.events.items c.path.result.now known inside c.loop-agent.invariant.all_events
    (next_path_is c.args.paths.now c.args.combination c.loop-agent.agent c.count-count.result c.loop-agent.later _ _ _ _ _ _ _ _ next c.loop-agent.invariant)
    (omega (arith, c.combinations-later.ensures.limits.litmus.block, c.combinations-later.ensures.limits.short.short))

pub loop-agent-preserved : goal.loop-agent-preserved
loop-agent-preserved c =
    let known : c.args.combination < length (combinations_of c.args.paths.now) = omega (arith, c.requires, count_of-combinations c.args.paths.now) in
    let inside : c.loop-agent.agent < length c.args.paths.now.agents = omega (arith, c.loop-agent-test.true, c.agents-agent-end.ensures.value, ap (λ t. length t.agents) c.test-2.ensures) in
    let next : IsNextPath c.args.paths.now c.args.combination c.loop-agent.agent c.count-count.result c.loop-agent.later (c.loop-agent.later / c.count-count.result) (c.args.combination / (c.loop-agent.later / c.count-count.result) % c.count-count.result) c.len.result c.loop-agent.combination_paths.events.items c.path.result.now c.push_events.new.events.items = record { known = known; inside = inside; counted = c.count-count.ensures; left_is = refl; number_is = refl; first_is = c.len.ensures.value; path_is = c.path.ensures; pushed = c.push_events.ensures } in
    joined_more c.args.paths.now c.args.combination c.loop-agent.agent c.count-count.result c.loop-agent.later _ _ _ _ _ _ _ _ _ _ next c.push.ensures.items c.push-in-loop-agent.ensures.items c.loop-agent.invariant
