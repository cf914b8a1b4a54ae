use Rattle.lit_interleave.proofs.Words.{◌++◌, ◌<◌, [], after_each, after_end, after_turn, ap, AreStatementsIn, arith, beginning, End}
use Rattle.lit_interleave.proofs.Words.{from_access, get_or, get_or_default, IsLitmus, length, List, Litmus, Moment, Progress, progress_of}
use Rattle.lit_interleave.proofs.Words.{range_more, range_with_len, subst, sym, take, take_more, zero-add, ℕ, ◌∙◌, ◌∷◌, ◌≡◌}
use Rattle.lit_interleave.specs.Interleaving.{accessed, after}
use Rattle.lit_interleave.proofs.MomentLemmas.{IsSound, after_each-more, sound_beginning, sound_each, sound_end, sound_turn, stepped, written_whole}
use Rattle.lit_interleave.proofs.interleaving.interleave.Goals as goal

-- after some turns, and after some agents' ends
in_turns : (t : Litmus) (m : Moment) (agents : List ℕ) → IsLitmus t → m ≡ after_each after_turn (beginning t) agents → IsSound t m
in_turns t m agents litmus is = subst (IsSound t) (sym is) (sound_each t after_turn (sound_turn t) (beginning t) agents (sound_beginning t litmus))

in_ends : (t : Litmus) (m : Moment) (schedule agents : List ℕ) → IsLitmus t → m ≡ after_each after_end (after_each after_turn (beginning t) schedule) agents → IsSound t m
in_ends t m schedule agents litmus is =
    subst (IsSound t) (sym is)
    (sound_each t after_end (sound_end t) (after_each after_turn (beginning t) schedule) agents (sound_each t after_turn (sound_turn t) (beginning t) schedule (sound_beginning t litmus)))

-- the progress of one of a moment's agents
progress_is : (m : Moment) (agent : ℕ) (p : Progress) → agent < length m.agents → p ≡ get_or m.agents agent p → p ≡ progress_of m agent
progress_is m agent p inside is = is ∙ get_or_default m.agents agent p (record { left = End; registers = [] }) inside

said_of : (t : Litmus) (m : Moment) (agent bytes : ℕ) (p : Progress) → IsSound t m → p ≡ progress_of m agent → bytes ≡ length m.block → AreStatementsIn bytes p.left
said_of t m agent bytes p s is long =
    subst (λ (q : Progress). AreStatementsIn bytes q.left) (sym is) (subst (λ (n : ℕ). AreStatementsIn n (progress_of m agent).left) (sym (long ∙ s.long)) (s.said agent))

pub index_mut-requires : goal.index_mut-requires
index_mut-requires c =
    let m : Moment = record { block = c.turns.block.items; agents = c.turns.runners.items } in
    let s = in_turns c.args.test.now m (take c.turns.agent-index c.args.schedule.now) c.bytes.ensures.litmus c.turns.invariant in
    omega (arith, c.from-in-turns.ensures, c.requires c.turns.agent-index 0 c.turns-test.true, s.one_each, c.turns.runners.ok.0)

pub turn-requires : goal.turn-requires
turn-requires c =
    let m : Moment = record { block = c.turns.block.items; agents = c.turns.runners.items } in
    let s = in_turns c.args.test.now m (take c.turns.agent-index c.args.schedule.now) c.bytes.ensures.litmus c.turns.invariant in
    let agent = c.from-in-turns.result in
    let inside : agent < length m.agents = omega (arith, c.from-in-turns.ensures, c.requires c.turns.agent-index 0 c.turns-test.true, s.one_each) in
    said_of c.args.test.now m agent (length c.deref_mut.result.now) c.index_mut.result.now s (progress_is m agent c.index_mut.result.now inside c.index_mut.ensures.value)
    (ap (λ (bs : List ℕ). length bs) c.deref_mut.ensures.value)

pub turns-preserved : goal.turns-preserved
turns-preserved c =
    let t = c.args.test.now in
    let m : Moment = record { block = c.turns.block.items; agents = c.turns.runners.items } in
    let done = take c.turns.agent-index c.args.schedule.now in
    let s = in_turns t m done c.bytes.ensures.litmus c.turns.invariant in
    let agent = c.from-in-turns.result in
    let inside : agent < length m.agents = omega (arith, c.from-in-turns.ensures, c.requires c.turns.agent-index 0 c.turns-test.true, s.one_each) in
    stepped (λ q b. accessed (from_access q.registers q.left) (record { block = b; registers = q.registers }))
    m agent c.index_mut.result.now c.turn.new.self c.deref_mut.result.now c.turn.new.block _
    (progress_is m agent c.index_mut.result.now inside c.index_mut.ensures.value) c.deref_mut.ensures.value
    c.in_ok-turn.ensures.left c.in_ok-turn.ensures.done
    (written_whole c.turns.block.items c.turn.new.block c.turns.block.len (c.turn.auto.block ∙ ap (λ (bs : List ℕ). length bs) c.deref_mut.ensures.value) c.turns.block.ok.0)
    ∙ ap (λ (w : Moment). after_turn w agent) c.turns.invariant
    ∙ sym (after_each-more after_turn (beginning t) done agent)
    ∙ ap (λ (a : ℕ). after_each after_turn (beginning t) (done ++ a ∷ [])) c.from-in-turns.ensures
    ∙ ap (after_each after_turn (beginning t)) (sym (take_more c.args.schedule.now c.turns.agent-index 0 c.turns-test.true))

pub index_mut-requires-in-ends : goal.index_mut-requires-in-ends
index_mut-requires-in-ends c =
    let m : Moment = record { block = c.ends.block.items; agents = c.ends.runners.items } in
    let s = in_ends c.args.test.now m c.args.schedule.now (range_with_len 0 c.ends.agent) c.bytes.ensures.litmus c.ends.invariant in
    omega (arith, c.ends-test.true, c.agents-agent-end.ensures.value, s.one_each, c.ends.runners.ok.0)

pub finish-requires : goal.finish-requires
finish-requires c =
    let m : Moment = record { block = c.ends.block.items; agents = c.ends.runners.items } in
    let s = in_ends c.args.test.now m c.args.schedule.now (range_with_len 0 c.ends.agent) c.bytes.ensures.litmus c.ends.invariant in
    let inside : c.ends.agent < length m.agents = omega (arith, c.ends-test.true, c.agents-agent-end.ensures.value, s.one_each) in
    said_of c.args.test.now m c.ends.agent (length c.deref_mut-in-ends.result.now) c.index_mut-in-ends.result.now s
    (progress_is m c.ends.agent c.index_mut-in-ends.result.now inside c.index_mut-in-ends.ensures.value) (ap (λ (bs : List ℕ). length bs) c.deref_mut-in-ends.ensures.value)

pub ends-preserved : goal.ends-preserved
ends-preserved c =
    let t = c.args.test.now in
    let m : Moment = record { block = c.ends.block.items; agents = c.ends.runners.items } in
    let s = in_ends t m c.args.schedule.now (range_with_len 0 c.ends.agent) c.bytes.ensures.litmus c.ends.invariant in
    let begun = after_each after_turn (beginning t) c.args.schedule.now in
    let agent = c.ends.agent in
    let inside : agent < length m.agents = omega (arith, c.ends-test.true, c.agents-agent-end.ensures.value, s.one_each) in
    stepped (λ q b. (End, after q.left (record { block = b; registers = q.registers })))
    m agent c.index_mut-in-ends.result.now c.finish.new.self c.deref_mut-in-ends.result.now c.finish.new.block _
    (progress_is m agent c.index_mut-in-ends.result.now inside c.index_mut-in-ends.ensures.value) c.deref_mut-in-ends.ensures.value
    c.in_ok-finish.ensures.left c.in_ok-finish.ensures.done
    (written_whole c.ends.block.items c.finish.new.block c.ends.block.len (c.finish.auto.block ∙ ap (λ (bs : List ℕ). length bs) c.deref_mut-in-ends.ensures.value) c.ends.block.ok.0)
    ∙ ap (λ (w : Moment). after_end w agent) c.ends.invariant
    ∙ sym (after_each-more after_end begun (range_with_len 0 agent) agent)
    ∙ ap (after_each after_end begun) (ap (λ (a : ℕ). range_with_len 0 agent ++ a ∷ []) (sym (zero-add agent)) ∙ sym (range_more 0 agent))

pub outcome_of-requires : goal.outcome_of-requires
outcome_of-requires c =
    let m : Moment = record { block = c.ends.block.items; agents = c.ends.runners.items } in
    let s = in_ends c.args.test.now m c.args.schedule.now (range_with_len 0 c.ends.agent) c.bytes.ensures.litmus c.ends.invariant in
    ap (λ (ps : List Progress). length ps) c.deref.ensures.value ∙ s.one_each
