use Rattle.std.proofs.Common.{◌≡◌, ◌+◌, ◌-◌, ◌*◌, ◌<◌, ◌≤◌, Bool, ℕ, List, ap, arith, filter, get_or, length, sym, ◌∙◌}
use Rattle.std.proofs.lemmas.Option.{slice_get-get_or}
use Rattle.lit_paths.specs.declared.byte_reads.ByteRead.{ByteRead}
use Rattle.lit_paths.specs.declared.event.Event.{Event}
use Rattle.lit_paths.specs.ByteReads.{byte_read_at, pair_of}
use Rattle.lit_paths.specs.Choice.{candidates_of, combinations_of}
use Rattle.lit_paths.specs.Numbers.{ways_from}
use Rattle.lit_paths.specs.declared.limits.TheConstants.{CHOICE_LIMIT}
use Rattle.lit_solve.specs.Box.{events_on}
use Rattle.lit_solve.proofs.PruningLemmas.{read_here, read_listed, read_there}
use Rattle.lit_paths.proofs.ChoiceNumbers.{known_by_first}
use Rattle.lit_why.specs.Asked.{is_asked}
use Rattle.lit_why.specs.Attempts.{agree}
use Rattle.lit_why.proofs.WaysLemmas.{ways_all, ways_end, ways_on, ways_small, ways_step}
use Rattle.lit_why.proofs.counting.count_same_values.Goals.{After-count_agreeing-count}
use Rattle.lit_why.proofs.counting.count_same_values.Goals as goal

abbrev no_read : ByteRead
no_read = record { read = 0; byte = 0 }

pub loop-place-init : goal.loop-place-init
loop-place-init c =
    let p = c.args.combination.now in
    sym (ways_end p.0 p.1 c.args.sources.now c.requires.sourced _ (omega arith))

pub count_agreeing-count-requires-clause-known : goal.count_agreeing-count-requires-clause-known
count_agreeing-count-requires-clause-known c k w at =
    let known = (c.candidates-among.ensures.lists.only k w at).known in
    omega (arith, known, ap length c.events-events.ensures.value)

pub count_agreeing-count-requires-clause-source : goal.count_agreeing-count-requires-clause-source
count_agreeing-count-requires-clause-source c =
    let events = events_on c.args.combination.now in
    let place = c.loop-place.place - 1 in
    let inside : place < length c.args.sources.now = omega arith in
    let read = byte_read_at events place in
    let known = (c.requires.sourced.each place read.0 read.1 (get_or c.args.sources.now place 0)
    (read_here events place (omega (arith, inside, c.requires.sourced.one_each))) (slice_get-get_or c.args.sources.now place 0 inside)).known in
    omega (arith, known, c.from-source.ensures, ap length c.events-events.ensures.value)

-- how many there are with one place more
step : (c : After-count_agreeing-count) → c.count_agreeing-count.result * c.loop-place.count
    ≡ ways_on c.args.combination.now.0 c.args.combination.now.1 c.args.sources.now c.requires.sourced (c.loop-place.place - 1)
step c =
    let p = c.args.combination.now in
    let events = events_on p in
    let sources = c.args.sources.now in
    let place = c.loop-place.place - 1 in
    let inside : place < length sources = omega arith in
    let reads = c.byte_reads.result.now in
    let at = get_or reads place no_read in
    let read = byte_read_at events place in
    let source = get_or sources place 0 in
    let listed = read_listed events reads place no_read c.byte_reads.ensures (omega (arith, inside, c.requires.sourced.one_each)) in
    let same : pair_of at ≡ read = read_there events place at listed in
    let next : c.loop-place.place ≡ place + 1 = omega arith in
    let count : c.count_agreeing-count.result
    ≡ length (filter (agree (is_asked p.0 p.1 read.0) events read.1 source) (candidates_of events read)) =
    c.count_agreeing-count.ensures
    ∙ ap (λ (es : List Event). length (filter (agree c.asks-asked.result es at.byte c.from-source.result) c.candidates-among.result.now))
    c.events-events.ensures.value
    ∙ ap (λ (b : Bool). length (filter (agree b events at.byte c.from-source.result) c.candidates-among.result.now)) (c.asks-asked.ensures
    ∙ ap (λ (r : ℕ). is_asked p.0 p.1 r) c.from.ensures)
    ∙ ap (λ (w : ℕ). length (filter (agree (is_asked p.0 p.1 at.read) events at.byte w) c.candidates-among.result.now)) c.from-source.ensures
    ∙ ap (λ (q : ℕ × ℕ). length (filter (agree (is_asked p.0 p.1 q.0) events q.1 source) c.candidates-among.result.now)) same
    ∙ ap (λ (ws : List ℕ). length (filter (agree (is_asked p.0 p.1 read.0) events read.1 source) ws)) c.candidates-among.ensures.value in
    ap (λ (n : ℕ). n * c.loop-place.count) count
    ∙ ap (λ (n : ℕ). length (filter (agree (is_asked p.0 p.1 read.0) events read.1 source) (candidates_of events read)) * n)
    (c.loop-place.invariant ∙ ap (ways_on p.0 p.1 sources c.requires.sourced) next)
    ∙ sym (ways_step p.0 p.1 sources c.requires.sourced place inside)

pub overflow_mul-count : goal.overflow_mul-count
overflow_mul-count c =
    let p = c.args.combination.now in
    let known : p.1 < length (combinations_of p.0) = known_by_first p.0 p.1 c.first-first.result c.first-first.ensures.value
    c.first-first.ensures.known in
    let numbers = c.choices_have_numbers.ensures p.0 p.1 known in
    let small : ways_on p.0 p.1 c.args.sources.now c.requires.sourced (c.loop-place.place - 1) ≤ ways_from (events_on p) 0 =
    ways_small p.0 p.1 c.args.sources.now c.requires.sourced (c.loop-place.place - 1) in
    let end : c.end-end.result ≤ CHOICE_LIMIT = c.end-end.ensures.few in
    omega (arith, step c, small, numbers.behind, c.end-end.ensures.value, end)

pub loop-place-preserved : goal.loop-place-preserved
loop-place-preserved c = step c

pub returns : goal.returns
returns c =
    let p = c.args.combination.now in
    let none_left : c.loop-place.place ≡ 0 = omega arith in
    c.loop-place.invariant ∙ ap (ways_on p.0 p.1 c.args.sources.now c.requires.sourced) none_left
    ∙ ways_all p.0 p.1 c.args.sources.now c.requires.sourced
