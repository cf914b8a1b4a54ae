use Rattle.std.proofs.Common.{◌≡◌, false, List, [], None, length, drop, get_or, ap}
use Rattle.std.proofs.lemmas.List.{drop_all}
use Rattle.lit_paths.specs.declared.event.Event.{Event}
use Rattle.lit_paths.specs.declared.event.Kind.TheVariants.{Read}
use Rattle.lit_paths.specs.declared.event.Order3.TheVariants.{SeqCst}
use Rattle.lit_report.specs.ReadLine.{lines_from}
use Rattle.lit_report.proofs.Putting.{puts_more, puts_end}
use Rattle.lit_report.proofs.SourceLines.{lines_more, left_more, room, known_after}
use Rattle.lit_report.proofs.events.put_sources.Goals as goal

-- what a slice of events gives past its end, in a clause
abbrev blank : Event
blank = record { kind = Read; order = SeqCst; no_tear = false; first = 0; size = 0; payload = []; owner = None; place = 0 }

pub put_read-rest-requires-clause-room : goal.put_read-rest-requires-clause-room
put_read-rest-requires-clause-room g c = room c.args.part.now c.loop-event.event-index _ c.loop-event.rest.now c.loop-event-test.true c.loop-event.invariant.left

pub loop-event-preserved : goal.loop-event-preserved
loop-event-preserved g c =
    let events = c.args.events.now in
    let part = c.args.part.now in
    let i = c.loop-event.event-index in
    record {
      left = rw c.put_read-rest.ensures.rest (left_more part i _ c.loop-event.rest.now c.loop-event-test.true c.loop-event.invariant.left);
      known = rw c.put_read-rest.ensures.rest (known_after (length events) (get_or part i blank) c.loop-event.rest.now c.loop-event.invariant.known);
      so_far = rw c.put_read-rest.ensures.rest (puts_more _ _ _ _ _ _ _ c.loop-event.invariant.so_far c.put_read-rest.ensures.text (lines_more c.args.test.now events part i _ c.loop-event.rest.now c.loop-event-test.true));
    }

pub returns : goal.returns
returns g c =
    let part = c.args.part.now in
    let none : drop c.loop-event.event-index part ≡ [] = drop_all c.loop-event.event-index part c.loop-event-test.false in
    puts_end _ _ _ _ c.loop-event.invariant.so_far (ap (λ (es : List Event). lines_from c.args.test.now c.args.events.now es c.loop-event.rest.now) none)
