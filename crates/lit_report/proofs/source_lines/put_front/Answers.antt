use Rattle.std.proofs.Common.{◌++◌, List, take, ap, ◌∙◌}
use Rattle.lit_paths.specs.declared.event.Event.{Event}
use Rattle.lit_report.specs.ReadLine.{first_source_head, lines_from}
use Rattle.lit_report.proofs.Putting.{HasPut-then, HasPut-is}
use Rattle.lit_report.proofs.source_lines.put_front.Goals as goal

pub returns : goal.returns
returns g c =
    let test = c.args.test.now in
    let events = c.args.events.now in
    HasPut-is _ _ _ _ (HasPut-then _ _ _ _ _ c.put_sources.ensures c.put_first_head.ensures)
    (ap (λ (es : List Event). lines_from test events es c.args.sources.now ++ first_source_head test c.split_at.result.1.now) c.split_at.ensures.front
    ∙ ap (λ (es : List Event). lines_from test events (take c.args.part events) c.args.sources.now ++ first_source_head test es) c.split_at.ensures.back)
