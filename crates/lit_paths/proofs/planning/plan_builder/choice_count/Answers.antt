use Rattle.std.proofs.Common.{◌≤◌, List, ap, ap₂, sym, ◌∙◌, subst, length, slice_get}
use Rattle.lit_paths.specs.declared.event.Event.{Event}
use Rattle.lit_paths.specs.declared.limits.TheConstants.{CHOICE_LIMIT}
use Rattle.lit_paths.specs.ByteReads.{byte_reads}
use Rattle.lit_paths.specs.Choice.{product, sources_of}
use Rattle.lit_paths.specs.Internal.CandidateLists.{candidates_for, candidate_lists}
use Rattle.lit_paths.proofs.Totals.{ways-some}
use Rattle.lit_paths.proofs.WaySteps.{candidate_lists-known}
use Rattle.lit_paths.proofs.PlanBuilderSteps.{match_count}
use Rattle.lit_paths.proofs.planning.plan_builder.choice_count.Goals as goal

pub count_sources-requires-clause-some : goal.count_sources-requires-clause-some
count_sources-requires-clause-some c =
    λ i read at. subst (λ (es : List Event). 1 ≤ length (candidates_for es read)) (sym c.as_slice-events.ensures.value)
    (ways-some c.args.paths.now.bytes c.join.new.combination_paths.events.items c.find_byte_reads.new.reads.items i read c.join.ensures.sound
    (c.find_byte_reads.ensures ∙ ap byte_reads c.as_slice-events.ensures.value) (ap (λ rs. slice_get rs i) (sym c.as_slice.ensures.value) ∙ at))

pub returns : goal.returns
returns c =
    let events = c.join.ensures.combination_paths.events in
    match_count c.count_sources.result CHOICE_LIMIT _ _
    (ap₂ (λ es rs. length (product (candidate_lists es rs))) c.as_slice-events.ensures.value c.as_slice.ensures.value
    ∙ ap (λ ws. length ws) (candidate_lists-known c.join.new.combination_paths.events.items c.find_byte_reads.new.reads.items (c.find_byte_reads.ensures ∙ ap byte_reads c.as_slice-events.ensures.value))
    ∙ ap (λ es. length (sources_of es)) events)
    c.count_sources.ensures
