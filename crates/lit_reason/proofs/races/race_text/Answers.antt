use Rattle.std.proofs.Common.{◌∙◌, ◌++◌, List, ℕ, ap, codes, inr, refl}
use Rattle.lit_paths.specs.Execution.{execution_outcome}
use Rattle.lit_reason.proofs.TextLemmas.{entry_of}
use Rattle.lit_reason.proofs.races.race_text.Goals as goal

pub returns-in_default : goal.returns-in_default
returns-in_default c =
    inr (
      c.shown_choices_meet_their_goal.ensures.no_race c.args.plan.now c.in_default.ensures.shown,
      c.in_ok-write_all.ensures.bytes ∙ ap (λ (bytes : List ℕ). bytes ++ codes "data race no\n") c.new-text.ensures.items,
    )

pub pair_text-requires-clause-shown : goal.pair_text-requires-clause-shown
pair_text-requires-clause-shown c =
    let t = c.args.plan.now in
    let n = c.in-Some.shown.choice in
    let sources = c.in-Some.shown.least.sources.items in
    let order = c.in-Some.shown.least.order.items in
    let races = c.shown_choices_meet_their_goal.ensures.race t n sources order c.in-Some.ensures.shown in
    let entry = entry_of t n _ c.in_ok-example.ensures (execution_outcome t races.execution)
    (record { execution = races.execution; valid = races.valid; chosen = races.chosen; result = refl }) in
    rw c.deref.ensures.value (record {
      sources = sources;
      order = order;
      shown = c.in-Some.ensures.shown;
      entry = entry.0;
      is_entry = entry.1;
      is = entry.2;
    })
