use Rattle.std.proofs.Common.{◌∙◌, ◌++◌, List, ℕ, ap, codes, inl, inr}
use Rattle.lit_reason.specs.AnswerText.{verdict_without}
use Rattle.lit_reason.proofs.TextLemmas.{entry_of}
use Rattle.lit_reason.proofs.classes.class_text.Goals as goal

pub returns-in-Some : goal.returns-in-Some
returns-in-Some c =
    let n = c.in-Some.example.choice in
    let sources = c.in-Some.example.least.sources.items in
    let order = c.in-Some.example.least.order.items in
    let gives = c.shown_choices_meet_their_goal.ensures.class c.args.plan.now c.args.class n sources order c.in-Some.ensures.shown in
    let entry = entry_of c.args.plan.now n _ c.in_ok-example_text.ensures gives.outcome gives.gives in
    inl (
      n,
      gives,
      record { sources = sources; order = order; shown = c.in-Some.ensures.shown; entry = entry.0; is_entry = entry.1; is = entry.2 },
    )

pub returns : goal.returns
returns c =
    let why = c.put_attempts.new.buffer.items in
    inr (record {
      none = c.shown_choices_meet_their_goal.ensures.no_class c.args.plan.now c.args.class c.in_default.ensures.shown;
      why = why;
      is = c.in_ok-write_all.ensures.bytes
          ∙ ap (λ (bytes : List ℕ). bytes ++ c.deref.result.now)
          (c.in_ok-put_verdict.ensures ∙ ap (λ (bytes : List ℕ). bytes ++ verdict_without c.args.class ++ codes ": ") c.new-text.ensures.items)
          ∙ ap (λ (bytes : List ℕ). (verdict_without c.args.class ++ codes ": ") ++ bytes) c.deref.ensures.value;
    })
