use Rattle.std.proofs.Common.{ℕ, List, arith, inl, inr, Some, ap, ◌∙◌}
use Rattle.lit_valid.specs.Entry.{Entry}
use Rattle.lit_report.specs.EntryText.{entry_text}
use Rattle.lit_reason.proofs.ExampleLemmas.{no_entry, told, written}
use Rattle.lit_reason.proofs.example.example_text.Goals as goal

pub returns-then-len-eq0 : goal.returns-then-len-eq0
returns-then-len-eq0 c =
    inr (no_entry c.args.plan.now c.args.choice c.in_ok-found.found c.in_ok-found.ensures (omega (arith, c.len.ensures, c.if-len-eq0.true)), c.new.ensures.items)

pub put_entry-requires-clause-gives : goal.put_entry-requires-clause-gives
put_entry-requires-clause-gives c =
    (told c.args.plan.now c.args.choice c.in_ok-found.found c.in_ok-found.ensures (omega (arith, c.len.ensures, c.if-len-eq0.false))
    c.outcome.result.now c.as_slice.result.now c.outcome.ensures (c.as_slice.ensures.value ∙ c.example.ensures.order)).gives

pub put_entry-requires-clause-least_order : goal.put_entry-requires-clause-least_order
put_entry-requires-clause-least_order c =
    (told c.args.plan.now c.args.choice c.in_ok-found.found c.in_ok-found.ensures (omega (arith, c.len.ensures, c.if-len-eq0.false))
    c.outcome.result.now c.as_slice.result.now c.outcome.ensures (c.as_slice.ensures.value ∙ c.example.ensures.order)).least_order

pub returns-in-Ok : goal.returns-in-Ok
returns-in-Ok c =
    let entry : Entry = record { outcome = c.outcome.result.now; choice = c.args.choice; order = c.as_slice.result.now } in
    inl (
      entry,
      told c.args.plan.now c.args.choice c.in_ok-found.found c.in_ok-found.ensures (omega (arith, c.len.ensures, c.if-len-eq0.false))
          c.outcome.result.now c.as_slice.result.now c.outcome.ensures (c.as_slice.ensures.value ∙ c.example.ensures.order),
      ap (λ v. v.items) c.into_inner.ensures
          ∙ written _ _ (entry_text c.args.plan.now entry) _ _ (ap (λ v. Some v.items) c.new-output.ensures.device ∙ ap (λ (bytes : List ℕ). Some bytes) c.new-2.ensures.items)
          c.new-buffer.ensures.empty c.new-buffer.ensures.going c.put_entry.ensures.text c.in-Ok.ensures.written,
    )
