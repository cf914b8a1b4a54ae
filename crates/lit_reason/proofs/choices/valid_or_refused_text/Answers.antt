use Rattle.std.proofs.Common.{◌∙◌, ◌++◌, List, ℕ, Option, inl, ap, codes, subst}
use Rattle.std.specs.Prelude.{MatchOption}
use Rattle.lit_valid.specs.Completion.{HasCompletion}
use Rattle.lit_why.specs.Refusal.{IsRefusal}
use Rattle.lit_why.specs.declared.refusals.causes.Refusal.{Refusal}
use Rattle.lit_reason.proofs.TextLemmas.{completed_gives_some, entry_of, refused_gives_none}
use Rattle.lit_reason.proofs.choices.valid_or_refused_text.Goals as goal

pub refused_text-requires-clause-none : goal.refused_text-requires-clause-none
refused_text-requires-clause-none c =
    let part = c.new-scene.result.part in
    let is = c.new-scene.ensures.part in
    let refused : IsRefusal part c.in-Some.refusal =
    subst (λ (o : Option Refusal). MatchOption o (HasCompletion part) (IsRefusal part)) c.in-Some.is c.new-scene.ensures.refusal in
    rw c.new-scene.ensures.plan (
    refused_gives_none c.args.plan.now c.args.choice part is c.test-test.ensures.litmus c.in-Some.refusal refused
    (c.refused_parts_have_no_completion.ensures part c.in-Some.refusal)
    (c.complete_parts_are_choices.ensures.outcome part c.args.choice is.of is.has is.complete).1
    )

pub returns : goal.returns
returns c =
    let part = c.new-scene.result.part in
    let is = c.new-scene.ensures.part in
    let completion : HasCompletion part =
    subst (λ (o : Option Refusal). MatchOption o (HasCompletion part) (IsRefusal part)) c.in_default.is c.new-scene.ensures.refusal in
    let some =
    completed_gives_some c.args.plan.now c.args.choice part is completion
    (c.complete_parts_are_choices.ensures.outcome part c.args.choice is.of is.has is.complete).0 in
    let entry = entry_of c.args.plan.now c.args.choice _ c.in_ok-example_text.ensures some.0 some.1 in
    inl (record {
      entry = entry.0;
      is_entry = entry.1;
      is = c.in_ok-write_all-2.ensures.bytes
          ∙ ap (λ (bytes : List ℕ). bytes ++ c.deref.result.now)
          (c.in_ok-write_all.ensures.bytes ∙ ap (λ (bytes : List ℕ). bytes ++ codes "valid\n") c.new-text.ensures.items)
          ∙ ap (λ (bytes : List ℕ). codes "valid\n" ++ bytes) (c.deref.ensures.value ∙ entry.2);
    })
