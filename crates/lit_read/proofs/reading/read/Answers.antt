use Rattle.std.proofs.Common.{◌≡◌, ◌<◌, ◌+◌, ℕ, List, Option, Some, None, length, inr, subst, unwrap_or, arith, Bor}
use Rattle.std.specs.Prelude.{IfSome}
use Rattle.std.specs.Option.{option_map}
use Rattle.lit_read.specs.declared.fault.ReadKind.TheVariants.{TooLong, MissingPart}
use Rattle.lit_read.specs.Internal.State.{State}
use Rattle.lit_read.specs.Internal.Views.{state_view}
use Rattle.lit_read.proofs.Progress.{Progress, progress_begins, progress_goes_on, progress_fails, progress_spells, progress_ends, number_fits, too_long, refused}
use Rattle.lit_read.proofs.reading.read.Goals as goal

pub returns-then-text-gt-TEXT_LIMIT-clause-fault : goal.returns-then-text-gt-TEXT_LIMIT-clause-fault
returns-then-text-gt-TEXT_LIMIT-clause-fault c =
    refused c.args.text.now TooLong c.fault_at.result.kind 1 c.fault_at.result.line c.fault_at.ensures.kind c.fault_at.ensures.memory c.fault_at.ensures.line (inr (too_long c.args.text.now c.if-text-gt-TEXT_LIMIT.true))

pub loop-rest-init : goal.loop-rest-init
loop-rest-init c = progress_begins c.args.text.now c.if-text-gt-TEXT_LIMIT.false

pub overflow_add-number : goal.overflow_add-number
overflow_add-number c =
    let p = subst (λ (r : Option (Bor (List ℕ))). Progress c.args.text.now c.loop-rest.number (state_view c.loop-rest.draft) (option_map (λ x. x.now) r)) c.in-Some.is c.loop-rest.invariant in
    omega (arith, number_fits c.args.text.now c.in-Some.left.now c.split_line.result.0.now c.loop-rest.number (state_view c.loop-rest.draft) (option_map (λ x. x.now) c.split_line.result.1) p c.split_line.ensures.value)

pub returns-in-Err-clause-fault : goal.returns-in-Err-clause-fault
returns-in-Err-clause-fault c =
    let p = subst (λ (r : Option (Bor (List ℕ))). Progress c.args.text.now c.loop-rest.number (state_view c.loop-rest.draft) (option_map (λ x. x.now) r)) c.in-Some.is c.loop-rest.invariant in
    refused c.args.text.now c.in-Err.kind c.fault_at-in-Err.result.kind (c.loop-rest.number + 1) c.fault_at-in-Err.result.line c.fault_at-in-Err.ensures.kind c.fault_at-in-Err.ensures.memory c.fault_at-in-Err.ensures.line
    (progress_fails c.args.text.now c.in-Some.left.now c.split_line.result.0.now c.loop-rest.number (state_view c.loop-rest.draft) (option_map (λ x. x.now) c.split_line.result.1) p c.split_line.ensures.value c.in-Err.kind c.in-Err.ensures.err)

shorter : (rest : Option (Bor (List ℕ))) (left : Bor (List ℕ)) (after : Option (Bor (List ℕ))) → rest ≡ Some left → IfSome after (λ r. length r.now < length left.now)
    → unwrap_or (option_map (λ x. length x.now + 1) after) 0 < unwrap_or (option_map (λ x. length x.now + 1) rest) 0
shorter rest left None is h = rw is (omega arith)
shorter rest left (Some r) is h = rw is (omega (arith, h))

pub loop-rest-smaller : goal.loop-rest-smaller
loop-rest-smaller c = shorter c.loop-rest.rest c.in-Some.left c.split_line.result.1 c.in-Some.is c.split_line.ensures.shorter

pub loop-rest-preserved : goal.loop-rest-preserved
loop-rest-preserved c =
    let p = subst (λ (r : Option (Bor (List ℕ))). Progress c.args.text.now c.loop-rest.number (state_view c.loop-rest.draft) (option_map (λ x. x.now) r)) c.in-Some.is c.loop-rest.invariant in
    progress_goes_on c.args.text.now c.in-Some.left.now c.split_line.result.0.now c.loop-rest.number (state_view c.loop-rest.draft) (option_map (λ x. x.now) c.split_line.result.1) p c.split_line.ensures.value (state_view c.in-Ok.next) c.in-Ok.ensures.ok

pub returns-in-Some-finished-clause-spells : goal.returns-in-Some-finished-clause-spells
returns-in-Some-finished-clause-spells c =
    let p = subst (λ (r : Option (Bor (List ℕ))). Progress c.args.text.now c.loop-rest.number (state_view c.loop-rest.draft) (option_map (λ x. x.now) r)) c.in_default.is c.loop-rest.invariant in
    progress_spells c.args.text.now c.loop-rest.number c.in-Some-finished.test (subst (λ (s : State). Progress c.args.text.now c.loop-rest.number s None) c.in-Some-finished.ensures.whole p)

pub returns-in-None-clause-fault : goal.returns-in-None-clause-fault
returns-in-None-clause-fault c =
    let p = subst (λ (r : Option (Bor (List ℕ))). Progress c.args.text.now c.loop-rest.number (state_view c.loop-rest.draft) (option_map (λ x. x.now) r)) c.in_default.is c.loop-rest.invariant in
    refused c.args.text.now MissingPart c.fault_at-in-None.result.kind c.loop-rest.number c.fault_at-in-None.result.line c.fault_at-in-None.ensures.kind c.fault_at-in-None.ensures.memory c.fault_at-in-None.ensures.line
    (inr (progress_ends c.args.text.now c.loop-rest.number (state_view c.loop-rest.draft) p c.in-None.ensures.unfinished))
