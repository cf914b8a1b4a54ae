-- What is said of the faults of a run.
use Rattle.std.proofs.Common.{◌≢◌, ◌+◌, ◌≤◌, ℕ, List, [], length, arith, take, Option, Some, None, IfErr, IsErrOf, Ok, Err, refl, subst}
use Rattle.std.specs.declared.result.Result.{Result}
use Rattle.lit_syntax.specs.Syntax.{Litmus}
use Rattle.lit_syntax.specs.declared.limits.TheConstants.{TEXT_LIMIT}
use Rattle.lit_paths.specs.declared.fault.PlanFault.{PlanFault}
use Rattle.lit_paths.specs.declared.fault.PlanFault.TheVariants as plan_faults
use Rattle.lit_paths.specs.Path.{Path}
use Rattle.lit_paths.specs.Refusal as plan
use Rattle.lit_paths.specs.Choice.{choices_of, combinations_of}
use Rattle.lit_paths.specs.declared.limits.TheConstants.{ACCESS_LIMIT, CHOICE_LIMIT, COMBINATION_LIMIT}
use Rattle.jslit.specs.declared.fault.RunFault.{RunFault}
use Rattle.jslit.specs.declared.fault.RunFault.TheVariants as faults
use Rattle.jslit.specs.Answer.{IsFaultOn}
use Rattle.jslit.specs.Devices.{IsInputText}
use Rattle.jslit.specs.Internal.Answering.{IsOfTextOrWriting, IsOfWriting}

-- a test within the limits is refused for none of them
pub not_refused : (t : Litmus) → plan.HasFewEvents t → length (combinations_of t) ≤ COMBINATION_LIMIT → length (choices_of t) ≤ CHOICE_LIMIT → (fault : PlanFault) → ¬ plan.IsRefusal t fault
not_refused t few_events few_paths few_choices plan_faults.TooManyEvents (c, paths, inside, at, many) =
    absurd (omega (arith, subst (λ (ps : List Path). length (plan.accesses_on ps) ≤ ACCESS_LIMIT) at (few_events c paths inside), many))
not_refused t few_events few_paths few_choices plan_faults.TooManyPaths (few, many) = absurd (omega (arith, few_paths, many))
not_refused t few_events few_paths few_choices plan_faults.TooManyChoices (few, fewer, many) = absurd (omega (arith, few_choices, many))
not_refused t few_events few_paths few_choices plan_faults.OutOfMemory refused = refused

-- an input has a text
pub some_text : (remaining : Option (List ℕ)) → (text : List ℕ) × IsInputText remaining text
some_text None = ([], tt)
some_text (Some bytes) = (take (TEXT_LIMIT + 1) bytes, refl)

-- a fault of writing says nothing of the text
pub writing_on : {X : Type 0} (r : Result X RunFault) (text : List ℕ) → IfErr r IsOfWriting → IfErr r (IsFaultOn text)
writing_on (Ok x) text of = tt
writing_on (Err (faults.Read fault)) text of = elim of [ ]
writing_on (Err (faults.Plan fault)) text of = elim of [ ]
writing_on (Err faults.UnknownAgent) text of = elim of [ ]
writing_on (Err faults.OutOfMemory) text of = tt
writing_on (Err faults.InputFailed) text of = elim of [ ]
writing_on (Err faults.OutputFailed) text of = tt

-- and is one of the text or of writing
pub writing_of : {X : Type 0} (r : Result X RunFault) → IfErr r IsOfWriting → IfErr r IsOfTextOrWriting
writing_of (Ok x) of = tt
writing_of (Err (faults.Read fault)) of = elim of [ ]
writing_of (Err (faults.Plan fault)) of = elim of [ ]
writing_of (Err faults.UnknownAgent) of = elim of [ ]
writing_of (Err faults.OutOfMemory) of = tt
writing_of (Err faults.InputFailed) of = elim of [ ]
writing_of (Err faults.OutputFailed) of = tt

-- what holds where memory ran out holds of each fault of writing that is no failed write
pub unwritten_on : {X : Type 0} (r : Result X RunFault) (A : Type 0) → IfErr r IsOfWriting → (IsErrOf r faults.OutOfMemory → A)
    → IfErr r (λ fault. fault ≢ faults.OutputFailed → A)
unwritten_on (Ok x) A of holds = tt
unwritten_on (Err (faults.Read fault)) A of holds = elim of [ ]
unwritten_on (Err (faults.Plan fault)) A of holds = elim of [ ]
unwritten_on (Err faults.UnknownAgent) A of holds = elim of [ ]
unwritten_on (Err faults.OutOfMemory) A of holds = λ other. holds refl
unwritten_on (Err faults.InputFailed) A of holds = elim of [ ]
unwritten_on (Err faults.OutputFailed) A of holds = λ other. absurd (other refl)
