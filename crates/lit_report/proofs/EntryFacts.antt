-- What an entry says of its outcome, its choice and its order.
use Rattle.std.proofs.Common.{◌≡◌, ℕ, ◌<◌, List, length, get_or, Some, sym, ap, subst, ◌∙◌, arith}
use Rattle.std.specs.Prelude.{All, slice_get}
use Rattle.std.proofs.lemmas.List.{length-map}
use Rattle.std.proofs.lemmas.Option.{slice_get-get_or, get_or_from_slice_get}
use Rattle.lit_syntax.specs.Syntax.{Litmus}
use Rattle.lit_paths.specs.declared.event.Event.{Event}
use Rattle.lit_paths.specs.ByteReads.{byte_reads}
use Rattle.lit_paths.specs.Choice.{Choice, choices_of}
use Rattle.lit_paths.specs.Members.{AreSources}
use Rattle.lit_paths.specs.Outcome.{names_of}
use Rattle.lit_paths.specs.Execution.{Execution, execution_events, execution_choice, IsCandidateExecution}
use Rattle.lit_valid.specs.Gives.{Gives, HasLeastOrder}
use Rattle.lit_report.specs.ChoiceEvents.{choice_at}

-- an outcome has a value for each register
pub length-outcome : (t : Litmus) (n : ℕ) (outcome : List ℕ) → Gives t n outcome → length outcome ≡ length (names_of t)
length-outcome t n outcome g = sym (ap length g.result) ∙ length-map (names_of t) _

-- the order is one of the events
pub order_known : (t : Litmus) (n : ℕ) (outcome order : List ℕ) (events : List Event) → Gives t n outcome → HasLeastOrder t n order → ((x : Execution) → IsCandidateExecution t x → slice_get (choices_of t) n ≡ Some (execution_choice x) → execution_events t x ≡ events) → All (λ e. e < length events) order
order_known t n outcome order events g least same k d lt =
    let x = g.execution in
    let e = get_or order k d in
    let below = (least x g.valid g.chosen).is_order.complete.only k e (slice_get-get_or order k d lt) in
    let P : List Event → Type 0 = λ es. e < length es in
    subst P (same x g.valid.candidate g.chosen) below

-- the sources are events
pub sources_known : (events : List Event) (sources : List ℕ) → AreSources events sources → All (λ w. w < length events) sources
sources_known events sources sourced k d lt =
    let read = get_or (byte_reads events) k (0, 0) in
    (sourced.each k read.0 read.1 (get_or sources k d) (slice_get-get_or (byte_reads events) k (0, 0) (omega (arith, sourced.one_each, lt))) (slice_get-get_or sources k d lt)).known

pub choice_at-is : (t : Litmus) (n : ℕ) (choice : Choice) → slice_get (choices_of t) n ≡ Some choice → choice_at t n ≡ choice
choice_at-is t n choice at = get_or_from_slice_get (choices_of t) n choice _ at
