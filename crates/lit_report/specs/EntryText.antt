-- The text of an entry of a report, as bytes (this project's own).
use Rattle.std.specs.Prelude.{ℕ, ◌==◌, List, [], ◌∷◌, ◌++◌, map, filter, codes}
use Rattle.std.specs.List.{flat_map, zip}
use Rattle.std.specs.Option.{option_map_or}
use Rattle.std.specs.Fmt.{decimal}
use Rattle.lit_syntax.specs.Syntax.{Litmus, agent_of}
use Rattle.lit_paths.specs.declared.event.Event.{Event}
use Rattle.lit_paths.specs.Event.{event_at}
use Rattle.lit_paths.specs.ByteReads.{byte_reads}
use Rattle.lit_paths.specs.Outcome.{names_of}
use Rattle.lit_valid.specs.Entry.{Entry}
use Rattle.lit_valid.specs.ValidExecution.{read_numbers_from}
use Rattle.lit_report.specs.ChoiceEvents.{choice_at, choice_events}

-- bytes and then the end of the line
abbrev pub line : List ℕ → List ℕ
line bytes = bytes ++ 10 ∷ []

-- an event by its owner and its place: `init[0]`, or `A.0`
abbrev pub event_name : Litmus → Event → List ℕ
event_name t e =
    option_map_or (λ agent. (agent_of t agent).name ++ codes "." ++ decimal e.place) e.owner (codes "init[" ++ decimal e.place ++ codes "]")

-- a blank and the name of an event, for each of these numbers
abbrev pub names_text : Litmus → List Event → List ℕ → List ℕ
names_text t events numbers = flat_map (λ n. codes " " ++ event_name t (event_at events n)) numbers

-- the line of a read, with these sources
abbrev pub source_line : Litmus → List Event → Event → List ℕ → List ℕ
source_line t events read sources = line (codes "  from" ++ (codes " " ++ event_name t read) ++ names_text t events sources)

-- a line for each read, with its sources, one for each of its bytes, rising
abbrev pub from_lines : Litmus → List Event → List ℕ → List ℕ
from_lines t events sources =
    let sources_of : ℕ → List ℕ = λ read. map (λ p. p.1) (filter (λ p. p.0.0 == read) (zip (byte_reads events) sources)) in
    flat_map (λ read. source_line t events (event_at events read) (sources_of read)) (read_numbers_from 0 events)

-- the lines of the reads of choice n
abbrev pub choice_lines : Litmus → ℕ → List ℕ
choice_lines t n = from_lines t (choice_events t (choice_at t n)) (choice_at t n).sources

-- a register of an outcome with its value
abbrev pub register_text : Litmus → (ℕ × ℕ) × ℕ → List ℕ
register_text t p = codes " " ++ (agent_of t p.0.0).name ++ codes ".r" ++ decimal p.0.1 ++ codes "=" ++ decimal p.1

-- the registers of an outcome with their values
abbrev pub registers_text : Litmus → List (ℕ × ℕ) → List ℕ → List ℕ
registers_text t names values = flat_map (register_text t) (zip names values)

-- an outcome and its example
abbrev pub entry_text : Litmus → Entry → List ℕ
entry_text t entry =
    let choice = choice_at t entry.choice in
    let events = choice_events t choice in
    line (codes "outcome" ++ registers_text t (names_of t) entry.outcome)
    ++ from_lines t events choice.sources
    ++ line (codes "  order" ++ names_text t events entry.order)
