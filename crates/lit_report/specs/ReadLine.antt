-- The line of one event, where the sources of its bytes are the first of a list (this project's own).
use Rattle.std.specs.Prelude.{◌≡◌, ⊤, ℕ, if◌then◌else◌, true, false, List, [], ◌∷◌, ◌++◌, codes, take, drop}
use Rattle.std.specs.List.{AllByRecursion}
use Rattle.lit_syntax.specs.Syntax.{Litmus}
use Rattle.lit_paths.specs.declared.event.Event.{Event}
use Rattle.lit_paths.specs.Event.{does_read}
use Rattle.lit_report.specs.EntryText.{line, event_name, names_text, source_line}

-- the line of an event that reads; nothing of another event
abbrev pub read_line : Litmus → List Event → Event → List ℕ → List ℕ
read_line t events e sources = if does_read e.kind then source_line t events e (take e.size sources) else []

-- the sources behind those of the event
abbrev pub rest_after : Event → List ℕ → List ℕ
rest_after e sources = if does_read e.kind then drop e.size sources else sources

-- the lines of the reads among these events, where the sources are those of their bytes
abbrev pub lines_from : Litmus → List Event → List Event → List ℕ → List ℕ
lines_from t events [] sources = []
lines_from t events (e ∷ es) sources = read_line t events e sources ++ lines_from t events es (rest_after e sources)

-- the line of a read up to its sources
abbrev pub source_head : Litmus → Event → List ℕ
source_head t read = codes "  from" ++ (codes " " ++ event_name t read)

-- the line of the first of these events up to its sources, if there is one
abbrev pub first_source_head : Litmus → List Event → List ℕ
first_source_head t [] = []
first_source_head t (e ∷ es) = source_head t e

-- the lines of the reads among the first `part` events, and the line of the next event up to its sources
abbrev pub lines_up_to : Litmus → List Event → ℕ → List ℕ → List ℕ
lines_up_to t events part sources = lines_from t events (take part events) sources ++ first_source_head t (drop part events)

-- the sources of the first of the last events and the end of its line, if there is one
abbrev pub line_end : Litmus → List Event → List Event → List ℕ → List ℕ
line_end t events [] sources = []
line_end t events (e ∷ es) sources = line (names_text t events sources)

-- none of these events reads
abbrev pub NoneReads : List Event → Type 0
NoneReads es = AllByRecursion (λ e. does_read e.kind ≡ false) es

-- the first of these events reads, and no other, or there is none
abbrev pub OnlyFirstReads : List Event → Type 0
OnlyFirstReads [] = ⊤
OnlyFirstReads (e ∷ es) = (does_read e.kind ≡ true) × NoneReads es
