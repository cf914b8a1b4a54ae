-- The choice with a number, and the events of a choice (this project's own).
use Rattle.std.specs.Prelude.{ℕ, Bool, List, [], find, map, slice_index_or}
use Rattle.std.specs.Cmp.Lexicographic.{slice_cmp}
use Rattle.std.specs.Option.{unwrap_or}
use Rattle.std.specs.Ordering.{nat_cmp, is_eq}
use Rattle.lit_syntax.specs.Syntax.{Litmus}
use Rattle.lit_paths.specs.declared.event.Event.{Event}
use Rattle.lit_paths.specs.Path.{Path}
use Rattle.lit_paths.specs.Choice.{Choice, choices_of, combinations_of, events_of}

-- the choice with a number; past the last one, a choice of nothing
abbrev pub choice_at : Litmus → ℕ → Choice
choice_at t n = slice_index_or (choices_of t) n (record { decisions = []; sources = [] })

-- all events of a choice: those of the combination with its decisions
abbrev pub choice_events : Litmus → Choice → List Event
choice_events t choice =
    let decided : List Path → List (List ℕ) = λ paths. map (λ path. path.decisions) paths in
    let is_chosen : List Path → Bool = λ paths. is_eq (slice_cmp (slice_cmp nat_cmp) (decided paths) choice.decisions) in
    events_of t.bytes (map (λ path. path.events) (unwrap_or (find is_chosen (combinations_of t)) []))
