-- The choices of a test, and their order (this project's own): a path for each agent, and a source for each byte of
-- each read (ECMA-262, 2024, 29.4 and 29.6.2).
use Rattle.std.specs.Prelude.{ℕ, ◌+◌, ◌==◌, Bool, ◌&&◌, not, nat_lt, nat_le, List, [], ◌∷◌, ◌++◌, map, filter}
use Rattle.std.specs.List.{flat_map, enumerate_from}
use Rattle.lit_syntax.specs.Syntax.{Litmus}
use Rattle.lit_paths.specs.declared.event.Event.{Event}
use Rattle.lit_paths.specs.Event.{does_write, init_events}
use Rattle.lit_paths.specs.Path.{Path, path_on, walks_of}
use Rattle.lit_paths.specs.ByteReads.{byte_reads}

-- the decisions of each agent in order, and the source of each byte read
pub record Choice : Type 0 where
  pub decisions : List (List ℕ)
  pub sources : List ℕ

-- all events of a combination of paths: those that make the block by byte, and then each agent's in order
abbrev pub events_of : ℕ → List (List Event) → List Event
events_of bytes lists = init_events bytes ++ flat_map (λ events. events) lists

-- the product of lists: every way to take one member of each, the first list's members changing last
abbrev pub product : {A : Type 0} → List (List A) → List (List A)
product [] = [] ∷ []
product (xs ∷ rest) = flat_map (λ x. map (λ ys. x ∷ ys) (product rest)) xs

-- whether an event may be the source of a byte for a read
abbrev pub is_candidate : ℕ → ℕ → ℕ × Event → Bool
is_candidate r b e = does_write e.1.kind && nat_le e.1.first b && nat_lt b (e.1.first + e.1.size) && not (e.0 == r)

-- the candidates of a byte of a read, rising
abbrev pub candidates_of : List Event → ℕ × ℕ → List ℕ
candidates_of events read = map (λ e. e.0) (filter (is_candidate read.0 read.1) (enumerate_from 0 events))

-- the sources that the byte reads of these events can have, rising
abbrev pub sources_of : List Event → List (List ℕ)
sources_of events = product (map (candidates_of events) (byte_reads events))

-- the combinations of a path of each agent, by rising decisions
abbrev pub combinations_of : Litmus → List (List Path)
combinations_of t = product (map (λ agent. map (path_on agent.0) (walks_of agent.1.body)) (enumerate_from 0 t.agents))

-- the choices of one combination
abbrev pub choices_on : ℕ → List Path → List Choice
choices_on bytes paths = map (λ sources. record { decisions = map (λ path. path.decisions) paths; sources = sources })
    (sources_of (events_of bytes (map (λ path. path.events) paths)))

-- All choices of a test, in order. A choice's number is its place here.
unfoldable pub choices_of : Litmus → List Choice
choices_of t = flat_map (choices_on t.bytes) (combinations_of t)
