-- Walks, paths, candidates, sources, combinations and choices as predicates, for proofs (this project's own). The lists
-- of `Path` and `Choice` have exactly these, as laws say (decision 190).
use Rattle.std.specs.Prelude.{◌≡◌, ◌≢◌, ◌⊎◌, ℕ, ◌<◌, Bool, true, false, IsTrue}
use Rattle.std.specs.Prelude.{List, [], ◌∷◌, ◌++◌, length, map, Some, slice_get}
use Rattle.std.specs.Cmp.Lexicographic.{slice_cmp}
use Rattle.std.specs.Ordering.{nat_cmp, ordering_then}
use Rattle.std.specs.declared.cmp.Ordering.{Ordering}
use Rattle.std.specs.declared.cmp.Ordering.TheVariants.{Less}
use Rattle.lit_syntax.specs.Syntax.{Litmus, agent_of}
use Rattle.lit_syntax.specs.Syntax.{Statement, Statements, Load, Store, Exchange, CompareExchange, If, End, Then}
use Rattle.lit_paths.specs.declared.event.Event.{Event}
use Rattle.lit_paths.specs.Event.{HasByte, does_write, event_at}
use Rattle.lit_paths.specs.Path.{Path, Step, LoadMet, StoreMet, ExchangeMet, CompareExchangeMet, IfMet, path_on}
use Rattle.lit_paths.specs.ByteReads.{byte_reads}
use Rattle.lit_paths.specs.Choice.{Choice, events_of, combinations_of, choices_of}

-- the steps lead through the statement, or the statements, either way at each decision
abbrev mutual
  pub IsStatementWalk : Statement → List Step → Type 0
  IsStatementWalk (Load reg window index atomic) steps = steps ≡ LoadMet reg window index atomic ∷ []
  IsStatementWalk (Store window index value atomic) steps = steps ≡ StoreMet window index value atomic ∷ []
  IsStatementWalk (Exchange reg window index value) steps = steps ≡ ExchangeMet reg window index value ∷ []
  IsStatementWalk (CompareExchange reg window index expected value) steps =
      (succeeds : Bool) × (steps ≡ CompareExchangeMet reg window index expected value succeeds ∷ [])
  IsStatementWalk (If reg equal value body other) steps =
      ((arm : List Step) × (steps ≡ IfMet reg equal value true ∷ arm) × IsWalk body arm)
      ⊎ ((arm : List Step) × (steps ≡ IfMet reg equal value false ∷ arm) × IsWalk other arm)

  pub IsWalk : Statements → List Step → Type 0
  IsWalk End steps = steps ≡ []
  IsWalk (Then s ss) steps = (first rest : List Step) × (steps ≡ first ++ rest) × IsStatementWalk s first × IsWalk ss rest

-- a path of an agent
pub record IsPath (owner : ℕ) (body : Statements) (path : Path) : Type 0 where
  pub steps : List Step
  pub walked : IsWalk body steps
  pub taken : path_on owner steps ≡ path

-- Event w may be the source of byte b for read r: it writes that byte, and is not r itself.
pub record IsCandidate (events : List Event) (r b w : ℕ) : Type 0 where
  pub known : w < length events
  pub writes : IsTrue (does_write (event_at events w).kind)
  pub in_range : HasByte (event_at events w) b
  pub other : w ≢ r

-- these are sources of the first byte reads, each a candidate of its byte
abbrev pub AreCandidates : List Event → List ℕ → Type 0
AreCandidates events sources =
    (i r b w : ℕ) → slice_get (byte_reads events) i ≡ Some (r, b) → slice_get sources i ≡ Some w → IsCandidate events r b w

-- each byte that is read has a source, a candidate of it
pub record AreSources (events : List Event) (sources : List ℕ) : Type 0 where
  pub one_each : length sources ≡ length (byte_reads events)
  pub each : AreCandidates events sources

-- a path for each agent
pub record AreCombined (t : Litmus) (paths : List Path) : Type 0 where
  pub one_each : length paths ≡ length t.agents
  pub each : (i : ℕ) (path : Path) → slice_get paths i ≡ Some path → IsPath i (agent_of t i).body path

-- a choice of the test: there are paths with these decisions, whose byte reads have these sources
pub record IsChoice (t : Litmus) (choice : Choice) : Type 0 where
  pub paths : List Path
  pub combined : AreCombined t paths
  pub decided : map (λ path. path.decisions) paths ≡ choice.decisions
  pub sourced : AreSources (events_of t.bytes (map (λ path. path.events) paths)) choice.sources

-- first by the decisions, agent after agent, and then by the sources
abbrev pub choice_cmp : Choice → Choice → Ordering
choice_cmp a b = ordering_then (slice_cmp (slice_cmp nat_cmp) a.decisions b.decisions) (slice_cmp nat_cmp a.sources b.sources)

-- the combinations are exactly what is combined of paths, each once, and rise strictly by their decisions
pub record ListsCombinations (t : Litmus) : Type 0 where
  pub only : (c : ℕ) (paths : List Path) → slice_get (combinations_of t) c ≡ Some paths → AreCombined t paths
  pub all : (paths : List Path) → AreCombined t paths → (c : ℕ) × (slice_get (combinations_of t) c ≡ Some paths)
  pub rising : (i j : ℕ) (a b : List Path) → i < j → slice_get (combinations_of t) i ≡ Some a → slice_get (combinations_of t) j ≡ Some b
      → slice_cmp (slice_cmp nat_cmp) (map (λ path. path.decisions) a) (map (λ path. path.decisions) b) ≡ Less

-- the list rises strictly
abbrev pub IsRising : List Choice → Type 0
IsRising choices = (i j : ℕ) (a b : Choice) → i < j → slice_get choices i ≡ Some a → slice_get choices j ≡ Some b → choice_cmp a b ≡ Less

-- `choices_of` contains exactly the choices, rising, so that a choice's number is how many choices come before it
pub record ListsChoices (t : Litmus) : Type 0 where
  pub only : (n : ℕ) (choice : Choice) → slice_get (choices_of t) n ≡ Some choice → IsChoice t choice
  pub all : (choice : Choice) → IsChoice t choice → (n : ℕ) × (slice_get (choices_of t) n ≡ Some choice)
  pub rising : IsRising (choices_of t)

-- exactly the candidates of a byte of a read, rising
pub record ListsCandidates (events : List Event) (r b : ℕ) (candidates : List ℕ) : Type 0 where
  pub only : (k w : ℕ) → slice_get candidates k ≡ Some w → IsCandidate events r b w
  pub all : (w : ℕ) → IsCandidate events r b w → (k : ℕ) × (slice_get candidates k ≡ Some w)
  pub rising : (i j v w : ℕ) → i < j → slice_get candidates i ≡ Some v → slice_get candidates j ≡ Some w → v < w
