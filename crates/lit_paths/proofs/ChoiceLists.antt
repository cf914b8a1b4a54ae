-- The list of a test's choices has exactly its choices, and rises strictly.
use Rattle.std.proofs.Common.{◌≡◌, ◌↔◌, ℕ, List, map, slice_get, Some, option_map, Option, sym, ap, ap₂, ◌∙◌, subst}
use Rattle.std.specs.Prelude.{Contains}
use Rattle.std.specs.Cmp.Lexicographic.{slice_cmp}
use Rattle.std.specs.Ordering.{nat_cmp, ordering_then}
use Rattle.std.specs.declared.cmp.Ordering.{Ordering}
use Rattle.std.specs.declared.cmp.Ordering.TheVariants.{Less}
use Rattle.std.proofs.lemmas.List.{length-map}
use Rattle.std.proofs.lemmas.Option.{slice_get-map}
use Rattle.lit_syntax.specs.Syntax.{Litmus}
use Rattle.lit_paths.specs.declared.event.Event.{Event}
use Rattle.lit_paths.specs.Path.{Path}
use Rattle.lit_paths.specs.ByteReads.{byte_reads}
use Rattle.lit_paths.specs.Choice.{Choice, candidates_of, sources_of, events_of, combinations_of, choices_on, choices_of}
use Rattle.lit_paths.specs.Members.{AreSources, IsChoice, ListsChoices, choice_cmp}
use Rattle.lit_paths.specs.Execution.{Execution, execution_events, IsCandidateExecution}
use Rattle.lit_paths.proofs.Products.{product-known, product-found}
use Rattle.lit_paths.proofs.Candidates.{candidates_of-known, candidates_of-found, candidates_from-rising}
use Rattle.lit_paths.proofs.PathLists.{contained-at, at-contained, combinations_of-known, combinations_of-found, combinations_of-rise}
use Rattle.lit_paths.proofs.Rising.{Rises, slice_get-map-known, nat_cmp-less, nat_cmp-same, slice_cmp-same, product-rises, flat_map-known, flat_map-found, flat_map-rises}

-- all events of paths
abbrev pub events_on : ℕ → List Path → List Event
events_on bytes paths = events_of bytes (map (λ path. path.events) paths)

-- the choice of these paths and sources
abbrev pub choice_on : List Path → List ℕ → Choice
choice_on paths sources = record { decisions = map (λ path. path.decisions) paths; sources = sources }

-- the sources with a number are candidates, each of its byte
pub AreSources-sources_of : (events : List Event) (n : ℕ) (sources : List ℕ) → slice_get (sources_of events) n ≡ Some sources → AreSources events sources
AreSources-sources_of events n sources at =
    let takes = product-known (map (candidates_of events) (byte_reads events)) n sources at in
    record {
      one_each = takes.one_each ∙ length-map (byte_reads events) (candidates_of events);
      each = λ i r b w read source.
          let listed : slice_get (map (candidates_of events) (byte_reads events)) i ≡ Some (candidates_of events (r, b)) =
          slice_get-map (candidates_of events) (byte_reads events) i ∙ ap (λ (o : Option (ℕ × ℕ)). option_map (candidates_of events) o) read in
          let found = takes.each i (candidates_of events (r, b)) w listed source in
          candidates_of-known events r b found.0 w found.1;
    }

pub sources_of-found : (events : List Event) (sources : List ℕ) → AreSources events sources → (n : ℕ) × (slice_get (sources_of events) n ≡ Some sources)
sources_of-found events sources are =
    product-found (map (candidates_of events) (byte_reads events)) sources (record {
      one_each = are.one_each ∙ sym (length-map (byte_reads events) (candidates_of events));
      each = λ i list w here there.
          let from = slice_get-map-known (candidates_of events) (byte_reads events) i list here in
          let found = candidates_of-found events from.0.0 from.0.1 w (are.each i from.0.0 from.0.1 w from.1 there) in
          (found.0, sym (ap (λ (l : List ℕ). slice_get l found.0) from.2) ∙ found.1);
    })

pub sources_of-iff : (events : List Event) (sources : List ℕ) → Contains (sources_of events) sources ↔ AreSources events sources
sources_of-iff events sources = (
  λ h. let at = contained-at (sources_of events) sources h in AreSources-sources_of events at.0 sources at.1,
  λ are. let found = sources_of-found events sources are in at-contained (sources_of events) found.0 sources found.1,
)

-- the sources of a candidate execution
pub execution-sources : (t : Litmus) (x : Execution) → IsCandidateExecution t x → AreSources (execution_events t x) x.sources
execution-sources t x is = (sources_of-iff (execution_events t x) x.sources).0 is.sourced

pub choices_of-known : (t : Litmus) (n : ℕ) (choice : Choice) → slice_get (choices_of t) n ≡ Some choice → IsChoice t choice
unfolding choices_of
choices_of-known t n choice at =
    let from = flat_map-known (choices_on t.bytes) (combinations_of t) n choice at in
    let paths : List Path = from.1 in
    let chosen = slice_get-map-known (choice_on paths) (sources_of (events_on t.bytes paths)) from.2 choice from.4 in
    record {
      paths = paths;
      combined = combinations_of-known t from.0 paths from.3;
      decided = ap (λ (c : Choice). c.decisions) chosen.2;
      sourced = subst (λ (ss : List ℕ). AreSources (events_on t.bytes paths) ss) (ap (λ (c : Choice). c.sources) chosen.2)
          (AreSources-sources_of (events_on t.bytes paths) from.2 chosen.0 chosen.1);
    }

pub choices_of-found : (t : Litmus) (choice : Choice) → IsChoice t choice → (n : ℕ) × (slice_get (choices_of t) n ≡ Some choice)
unfolding choices_of
choices_of-found t choice is =
    let combined = combinations_of-found t is.paths is.combined in
    let sourced = sources_of-found (events_on t.bytes is.paths) choice.sources is.sourced in
    let same : choice_on is.paths choice.sources ≡ choice = ap (λ (ds : List (List ℕ)). record { decisions = ds; sources = choice.sources }) is.decided in
    let at : slice_get (choices_on t.bytes is.paths) sourced.0 ≡ Some choice =
    slice_get-map (choice_on is.paths) (sources_of (events_on t.bytes is.paths)) sourced.0
    ∙ ap (λ (o : Option (List ℕ)). option_map (choice_on is.paths) o) sourced.1 ∙ ap (λ (c : Choice). Some c) same in
    flat_map-found (choices_on t.bytes) (combinations_of t) combined.0 is.paths sourced.0 choice combined.1 at

pub candidates_of-rises : (events : List Event) (read : ℕ × ℕ) → Rises nat_cmp (candidates_of events read)
candidates_of-rises events read = λ i j a b less here there. nat_cmp-less a b (candidates_from-rising read 0 events i j a b less here there)

pub sources_of-rises : (events : List Event) → Rises (slice_cmp nat_cmp) (sources_of events)
sources_of-rises events =
    product-rises nat_cmp nat_cmp-same (map (candidates_of events) (byte_reads events)) (λ i list at.
    let from = slice_get-map-known (candidates_of events) (byte_reads events) i list at in
    subst (λ (l : List ℕ). Rises nat_cmp l) from.2 (candidates_of-rises events from.0))

choices_on-rises : (bytes : ℕ) (paths : List Path) → Rises choice_cmp (choices_on bytes paths)
choices_on-rises bytes paths = λ i j a b less here there.
    let first = slice_get-map-known (choice_on paths) (sources_of (events_on bytes paths)) i a here in
    let second = slice_get-map-known (choice_on paths) (sources_of (events_on bytes paths)) j b there in
    let decisions : List (List ℕ) = map (λ path. path.decisions) paths in
    sym (ap₂ (λ (x y : Choice). choice_cmp x y) first.2 second.2)
    ∙ ap₂ (λ (o p : Ordering). ordering_then o p) (slice_cmp-same (slice_cmp nat_cmp) (slice_cmp-same nat_cmp nat_cmp-same) decisions)
    (sources_of-rises (events_on bytes paths) i j first.0 second.0 less first.1 second.1)

pub choices_of-rises : (t : Litmus) → Rises choice_cmp (choices_of t)
unfolding choices_of
choices_of-rises t =
    flat_map-rises (λ x y. choice_cmp x y ≡ Less) (choices_on t.bytes) (combinations_of t) (λ i paths at. choices_on-rises t.bytes paths)
    (λ i j paths others p q a b less here there first second.
    let from = slice_get-map-known (choice_on paths) (sources_of (events_on t.bytes paths)) p a first in
    let to = slice_get-map-known (choice_on others) (sources_of (events_on t.bytes others)) q b second in
    sym (ap₂ (λ (x y : Choice). choice_cmp x y) from.2 to.2)
    ∙ ap (λ (o : Ordering). ordering_then o (slice_cmp nat_cmp from.0 to.0))
    (combinations_of-rise t i j paths others less here there))

pub lists_choices : (t : Litmus) → ListsChoices t
lists_choices t = record { only = choices_of-known t; all = choices_of-found t; rising = choices_of-rises t }
