-- The paths of an agent through its text, and the events that each makes (ECMA-262, 2024, 25.1.3, 25.4 and 29.2; that a
-- path may go either way at a decision is this project's own).
use Rattle.std.specs.Prelude.{ℕ, ◌+◌, ◌*◌, ◌/◌, ◌%◌, Bool, true, false, not}
use Rattle.std.specs.Prelude.{if◌then◌else◌, Some, List, [], ◌∷◌, ◌++◌, map}
use Rattle.std.specs.List.{flat_map}
use Rattle.lit_syntax.specs.Syntax.{Window, window_size, is_data_view, Statement, Statements}
use Rattle.lit_syntax.specs.Syntax.{Load, Store, Exchange, CompareExchange, If, End, Then}
use Rattle.lit_paths.specs.declared.event.Kind.{Kind}
use Rattle.lit_paths.specs.declared.event.Kind.TheVariants.{Read, Write, Modify}
use Rattle.lit_paths.specs.declared.event.Order3.TheVariants.{SeqCst, Unordered}
use Rattle.lit_paths.specs.declared.event.Event.{Event}

-- the first byte of an access: an index counts elements, or bytes in a DataView call
abbrev pub first_byte : Window → ℕ → ℕ
first_byte window index = if is_data_view window then index else index * window_size window

-- a number as four bytes, the lowest first
abbrev pub payload_of : ℕ → List ℕ
payload_of value = value % 256 ∷ value / 256 % 256 ∷ value / 65536 % 256 ∷ value / 16777216 % 256 ∷ []

-- What an access makes; one that stores nothing has the value 0. Atomics make sequentially consistent events, other accesses
-- unordered ones.
abbrev pub access_event : Kind → (owner place : ℕ) → Window → (index value : ℕ) → (atomic : Bool) → Event
access_event kind owner place window index value atomic = record {
  kind = kind;
  order = if atomic then SeqCst else Unordered;
  no_tear = not (is_data_view window);
  first = first_byte window index;
  size = window_size window;
  payload = payload_of value;
  owner = Some owner;
  place = place;
}

-- A statement met on the way, with the decision taken there: whether the compareExchange succeeds, and whether the
-- comparison of the `if` holds, so that its then-part is walked.
pub data Step : Type 0 where
  LoadMet : (reg : ℕ) → (window : Window) → (index : ℕ) → (atomic : Bool) → Step
  StoreMet : (window : Window) → (index value : ℕ) → (atomic : Bool) → Step
  ExchangeMet : (reg : ℕ) → (window : Window) → (index value : ℕ) → Step
  CompareExchangeMet : (reg : ℕ) → (window : Window) → (index expected value : ℕ) → (succeeds : Bool) → Step
  IfMet : (reg : ℕ) → (equal : Bool) → (value : ℕ) → (holds : Bool) → Step

-- a decision as a number: 0 where the compareExchange succeeds or the then-part is walked, else 1
abbrev pub decision : Bool → ℕ
decision true = 0
decision false = 1

-- the decisions taken on the way
abbrev pub decisions_on : List Step → List ℕ
decisions_on [] = []
decisions_on (LoadMet reg window index atomic ∷ steps) = decisions_on steps
decisions_on (StoreMet window index value atomic ∷ steps) = decisions_on steps
decisions_on (ExchangeMet reg window index value ∷ steps) = decisions_on steps
decisions_on (CompareExchangeMet reg window index expected value succeeds ∷ steps) = decision succeeds ∷ decisions_on steps
decisions_on (IfMet reg equal value holds ∷ steps) = decision holds ∷ decisions_on steps

-- what a compareExchange makes: a read-modify-write of the replacement where it succeeds, else a read
abbrev pub compare_exchange_event : ℕ → ℕ → Window → ℕ → ℕ → Bool → Event
compare_exchange_event owner place window index value true = access_event Modify owner place window index value true
compare_exchange_event owner place window index value false = access_event Read owner place window index 0 true

-- the events made on the way, of which the first gets this place; an `if` makes none
abbrev pub events_on : ℕ → ℕ → List Step → List Event
events_on owner place [] = []
events_on owner place (LoadMet reg window index atomic ∷ steps) =
    access_event Read owner place window index 0 atomic ∷ events_on owner (place + 1) steps
events_on owner place (StoreMet window index value atomic ∷ steps) =
    access_event Write owner place window index value atomic ∷ events_on owner (place + 1) steps
events_on owner place (ExchangeMet reg window index value ∷ steps) =
    access_event Modify owner place window index value true ∷ events_on owner (place + 1) steps
events_on owner place (CompareExchangeMet reg window index expected value succeeds ∷ steps) =
    compare_exchange_event owner place window index value succeeds ∷ events_on owner (place + 1) steps
events_on owner place (IfMet reg equal value holds ∷ steps) = events_on owner place steps

-- a list of decisions through a text, and the events met on the way
pub record Path : Type 0 where
  pub decisions : List ℕ
  pub events : List Event

-- the path with these steps
abbrev pub path_on : ℕ → List Step → Path
path_on owner steps = record { decisions = decisions_on steps; events = events_on owner 0 steps }

-- every way through a statement, by rising decisions
abbrev mutual
  pub statement_walks : Statement → List (List Step)
  statement_walks (Load reg window index atomic) = (LoadMet reg window index atomic ∷ []) ∷ []
  statement_walks (Store window index value atomic) = (StoreMet window index value atomic ∷ []) ∷ []
  statement_walks (Exchange reg window index value) = (ExchangeMet reg window index value ∷ []) ∷ []
  statement_walks (CompareExchange reg window index expected value) =
      (CompareExchangeMet reg window index expected value true ∷ []) ∷ (CompareExchangeMet reg window index expected value false ∷ []) ∷ []
  statement_walks (If reg equal value body other) =
      map (λ arm. IfMet reg equal value true ∷ arm) (walks_of body) ++ map (λ arm. IfMet reg equal value false ∷ arm) (walks_of other)

  -- every way through statements, one after the other
  pub walks_of : Statements → List (List Step)
  walks_of End = [] ∷ []
  walks_of (Then s ss) = flat_map (λ first. map (λ rest. first ++ rest) (walks_of ss)) (statement_walks s)
