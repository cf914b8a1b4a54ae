-- The guards of a path on the values that are read on it, and which read each register holds at its end (this project's
-- own). A place is that of an access in the agent's event list, from 0.
use Rattle.std.specs.Prelude.{ℕ, ◌+◌, ◌<◌, ◌==◌, Bool, true, false, not, if◌then◌else◌, IsTrue}
use Rattle.std.specs.Prelude.{Option, Some, None, List, [], ◌∷◌, ◌++◌, length, map}
use Rattle.std.specs.List.{range_with_len}
use Rattle.std.specs.Option.{option_or}
use Rattle.lit_syntax.specs.declared.limits.TheConstants.{REGISTERS}
use Rattle.lit_paths.specs.declared.event.Event.{Event}
use Rattle.lit_paths.specs.declared.path.Tested.{Tested}
use Rattle.lit_paths.specs.Event.{does_read, event_at}
use Rattle.lit_paths.specs.Path.{Step, LoadMet, StoreMet, ExchangeMet, CompareExchangeMet, IfMet, events_on}

-- a path's events, its guards, and for each register the place of the read that it holds at the end
pub record PathModel : Type 0 where
  pub events : List Event
  pub tests : List Tested
  pub last : List (Option ℕ)

-- how many accesses a statement met is: an `if` is none
abbrev pub accesses_of : Step → ℕ
accesses_of (LoadMet reg window index atomic) = 1
accesses_of (StoreMet window index value atomic) = 1
accesses_of (ExchangeMet reg window index value) = 1
accesses_of (CompareExchangeMet reg window index expected value succeeds) = 1
accesses_of (IfMet reg equal value holds) = 0

-- how many accesses are on the way: the place of the next one
abbrev pub access_count : List Step → ℕ
access_count [] = 0
access_count (step ∷ steps) = accesses_of step + access_count steps

-- whether a statement met reads, and puts what it reads into this register
abbrev pub reads_into : ℕ → Step → Bool
reads_into r (LoadMet reg window index atomic) = reg == r
reads_into r (StoreMet window index value atomic) = false
reads_into r (ExchangeMet reg window index value) = reg == r
reads_into r (CompareExchangeMet reg window index expected value succeeds) = reg == r
reads_into r (IfMet reg equal value holds) = false

-- the place of the last read into a register among steps of which the first access has this place: it is among the
-- later steps, or else it is the first one
abbrev pub last_read_from : (place : ℕ) → List Step → ℕ → Option ℕ
last_read_from place [] r = None
last_read_from place (step ∷ steps) r =
    option_or (last_read_from (place + accesses_of step) steps r) (if reads_into r step then Some place else None)

-- the place of the last read on the way that goes into a register, `None` where there is none
abbrev pub last_read : List Step → ℕ → Option ℕ
last_read steps r = last_read_from 0 steps r

-- whether the guard of an `if` asks that the value equals the number, or that it differs: it asks for equality where the
-- comparison `==` holds, or `!=` fails
abbrev pub asked : (equal holds : Bool) → Bool
asked equal true = equal
asked equal false = not equal

-- The guard of a step, by the steps before it: that of a compareExchange is on its own read, and that of an `if` on the
-- last read before it that goes into its register.
abbrev pub guards_at : List Step → Step → List Tested
guards_at before (LoadMet reg window index atomic) = []
guards_at before (StoreMet window index value atomic) = []
guards_at before (ExchangeMet reg window index value) = []
guards_at before (CompareExchangeMet reg window index expected value succeeds) =
    record { on = Some (access_count before); equal = succeeds; value = expected } ∷ []
guards_at before (IfMet reg equal value holds) = record { on = last_read before reg; equal = asked equal holds; value = value } ∷ []

-- the guards of steps that come after others
abbrev pub guards_after : (before steps : List Step) → List Tested
guards_after before [] = []
guards_after before (step ∷ steps) = guards_at before step ++ guards_after (before ++ step ∷ []) steps

-- the guards of a path's steps: one for each decision, in order
abbrev pub guards_on : List Step → List Tested
guards_on steps = guards_after [] steps

-- a path of these steps
abbrev pub path_model : (owner : ℕ) → List Step → PathModel
path_model owner steps = record {
  events = events_on owner 0 steps;
  tests = guards_on steps;
  last = map (last_read steps) (range_with_len 0 REGISTERS);
}

-- the place is that of an event that reads
abbrev pub IsReadAt : List Event → ℕ → Type 0
IsReadAt events place = (place < length events) × IsTrue (does_read (event_at events place).kind)
