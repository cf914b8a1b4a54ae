-- A path as it is built, one step after another.
use Rattle.std.specs.Prelude.{ℕ, true, Some, None, List, [], ◌∷◌, ◌++◌, length, replicate, slice_set, slice_index_or}
use Rattle.lit_syntax.specs.declared.limits.TheConstants.{REGISTERS}
use Rattle.lit_paths.specs.declared.event.Event.{Event}
use Rattle.lit_paths.specs.declared.event.Kind.TheVariants.{Read, Write, Modify}
use Rattle.lit_paths.specs.declared.path.Tested.{Tested}
use Rattle.lit_paths.specs.Path.{Step, LoadMet, StoreMet, ExchangeMet, CompareExchangeMet, IfMet}
use Rattle.lit_paths.specs.Path.{access_event, compare_exchange_event}
use Rattle.lit_paths.specs.PathModel.{PathModel, asked}

-- before the first step
abbrev pub empty_path : PathModel
empty_path = record { events = []; tests = []; last = replicate REGISTERS None }

-- one more access
abbrev pub with_access : PathModel → Event → PathModel
with_access path e = record { events = path.events ++ e ∷ []; tests = path.tests; last = path.last }

-- one more access, whose value goes into a register
abbrev pub with_read : PathModel → ℕ → Event → PathModel
with_read path reg e =
    record { events = path.events ++ e ∷ []; tests = path.tests; last = slice_set path.last reg (Some (length path.events)) }

-- one more guard
abbrev pub with_guard : PathModel → Tested → PathModel
with_guard path test = record { events = path.events; tests = path.tests ++ test ∷ []; last = path.last }

-- one more step
abbrev pub with_step : ℕ → PathModel → Step → PathModel
with_step owner path (LoadMet reg window index atomic) =
    with_read path reg (access_event Read owner (length path.events) window index 0 atomic)
with_step owner path (StoreMet window index value atomic) =
    with_access path (access_event Write owner (length path.events) window index value atomic)
with_step owner path (ExchangeMet reg window index value) =
    with_read path reg (access_event Modify owner (length path.events) window index value true)
with_step owner path (CompareExchangeMet reg window index expected value succeeds) =
    with_guard (with_read path reg (compare_exchange_event owner (length path.events) window index value succeeds))
    (record { on = Some (length path.events); equal = succeeds; value = expected })
with_step owner path (IfMet reg equal value holds) =
    with_guard path (record { on = slice_index_or path.last reg None; equal = asked equal holds; value = value })

abbrev pub with_steps : ℕ → PathModel → List Step → PathModel
with_steps owner path [] = path
with_steps owner path (step ∷ steps) = with_steps owner (with_step owner path step) steps
