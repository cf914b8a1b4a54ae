-- Small executions with accesses of two bytes, and what the model says of them (this project's own).
use Rattle.std.specs.Prelude.{◌≡◌, ◌≢◌, ℕ, true, false, Some, List, [], ◌∷◌, ◌++◌}
use Rattle.lit_paths.specs.declared.event.Event.{Event}
use Rattle.lit_paths.specs.declared.event.Kind.TheVariants.{Read, Write}
use Rattle.lit_paths.specs.declared.event.Order3.TheVariants.{SeqCst, Unordered}
use Rattle.lit_paths.specs.Members.{AreSources}
use Rattle.lit_paths.specs.Event.{init_events}
use Rattle.lit_rel.specs.ReadsFrom.{ReadsFrom, value_of}
use Rattle.lit_rel.specs.SynchronizesWith.{Synchronizes}
use Rattle.lit_rel.specs.TearFree.{HasTearFreeReads}

-- store buffering with 16-bit stores through Atomics and 8-bit loads of the other agent's first byte, by event number:
-- 4 stores 1 at bytes 0 and 1, 5 loads byte 2; 6 stores 1 at bytes 2 and 3, 7 loads byte 0
abbrev pub mixed_sizes : List Event
mixed_sizes =
    init_events 4
    ++ record { kind = Write; order = SeqCst; no_tear = true; first = 0; size = 2; payload = 1 ∷ 0 ∷ 0 ∷ 0 ∷ []; owner = Some 0; place = 0 }
    ∷ record { kind = Read; order = SeqCst; no_tear = true; first = 2; size = 1; payload = 0 ∷ 0 ∷ 0 ∷ 0 ∷ []; owner = Some 0; place = 1 }
    ∷ record { kind = Write; order = SeqCst; no_tear = true; first = 2; size = 2; payload = 1 ∷ 0 ∷ 0 ∷ 0 ∷ []; owner = Some 1; place = 0 }
    ∷ record { kind = Read; order = SeqCst; no_tear = true; first = 0; size = 1; payload = 0 ∷ 0 ∷ 0 ∷ 0 ∷ []; owner = Some 1; place = 1 }
    ∷ []

-- whatever the loads read, nothing synchronizes
abbrev pub MixedSizesNeverSynchronize : Type 0
MixedSizesNeverSynchronize = (sources : List ℕ) → AreSources mixed_sizes sources → (w r : ℕ) → ¬ Synchronizes mixed_sizes sources w r

-- two plain 16-bit stores and a load of the same bytes: 2 stores 257, 3 stores 514, 4 loads, and must not tear or may
abbrev pub two_stores : List Event
two_stores =
    init_events 2
    ++ record { kind = Write; order = Unordered; no_tear = true; first = 0; size = 2; payload = 1 ∷ 1 ∷ 0 ∷ 0 ∷ []; owner = Some 0; place = 0 }
    ∷ record { kind = Write; order = Unordered; no_tear = true; first = 0; size = 2; payload = 2 ∷ 2 ∷ 0 ∷ 0 ∷ []; owner = Some 1; place = 0 }
    ∷ []

abbrev pub typed_load : List Event
typed_load =
    two_stores
    ++ record { kind = Read; order = Unordered; no_tear = true; first = 0; size = 2; payload = 0 ∷ 0 ∷ 0 ∷ 0 ∷ []; owner = Some 2; place = 0 } ∷ []

abbrev pub viewed_load : List Event
viewed_load =
    two_stores
    ++ record { kind = Read; order = Unordered; no_tear = false; first = 0; size = 2; payload = 0 ∷ 0 ∷ 0 ∷ 0 ∷ []; owner = Some 2; place = 0 } ∷ []

-- For a load through a typed array, tear free reads allow no mix of the two stores. They allow a mix of one of them and
-- the event that made a byte, which is one byte wide.
pub record TypedLoadMixesWithInitOnly : Type 0 where
  pub first_mix : value_of typed_load (3 ∷ 2 ∷ []) 4 ≡ 258
  pub first_mix_refused : ¬ HasTearFreeReads typed_load (3 ∷ 2 ∷ [])
  pub second_mix : value_of typed_load (2 ∷ 3 ∷ []) 4 ≡ 513
  pub second_mix_refused : ¬ HasTearFreeReads typed_load (2 ∷ 3 ∷ [])
  pub init_mix : value_of typed_load (0 ∷ 2 ∷ []) 4 ≡ 256
  pub init_mix_allowed : HasTearFreeReads typed_load (0 ∷ 2 ∷ [])

-- for a load through a DataView, tear free reads allow a mix of the two stores
pub record ViewedLoadMixes : Type 0 where
  pub mix : value_of viewed_load (3 ∷ 2 ∷ []) 4 ≡ 258
  pub mix_allowed : HasTearFreeReads viewed_load (3 ∷ 2 ∷ [])

-- no event, and so no read-modify-write, reads from itself
abbrev pub NeverReadsItself : Type 0
NeverReadsItself = (events : List Event) (sources : List ℕ) → AreSources events sources → (r w : ℕ) → ReadsFrom events sources r w → w ≢ r
