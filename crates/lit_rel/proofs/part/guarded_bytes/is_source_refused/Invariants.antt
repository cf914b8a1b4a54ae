use Rattle.std.proofs.Common.{ℕ, ◌<◌}
use Rattle.lit_paths.specs.Event.{event_at, payload_at}
use Rattle.lit_paths.specs.Plan.{events_in, first_event, path_in}
use Rattle.lit_rel.specs.Internal.FalseGuards.{HasFalseByte}
use Rattle.lit_rel.proofs.part.guarded_bytes.is_source_refused.Given as goal

abbrev pub invariant-loop-agent : goal.invariant-loop-agent
invariant-loop-agent l = (i : ℕ) → i < l.agent
    → HasFalseByte (path_in l.combination.0 l.combination.1 i).tests (first_event l.combination.0 l.combination.1 i) l.at.read (event_at (events_in l.combination.0 l.combination.1) l.at.read) l.at.byte
    (payload_at (event_at (events_in l.combination.0 l.combination.1) l.source) l.at.byte)
    → ⊥
