-- What the domains of a box say of the guards of paths.
use Rattle.std.proofs.Common.{◌≡◌, inr, ℕ, List, Some, ap, arith, length, map, subst, ◌∙◌}
use Rattle.std.proofs.lemmas.Option.{slice_get_within}
use Rattle.lit_syntax.specs.Syntax.{Litmus}
use Rattle.lit_paths.specs.declared.byte_reads.ByteRead.{ByteRead}
use Rattle.lit_paths.specs.declared.event.Event.{Event}
use Rattle.lit_paths.specs.ByteReads.{byte_reads, pair_of}
use Rattle.lit_paths.specs.Plan.{AreEventsIn}
use Rattle.lit_rel.specs.Broken.{HasFalseGuard, HasFalseGuardOn}
use Rattle.lit_rel.specs.ReadsFrom.{value_of}
use Rattle.lit_solve.specs.Box.{Box, box_events, events_on}
use Rattle.lit_solve.specs.Fill.{AreSourcesIn}
use Rattle.lit_solve.proofs.PruningLemmas.{as_many}
use Rattle.lit_why.specs.Attempts.{part_with}

-- where each byte read has a source, a guard on any read that is false of its value is a false guard of the part
pub refused_by_read : (box : Box) (r : ℕ) (sources : List ℕ) → AreSourcesIn box sources
    → HasFalseGuardOn box.test box.combination (Some r) (value_of (box_events box) sources r)
    → HasFalseGuard (part_with box.test box.combination sources)
refused_by_read box r sources lie is =
    inr (r, (λ i b at. omega (arith, slice_get_within (byte_reads (box_events box)) i (r, b) at, lie.sourced.one_each)), is)

-- ---- what is known of a problem's combination
pub reads_len : (p q : Litmus × ℕ) (reads : List ByteRead) → map pair_of reads ≡ byte_reads (events_on q) → q ≡ p
    → length reads ≡ length (byte_reads (events_on p))
reads_len p q reads listed same = as_many (events_on q) reads listed ∙ ap (λ (r : Litmus × ℕ). length (byte_reads (events_on r))) same

pub events_are : (p q : Litmus × ℕ) (es : List Event) → es ≡ events_on q → AreEventsIn q.0.bytes es → q ≡ p
    → AreEventsIn p.0.bytes (events_on p)
events_are p q es value sound same =
    subst (λ (r : Litmus × ℕ). AreEventsIn r.0.bytes (events_on r)) same
    (subst (λ (xs : List Event). AreEventsIn q.0.bytes xs) value sound)
