use Rattle.std.proofs.Common.{rules, ◌≡◌, ℕ, ◌<◌, length, sym, ap, ◌∙◌, subst, arith}
use Rattle.std.proofs.lemmas.Option.{slice_get-get_or}
use Rattle.std.specs.List.{slice_get}
use Rattle.lit_syntax.specs.Syntax.{Litmus}
use Rattle.lit_paths.specs.ByteReads.{byte_read_at, byte_reads}
use Rattle.lit_paths.specs.Plan.{events_in}
use Rattle.lit_paths.specs.Members.{ListsCandidates}
use Rattle.lit_rel.specs.Part.{part_events}
use Rattle.lit_why_tests.proofs.GivingLemmas.{place_of_any}
use Rattle.lit_why_tests.proofs.why.give.Goals as goal

pub push-requires : goal.push-requires
push-requires g c =
    let part = c.args.part.now in
    let place = c.len-place.result in
    let lists = subst (λ (x : Litmus × ℕ). ListsCandidates (events_in x.0 x.1) (byte_read_at (events_in x.0 x.1) place).0 (byte_read_at (events_in x.0 x.1) place).1 c.candidates.result.now) c.combination.ensures c.candidates.ensures.lists in
    let found = place_of_any c.candidates.result.now c.args.source (sym c.contains-is_candidate.ensures.value ∙ (search rules)) in
    let count : place ≡ length part.sources = c.len-place.ensures.value in
    let below : place < length (byte_reads (part_events part)) = omega (arith, c.reads.ensures) in
    record {
      read = (byte_read_at (part_events part) place).0;
      byte = (byte_read_at (part_events part) place).1;
      left = ap (slice_get (byte_reads (part_events part))) (sym count) ∙ slice_get-get_or (byte_reads (part_events part)) place (0, 0) below;
      candidate = lists.only found.0 c.args.source found.1;
    }
