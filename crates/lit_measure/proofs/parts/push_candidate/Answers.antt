use Rattle.std.proofs.Common.{◌≡◌, ℕ, ◌<◌, length, get_or, sym, ap, ◌∙◌, subst, arith}
use Rattle.std.proofs.lemmas.Option.{slice_get-get_or}
use Rattle.std.specs.List.{slice_get}
use Rattle.lit_syntax.specs.Syntax.{Litmus}
use Rattle.lit_paths.specs.ByteReads.{byte_read_at, byte_reads}
use Rattle.lit_paths.specs.Plan.{events_in}
use Rattle.lit_paths.specs.Members.{ListsCandidates}
use Rattle.lit_rel.specs.Part.{part_events}
use Rattle.lit_measure.proofs.parts.push_candidate.Goals as goal

pub push-requires : goal.push-requires
push-requires c =
    let part = c.args.part.now in
    let place = c.len-place.result in
    let reads = byte_reads (part_events part) in
    let candidates = c.candidates-candidates.result.now in
    let lists = subst (λ (x : Litmus × ℕ). ListsCandidates (events_in x.0 x.1) (byte_read_at (events_in x.0 x.1) place).0 (byte_read_at (events_in x.0 x.1) place).1 candidates) c.combination.ensures c.candidates-candidates.ensures.lists in
    let count : place ≡ length part.sources = c.len-place.ensures.value in
    let below : place < length reads = omega (arith, c.reads.ensures, c.if-place-reads.false) in
    record {
      read = (byte_read_at (part_events part) place).0;
      byte = (byte_read_at (part_events part) place).1;
      left = ap (slice_get reads) (sym count) ∙ slice_get-get_or reads place (0, 0) below;
      candidate = lists.only c.args.index (get_or candidates c.args.index 0) (slice_get-get_or candidates c.args.index 0 c.if-index-candidates.false);
    }
