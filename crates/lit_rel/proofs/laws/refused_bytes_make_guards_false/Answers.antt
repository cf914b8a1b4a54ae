use Rattle.std.proofs.Common.{arith, inr}
use Rattle.std.proofs.lemmas.Option.{slice_get_within}
use Rattle.lit_paths.specs.ByteReads.{byte_reads}
use Rattle.lit_rel.specs.Part.{part_events}
use Rattle.lit_rel.proofs.GuardedByteLemmas.{false_of}
use Rattle.lit_rel.proofs.laws.refused_bytes_make_guards_false.Goals as goal

pub returns : goal.returns
returns c part r b w sound complete from refused =
    let events = part_events part in
    let is_false = false_of part.test.bytes events sound part.sources complete r b w refused.test from refused.is_false in
    inr (
      r,
      (λ i b' at. omega (arith, complete, slice_get_within (byte_reads events) i (r, b') at)),
      record { agent = refused.agent; known = refused.known; place = refused.place; test = refused.test; at_place = refused.at_place; asks = refused.asks; is_false = is_false },
    )
