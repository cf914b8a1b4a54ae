use Rattle.std.proofs.Common.{◌++◌, inl, inr, arith}
use Rattle.std.proofs.lemmas.List.{length-append}
use Rattle.lit_rel.specs.Part.{part_events}
use Rattle.lit_rel.specs.ReadsFrom.{ReadsByteFrom}
use Rattle.lit_rel.proofs.BrokenLemmas.{IsBrokenBy-grows}
use Rattle.lit_rel.proofs.GrowthLemmas.{ReadsByteFrom-longer, values_stay}
use Rattle.lit_rel.proofs.laws.broken_parts_stay_broken.Goals as goal

pub returns : goal.returns
returns c part rest (inl relations) =
    let events = part_events part in
    inl (IsBrokenBy-grows events (ReadsByteFrom events part.sources) (ReadsByteFrom events (part.sources ++ rest)) (ReadsByteFrom-longer events part.sources rest) relations)
returns c part rest (inr (inl f)) = inr (inl f)
returns c part rest (inr (inr (r, whole, f))) =
    inr (inr (r, (λ i b at. omega (arith, whole i b at, length-append part.sources rest)), rw (values_stay (part_events part) part.sources rest r whole) f))
