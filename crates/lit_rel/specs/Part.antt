-- Parts of choices: a combination of paths, and the sources of its first byte reads (this project's own).
use Rattle.std.specs.Prelude.{◌≡◌, ℕ, List, length, Some, slice_get}
use Rattle.std.proofs.Common.{refl}
use Rattle.std.specs.Coded.{Coded, code_by, coded×, coded_ℕ, coded_list}
use Rattle.lit_syntax.specs.Syntax.{Litmus}
use Rattle.lit_syntax.specs.SyntaxCodes.{coded_litmus}
use Rattle.lit_paths.specs.declared.event.Event.{Event}
use Rattle.lit_paths.specs.ByteReads.{byte_reads}
use Rattle.lit_paths.specs.Members.{IsCandidate, AreCandidates}
use Rattle.lit_paths.specs.Plan.{events_in}

-- the test, the combination's number, and the sources given so far
pub record PartModel : Type 0 where
  pub test : Litmus
  pub combination : ℕ
  pub sources : List ℕ

-- a code, by which a proof tells two parts apart
abbrev pub coded_part : Coded PartModel
coded_part =
    code_by (Litmus × (ℕ × List ℕ)) (coded× coded_litmus (coded× coded_ℕ (coded_list coded_ℕ))) (λ p. (p.test, (p.combination, p.sources)))
    (λ x. record { test = x.0; combination = x.1.0; sources = x.1.1 }) (λ _. refl)

-- all events of the part's combination
abbrev pub part_events : PartModel → List Event
part_events part = events_in part.test part.combination

-- the part with these sources in place of its own
abbrev pub with_sources : PartModel → List ℕ → PartModel
with_sources part sources = record { test = part.test; combination = part.combination; sources = sources }

-- some byte read has no source yet, and w is a candidate of the first such one
pub record IsNextSource (part : PartModel) (w : ℕ) : Type 0 where
  pub read : ℕ
  pub byte : ℕ
  pub left : slice_get (byte_reads (part_events part)) (length part.sources) ≡ Some (read, byte)
  pub candidate : IsCandidate (part_events part) read byte w

-- each source given is a candidate of its byte read
abbrev pub AreFirstSources : PartModel → Type 0
AreFirstSources part = AreCandidates (part_events part) part.sources

-- each byte read has a source
abbrev pub IsComplete : PartModel → Type 0
IsComplete part = length part.sources ≡ length (byte_reads (part_events part))
