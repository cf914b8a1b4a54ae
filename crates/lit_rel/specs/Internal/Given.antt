-- The byte reads of a combination that have a source.
use Rattle.std.specs.Prelude.{◌≡◌, ◌≢◌, ◌⊎◌, ℕ, ◌<◌, All, List, length, map, take, Some, slice_get}
use Rattle.lit_syntax.specs.Syntax.{Litmus}
use Rattle.lit_paths.specs.declared.event.Event.{Event}
use Rattle.lit_paths.specs.ByteReads.{byte_reads}
use Rattle.lit_paths.specs.Event.{event_at}
use Rattle.lit_rel.specs.declared.given.SourcedByte.{SourcedByte}
use Rattle.lit_rel.specs.Coherent.{IsCoherentRead}
use Rattle.lit_rel.specs.Part.{PartModel}
use Rattle.lit_rel.specs.Racing.{AreApart}
use Rattle.lit_rel.specs.TearFree.{CanReadWhole}

-- the byte read of a byte with its source: the read and the byte
abbrev pub read_of : SourcedByte → ℕ × ℕ
read_of p = (p.read, p.byte)

-- the source of each byte
abbrev pub sources_of : List SourcedByte → List ℕ
sources_of bytes = map (λ p. p.source) bytes

-- a combination of a test with these byte reads
abbrev pub part_of : Litmus → ℕ → List SourcedByte → PartModel
part_of t c bytes = record { test = t; combination = c; sources = sources_of bytes }

-- the bytes are the first byte reads of these events
abbrev pub AreFirstReads : List Event → List SourcedByte → Type 0
AreFirstReads events bytes = map read_of bytes ≡ take (length bytes) (byte_reads events)

-- the byte's read and its source are numbers of events
abbrev pub IsKnown : ℕ → SourcedByte → Type 0
IsKnown n p = (p.read < n) × (p.source < n)

abbrev pub AreKnown : List Event → List SourcedByte → Type 0
AreKnown events bytes = All (IsKnown (length events)) bytes

-- two bytes of one read come whole from two sources
pub record Tears (events : List Event) (p q : SourcedByte) : Type 0 where
  pub one_read : p.read ≡ q.read
  pub two_sources : p.source ≢ q.source
  pub first_whole : CanReadWhole (event_at events p.read) (event_at events p.source)
  pub second_whole : CanReadWhole (event_at events q.read) (event_at events q.source)

-- one of these bytes has the property
pub record HasByteSo (bytes : List SourcedByte) (IsSo : SourcedByte → Type 0) : Type 0 where
  pub place : ℕ
  pub byte : SourcedByte
  pub at_place : slice_get bytes place ≡ Some byte
  pub is_so : IsSo byte

-- the byte is not coherent by this relation
abbrev pub IsIncoherent : List Event → (ℕ → ℕ → Type 0) → SourcedByte → Type 0
IsIncoherent events before p = ¬ IsCoherentRead events before p.read p.byte p.source

-- the byte's read and its source are in a data race by this relation
abbrev pub IsRacing : List Event → (ℕ → ℕ → Type 0) → SourcedByte → Type 0
IsRacing events before p = AreApart events before p.read p.source

-- two of these bytes tear their read
abbrev pub HasTornBytes : List Event → List SourcedByte → Type 0
HasTornBytes events bytes = HasByteSo bytes (λ p. HasByteSo bytes (Tears events p))

-- some event comes before itself by this relation, or some byte is not coherent or tears its read
abbrev pub HasBrokenBytes : List Event → (ℕ → ℕ → Type 0) → List SourcedByte → Type 0
HasBrokenBytes events before bytes = ((e : ℕ) × before e e) ⊎ HasByteSo bytes (IsIncoherent events before) ⊎ HasTornBytes events bytes
