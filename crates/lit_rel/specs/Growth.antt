-- How the relations, coherence and tear freedom change when more bytes are given a source (this project's own).
use Rattle.std.specs.Prelude.{◌≡◌, ℕ, ◌<◌, Bool, IsTrue, List, ◌++◌, length, Some, slice_get}
use Rattle.lit_paths.specs.declared.event.Event.{Event}
use Rattle.lit_paths.specs.ByteReads.{byte_reads}
use Rattle.lit_rel.specs.ReadsFrom.{ReadsByteFrom, ReadsFromBy, value_of}
use Rattle.lit_rel.specs.SynchronizesWith.{SynchronizesBy}
use Rattle.lit_rel.specs.HappensBefore.{HappensBeforeBy}
use Rattle.lit_rel.specs.Coherent.{IsCoherentRead}
use Rattle.lit_rel.specs.TearFree.{ReadsWholeBy}
use Rattle.lit_rel.specs.Forbidden.{IsForbiddenTriple}

-- v may not stand between w and its read r, by what is given
abbrev pub IsForbiddenBy : List Event → (ℕ → ℕ → ℕ → Type 0) → ℕ → ℕ → ℕ → Type 0
IsForbiddenBy events given = IsForbiddenTriple events given (HappensBeforeBy events given)

-- each byte that is given a source is coherent
abbrev pub HasCoherentReadsBy : List Event → (ℕ → ℕ → ℕ → Type 0) → Type 0
HasCoherentReadsBy events given = (r b w : ℕ) → given r b w → IsCoherentRead events (HappensBeforeBy events given) r b w

-- each read has one source at most that it is given whole
abbrev pub HasTearFreeReadsBy : List Event → (ℕ → ℕ → ℕ → Type 0) → Type 0
HasTearFreeReadsBy events given = (r w v : ℕ) → ReadsWholeBy events given r w → ReadsWholeBy events given r v → v ≡ w

-- The relations only grow. That the reads are coherent and tear free only goes from true to false.
pub record Grows (events : List Event) (less more : ℕ → ℕ → ℕ → Type 0) : Type 0 where
  pub reads_from : (r w : ℕ) → ReadsFromBy less r w → ReadsFromBy more r w
  pub synchronizes : (w r : ℕ) → SynchronizesBy events less w r → SynchronizesBy events more w r
  pub happens_before : (e d : ℕ) → HappensBeforeBy events less e d → HappensBeforeBy events more e d
  pub forbidden : (w r v : ℕ) → IsForbiddenBy events less w r v → IsForbiddenBy events more w r v
  pub coherent : HasCoherentReadsBy events more → HasCoherentReadsBy events less
  pub tear_free : HasTearFreeReadsBy events more → HasTearFreeReadsBy events less

-- the bytes of a set are given these sources
abbrev pub GivenBy : (ℕ → ℕ → ℕ → Bool) → ℕ → ℕ → ℕ → Type 0
GivenBy given r b w = IsTrue (given r b w)

-- from any set of bytes to any that has it, also to that of a list of sources, and from a list to any longer one
pub record GrowWithBytes : Type 0 where
  pub sets : (events : List Event) (less more : ℕ → ℕ → ℕ → Bool) → ((r b w : ℕ) → GivenBy less r b w → GivenBy more r b w)
      → Grows events (GivenBy less) (GivenBy more)
  pub into_lists : (events : List Event) (less : ℕ → ℕ → ℕ → Bool) (sources : List ℕ)
      → ((r b w : ℕ) → GivenBy less r b w → ReadsByteFrom events sources r b w) → Grows events (GivenBy less) (ReadsByteFrom events sources)
  pub lists : (events : List Event) (sources rest : List ℕ)
      → Grows events (ReadsByteFrom events sources) (ReadsByteFrom events (sources ++ rest))

-- all bytes of read r have a source
abbrev pub IsGivenWhole : List Event → List ℕ → ℕ → Type 0
IsGivenWhole events sources r = (i b : ℕ) → slice_get (byte_reads events) i ≡ Some (r, b) → i < length sources

-- the value of a read all of whose bytes have a source does not change with further ones
abbrev pub ValuesStay : Type 0
ValuesStay =
    (events : List Event) (sources rest : List ℕ) (r : ℕ) → IsGivenWhole events sources r
    → value_of events (sources ++ rest) r ≡ value_of events sources r

-- all bytes of read r are given a source
abbrev pub IsGivenWholeBy : List Event → (ℕ → ℕ → ℕ → Type 0) → ℕ → Type 0
IsGivenWholeBy events given r = (i b : ℕ) → slice_get (byte_reads events) i ≡ Some (r, b) → (w : ℕ) × given r b w

-- the value of a read all of whose bytes are given is the same in all lists of sources that have these bytes of it
abbrev pub GivenValuesAgree : Type 0
GivenValuesAgree =
    (events : List Event) (given : ℕ → ℕ → ℕ → Bool) (sources others : List ℕ) (r : ℕ) → IsGivenWholeBy events (GivenBy given) r
    → ((b w : ℕ) → GivenBy given r b w → ReadsByteFrom events sources r b w)
    → ((b w : ℕ) → GivenBy given r b w → ReadsByteFrom events others r b w) → value_of events others r ≡ value_of events sources r
