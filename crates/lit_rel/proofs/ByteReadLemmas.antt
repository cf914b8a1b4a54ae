-- The list of byte reads: it rises, so that none stands in it twice.
use Rattle.std.proofs.Common.{◌≡◌, ℕ, ◌+◌, ◌<◌, ◌≤◌, Some, List, [], ◌∷◌, arith, ◌⊎◌, inl, inr}
use Rattle.std.proofs.lemmas.Bool.{cases_order}
use Rattle.std.proofs.lemmas.Option.{none-some}
use Rattle.std.specs.List.{slice_get}
use Rattle.lit_paths.specs.declared.event.Event.{Event}
use Rattle.lit_paths.specs.ByteReads.{byte_reads, byte_reads_from, bytes_read_by}
use Rattle.lit_paths.proofs.Rising.{RisesBy, append-rises}
use Rattle.lit_rel.specs.declared.given.SourcedByte.{SourcedByte}
use Rattle.lit_rel.specs.ByteReadList.{AreOfEvents}
use Rattle.lit_rel.specs.Internal.Given.{AreFirstReads, read_of}
use Rattle.lit_rel.proofs.SourceLemmas.{read_byte, read_from, read_here, read_place}

-- a lesser read, or a lesser byte of one read
abbrev IsLess : ℕ × ℕ → ℕ × ℕ → Type 0
IsLess p q = (p.0 < q.0) ⊎ ((p.0 ≡ q.0) × (p.1 < q.1))

rises_from : (n : ℕ) (es : List Event) → RisesBy IsLess (byte_reads_from n es)
rises_from n [] = λ i j p q less here there. absurd (none-some p here)
rises_from n (e ∷ es) =
    append-rises IsLess (bytes_read_by n e) (byte_reads_from (n + 1) es)
    (λ i j p q less here there. let one = read_here n e i p here in let other = read_here n e j q there in inr (omega arith, omega arith))
    (rises_from (n + 1) es)
    (λ i j p q here there. let one = read_here n e i p here in let other = read_from (n + 1) es j q there in inl (omega arith))

-- two places of one byte read are one
pub read_once : (events : List Event) (j k : ℕ) (q : ℕ × ℕ) → slice_get (byte_reads events) j ≡ Some q
    → slice_get (byte_reads events) k ≡ Some q → j ≡ k
read_once events j k q here there =
    elim (cases_order j k) [
      | inl same ↦ same
      | inr apart ↦ absurd (elim apart [
        | inl less ↦ let rises = rises_from 0 events j k q q less here there in omega arith
        | inr more ↦ let rises = rises_from 0 events k j q q more there here in omega arith
      ])
    ]

-- the reads of first byte reads rise
pub reads_rise : (events : List Event) (bytes : List SourcedByte) → AreFirstReads events bytes → (j k : ℕ) (p q : SourcedByte) → j ≤ k
    → slice_get bytes j ≡ Some p → slice_get bytes k ≡ Some q → p.read ≤ q.read
reads_rise events bytes first j k p q le here there =
    let one = read_place events bytes first j p here in
    let other = read_place events bytes first k q there in
    elim (cases_order j k) [
      | inl same ↦ let one_byte : read_of p ≡ read_of q = cc in let reads : p.read ≡ q.read = cc in omega arith
      | inr apart ↦ elim apart [
        | inl less ↦ let rises = rises_from 0 events j k (read_of p) (read_of q) less one other in omega arith
        | inr more ↦ absurd (omega arith)
      ]
    ]

pub are_of_events : (events : List Event) → AreOfEvents events
are_of_events events = record {
  known = λ k r b at. (read_byte events k (r, b) at).0;
  reads = λ k r b at. (read_byte events k (r, b) at).1;
  in_range = λ k r b at. (read_byte events k (r, b) at).2;
  once = λ j k r b p q. read_once events j k (r, b) p q;
}
