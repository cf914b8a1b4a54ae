-- A range of the choices on a combination, cut into boxes (this project's own).
use Rattle.std.specs.Prelude.{◌≡◌, ◌↔◌, ℕ, ◌+◌, ◌-◌, ◌*◌, ◌<◌, ◌≤◌, List, Option}
use Rattle.std.specs.Prelude.{IfSome, Some, length, slice_get, slice_index}
use Rattle.std.proofs.Common.{refl}
use Rattle.std.specs.Cmp.Lexicographic.{slice_cmp}
use Rattle.std.specs.Coded.{Coded, code_by, coded×, coded_ℕ, coded_list, coded_option}
use Rattle.std.specs.Ordering.{nat_cmp}
use Rattle.std.specs.declared.cmp.Ordering.TheVariants.{Less}
use Rattle.lit_syntax.specs.Syntax.{Litmus}
use Rattle.lit_syntax.specs.SyntaxCodes.{coded_litmus}
use Rattle.lit_paths.specs.declared.event.Event.{Event}
use Rattle.lit_paths.specs.ByteReads.{byte_reads, byte_read_at}
use Rattle.lit_paths.specs.Members.{IsCandidate, AreSources}
use Rattle.lit_paths.specs.Plan.{HasSources, choices_before, events_in}
use Rattle.lit_rel.specs.declared.event_set.EventSet.{EventSet}
use Rattle.lit_solve.specs.Box.{HasSource, box_with}

-- The choices on a combination from the one with the sources `low` to the one with the sources `high`, both included. Without
-- `low` they begin with the first choice on it, and without `high` they end with its last. The first `shared` sources are the
-- same in both. One box is in the middle, with what lies between them at the next place; there are `lows` boxes before it and
-- `highs` after it.
pub record BoxesModel : Type 0 where
  pub test : Litmus
  pub combination : ℕ
  pub low : Option (List ℕ)
  pub high : Option (List ℕ)
  pub shared : ℕ
  pub lows : ℕ
  pub highs : ℕ

abbrev coded_end : Coded (Option (List ℕ))
coded_end = coded_option (coded_list coded_ℕ)

-- a code, by which a proof tells two of them apart
abbrev pub coded_boxes : Coded BoxesModel
coded_boxes =
    code_by (Litmus × (ℕ × (Option (List ℕ) × (Option (List ℕ) × (ℕ × (ℕ × ℕ))))))
    (coded× coded_litmus (coded× coded_ℕ (coded× coded_end (coded× coded_end (coded× coded_ℕ (coded× coded_ℕ coded_ℕ))))))
    (λ b. (b.test, (b.combination, (b.low, (b.high, (b.shared, (b.lows, b.highs)))))))
    (λ x. record {
      test = x.0;
      combination = x.1.0;
      low = x.1.1.0;
      high = x.1.1.1.0;
      shared = x.1.1.1.1.0;
      lows = x.1.1.1.1.1.0;
      highs = x.1.1.1.1.1.1;
    })
    (λ _. refl)

-- all events of its combination
abbrev pub boxes_events : BoxesModel → List Event
boxes_events boxes = events_in boxes.test boxes.combination

-- how many boxes there are
abbrev pub boxes_len : BoxesModel → ℕ
boxes_len boxes = boxes.lows + 1 + boxes.highs

-- The first place at which sources in the i-th box differ from those of an end: in the middle box the first place at which the
-- ends differ, and one place later for each box further from the middle.
abbrev pub parting_in : BoxesModel → ℕ → ℕ
parting_in boxes i = boxes.shared + ((boxes.lows - i) + (i - boxes.lows))

-- w at place k is as in `low` before the parting, and greater there
abbrev pub IsAbove : List ℕ → (parting k w : ℕ) → Type 0
IsAbove low parting k w = (k < parting → w ≡ slice_index low k) × (k ≡ parting → slice_index low k < w)

-- w at place k is as in `high` before the parting, and less there
abbrev pub IsBelow : List ℕ → (parting k w : ℕ) → Type 0
IsBelow high parting k w = (k < parting → w ≡ slice_index high k) × (k ≡ parting → w < slice_index high k)

-- Event w is in the domain of the k-th byte read in the i-th box: a candidate of it, which up to the middle box goes with `low`
-- up to the parting and rises above it there, and from the middle box on goes with `high` and falls below it. Behind the
-- parting each candidate is in.
pub record IsInBox (boxes : BoxesModel) (i k w : ℕ) : Type 0 where
  pub known : k < length (byte_reads (boxes_events boxes))
  pub candidate : IsCandidate (boxes_events boxes) (byte_read_at (boxes_events boxes) k).0 (byte_read_at (boxes_events boxes) k).1 w
  pub above : i ≤ boxes.lows → IfSome boxes.low (λ low. IsAbove low (parting_in boxes i) k w)
  pub below : boxes.lows ≤ i → IfSome boxes.high (λ high. IsBelow high (parting_in boxes i) k w)

-- each source is in the domain of its byte read in the i-th box
abbrev pub LiesInBox : BoxesModel → ℕ → List ℕ → Type 0
LiesInBox boxes i sources = (k w : ℕ) → slice_get sources k ≡ Some w → IsInBox boxes i k w

-- these are the domains of the i-th box
abbrev pub AreDomainsIn : BoxesModel → ℕ → List EventSet → Type 0
AreDomainsIn boxes i domains =
    (k w : ℕ) → k < length (byte_reads (boxes_events boxes))
    → HasSource (box_with (boxes.test, boxes.combination) domains) k w ↔ IsInBox boxes i k w

-- The choices of [from, to) on the combination are exactly those of the boxes, of which there are few, and sources rise
-- from box to box.
pub record CutsRange (boxes : BoxesModel) (from to : ℕ) : Type 0 where
  pub few : boxes_len boxes ≤ 2 * length (byte_reads (boxes_events boxes)) + 1
  pub covers : (n : ℕ) (sources : List ℕ) → choices_before boxes.test boxes.combination ≤ n
      → n < choices_before boxes.test (boxes.combination + 1)
      → HasSources boxes.test n sources → ((from ≤ n) × (n < to)) ↔ ((i : ℕ) × (i < boxes_len boxes) × LiesInBox boxes i sources)
  pub rising : (i j : ℕ) (a b : List ℕ) → i < j → j < boxes_len boxes → AreSources (boxes_events boxes) a
      → AreSources (boxes_events boxes) b
      → LiesInBox boxes i a → LiesInBox boxes j b → slice_cmp nat_cmp a b ≡ Less
