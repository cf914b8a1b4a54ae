-- How the sources that mix least are found: read by read, by boxes in which the sources of a read don't mix.
use Rattle.std.specs.Prelude.{◌≡◌, ◌≢◌, ◌↔◌, ℕ, ◌+◌, ◌<◌, List, Option, Some, None, slice_get}
use Rattle.std.specs.Cmp.Lexicographic.{slice_cmp}
use Rattle.std.specs.Ordering.{nat_cmp}
use Rattle.std.specs.declared.cmp.Ordering.TheVariants.{Less}
use Rattle.lit_syntax.specs.Syntax.{Litmus}
use Rattle.lit_paths.specs.ByteReads.{byte_reads}
use Rattle.lit_paths.specs.Members.{IsCandidate}
use Rattle.lit_paths.specs.declared.event.Event.{Event}
use Rattle.lit_rel.specs.declared.event_set.EventSet.{EventSet}
use Rattle.lit_order.specs.MemoryOrder.{IsLeastMemoryOrder}
use Rattle.lit_solve.specs.Box.{HasSource, box_with, events_on}
use Rattle.lit_solve.specs.declared.goal.Goal.{Goal}
use Rattle.lit_why.specs.LeastMixing.{AgreeBefore, GivesOn, IsFirstOn, IsLeastMixing, IsUnmixed}

-- the source of byte b of a read that is filled from init, or else from one event
abbrev pub filling : Option ℕ → ℕ → ℕ
filling None b = b
filling (Some e) b = e

-- read r is filled so
abbrev pub IsFilled : List Event → List ℕ → ℕ → Option ℕ → Type 0
IsFilled events sources r filler = (k b : ℕ) → slice_get (byte_reads events) k ≡ Some (r, b) → slice_get sources k ≡ Some (filling filler b)

-- event w may be the source of a byte read where read r is filled so, and the reads before it keep their sources, of which v is one
pub record TakesFilled (events : List Event) (r : ℕ) (filler : Option ℕ) (read : ℕ × ℕ) (v w : ℕ) : Type 0 where
  pub candidate : IsCandidate events read.0 read.1 w
  pub kept : read.0 < r → w ≡ v
  pub filled : read.0 ≡ r → w ≡ filling filler read.1

-- the domains have the sources of which this holds
abbrev pub AreDomainsFor : Litmus × ℕ → List ℕ → (ℕ × ℕ → ℕ → ℕ → Type 0) → List EventSet → Type 0
AreDomainsFor c sources holds domains =
    (k r b v w : ℕ) → slice_get (byte_reads (events_on c)) k ≡ Some (r, b) → slice_get sources k ≡ Some v
    → HasSource (box_with c domains) k w ↔ holds (r, b) v w

-- sources of a solution, the least of those that agree with them before read r, and the least memory-order with them
pub record IsLeastAfter (c : Litmus × ℕ) (goal : Goal) (r : ℕ) (sources order : List ℕ) : Type 0 where
  pub gives : GivesOn c.0 goal c.1 sources
  pub least : (other : List ℕ) → GivesOn c.0 goal c.1 other → AgreeBefore (events_on c) r sources other
      → slice_cmp nat_cmp other sources ≢ Less
  pub ordered : IsLeastMemoryOrder (events_on c) sources order

-- the same of those that agree with given sources before read r, which is filled so
pub record IsLeastFilled (c : Litmus × ℕ) (goal : Goal) (r : ℕ) (filler : Option ℕ) (given sources order : List ℕ) : Type 0 where
  pub agrees : AgreeBefore (events_on c) r given sources
  pub filled : IsFilled (events_on c) sources r filler
  pub after : IsLeastAfter c goal (r + 1) sources order

-- no solution agrees with given sources before read r, which is filled so
abbrev pub HasNoneFilled : Litmus × ℕ → Goal → ℕ → Option ℕ → List ℕ → Type 0
HasNoneFilled c goal r filler given =
    (other : List ℕ) → GivesOn c.0 goal c.1 other → AgreeBefore (events_on c) r given other → ¬ IsFilled (events_on c) other r filler

-- nor one that doesn't mix the sources of read r
abbrev pub HasNoneUnmixed : Litmus × ℕ → Goal → ℕ → List ℕ → Type 0
HasNoneUnmixed c goal r given =
    (other : List ℕ) → GivesOn c.0 goal c.1 other → AgreeBefore (events_on c) r given other → ¬ IsUnmixed (events_on c) other r

-- the first of the solutions that agree with given sources before read r
pub record IsFirstUnmixed (c : Litmus × ℕ) (goal : Goal) (r : ℕ) (given sources order : List ℕ) : Type 0 where
  pub agrees : AgreeBefore (events_on c) r given sources
  pub after : IsLeastAfter c goal (r + 1) sources order
  pub first : IsFirstOn (events_on c) (GivesOn c.0 goal c.1) sources r

-- the solution's sources mix least, and the order is the least memory-order with them
pub record IsLeastMixingOn (c : Litmus × ℕ) (goal : Goal) (sources order : List ℕ) : Type 0 where
  pub mixes_least : IsLeastMixing (events_on c) (GivesOn c.0 goal c.1) sources
  pub ordered : IsLeastMemoryOrder (events_on c) sources order
