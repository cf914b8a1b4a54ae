-- Guards that are false of the sources given.
use Rattle.std.proofs.Common.{◌≡◌, ◌≢◌, ◌↔◌, ℕ, ◌+◌, ◌<◌, ◌≤◌, Option, Some, None, List, length, map, refl, sym, ap, ◌∙◌, arith, inl, inr}
use Rattle.std.proofs.lemmas.Bool.{cases_lt}
use Rattle.std.proofs.lemmas.List.{length-map}
use Rattle.std.proofs.lemmas.Option.{none-some, same_Some}
use Rattle.std.specs.List.{slice_get}
use Rattle.lit_syntax.specs.Syntax.{Litmus}
use Rattle.lit_paths.specs.declared.event.Event.{Event}
use Rattle.lit_paths.specs.declared.byte_reads.ByteRead.{ByteRead}
use Rattle.lit_paths.specs.ByteReads.{byte_reads, pair_of}
use Rattle.lit_paths.specs.Plan.{IsWalkIn, events_in, first_event, walk_in}
use Rattle.lit_rel.specs.declared.given.SourcedByte.{SourcedByte}
use Rattle.lit_rel.specs.Broken.{HasFalseGuardOn, number_on}
use Rattle.lit_rel.specs.Growth.{IsGivenWhole}
use Rattle.lit_rel.specs.Internal.Given.{sources_of}
use Rattle.lit_paths.proofs.Rising.{slice_get-map-found, slice_get-map-known}

-- a read is given whole where no later byte read is of it
pub given_whole-iff : (events : List Event) (reads : List ByteRead) (bytes : List SourcedByte) (read : ℕ) → map pair_of reads ≡ byte_reads events
    → ((place : ℕ) (later : ByteRead) → length bytes ≤ place → slice_get reads place ≡ Some later → later.read ≢ read) ↔ IsGivenWhole events (sources_of bytes) read
given_whole-iff events reads bytes read are =
    let count : length (sources_of bytes) ≡ length bytes = length-map bytes (λ (b : SourcedByte). b.source) in (
      (λ none i b at_i.
          elim (cases_lt i (length (sources_of bytes))) [
            | inl within ↦ within
            | inr past ↦
                let found = slice_get-map-known pair_of reads i (read, b) (ap (λ (xs : List (ℕ × ℕ)). slice_get xs i) are ∙ at_i) in
                absurd (none i found.0 (omega arith) found.1 (ap (λ (q : ℕ × ℕ). q.0) found.2))
          ]),
      (λ whole place later past at_place same.
          let here : slice_get (byte_reads events) place ≡ Some (read, later.byte) =
          sym (ap (λ (xs : List (ℕ × ℕ)). slice_get xs place) are) ∙ slice_get-map-found pair_of reads place later at_place ∙ ap (λ (r : ℕ). Some (r, later.byte)) same in
          let within : place < length (sources_of bytes) = whole place later.byte here in
          omega arith),
    )

-- a guard asks about an event
pub asked_known : (t : Litmus) (c r v : ℕ) → ((agent : ℕ) → agent < length t.agents → IsWalkIn t c agent (walk_in t c agent)) → HasFalseGuardOn t c (Some r) v → r < length (events_in t c)
asked_known t c r v walks f = by f.test.on refl f.asks
  where
    by : (on : Option ℕ) → f.test.on ≡ on → number_on (first_event t c f.agent) on ≡ Some r → r < length (events_in t c)
    by None is h = absurd (none-some r h)
    by (Some place) is h =
        let walk = walks f.agent f.known in
        let number : first_event t c f.agent + place ≡ r = same_Some (first_event t c f.agent + place) r h in
        let below : place < length _ = (walk.guards_reads f.place place f.test f.at_place is).0 in
        let within : first_event t c f.agent + length _ ≤ length (events_in t c) = walk.within in
        omega arith
