use Rattle.std.proofs.Common.{◌≡◌, ◌<◌, ℕ, List, ◌∷◌, [], ◌++◌, Some, length, map, get_or, refl, sym, ◌∙◌, subst, arith}
use Rattle.std.specs.List.{slice_get}
use Rattle.lit_paths.specs.declared.event.Event.{Event}
use Rattle.lit_paths.specs.ByteReads.{byte_reads, pair_of}
use Rattle.lit_paths.specs.Plan.{events_in}
use Rattle.lit_paths.specs.declared.limits.TheConstants.{BYTE_READ_LIMIT}
use Rattle.lit_paths.specs.declared.byte_reads.ByteRead.{ByteRead}
use Rattle.lit_rel.specs.declared.given.SourcedByte.{SourcedByte}
use Rattle.lit_rel.specs.declared.part.Part.TheInside.{Inside}
use Rattle.lit_rel.specs.declared.rows.two_way_rows.TwoWayRows.{TwoWayRows}
use Rattle.lit_rel.specs.Part.{IsNextSource, PartModel}
use Rattle.lit_rel.specs.Internal.Given.{IsKnown, part_of, read_of, sources_of}
use Rattle.lit_rel.specs.Internal.PrefixStates.{HasPrefixStates, IsPrefixState, IsOrder}
use Rattle.lit_rel.proofs.PartLemmas.{few_bytes, first_more, HasPrefixStates-push, IsNextByte, IsNextByte-from, known_more, left_of, next_known, sources_more}
use Rattle.lit_rel.proofs.part.Part.push.Goals as goal

-- the byte that is pushed, as the code has it
abbrev next_of : List ByteRead → ℕ → ℕ → SourcedByte
next_of reads n source =
    record { read = (get_or reads n (record { read = 0; byte = 0 })).read; byte = (get_or reads n (record { read = 0; byte = 0 })).byte; source = source }

next_byte : (inside : Inside) (reads : List ByteRead) (n source : ℕ) (value : PartModel) → part_of inside.combination.0 inside.combination.1 inside.bytes.items ≡ value → IsNextSource value source
    → map pair_of reads ≡ byte_reads (events_in inside.combination.0 inside.combination.1) → n ≡ length inside.bytes.items → IsNextByte (part_of inside.combination.0 inside.combination.1 inside.bytes.items) inside.bytes.items (next_of reads n source)
next_byte inside reads n source value view next are count =
    IsNextByte-from (part_of inside.combination.0 inside.combination.1 inside.bytes.items) inside.bytes.items source refl (subst (λ (p : PartModel). IsNextSource p source) (sym view) next) reads are n count (record { read = 0; byte = 0 })

-- what happens before with it
module _ (inside : Inside) (byte : SourcedByte) (so_far : HasPrefixStates inside.combination.0 inside.combination.1 inside.bytes.items inside.earlier.items inside.prefix_state) (new : IsNextByte (part_of inside.combination.0 inside.combination.1 inside.bytes.items) inside.bytes.items byte) where
  next_order : (events : List Event) (order : TwoWayRows) (more : List SourcedByte) → events ≡ events_in inside.combination.0 inside.combination.1 → more ≡ inside.bytes.items ++ byte ∷ []
      → ((sources : List ℕ) → slice_get (byte_reads events) (length sources) ≡ Some (read_of byte) → IsOrder events sources inside.prefix_state.before.rows → IsOrder events (sources ++ byte.source ∷ []) order.rows)
      → IsOrder (events_in inside.combination.0 inside.combination.1) (sources_of more) order.rows
  next_order events order more same pushed with =
      let left = left_of inside.combination.0 inside.combination.1 inside.bytes.items inside.earlier.items inside.prefix_state byte so_far new in
      let sources = sources_more inside.combination.0 inside.combination.1 inside.bytes.items inside.earlier.items inside.prefix_state byte so_far new more pushed in
      rw sources (rw same at (with (sources_of inside.bytes.items) (rw same left) (rw same so_far.at_all.before)))

pub order_with-before-requires-clause-known : goal.order_with-before-requires-clause-known
order_with-before-requires-clause-known c =
    let new = next_byte c.self.inside c.byte_reads.result.now c.len.result c.args.source c.args.self.now c.self.view_is c.requires c.byte_reads.ensures c.len.ensures.value in
    subst (λ (es : List Event). IsKnown (length es) (next_of c.byte_reads.result.now c.len.result c.args.source)) (sym c.events.ensures.value) (next_known _ _ _ new)

pub push-requires : goal.push-requires
push-requires c =
    let new = next_byte c.self.inside c.byte_reads.result.now c.len.result c.args.source c.args.self.now c.self.view_is c.requires c.byte_reads.ensures c.len.ensures.value in
    let few : length c.self.inside.bytes.items < BYTE_READ_LIMIT = few_bytes _ _ _ _ _ _ c.self.invariant new in
    (omega arith, omega arith)

pub push-requires-2 : goal.push-requires-2
push-requires-2 c =
    let new = next_byte c.self.inside c.byte_reads.result.now c.len.result c.args.source c.args.self.now c.self.view_is c.requires c.byte_reads.ensures c.len.ensures.value in
    let few : length c.self.inside.bytes.items < BYTE_READ_LIMIT = few_bytes _ _ _ _ _ _ c.self.invariant new in
    let one_each : length c.self.inside.earlier.items ≡ length c.self.inside.bytes.items = c.self.invariant.one_each in
    (omega arith, omega arith)

pub new-self-inside-requires-clause-reads : goal.new-self-inside-requires-clause-reads
new-self-inside-requires-clause-reads c =
    let new = next_byte c.self.inside c.byte_reads.result.now c.len.result c.args.source c.args.self.now c.self.view_is c.requires c.byte_reads.ensures c.len.ensures.value in
    first_more _ _ _ _ _ _ c.self.invariant new c.as_slice.result.now (c.as_slice.ensures.value ∙ c.push.ensures.items)

pub new-self-inside-requires-clause-known : goal.new-self-inside-requires-clause-known
new-self-inside-requires-clause-known c =
    let new = next_byte c.self.inside c.byte_reads.result.now c.len.result c.args.source c.args.self.now c.self.view_is c.requires c.byte_reads.ensures c.len.ensures.value in
    known_more _ _ _ _ _ _ c.self.invariant new c.as_slice.result.now (c.as_slice.ensures.value ∙ c.push.ensures.items)

pub new-self-inside-requires-clause-before : goal.new-self-inside-requires-clause-before
new-self-inside-requires-clause-before c =
    let new = next_byte c.self.inside c.byte_reads.result.now c.len.result c.args.source c.args.self.now c.self.view_is c.requires c.byte_reads.ensures c.len.ensures.value in
    next_order c.self.inside _ c.self.invariant new c.events.result.now c.order_with-before.result c.as_slice.result.now c.events.ensures.value (c.as_slice.ensures.value ∙ c.push.ensures.items) c.order_with-before.ensures

pub invariant_of-self : goal.invariant_of-self
invariant_of-self c =
    let inside = c.self.inside in
    let new = next_byte inside c.byte_reads.result.now c.len.result c.args.source c.args.self.now c.self.view_is c.requires c.byte_reads.ensures c.len.ensures.value in
    HasPrefixStates-push _ _ _ _ _ _ c.self.invariant new c.push.new.self.items c.push-2.new.self.items c.new-self-inside.result c.push.ensures.items c.push-2.ensures.items
    (subst (λ (xs : List SourcedByte). IsPrefixState (part_of inside.combination.0 inside.combination.1 xs) c.new-self-inside.result) c.as_slice.ensures.value c.new-self-inside.ensures)
