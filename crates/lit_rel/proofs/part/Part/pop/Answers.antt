use Rattle.std.proofs.Common.{◌≡◌, ◌+◌, ◌-◌, ◌<◌, length, take, get_or, arith, ap, sym, ◌∙◌, subst}
use Rattle.std.proofs.lemmas.List.{length-map}
use Rattle.lit_rel.specs.declared.given.SourcedByte.{SourcedByte}
use Rattle.lit_rel.specs.declared.part.prefix_state.PrefixState.{PrefixState}
use Rattle.lit_rel.specs.Part.{PartModel}
use Rattle.lit_rel.specs.Internal.Given.{sources_of}
use Rattle.lit_rel.specs.Internal.PrefixStates.{HasPrefixStates}
use Rattle.lit_rel.proofs.PartLemmas.{HasPrefixStates-pop}
use Rattle.lit_rel.proofs.part.Part.pop.Goals as goal

pub invariant_of-self : goal.invariant_of-self
invariant_of-self c =
    let inside = c.self.inside in
    let bytes = inside.bytes.items in
    let earlier = inside.earlier.items in
    let n = c.len.result - 1 in
    let prefix_state = c.index-deref-len.result in
    let some : 0 < length (sources_of bytes) = subst (λ (p : PartModel). 0 < length p.sources) (sym c.self.view_is) c.requires in
    let count : length (sources_of bytes) ≡ length bytes = length-map bytes (λ (b : SourcedByte). b.source) in
    let last : n + 1 ≡ length bytes = omega (arith, c.len.ensures.value) in
    let one_each : length earlier ≡ length bytes = c.self.invariant.one_each in
    let front : length bytes - 1 ≡ n = omega arith in
    let front' : length earlier - 1 ≡ n = omega arith in
    let is_prefix_state : get_or earlier n prefix_state ≡ prefix_state = ap (λ xs. get_or xs n prefix_state) (sym c.deref.ensures.0) ∙ sym c.index-deref-len.is in
    subst (λ (l : PrefixState). HasPrefixStates inside.combination.0 inside.combination.1 c.pop-2.new.self.items c.pop.new.self.items l) is_prefix_state
    (HasPrefixStates-pop inside.combination.0 inside.combination.1 bytes earlier inside.prefix_state n prefix_state c.pop-2.new.self.items c.pop.new.self.items c.self.invariant last
    (c.pop-2.ensures.rest ∙ ap (λ k. take k bytes) front)
    (c.pop.ensures.rest ∙ ap (λ k. take k earlier) front'))
