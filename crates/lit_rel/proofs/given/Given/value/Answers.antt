use Rattle.std.proofs.Common.{◌≡◌, ◌≢◌, ◌<◌, ◌^◌, ◌-◌, ℕ, drop, get_or, arith, sym, ap, ◌∙◌}
use Rattle.std.proofs.lemmas.Option.{slice_get-get_or}
use Rattle.lit_paths.specs.declared.event.Event.{Event}
use Rattle.lit_paths.specs.Event.{event_at, payload_at}
use Rattle.lit_rel.specs.ReadsFrom.{composed}
use Rattle.lit_rel.proofs.ByteReadLemmas.{reads_rise}
use Rattle.lit_rel.proofs.SourceLemmas.{no_byte}
use Rattle.lit_rel.proofs.ValueLemmas.{stored, stored-from, value_small, value_of-stored, IsComposed-down}
use Rattle.lit_rel.proofs.given.Given.value.Goals as goal

pub overflow_mul-value : goal.overflow_mul-value
overflow_mul-value c =
    let small : c.loop-place.value < 256 ^ 3 =
    value_small c.args.self.now.events.now c.args.read c.args.self.now.bytes.now c.args.self.now.first_reads c.loop-place.place no_byte (omega arith) (omega arith) c.loop-place.value c.loop-place.invariant (sym c.from-reader.ensures ∙ c.if-reader-read-2.true) c.requires in
    omega arith

pub overflow_add-value : goal.overflow_add-value
overflow_add-value c =
    let small : c.loop-place.value < 256 ^ 3 =
    value_small c.args.self.now.events.now c.args.read c.args.self.now.bytes.now c.args.self.now.first_reads c.loop-place.place no_byte (omega arith) (omega arith) c.loop-place.value c.loop-place.invariant (sym c.from-reader.ensures ∙ c.if-reader-read-2.true) c.requires in
    omega arith

pub loop-place-preserved-then-reader-read-2 : goal.loop-place-preserved-then-reader-read-2
loop-place-preserved-then-reader-read-2 c =
    IsComposed-down c.args.self.now.events.now c.args.read c.args.self.now.bytes.now c.args.self.now.first_reads c.loop-place.place no_byte (omega arith) (omega arith) c.loop-place.value c.loop-place.invariant (sym c.from-reader.ensures ∙ c.if-reader-read-2.true)
    c.from-then-reader-read-2.result
    (c.from-then-reader-read-2.ensures ∙ c.payload_at.ensures
    ∙ ap (λ (e : Event). payload_at e (get_or c.args.self.now.bytes.now (c.loop-place.place - 1) no_byte).byte) (c.event_at-source.ensures ∙ ap (event_at c.args.self.now.events.now) c.from.ensures))
    (omega arith)

pub returns : goal.returns
returns c =
    let events = c.args.self.now.events.now in
    let bytes = c.args.self.now.bytes.now in
    let none_left : c.loop-place.place ≡ 0 = omega arith in
    c.loop-place.invariant.is ∙ ap (λ (n : ℕ). composed (stored events c.args.read (drop n bytes))) none_left ∙ value_of-stored events c.args.read bytes c.args.self.now.first_reads

pub returns-then-reader-read : goal.returns-then-reader-read
returns-then-reader-read c =
    let events = c.args.self.now.events.now in
    let bytes = c.args.self.now.bytes.now in
    let i = c.loop-place.place - 1 in
    let others : (k : ℕ) → k < c.loop-place.place → (get_or bytes k no_byte).read ≢ c.args.read =
    λ k below same.
    let rises = reads_rise events bytes c.args.self.now.first_reads k i (get_or bytes k no_byte) (get_or bytes i no_byte) (omega (arith, below)) (slice_get-get_or bytes k no_byte (omega (arith, below))) (slice_get-get_or bytes i no_byte (omega arith)) in
    omega (arith, rises, same, c.from-reader.ensures, c.if-reader-read.true) in
    c.loop-place.invariant.is ∙ ap composed (stored-from events c.args.read bytes no_byte c.loop-place.place (omega arith) others) ∙ value_of-stored events c.args.read bytes c.args.self.now.first_reads
