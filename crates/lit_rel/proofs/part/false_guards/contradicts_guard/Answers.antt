use Rattle.std.proofs.Common.{◌≡◌, ◌<◌, length, refl, ap, arith, inl, inr}
use Rattle.std.proofs.lemmas.Bool.{cases_eq, false≢true}
use Rattle.lit_paths.specs.Plan.{events_in}
use Rattle.lit_rel.proofs.RefusalLemmas.{asked_known, given_whole-iff}
use Rattle.lit_rel.proofs.part.false_guards.contradicts_guard.Goals as goal
use Rattle.lit_rel.proofs.part.false_guards.contradicts_guard.Goals.{else-is_given_whole-via-then-is_given_whole+else-has_false_guard-2, else-is_given_whole-via-else-is_given_whole}

pub returns-then-has_false_guard-2 : goal.returns-then-has_false_guard-2
returns-then-has_false_guard-2 c =
    let value = rw c.requires at c.value.ensures in
    let events = events_in c.args.combination.now.0 c.args.combination.now.1 in
    let iff = given_whole-iff events c.byte_reads-reads.result.now c.args.given.now.bytes.now c.loop-read.read c.byte_reads-reads.ensures in (
      (λ _. inr (c.loop-read.read, iff.0 (c.if-is_given_whole.ensures.0 refl), rw value at (c.if-has_false_guard-2.ensures.value.0 refl))),
      (λ _. refl),
    )

pub loop-read-preserved : goal.loop-read-preserved
loop-read-preserved c r below whole false_of =
    let events = events_in c.args.combination.now.0 c.args.combination.now.1 in
    elim (cases_eq r c.loop-read.read) [
      | inl same ↦
          let whole_here = rw same at whole in
          let false_here = rw same at false_of in
          elim c.else-is_given_whole.branch [
            | else-is_given_whole-via-then-is_given_whole+else-has_false_guard-2 w ↦
                let value = rw c.requires at w.value.ensures in
                false≢true (w.if-has_false_guard-2.ensures.value.1 (rw value false_here))
            | else-is_given_whole-via-else-is_given_whole w ↦
                let iff = given_whole-iff events c.byte_reads-reads.result.now c.args.given.now.bytes.now c.loop-read.read c.byte_reads-reads.ensures in
                false≢true (w.if-is_given_whole.ensures.1 (iff.1 whole_here))
          ]
      | inr other ↦ c.loop-read.invariant r (omega arith) whole false_of
    ]

pub returns : goal.returns
returns c =
    let t = c.args.combination.now.0 in
    let number = c.args.combination.now.1 in (
      (λ h. absurd (false≢true h)),
      (λ h. absurd (elim h [
        | inl f ↦ false≢true (c.if-has_false_guard.ensures.value.1 f)
        | inr some ↦
            let known : some.0 < length (events_in t number) = asked_known t number some.0 _ (c.if-has_false_guard.ensures.walks false≢true) some.2 in
            let end : length c.events-read-end.result.now ≡ length (events_in t number) = ap length c.events-read-end.ensures.value in
            c.loop-read.invariant some.0 (omega (arith, known, end, c.loop-read-test.false)) some.1 some.2
      ])),
    )
