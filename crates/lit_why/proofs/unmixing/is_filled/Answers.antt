use Rattle.std.proofs.Common.{◌≡◌, ◌<◌, ℕ, length, arith, inl, inr, ap, sym, ◌∙◌}
use Rattle.std.proofs.lemmas.Bool.{cases_lt}
use Rattle.std.proofs.lemmas.Option.{slice_get_within}
use Rattle.lit_paths.specs.ByteReads.{byte_reads}
use Rattle.lit_solve.specs.Box.{events_on}
use Rattle.lit_solve.proofs.PruningLemmas.{as_many}
use Rattle.lit_why.proofs.UnmixingLemmas.{filled_at, pair_at}
use Rattle.lit_why.proofs.unmixing.is_filled.Goals as goal
use Rattle.lit_why.proofs.unmixing.is_filled.Goals.{else-from-read-via-then-from-read+else-from-filled_from, else-from-read-via-else-from-read}

pub loop-place-preserved : goal.loop-place-preserved
loop-place-preserved c k b less at =
    let events = events_on c.args.combination.now in
    let reads = c.byte_reads-at-items.result.now in
    let listed = c.byte_reads-at-items.ensures in
    let place = c.loop-place.place in
    let inside : place < length reads = c.loop-place-test.true in
    elim (cases_lt k place) [
      | inl earlier ↦ c.loop-place.invariant k b earlier at
      | inr last ↦
          let here : k ≡ place = omega (arith, less, last) in
          elim c.else-from-read.branch [
            | else-from-read-via-then-from-read+else-from-filled_from w ↦
                filled_at events reads listed c.args.read place k b inside here at c.args.sources.now c.requires c.args.filler
                (sym w.from-then-from-read.ensures ∙ w.if-from-filled_from.false ∙ w.filled_from.ensures)
            | else-from-read-via-else-from-read w ↦
                absurd (w.if-from-read.false (c.from.ensures ∙ ap (λ (p : ℕ × ℕ). p.0) (pair_at events reads listed c.args.read place k b inside here at)))
          ]
    ]

pub returns : goal.returns
returns c true k b at =
    let all = as_many (events_on c.args.combination.now) c.byte_reads-at-items.result.now c.byte_reads-at-items.ensures in
    c.loop-place.invariant k b
    (omega (arith, slice_get_within (byte_reads (events_on c.args.combination.now)) k (c.args.read, b) at, all, c.loop-place-test.false)) at
