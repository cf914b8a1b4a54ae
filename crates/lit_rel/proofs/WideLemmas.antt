-- The small executions with accesses of two bytes, worked out.
use Rattle.std.proofs.Common.{◌≡◌, ℕ, ◌+◌, suc, zero, List, [], ◌∷◌, refl, sym, ◌∙◌, arith, true, false}
use Rattle.std.proofs.lemmas.Bool.{false≢true}
use Rattle.std.proofs.lemmas.Option.{none-some, same_Some, some_pair_parts}
use Rattle.lit_paths.specs.declared.event.Event.{Event}
use Rattle.lit_paths.specs.declared.event.Order3.TheVariants.{SeqCst}
use Rattle.lit_paths.specs.Members.{AreSources, IsCandidate}
use Rattle.lit_paths.specs.Event.{HasSameRange, does_write, event_at}
use Rattle.lit_rel.specs.ReadsFrom.{ReadsByteFrom}
use Rattle.lit_rel.specs.TearFree.{ReadsWholeBy}
use Rattle.lit_rel.specs.WideEvents.{mixed_sizes, typed_load, viewed_load, MixedSizesNeverSynchronize, TypedLoadMixesWithInitOnly, ViewedLoadMixes}

-- the source of a byte is a candidate
pub candidate : (events : List Event) (sources : List ℕ) → AreSources events sources → (r b w : ℕ) → ReadsByteFrom events sources r b w → IsCandidate events r b w
candidate events sources are r b w (i, hr, hw) = are.each i r b w hr hw

-- two bytes are not one
not_wide : (e d : Event) → e.size ≡ 2 → d.size ≡ 1 → HasSameRange e d → ⊥
unfolding HasSameRange
not_wide e d two one same =
    let low = (same e.first).0 (omega arith, omega arith) in
    let high = (same (e.first + 1)).0 (omega arith, omega arith) in
    absurd (omega arith)

same_range : (e d : Event) → e.first ≡ d.first → e.size ≡ d.size → HasSameRange e d
unfolding HasSameRange
same_range e d f s b = (λ h. (omega arith, omega arith), λ h. (omega arith, omega arith))

-- ---- nothing synchronizes
-- the reads of the 16-bit test are of one byte
mixed_read : (sources : List ℕ) (r b w : ℕ) → ReadsByteFrom mixed_sizes sources r b w → (event_at mixed_sizes r).size ≡ 1
mixed_read sources r b w (zero, hr, hw) = rw (← (some_pair_parts 5 r 2 b hr).0)
mixed_read sources r b w (suc zero, hr, hw) = rw (← (some_pair_parts 7 r 0 b hr).0)
mixed_read sources r b w (suc (suc i), hr, hw) = absurd (none-some {A = ℕ × ℕ} (r, b) hr)

-- no sequentially consistent write has the range of a load
no_writer : (r w : ℕ) → (event_at mixed_sizes r).size ≡ 1 → (event_at mixed_sizes w).order ≡ SeqCst
    → does_write (event_at mixed_sizes w).kind ≡ true → HasSameRange (event_at mixed_sizes w) (event_at mixed_sizes r) → ⊥
no_writer r zero small order writes same = cc
no_writer r (suc zero) small order writes same = cc
no_writer r (suc (suc zero)) small order writes same = cc
no_writer r (suc (suc (suc zero))) small order writes same = cc
no_writer r (suc (suc (suc (suc zero)))) small order writes same = not_wide (event_at mixed_sizes 4) (event_at mixed_sizes r) refl small same
no_writer r (suc (suc (suc (suc (suc zero))))) small order writes same = false≢true writes
no_writer r (suc (suc (suc (suc (suc (suc zero)))))) small order writes same = not_wide (event_at mixed_sizes 6) (event_at mixed_sizes r) refl small same
no_writer r (suc (suc (suc (suc (suc (suc (suc w))))))) small order writes same = past w writes
  where
    past : (w : ℕ) → does_write (event_at mixed_sizes (suc (suc (suc (suc (suc (suc (suc w)))))))).kind ≡ true → ⊥
    past zero writes = false≢true writes
    past (suc w) writes = false≢true writes

pub mixed_sizes_never_synchronize : MixedSizesNeverSynchronize
mixed_sizes_never_synchronize sources are w r s =
    let from = candidate mixed_sizes sources are r s.reads.0 w s.reads.1 in
    no_writer r w (mixed_read sources r s.reads.0 w s.reads.1) s.can.writer from.writes s.can.same_range

-- ---- mixes
module _ (sources : List ℕ) (b : ℕ) where
  abbrev Whole : ℕ → Type 0
  Whole w = ReadsByteFrom typed_load sources 4 b w → ReadsWholeBy typed_load (ReadsByteFrom typed_load sources) 4 w

  first_whole : Whole 2
  first_whole from =
      record { reads = (b, from); can = record { reader = refl; writer = refl; same_range = same_range (event_at typed_load 4) (event_at typed_load 2) refl refl } }

  second_whole : Whole 3
  second_whole from =
      record { reads = (b, from); can = record { reader = refl; writer = refl; same_range = same_range (event_at typed_load 4) (event_at typed_load 3) refl refl } }

-- of the mix with init only the store is read whole
init_mix_whole : (r w : ℕ) → ReadsWholeBy typed_load (ReadsByteFrom typed_load (0 ∷ 2 ∷ [])) r w → w ≡ 2
init_mix_whole r w h = by h.reads.0 h.reads.1
  where
    by : (b : ℕ) → ReadsByteFrom typed_load (0 ∷ 2 ∷ []) r b w → w ≡ 2
    by b (zero, hr, hw) =
        absurd (not_wide (event_at typed_load r) (event_at typed_load w) (rw (← (some_pair_parts 4 r 0 b hr).0)) (rw (← same_Some 0 w hw)) h.can.same_range)
    by b (suc zero, hr, hw) = sym (same_Some 2 w hw)
    by b (suc (suc i), hr, hw) = absurd (none-some {A = ℕ × ℕ} (r, b) hr)

pub typed_load_mixes_with_init_only : TypedLoadMixesWithInitOnly
typed_load_mixes_with_init_only = record {
  first_mix = refl;
  first_mix_refused = λ has. let same = has 4 3 2 (second_whole (3 ∷ 2 ∷ []) 0 (0, refl, refl)) (first_whole (3 ∷ 2 ∷ []) 1 (1, refl, refl)) in absurd (omega arith);
  second_mix = refl;
  second_mix_refused = λ has. let same = has 4 2 3 (first_whole (2 ∷ 3 ∷ []) 0 (0, refl, refl)) (second_whole (2 ∷ 3 ∷ []) 1 (1, refl, refl)) in absurd (omega arith);
  init_mix = refl;
  init_mix_allowed = λ r w v hw hv. init_mix_whole r v hv ∙ sym (init_mix_whole r w hw);
}

viewed_read : (r b w : ℕ) → ReadsByteFrom viewed_load (3 ∷ 2 ∷ []) r b w → (event_at viewed_load r).no_tear ≡ false
viewed_read r b w (zero, hr, hw) = rw (← (some_pair_parts 4 r 0 b hr).0)
viewed_read r b w (suc zero, hr, hw) = rw (← (some_pair_parts 4 r 1 b hr).0)
viewed_read r b w (suc (suc i), hr, hw) = absurd (none-some {A = ℕ × ℕ} (r, b) hr)

pub viewed_load_mixes : ViewedLoadMixes
viewed_load_mixes = record {
  mix = refl;
  mix_allowed = λ r w v hw hv. absurd (false≢true (sym (viewed_read r hw.reads.0 w hw.reads.1) ∙ hw.can.reader));
}
