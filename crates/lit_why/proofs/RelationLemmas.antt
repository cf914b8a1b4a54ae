-- How rows come to be the relations of what is given in a box.
use Rattle.std.proofs.Common.{◌≡◌, ◌⊎◌, ◌↔◌, inl, inr, ℕ, ◌<◌, List, Some, arith, length, subst, sym, ap, ◌∙◌}
use Rattle.std.specs.Prelude.{slice_get}
use Rattle.std.proofs.lemmas.Option.{same_Some, slice_get_within}
use Rattle.lit_paths.specs.ByteReads.{byte_reads}
use Rattle.lit_paths.specs.Event.{event_at}
use Rattle.lit_rel.specs.HappensBefore.{Chain, StepBy}
use Rattle.lit_rel.specs.ReadsFrom.{ReadsFromBy}
use Rattle.lit_rel.specs.Rows.{Holds, rows_len}
use Rattle.lit_rel.specs.SynchronizesWith.{CanSynchronize}
use Rattle.lit_rel.specs.declared.rows.Rows.{Rows}
use Rattle.lit_rel.proofs.ChainLemmas.{Chain-same}
use Rattle.lit_solve.specs.Box.{Box, box_events}
use Rattle.lit_solve.specs.Given.{GivenIn, HasAlone}
use Rattle.lit_why.specs.declared.cases.given.Relations.{Relations}
use Rattle.lit_why.specs.Internal.Reaching.{IsStep}
use Rattle.lit_why.specs.Internal.Relations.{AreRelationsOf, IsGivenAt}

-- a pair more
module _ (box : Box) (k r b w : ℕ) (is_read : slice_get (byte_reads (box_events box)) k ≡ Some (r, b)) (alone : HasAlone box k w) where
  pub given_more : (Old New : ℕ → ℕ → Type 0) → ((x y : ℕ) → New x y ↔ (Old x y ⊎ ((x ≡ r) × (y ≡ w))))
      → (x y : ℕ) → New x y ↔ (Old x y ⊎ IsGivenAt box k x y)
  given_more Old New new x y = (
    λ h. elim ((new x y).0 h) [
      | inl old ↦ inl old
      | inr same ↦ inr (subst (λ (q : ℕ). IsGivenAt box k q y) (sym same.0) (subst (λ (v : ℕ). IsGivenAt box k r v) (sym same.1)
          (record { byte = b; is_read = is_read; alone = alone })))
    ],
    λ either. elim either [
      | inl old ↦ (new x y).1 (inl old)
      | inr at ↦
          let pair : (x, at.byte) ≡ (r, b) = same_Some (x, at.byte) (r, b) (sym at.is_read ∙ is_read) in
          (new x y).1 (inr (ap (λ (p : ℕ × ℕ). p.0) pair, alone.alone y at.alone.there))
    ],
  )

-- all of them
pub given_in : (box : Box) (n r w : ℕ) → n ≡ length (byte_reads (box_events box))
    → ((k : ℕ) × (k < n) × IsGivenAt box k r w) ↔ ReadsFromBy (GivenIn box) r w
given_in box n r w all = (
  λ some. (some.2.byte, record { place = some.0; is_read = some.2.is_read; alone = some.2.alone }),
  λ some.
      let g = some.1 in (
        g.place,
        omega (arith, all, slice_get_within (byte_reads (box_events box)) g.place (r, some.0) g.is_read),
        record { byte = some.0; is_read = g.is_read; alone = g.alone },
      ),
)

-- the relations, from reads-from, from what that makes synchronize, from the steps with that, and from their chains
module _ (box : Box) (relations : Relations) (steps : Rows)
    (reads : (r w : ℕ) → Holds relations.reads r w ↔ ReadsFromBy (GivenIn box) r w)
    (synchronizes : (w r : ℕ) → Holds relations.synchronizes w r
    ↔ (Holds relations.reads r w × CanSynchronize (event_at (box_events box) w) (event_at (box_events box) r)))
    (are_steps : (e d : ℕ) → Holds steps e d ↔ IsStep (box_events box) (Holds relations.synchronizes) e d)
    (before : (e d : ℕ) → Holds relations.before.rows e d ↔ ((middles : List ℕ) × Chain (Holds steps) e middles d)) where
  to_step : (e d : ℕ) → Holds steps e d → StepBy (box_events box) (GivenIn box) e d
  to_step e d h = elim ((are_steps e d).0 h) [
    | inl ordered ↦ inl ordered
    | inr (inl s) ↦ let both = (synchronizes e d).0 s in inr (inl (record { reads = (reads d e).0 both.0; can = both.1 }))
    | inr (inr made) ↦ inr (inr made)
  ]

  from_step : (e d : ℕ) → StepBy (box_events box) (GivenIn box) e d → Holds steps e d
  from_step e d h = (are_steps e d).1 (elim h [
    | inl ordered ↦ inl ordered
    | inr (inl s) ↦ inr (inl ((synchronizes e d).1 ((reads d e).1 s.reads, s.can)))
    | inr (inr made) ↦ inr (inr made)
  ])

  pub relations_are : rows_len relations.reads ≡ length (box_events box) → rows_len relations.synchronizes ≡ length (box_events box)
      → rows_len relations.before.rows ≡ length (box_events box) → AreRelationsOf box relations
  relations_are reads_len synchronizes_len before_len = record {
    reads_len = reads_len;
    synchronizes_len = synchronizes_len;
    before_len = before_len;
    reads = reads;
    synchronizes = λ w r. (
      λ h. let both = (synchronizes w r).0 h in record { reads = (reads r w).0 both.0; can = both.1 },
      λ s. (synchronizes w r).1 ((reads r w).1 s.reads, s.can),
    );
    before = λ e d. (
      λ h.
          let chain = (before e d).0 h in record {
            middles = chain.0;
            chain = Chain-same (Holds steps) (StepBy (box_events box) (GivenIn box)) to_step e chain.0 d chain.1;
          },
      λ h. (before e d).1 (h.middles, Chain-same (StepBy (box_events box) (GivenIn box)) (Holds steps) from_step e h.middles d h.chain),
    );
  }
