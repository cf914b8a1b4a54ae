-- happens-before as rows, with one byte more.
use Rattle.std.proofs.Common.{◌≡◌, ◌↔◌, ◌⊎◌, ℕ, List, [], ◌∷◌, ◌++◌, Some, length, ◌∙◌}
use Rattle.std.specs.List.{slice_get}
use Rattle.lit_paths.specs.declared.event.Event.{Event}
use Rattle.lit_paths.specs.ByteReads.{byte_reads}
use Rattle.lit_paths.specs.Event.{event_at}
use Rattle.lit_rel.specs.declared.rows.Rows.{Rows}
use Rattle.lit_rel.specs.declared.given.SourcedByte.{SourcedByte}
use Rattle.lit_rel.specs.HappensBefore.{HappensBefore}
use Rattle.lit_rel.specs.Internal.Given.{read_of}
use Rattle.lit_rel.specs.Internal.PrefixStates.{IsOrder}
use Rattle.lit_rel.specs.ReadsFrom.{ReadsByteFrom}
use Rattle.lit_rel.specs.Rows.{Holds, WithPair, rows_len}
use Rattle.lit_rel.specs.SynchronizesWith.{CanSynchronize}
use Rattle.lit_rel.proofs.EdgeLemmas.{WithPair-same, happens_before-same, happens_before-with}
use Rattle.lit_rel.proofs.GivenLemmas.{ReadsByteFrom-push}

module _ (events : List Event) (sources : List ℕ) (byte : SourcedByte) (left : slice_get (byte_reads events) (length sources) ≡ Some (read_of byte)) (before : Rows) (is : IsOrder events sources before) where
  adds : (r b w : ℕ) → ReadsByteFrom events (sources ++ byte.source ∷ []) r b w ↔ (ReadsByteFrom events sources r b w ⊎ ((r ≡ byte.read) × (b ≡ byte.byte) × (w ≡ byte.source)))
  adds = ReadsByteFrom-push events sources byte.read byte.byte byte.source left

  -- where its source and its read don't synchronize
  pub IsOrder-alone : (CanSynchronize (event_at events byte.source) (event_at events byte.read) → ⊥) → IsOrder events (sources ++ byte.source ∷ []) before
  IsOrder-alone cannot =
      let same = happens_before-same events (ReadsByteFrom events sources) (ReadsByteFrom events (sources ++ byte.source ∷ [])) byte.read byte.byte byte.source adds cannot in
      record { len = is.len; pairs = λ e d. (λ h. (same e d).0 ((is.pairs e d).0 h), λ h. (is.pairs e d).1 ((same e d).1 h)) }

  -- where they do
  pub IsOrder-with_pair : (now : Rows) → CanSynchronize (event_at events byte.source) (event_at events byte.read) → rows_len now ≡ rows_len before → ((e d : ℕ) → Holds now e d ↔ WithPair (Holds before) byte.source byte.read e d) → IsOrder events (sources ++ byte.source ∷ []) now
  IsOrder-with_pair now can len closed =
      let same = happens_before-with events (ReadsByteFrom events sources) (ReadsByteFrom events (sources ++ byte.source ∷ [])) byte.read byte.byte byte.source adds can in
      record {
        len = len ∙ is.len;
        pairs = λ e d.
            let with = WithPair-same (Holds before) (HappensBefore events sources) byte.source byte.read is.pairs e d in
            (λ h. (same e d).0 (with.0 ((closed e d).0 h)), λ h. (closed e d).1 (with.1 ((same e d).1 h)));
      }
