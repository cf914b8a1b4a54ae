-- What a fault says of the text.
use Rattle.std.proofs.Common.{◌≢◌, ℕ, List, inl, inr}
use Rattle.lit_read.specs.Faults.{IsFirstFault, IsReadFault}
use Rattle.lit_read.specs.declared.fault.ReadKind.{ReadKind}
use Rattle.lit_read.specs.declared.fault.ReadKind.TheVariants as kinds

-- where memory didn't run out, the text has the fault
pub first_fault : (text : List ℕ) (kind : ReadKind) (line : ℕ) → IsReadFault text kind line → kind ≢ kinds.OutOfMemory
    → IsFirstFault text kind line
first_fault text kind line is other = elim is [ inl memory ↦ absurd (other memory.0) | inr first ↦ first ]
