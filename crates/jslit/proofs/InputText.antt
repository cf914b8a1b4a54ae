-- The effect of reading the input step by step.
use Rattle.std.proofs.Common.{◌≡◌, ℕ, ◌+◌, ◌≤◌, ◌++◌, List, length, take, Option, Some, None, sym, ap, ◌∙◌, arith}
use Rattle.std.proofs.Math.Seq.{take-append_seam}
use Rattle.std.proofs.lemmas.List.{append-nil, length-append, take_all}
use Rattle.std.specs.Io.KnownBytes.{Consumes, IsAtEnd}
use Rattle.std.proofs.KnownBytes.{Consumes-trans}
use Rattle.lit_syntax.specs.declared.limits.TheConstants.{TEXT_LIMIT}
use Rattle.jslit.specs.Devices.{IsInputText, ConsumesBeginning}
use Rattle.jslit.specs.Internal.Reading.{HasRead}

-- as many bytes as are told
pub input_full : (a b : Option (List ℕ)) (text : List ℕ) → Consumes a b text → length text ≡ TEXT_LIMIT + 1 → IsInputText a text
input_full None b text p full = tt
input_full (Some xs) None text p full = absurd p
input_full (Some xs) (Some ys) text p full =
    sym (take-append_seam text ys) ∙ ap (λ (n : ℕ). take n (text ++ ys)) full ∙ ap (take (TEXT_LIMIT + 1)) (sym p)

-- all bytes, and no more than are told
pub input_all : (a b : Option (List ℕ)) (text : List ℕ) → Consumes a b text → IsAtEnd b → length text ≤ TEXT_LIMIT + 1 → IsInputText a text
input_all None b text p end few = tt
input_all (Some xs) None text p end few = absurd p
input_all (Some xs) (Some ys) text p end few =
    let all : xs ≡ text = p ∙ ap (λ (l : List ℕ). text ++ l) end ∙ append-nil text in
    sym (ap (take (TEXT_LIMIT + 1)) all ∙ take_all (TEXT_LIMIT + 1) text few)

-- the last read found the end
pub input_at_end : (a b c : Option (List ℕ)) (before after : List ℕ) (taken : ℕ) → Consumes a b before → HasRead b c before after taken → taken ≡ 0 → length before ≤ TEXT_LIMIT + 1 → IsInputText a after
input_at_end a b c before after taken p read none few =
    input_all a c after (rw read.appended (Consumes-trans a b c before read.bytes p read.consumed)) (read.end none)
    (omega (arith, few, none, read.count, ap length read.appended, length-append before read.bytes))

-- what was consumed before and then
pub ConsumesBeginning-then : (a b c : Option (List ℕ)) (text : List ℕ) (room limit : ℕ) → Consumes a b text → ConsumesBeginning b c room → length text + room ≤ limit → ConsumesBeginning a c limit
ConsumesBeginning-then a b c text room limit p q fits = record {
  front = text ++ q.front;
  few = omega (arith, fits, q.few, length-append text q.front);
  consumed = Consumes-trans a b c text q.front p q.consumed;
}
