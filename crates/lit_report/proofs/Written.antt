-- What two writes in a row do to the bytes that a writer holds.
use Rattle.std.proofs.Common.{◌≡◌, ℕ, List, ◌++◌, take, drop, Option, ap, ◌∙◌, append_assoc}
use Rattle.std.proofs.lemmas.List.{take-append-drop}
use Rattle.std.specs.Io.KnownBytes.{Appends}
use Rattle.std.proofs.KnownBytes.{Appends-trans}

-- a beginning of the bytes was written, and the rest is known
pub record Begun (old new : Option (List ℕ)) (bytes rest : List ℕ) : Type 0 where
  pub front : List ℕ
  pub parts : front ++ rest ≡ bytes
  pub appended : Appends old new front

pub Begun-more : (old mid new : Option (List ℕ)) (bytes rest : List ℕ) (n : ℕ) → Begun old mid bytes rest → Appends mid new (take n rest) → Begun old new bytes (drop n rest)
Begun-more old mid new bytes rest n b p = record {
  front = b.front ++ take n rest;
  parts = append_assoc b.front (take n rest) (drop n rest) ∙ ap (λ (w : List ℕ). b.front ++ w) (take-append-drop n rest) ∙ b.parts;
  appended = Appends-trans old mid new b.front (take n rest) b.appended p;
}
