-- The lines of a text (this project's own).
use Rattle.std.specs.Prelude.{ℕ, Bool, not, List, [], ◌∷◌, ◌++◌, ◌==◌, if◌then◌else◌, Option, Some, None}
use Rattle.std.specs.List.{list_all}

-- the lines, with one more byte at the front of the first
abbrev pub onto_first : ℕ → List (List ℕ) → List (List ℕ)
onto_first b [] = (b ∷ []) ∷ []
onto_first b (l ∷ ls) = (b ∷ l) ∷ ls

-- The lists between bytes 10. After a byte 10 that ends the text stands no line. The empty text has one line.
unfoldable pub lines_of : List ℕ → List (List ℕ)
lines_of [] = [] ∷ []
lines_of (b ∷ []) = if b == 10 then [] ∷ [] else (b ∷ []) ∷ []
lines_of (b ∷ c ∷ bs) = if b == 10 then [] ∷ lines_of (c ∷ bs) else onto_first b (lines_of (c ∷ bs))

-- the lines, each with a byte 10 behind it
abbrev pub ended_lines : List (List ℕ) → List ℕ
ended_lines [] = []
ended_lines (l ∷ ls) = l ++ 10 ∷ ended_lines ls

-- no byte of the line is 10
abbrev pub is_whole_line : List ℕ → Bool
is_whole_line l = list_all (λ b. not (b == 10)) l

-- the lines of what is left of a text, if anything is
abbrev pub lines_from : Option (List ℕ) → List (List ℕ)
lines_from None = []
lines_from (Some text) = lines_of text
