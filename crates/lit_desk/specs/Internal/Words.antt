-- The words of a desk.
use Rattle.std.specs.Prelude.{ℕ, Option, Some, None, cond, ◌==◌}
use Rattle.lit_desk.specs.declared.class.Class2.{Class2}
use Rattle.lit_desk.specs.declared.class.Class2.TheVariants.{Met, Unmet}
use Rattle.lit_desk.specs.declared.words.TheConstants.{MET_WORD, UNMET_WORD, NONE_TOLD}

-- the word of a class
abbrev pub word_of : Class2 → ℕ
word_of Met = MET_WORD
word_of Unmet = UNMET_WORD

-- the class of a word
abbrev pub class_of : ℕ → Class2
class_of word = cond (word == MET_WORD) Met Unmet

-- the number that a class's word stands for
abbrev pub number_in : ℕ → Option ℕ
number_in word = cond (word == NONE_TOLD) None (Some word)
