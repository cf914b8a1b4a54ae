use Rattle.std.proofs.Common.{◌≡◌, ◌∙◌, codes, false, Option, Some, None, option_map, List, ℕ, refl}
use Rattle.std.specs.Option.{option_eq, option_map_or}
use Rattle.std.specs.Str.{bytes_eq}
use Rattle.std.specs.Borrow.{Bor}
use Rattle.std.specs.contracts.prelude.RefStrPartialEq.TheImpl.{eq-value}
use Rattle.clap.specs.Words.{found_of}
use Rattle.clap.proofs.WalkLemmas.{first_value-rows}
use Rattle.lit_command_line.proofs.words.is_quick.Goals as goal

is_text : (read : Option (Bor (List ℕ))) (text : Option (List ℕ)) (other : Bor (List ℕ)) → option_map (λ s. s.now) read ≡ text
    → option_eq eq-value.it read (Some other) ≡ option_map_or (λ t. bytes_eq t other.now) text false
is_text None text other is = rw (← is) refl
is_text (Some x) text other is = rw (← is) refl

pub returns : goal.returns
returns c = c.eq.ensures ∙ is_text _ _ _ (c.get_str.ensures ∙ first_value-rows (found_of c.args.matches.now) (codes "quick"))
