-- The step that one more line makes. Private contracts alone cite this: `Spelling` and `Faults` have the definitions.
use Rattle.std.specs.Prelude.{◌≡◌, ℕ, true, false, List, Result, Err, ◌⊎◌}
use Rattle.std.specs.List.{list_all}
use Rattle.lit_read.specs.declared.fault.ReadKind.{ReadKind}
use Rattle.lit_read.specs.declared.fault.ReadKind.TheVariants.{NotAscii, Syntax, OutOfMemory}
use Rattle.lit_syntax.specs.Forms.{Form, HasForm}
use Rattle.lit_read.specs.Faults.{is_allowed}
use Rattle.lit_read.specs.Internal.State.{State, step}

-- the line has this form, and bytes that may stand in a text
pub record IsLine (line : List ℕ) (form : Form) : Type 0 where
  pub allowed : list_all is_allowed line ≡ true
  pub has : HasForm line form

-- memory ran out, or the line cannot be one of a text
abbrev pub IsNoLine : List ℕ → ReadKind → Type 0
IsNoLine line kind =
    (kind ≡ OutOfMemory)
    ⊎ (((kind ≡ NotAscii) × (list_all is_allowed line ≡ false))
    ⊎ ((kind ≡ Syntax) × (list_all is_allowed line ≡ true) × ((form : Form) → ¬ HasForm line form)))

-- the line has a form, with which the draft goes on so
pub record LineStep (s : State) (line : List ℕ) (r : Result State ReadKind) : Type 0 where
  pub form : Form
  pub is : IsLine line form
  pub steps : step s form ≡ r

-- the line cannot be one of a text, or its form cannot follow
abbrev pub LineFails : State → List ℕ → ReadKind → Type 0
LineFails s line kind = IsNoLine line kind ⊎ LineStep s line (Err kind)
