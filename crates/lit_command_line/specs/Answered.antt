-- What is answered to words that ask for no run (this project's own).
use Rattle.std.specs.Prelude.{◌≡◌, ◌≢◌, ◌⊎◌, ℕ}
use Rattle.clap.specs.declared.error.kind.ErrorKind.{ErrorKind}
use Rattle.clap.specs.declared.error.kind.ErrorKind.TheVariants as kinds

-- the status that an error of the words has, by its kind
abbrev pub IsExplained : ErrorKind → ℕ → Type 0
IsExplained kind status = ((kind ≡ kinds.OutOfMemory) × (status ≡ 3)) ⊎ ((kind ≡ kinds.DisplayHelp) × (status ≡ 0))
    ⊎ ((kind ≡ kinds.DisplayVersion) × (status ≡ 0))
    ⊎ ((kind ≢ kinds.OutOfMemory) × (kind ≢ kinds.DisplayHelp) × (kind ≢ kinds.DisplayVersion) × (status ≡ 2))
