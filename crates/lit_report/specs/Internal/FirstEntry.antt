-- The report of the first choice of a class, which has one entry to write.
use Rattle.std.specs.Prelude.{◌<◌, Option, Some, None, length}
use Rattle.lit_syntax.specs.Syntax.{Litmus}
use Rattle.lit_paths.specs.Choice.{choices_of}
use Rattle.lit_valid.specs.Gives.{Gives, HasLeastOrder}
use Rattle.lit_search.specs.Report.{Entry, Report, entry_at}

-- it has a first entry, of a valid execution
pub record IsOnlyEntry (t : Litmus) (report : Report) : Type 0 where
  pub some : 0 < length report.entries
  pub known : (entry_at report 0).choice < length (choices_of t)
  pub gives : Gives t (entry_at report 0).choice (entry_at report 0).outcome
  pub least_order : HasLeastOrder t (entry_at report 0).choice (entry_at report 0).order

abbrev pub entry_of_option : Option Report → Option Entry
entry_of_option None = None
entry_of_option (Some report) = Some (entry_at report 0)
