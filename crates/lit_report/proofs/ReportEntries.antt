-- The entries of a report.
use Rattle.std.proofs.Common.{ℕ, ◌<◌, length, arith}
use Rattle.std.specs.Prelude.{IsTrue}
use Rattle.std.proofs.lemmas.Bool.Decides.{nat_tests}
use Rattle.std.proofs.lemmas.Option.{slice_get-get_or}
use Rattle.lit_syntax.specs.Syntax.{Litmus}
use Rattle.lit_search.specs.Report.{Report, entry_at, IsEntry, IsReport, in_range}

-- an entry of a report is one of its entries
pub entry_in : (t : Litmus) (to : ℕ) (report : Report) (i : ℕ) → IsReport t (in_range 0 to) report → i < length report.entries → IsEntry t (in_range 0 to) (entry_at report i)
entry_in t to report i is lt = is.listed.each i (entry_at report i) (slice_get-get_or report.entries i _ lt)

-- a number among all
pub among_all : (total n : ℕ) → IsTrue (in_range 0 total n) → n < total
among_all total n is = grind (arith, nat_tests)
