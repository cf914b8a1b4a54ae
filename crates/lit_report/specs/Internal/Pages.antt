-- Pages: parts of the list of entries, which workers print side by side.
use Rattle.std.specs.Prelude.{◌≡◌, ◌-◌, true, List, ℕ, take, drop}
use Rattle.std.specs.List.{flat_map}
use Rattle.lit_syntax.specs.Syntax.{Litmus}
use Rattle.lit_search.specs.Report.{Report}
use Rattle.lit_report.specs.declared.pages.Page.{Page}
use Rattle.lit_report.specs.EntryText.{entry_text}

-- the text of the entries from one place up to another
abbrev pub page_text : Litmus → Report → ℕ → ℕ → List ℕ
page_text t report first end = flat_map (entry_text t) (take (end - first) (drop first report.entries))

-- a page that is printed has the text of its entries
abbrev pub IsPage : Litmus → Report → Page → Type 0
IsPage t report page = page.is_printed ≡ true → page.text.items ≡ page_text t report page.first page.end
