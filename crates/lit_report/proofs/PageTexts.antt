-- The text of the entries from one place up to another.
use Rattle.std.proofs.Common.{◌≡◌, ℕ, suc, ◌+◌, ◌-◌, ◌<◌, ◌≤◌, List, [], ◌++◌, length, take, drop, sym, ap, ◌∙◌, arith}
use Rattle.std.specs.List.{flat_map}
use Rattle.std.proofs.Math.Seq.{take-add}
use Rattle.std.proofs.lemmas.Grind.{flat_map-append}
use Rattle.std.proofs.lemmas.List.{drop_more, drop-drop, take_all}
use Rattle.lit_syntax.specs.Syntax.{Litmus}
use Rattle.lit_search.specs.Report.{Entry, Report, entry_at}
use Rattle.lit_report.specs.EntryText.{entry_text}
use Rattle.lit_report.specs.Internal.Pages.{page_text}

module _ (t : Litmus) (report : Report) where
  -- the text of so many entries from a place on
  abbrev pub some_text : ℕ → ℕ → List ℕ
  some_text first count = flat_map (entry_text t) (take count (drop first report.entries))

  -- an entry, and those behind it
  pub page_more : (i end : ℕ) (entry : Entry) → i < end → i < length report.entries → entry ≡ entry_at report i
      → page_text t report i end ≡ entry_text t entry ++ page_text t report (i + 1) end
  page_more i end entry less known is =
      let count : end - i ≡ suc (end - (i + 1)) = omega (arith, less) in
      ap (some_text i) count
      ∙ ap (λ (es : List Entry). flat_map (entry_text t) (take (suc (end - (i + 1))) es)) (drop_more report.entries i _ known)
      ∙ ap (λ (e : Entry). entry_text t e ++ page_text t report (i + 1) end) (sym is)

  pub page_none : (i end : ℕ) → end ≤ i → page_text t report i end ≡ []
  page_none i end past = ap (some_text i) (let none : end - i ≡ 0 = omega (arith, past) in none)

  -- the entries up to a place, and those from it on
  pub pages_joined : (first middle end : ℕ) → first ≤ middle → middle ≤ end
      → page_text t report first middle ++ page_text t report middle end ≡ page_text t report first end
  pages_joined first middle end low high =
      let sum : (middle - first) + (end - middle) ≡ end - first = omega (arith, low, high) in
      let place : first + (middle - first) ≡ middle = omega (arith, low) in
      let behind : drop (middle - first) (drop first report.entries) ≡ drop middle report.entries =
      drop-drop (middle - first) first report.entries ∙ ap (λ (k : ℕ). drop k report.entries) place in
      let split : take (end - first) (drop first report.entries)
      ≡ take (middle - first) (drop first report.entries) ++ take (end - middle) (drop middle report.entries) =
      ap (λ (k : ℕ). take k (drop first report.entries)) (sym sum)
      ∙ take-add (middle - first) (end - middle) (drop first report.entries)
      ∙ ap (λ (es : List Entry). take (middle - first) (drop first report.entries) ++ take (end - middle) es) behind in
      sym (ap (flat_map (entry_text t)) split
      ∙ flat_map-append (entry_text t) (take (middle - first) (drop first report.entries)) (take (end - middle) (drop middle report.entries)))

  -- all entries
  pub page_whole : (end : ℕ) → end ≡ length report.entries → page_text t report 0 end ≡ flat_map (entry_text t) report.entries
  page_whole end all =
      ap (some_text 0) (let same : end - 0 ≡ end = omega arith in same) ∙ ap (flat_map (entry_text t)) (take_all end report.entries (omega (arith, all)))
