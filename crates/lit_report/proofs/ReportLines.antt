-- The texts of reports, as they are put together.
use Rattle.std.proofs.Common.{◌≡◌, ℕ, Bool, Option, Some, None, List, ◌∷◌, ◌++◌, length, codes, [], refl, sym, ap, ◌∙◌, append_assoc}
use Rattle.std.specs.List.{flat_map}
use Rattle.std.specs.Fmt.{decimal}
use Rattle.lit_syntax.specs.Syntax.{Litmus}
use Rattle.lit_paths.specs.Outcome.{meets, names_of}
use Rattle.lit_search.specs.Report.{Entry, Report, entry_at}
use Rattle.lit_report.specs.EntryText.{entry_text, line, registers_text}
use Rattle.lit_report.specs.ReportText.{class_text, interleaving_text, quick_text, report_text, verdict_text, yes_or_no}
use Rattle.lit_report.specs.declared.verdict.Verdict.{Verdict}
use Rattle.lit_report.specs.Internal.FirstEntry.{entry_of_option}

-- what is said of a class
pub class_none : (t : Litmus) (word : List ℕ) (first : Option Report) → ((report : Report) → first ≡ Some report → ⊥) → word ++ codes " none\n" ≡ class_text t word (entry_of_option first)
class_none t word None h = sym (append_assoc word (codes " none") (10 ∷ []))
class_none t word (Some report) h = absurd (h report refl)

pub class_some : (t : Litmus) (word : List ℕ) (first : Option Report) (report : Report) (entry : Entry) → first ≡ Some report → entry ≡ entry_at report 0
    → (word ++ codes " ") ++ entry_text t entry ≡ class_text t word (entry_of_option first)
class_some t word first report entry is same =
    ap (λ (e : Entry). (word ++ codes " ") ++ entry_text t e) same ∙ ap (λ (o : Option Report). class_text t word (entry_of_option o)) (sym is)

-- a whole report
pub whole_is : (t test : Litmus) (report : Report) (count : ℕ) (verdict : Verdict) (race : Bool) → test ≡ t → count ≡ length report.entries → race ≡ report.race
    → (((((line (codes "test " ++ test.name) ++ flat_map (entry_text t) report.entries) ++ codes "outcomes ") ++ decimal count) ++ codes "\n") ++ line (codes "verdict " ++ verdict_text verdict)) ++ line (codes "data race " ++ yes_or_no race)
    ≡ report_text t report verdict
unfolding report_text
whole_is t test report count verdict race same is marked =
    rw (same, is, marked) (joined (line (codes "test " ++ t.name)) (flat_map (entry_text t) report.entries) (codes "outcomes ") (decimal (length report.entries)) (line (codes "verdict " ++ verdict_text verdict)) (line (codes "data race " ++ yes_or_no report.race)))
  where
    joined : (a b c d e f : List ℕ) → (((((a ++ b) ++ c) ++ d) ++ codes "\n") ++ e) ++ f ≡ a ++ b ++ line (c ++ d) ++ e ++ f
    joined a b c d e f = simp append_assoc

-- a quick report
pub quick_is : (t test : Litmus) (met unmet : Option Entry) (verdict : Verdict) → test ≡ t
    → ((line (codes "test " ++ test.name) ++ class_text t (codes "met") met) ++ class_text t (codes "unmet") unmet) ++ line (codes "verdict " ++ verdict_text verdict) ≡ quick_text t met unmet verdict
unfolding quick_text
quick_is t test met unmet verdict same =
    ap (λ (u : Litmus). ((line (codes "test " ++ u.name) ++ class_text t (codes "met") met) ++ class_text t (codes "unmet") unmet) ++ line (codes "verdict " ++ verdict_text verdict)) same
    ∙ joined (line (codes "test " ++ t.name)) (class_text t (codes "met") met) (class_text t (codes "unmet") unmet) (line (codes "verdict " ++ verdict_text verdict))
  where
    joined : (a b c d : List ℕ) → ((a ++ b) ++ c) ++ d ≡ a ++ b ++ c ++ d
    joined a b c d = simp append_assoc

-- the answer for a schedule
pub interleaving_is : (t : Litmus) (outcome : List ℕ) (names : List (ℕ × ℕ)) (word : List ℕ) → names ≡ names_of t → word ≡ yes_or_no (meets t outcome)
    → ((((line (codes "test " ++ t.name) ++ codes "interleaving") ++ registers_text t names outcome) ++ codes "\nmeets ") ++ word) ++ codes "\n" ≡ interleaving_text t outcome
unfolding interleaving_text
interleaving_is t outcome names word named is =
    rw (named, is) (joined (line (codes "test " ++ t.name)) (codes "interleaving") (registers_text t (names_of t) outcome) (codes "\n") (codes "meets ") (yes_or_no (meets t outcome)))
  where
    joined : (a b c d e f : List ℕ) → ((((a ++ b) ++ c) ++ (d ++ e)) ++ f) ++ d ≡ a ++ ((b ++ c) ++ d) ++ ((e ++ f) ++ d)
    joined a b c d e f = simp append_assoc
