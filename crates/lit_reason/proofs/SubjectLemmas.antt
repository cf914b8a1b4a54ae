-- What the text of an answer says, by what it is about.
use Rattle.std.proofs.Common.{◌≡◌, ℕ, Bool, true, false, cond, nat_lt, List, length, inl, inr, le-ltb, lt-ltb, subst}
use Rattle.lit_syntax.specs.Syntax.{Litmus}
use Rattle.lit_paths.specs.Choice.{choices_of}
use Rattle.lit_reason.specs.declared.explanation.Subject.{Subject}
use Rattle.lit_reason.specs.declared.explanation.Subject.TheVariants as subjects
use Rattle.lit_reason.specs.declared.question.Question.{Question}
use Rattle.lit_reason.specs.declared.question.Question.TheVariants.{InClass, Race, OfChoice, OfSources}
use Rattle.lit_reason.specs.AnswerText.{HasBehind, IsChoiceText, IsSelectedText, IsTextOn, no_choice_line, test_line}
use Rattle.lit_reason.specs.Internal.Subjects.{IsSelected, IsSubjectOf, IsSubjectText}

numbered_text : (t : Litmus) (b : Bool) (n : ℕ) (text : List ℕ) → IsSubjectText t (cond b (subjects.OfChoice n) subjects.OfNoNumber) text
    → (b ≡ true → HasBehind (test_line t) (IsChoiceText t n) text) × (b ≡ false → text ≡ no_choice_line t)
numbered_text t true n text told = (λ is. told, λ is. absurd (let e = is in cc))
numbered_text t false n text told = (λ is. absurd (let e = is in cc), λ is. told)

selected_text : (t : Litmus) (subject : Subject) (text : List ℕ) → IsSelected t subject → IsSubjectText t subject text → IsSelectedText t text
selected_text t (subjects.InClass class) text is told = absurd is
selected_text t subjects.Race text is told = absurd is
selected_text t (subjects.OfChoice n) text is told = inl (n, is, told)
selected_text t subjects.OfNoNumber text is told = absurd is
selected_text t subjects.OfNoSources text is told = inr told

pub text_on : (t : Litmus) (question : Question) (subject : Subject) (text : List ℕ) → IsSubjectOf t question subject
    → IsSubjectText t subject text → IsTextOn t question text
text_on t (InClass class) subject text is told = subst (λ (s : Subject). IsSubjectText t s text) is told
text_on t Race subject text is told = subst (λ (s : Subject). IsSubjectText t s text) is told
text_on t (OfChoice n) subject text is told =
    let total = length (choices_of t) in
    let both = numbered_text t (nat_lt n total) n text (subst (λ (s : Subject). IsSubjectText t s text) is told) in
    (λ less. both.0 (lt-ltb n total less), λ more. both.1 (le-ltb n total more))
text_on t (OfSources words) subject text is told = selected_text t subject text is told
