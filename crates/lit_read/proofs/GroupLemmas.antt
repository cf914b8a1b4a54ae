-- What the parts of a group represent.
use Rattle.std.proofs.Common.{◌≡◌, ◌≢◌, ℕ, suc, ◌+◌, ◌<◌, ◌≤◌, List, [], ◌∷◌, ◌++◌, length, get_or, Result, Ok, refl, ap, sym, subst, ◌∙◌, arith, add-one, zero, drop}
use Rattle.std.specs.Global.{Vec}
use Rattle.std.proofs.Math.ListN.{drop_of_length-le}
use Rattle.lit_read.specs.declared.fault.ReadKind.{ReadKind}
use Rattle.lit_read.specs.declared.fault.ReadKind.TheVariants.{TooLong, NotAscii, Syntax, Misplaced, BlockSize, TooManyAgents, DuplicateAgent, LiteralRange, OutOfBlock, UnknownName, TooDeep, MissingPart, OutOfMemory}
use Rattle.lit_read.specs.declared.forms.marks.Mark as marks
use Rattle.lit_syntax.specs.declared.syntax.Cond.{Cond}
use Rattle.lit_syntax.specs.declared.syntax.Cond as code
use Rattle.lit_syntax.specs.Syntax.{Agent, Condition, Conditions, Any, All, Also}
use Rattle.lit_syntax.specs.Litmus.{condition_of, conditions_view}
use Rattle.lit_read.specs.Internal.Built.{Groups, pushed, all_of, any_of, asked, build_step, build, and_then}
use Rattle.lit_read.specs.Internal.Views.{mark_view, mark_views, Fails}
use Rattle.lit_syntax.proofs.TreeViews.{all_views, any_views}

pub views_pushed : (cs : List Cond) (c : Cond) → conditions_view (cs ++ c ∷ []) ≡ pushed (conditions_view cs) (condition_of c)
views_pushed [] c = refl
views_pushed (d ∷ ds) c = ap (λ (x : Conditions). Also (condition_of d) x) (views_pushed ds c)

several_all : (cs : List Cond) → length cs ≢ 1 → all_of (conditions_view cs) ≡ All (conditions_view cs)
several_all [] h = refl
several_all (c ∷ []) h = absurd (h refl)
several_all (c ∷ d ∷ cs) h = refl

several_any : (cs : List Cond) → length cs ≢ 1 → any_of (conditions_view cs) ≡ Any (conditions_view cs)
several_any [] h = refl
several_any (c ∷ []) h = absurd (h refl)
several_any (c ∷ d ∷ cs) h = refl

pub all_several : (v : Vec Cond) → length v.items ≢ 1 → condition_of (code.All v) ≡ all_of (conditions_view v.items)
all_several v h = all_views v ∙ sym (several_all v.items h)

pub any_several : (v : Vec Cond) → length v.items ≢ 1 → condition_of (code.Any v) ≡ any_of (conditions_view v.items)
any_several v h = any_views v ∙ sym (several_any v.items h)

-- ---- going along the marks

pub fails_on : {A B : Type 0} (k : ReadKind) (r : Result A ReadKind) (f : A → Result B ReadKind) → Fails k r → Fails k (and_then r f)
fails_on TooLong r f e = ap (λ x. and_then x f) e
fails_on NotAscii r f e = ap (λ x. and_then x f) e
fails_on Syntax r f e = ap (λ x. and_then x f) e
fails_on Misplaced r f e = ap (λ x. and_then x f) e
fails_on BlockSize r f e = ap (λ x. and_then x f) e
fails_on TooManyAgents r f e = ap (λ x. and_then x f) e
fails_on DuplicateAgent r f e = ap (λ x. and_then x f) e
fails_on LiteralRange r f e = ap (λ x. and_then x f) e
fails_on OutOfBlock r f e = ap (λ x. and_then x f) e
fails_on UnknownName r f e = ap (λ x. and_then x f) e
fails_on TooDeep r f e = ap (λ x. and_then x f) e
fails_on MissingPart r f e = ap (λ x. and_then x f) e
fails_on OutOfMemory r f e = tt

build_more : (agents : List Agent) (s : Groups) (xs : List marks.Mark) (i : ℕ) (d : marks.Mark) → i < length xs
    → build agents s (mark_views (drop i xs)) ≡ and_then (build_step agents s (mark_view (get_or xs i d))) (λ t. build agents t (mark_views (drop (suc i) xs)))
unfolding build
build_more agents s [] i d lt = absurd (omega arith)
build_more agents s (x ∷ xs) zero d lt = refl
build_more agents s (x ∷ xs) (suc i) d lt = build_more agents s xs i d (omega arith)

module _ (agents : List Agent) (s : Groups) (xs : List marks.Mark) (i : ℕ) (d : marks.Mark) (r : Result Condition ReadKind) (lt : i < length xs) (so_far : build agents s (mark_views (drop i xs)) ≡ r) where
  here : r ≡ and_then (build_step agents s (mark_view (get_or xs i d))) (λ t. build agents t (mark_views (drop (suc i) xs)))
  here = sym so_far ∙ build_more agents s xs i d lt

  pub build_fails : (k : ReadKind) → Fails k (build_step agents s (mark_view (get_or xs i d))) → Fails k r
  build_fails k e = subst (Fails k) (sym here) (fails_on k (build_step agents s (mark_view (get_or xs i d))) (λ t. build agents t (mark_views (drop (suc i) xs))) e)

  pub build_goes_on : (t : Groups) → build_step agents s (mark_view (get_or xs i d)) ≡ Ok t → build agents t (mark_views (drop (i + 1) xs)) ≡ r
  build_goes_on t e = rw (add-one i) (sym (here ∙ ap (λ y. and_then y (λ t. build agents t (mark_views (drop (suc i) xs)))) e))

pub build_ends : (agents : List Agent) (s : Groups) (xs : List marks.Mark) (i : ℕ) (r : Result Condition ReadKind) → length xs ≤ i → build agents s (mark_views (drop i xs)) ≡ r → r ≡ Ok (asked s.inner)
unfolding build
build_ends agents s xs i r le so_far = sym so_far ∙ ap (λ (l : List marks.Mark). build agents s (mark_views l)) (drop_of_length-le xs le)
