-- Candidate executions and choices: each execution's choice is one of the test, with its events, and the chosen values
-- with the sources determine it.
use Rattle.std.proofs.Common.{◌≡◌, ℕ, ◌<◌, ◌==◌, Bool, true, false, List, [], ◌∷◌, ◌++◌, length, map, get_or, replicate, arith, refl, sym, ap, ap₂, ◌∙◌, subst, append_assoc, append-nil, inl, inr}
use Rattle.std.specs.Prelude.{slice_set, slice_index}
use Rattle.std.proofs.lemmas.List.{length-map, same_lists, get_or-map, get_or_default}
use Rattle.std.proofs.lemmas.Option.{slice_get-get_or}
use Rattle.lit_syntax.specs.declared.limits.TheConstants.{REGISTERS}
use Rattle.lit_syntax.specs.Syntax.{Statement, Statements, Load, Store, Exchange, CompareExchange, If, Then, End, Litmus, agent_of}
use Rattle.lit_paths.specs.declared.event.Event.{Event}
use Rattle.lit_paths.specs.Path.{Path, Step, LoadMet, CompareExchangeMet, IfMet, path_on}
use Rattle.lit_paths.specs.Members.{IsStatementWalk, IsWalk, IsPath, IsChoice, AreCombined, AreSources}
use Rattle.lit_paths.specs.Run.{Run, IsRun, AgreesWith, compares, run_path}
use Rattle.lit_paths.specs.Choice.{Choice, events_of}
use Rattle.lit_paths.specs.Execution.{Execution, execution_choice, IsCandidateExecution}
use Rattle.lit_paths.proofs.PathLists.{IsPath-only, run-path}
use Rattle.lit_paths.proofs.ChoiceLists.{execution-sources}
use Rattle.lit_paths.proofs.Rising.{slice_get-map-known}

abbrev pub no_path : Path
no_path = record { decisions = []; events = [] }

abbrev pub no_run : Run
no_run = record { values = []; decisions = []; events = []; registers = [] }

-- ---- each candidate execution's choice is a choice of the test
pub execution-is_choice : (t : Litmus) (x : Execution) → IsCandidateExecution t x → IsChoice t (execution_choice x)
execution-is_choice t x is =
    let paths : List Path = map run_path x.runs in
    let decided : map (λ (p : Path). p.decisions) paths ≡ map (λ (r : Run). r.decisions) x.runs = maps (λ (p : Path). p.decisions) x.runs in
    let made : map (λ (p : Path). p.events) paths ≡ map (λ (r : Run). r.events) x.runs = maps (λ (p : Path). p.events) x.runs in
    record {
      paths = paths;
      combined = record {
        one_each = length-map x.runs run_path ∙ is.one_each;
        each = λ i path at.
            let from = slice_get-map-known run_path x.runs i path at in
            subst (λ (p : Path). IsPath i (agent_of t i).body p) from.2 (run-path i (agent_of t i).body from.0 (is.each i from.0 from.1));
      };
      decided = decided;
      sourced = subst (λ (ess : List (List Event)). AreSources (events_of t.bytes ess) x.sources) (sym made) (execution-sources t x is);
    }
  where
    maps : {B : Type 0} (f : Path → B) (runs : List Run) → map f (map run_path runs) ≡ map (λ (r : Run). f (run_path r)) runs
    maps f [] = refl
    maps f (r ∷ runs) = ap (λ xs. f (run_path r) ∷ xs) (maps f runs)

-- ---- the values determine the decisions
-- what two walks with the same beginning go on with
pub record GoesOn (a b : List Step) (x y : List Step) (after last : List ℕ) : Type 0 where
  pub same : a ≡ b
  pub now : List ℕ
  pub left : List ℕ
  pub first : AgreesWith x now left after
  pub second : AgreesWith y now left last

two_lists : (v w : ℕ) (vs ws values : List ℕ) → values ≡ v ∷ vs → values ≡ w ∷ ws → (v ≡ w) × (vs ≡ ws)
two_lists v w vs ws values e f =
    let same : v ∷ vs ≡ w ∷ ws = sym e ∙ f in
    let head : v ≡ w = cc in
    let tail : vs ≡ ws = cc in
    (head, tail)

mutual
  statement-goes_on : (s : Statement) (a b x y : List Step) (before values after last : List ℕ) → IsStatementWalk s a → IsStatementWalk s b
      → AgreesWith (a ++ x) before values after → AgreesWith (b ++ y) before values last → GoesOn a b x y after last
  statement-goes_on (Load reg window index atomic) a b x y before values after last is also first second =
      let met : Step = LoadMet reg window index atomic in
      let p = subst (λ (l : List Step). AgreesWith (l ++ x) before values after) is first in
      let q = subst (λ (l : List Step). AgreesWith (l ++ y) before values last) also second in
      let one = two_lists p.0 q.0 p.1 q.1 values p.2 q.2 in
      record {
        same = is ∙ sym also;
        now = slice_set before reg p.0;
        left = p.1;
        first = p.3;
        second = subst (λ (v : ℕ). AgreesWith y (slice_set before reg v) p.1 last) (sym one.0) (subst (λ (vs : List ℕ). AgreesWith y (slice_set before reg q.0) vs last) (sym one.1) q.3);
      }
  statement-goes_on (Store window index value atomic) a b x y before values after last is also first second =
      record {
        same = is ∙ sym also;
        now = before;
        left = values;
        first = subst (λ (l : List Step). AgreesWith (l ++ x) before values after) is first;
        second = subst (λ (l : List Step). AgreesWith (l ++ y) before values last) also second;
      }
  statement-goes_on (Exchange reg window index value) a b x y before values after last is also first second =
      let p = subst (λ (l : List Step). AgreesWith (l ++ x) before values after) is first in
      let q = subst (λ (l : List Step). AgreesWith (l ++ y) before values last) also second in
      let one = two_lists p.0 q.0 p.1 q.1 values p.2 q.2 in
      record {
        same = is ∙ sym also;
        now = slice_set before reg p.0;
        left = p.1;
        first = p.3;
        second = subst (λ (v : ℕ). AgreesWith y (slice_set before reg v) p.1 last) (sym one.0) (subst (λ (vs : List ℕ). AgreesWith y (slice_set before reg q.0) vs last) (sym one.1) q.3);
      }
  statement-goes_on (CompareExchange reg window index expected value) a b x y before values after last is also first second =
      let met : Bool → Step = λ s. CompareExchangeMet reg window index expected value s in
      let p = subst (λ (l : List Step). AgreesWith (l ++ x) before values after) is.1 first in
      let q = subst (λ (l : List Step). AgreesWith (l ++ y) before values last) also.1 second in
      let one = two_lists p.0 q.0 p.1 q.1 values p.2 q.2 in
      let decided : is.0 ≡ also.0 = p.3 ∙ ap (λ v. v == expected) one.0 ∙ sym q.3 in
      record {
        same = is.1 ∙ ap (λ s. met s ∷ []) decided ∙ sym also.1;
        now = slice_set before reg p.0;
        left = p.1;
        first = p.4;
        second = subst (λ (v : ℕ). AgreesWith y (slice_set before reg v) p.1 last) (sym one.0) (subst (λ (vs : List ℕ). AgreesWith y (slice_set before reg q.0) vs last) (sym one.1) q.4);
      }
  statement-goes_on (If reg equal value body other) a b x y before values after last is also first second =
      let asked : Bool = compares equal (slice_index before reg) value in
      elim is [
        | inl here ↦ elim also [
          | inl there ↦
              let p = subst (λ (l : List Step). AgreesWith (l ++ x) before values after) here.1 first in
              let q = subst (λ (l : List Step). AgreesWith (l ++ y) before values last) there.1 second in
              let arm = walk-goes_on body here.0 there.0 x y before values after last here.2 there.2 p.1 q.1 in
              record { same = here.1 ∙ ap (λ l. IfMet reg equal value true ∷ l) arm.same ∙ sym there.1; now = arm.now; left = arm.left; first = arm.first; second = arm.second }
          | inr there ↦
              let p = subst (λ (l : List Step). AgreesWith (l ++ x) before values after) here.1 first in
              let q = subst (λ (l : List Step). AgreesWith (l ++ y) before values last) there.1 second in
              let clash : true ≡ false = p.0 ∙ sym q.0 in cc
        ]
        | inr here ↦ elim also [
          | inl there ↦
              let p = subst (λ (l : List Step). AgreesWith (l ++ x) before values after) here.1 first in
              let q = subst (λ (l : List Step). AgreesWith (l ++ y) before values last) there.1 second in
              let clash : false ≡ true = p.0 ∙ sym q.0 in cc
          | inr there ↦
              let p = subst (λ (l : List Step). AgreesWith (l ++ x) before values after) here.1 first in
              let q = subst (λ (l : List Step). AgreesWith (l ++ y) before values last) there.1 second in
              let arm = walk-goes_on other here.0 there.0 x y before values after last here.2 there.2 p.1 q.1 in
              record { same = here.1 ∙ ap (λ l. IfMet reg equal value false ∷ l) arm.same ∙ sym there.1; now = arm.now; left = arm.left; first = arm.first; second = arm.second }
        ]
      ]

  walk-goes_on : (ss : Statements) (a b x y : List Step) (before values after last : List ℕ) → IsWalk ss a → IsWalk ss b
      → AgreesWith (a ++ x) before values after → AgreesWith (b ++ y) before values last → GoesOn a b x y after last
  walk-goes_on End a b x y before values after last is also first second =
      record {
        same = is ∙ sym also;
        now = before;
        left = values;
        first = subst (λ (l : List Step). AgreesWith (l ++ x) before values after) is first;
        second = subst (λ (l : List Step). AgreesWith (l ++ y) before values last) also second;
      }
  walk-goes_on (Then s ss) a b x y before values after last is also first second =
      let p = subst (λ (l : List Step). AgreesWith l before values after) (ap (λ l. l ++ x) is.2 ∙ append_assoc is.0 is.1 x) first in
      let q = subst (λ (l : List Step). AgreesWith l before values last) (ap (λ l. l ++ y) also.2 ∙ append_assoc also.0 also.1 y) second in
      let here = statement-goes_on s is.0 also.0 (is.1 ++ x) (also.1 ++ y) before values after last is.3 also.3 p q in
      let rest = walk-goes_on ss is.1 also.1 x y here.now here.left after last is.4 also.4 here.first here.second in
      record { same = is.2 ∙ ap₂ (λ l m. l ++ m) here.same rest.same ∙ sym also.2; now = rest.now; left = rest.left; first = rest.first; second = rest.second }

pub run-decided : (owner : ℕ) (ss : Statements) (r q : Run) → IsRun owner ss r → IsRun owner ss q → r.values ≡ q.values → run_path r ≡ run_path q
run-decided owner ss r q first second same =
    let on = run-path owner ss r first in
    let other = run-path owner ss q second in
    let a : List Step = on.steps in
    let b : List Step = other.steps in
    let none : List Step = [] in
    let p = subst (λ (l : List Step). AgreesWith l (replicate REGISTERS 0) r.values r.registers) (sym (append-nil a)) first.agrees in
    let s = subst (λ (l : List Step). AgreesWith l (replicate REGISTERS 0) q.values q.registers) (sym (append-nil b)) second.agrees in
    let also = subst (λ (vs : List ℕ). AgreesWith (b ++ none) (replicate REGISTERS 0) vs q.registers) (sym same) s in
    let one = walk-goes_on ss a b none none (replicate REGISTERS 0) r.values r.registers q.registers on.walked other.walked p also in
    sym on.taken ∙ ap (path_on owner) one.same ∙ other.taken

-- ---- the runs of a choice's executions are on the paths of its combination
pub runs-on_paths : (t : Litmus) (paths : List Path) (x : Execution) → AreCombined t paths → IsCandidateExecution t x
    → map (λ path. path.decisions) paths ≡ map (λ run. run.decisions) x.runs → map run_path x.runs ≡ paths
runs-on_paths t paths x combined is decided =
    let long : length x.runs ≡ length paths = is.one_each ∙ sym combined.one_each in
    same_lists _ _ (omega (arith, long, length-map x.runs run_path))
    (λ k d inside.
    let here : k < length x.runs = omega (arith, inside, length-map x.runs run_path) in
    let there : k < length paths = omega (arith, here, long) in
    let run : Run = get_or x.runs k no_run in
    let path : Path = get_or paths k no_path in
    let run_is : IsRun k (agent_of t k).body run = is.each k run (slice_get-get_or x.runs k no_run here) in
    let path_is : IsPath k (agent_of t k).body path = combined.each k path (slice_get-get_or paths k no_path there) in
    let decisions : run.decisions ≡ path.decisions =
    sym (get_or-map (λ (r : Run). r.decisions) x.runs k no_run [] here) ∙ ap (λ (l : List (List ℕ)). get_or l k []) (sym decided)
    ∙ get_or-map (λ (p : Path). p.decisions) paths k no_path [] there in
    get_or-map run_path x.runs k no_run d here
    ∙ IsPath-only k (agent_of t k).body (run_path run) path (run-path k (agent_of t k).body run run_is) path_is decisions
    ∙ get_or_default paths k no_path d there)

-- ---- chosen values and sources belong to one choice at most
pub values-one_choice : (t : Litmus) (x y : Execution) → IsCandidateExecution t x → IsCandidateExecution t y
    → map (λ run. run.values) x.runs ≡ map (λ run. run.values) y.runs → x.sources ≡ y.sources → execution_choice x ≡ execution_choice y
values-one_choice t x y first second values sources =
    let decisions : Run → List ℕ = λ run. run.decisions in
    let long : length x.runs ≡ length y.runs = first.one_each ∙ sym second.one_each in
    let same : map decisions x.runs ≡ map decisions y.runs = same_lists _ _
    (omega (arith, long, length-map x.runs decisions, length-map y.runs decisions))
    (λ k d inside.
    let here : k < length x.runs = omega (arith, inside, length-map x.runs decisions) in
    let there : k < length y.runs = omega (arith, here, long) in
    let run : Run = get_or x.runs k no_run in
    let other : Run = get_or y.runs k no_run in
    let chosen : run.values ≡ other.values =
    sym (get_or-map (λ (r : Run). r.values) x.runs k no_run [] here) ∙ ap (λ (l : List (List ℕ)). get_or l k []) values ∙ get_or-map (λ (r : Run). r.values) y.runs k no_run [] there in
    get_or-map decisions x.runs k no_run d here
    ∙ ap (λ (p : Path). p.decisions)
    (run-decided k (agent_of t k).body run other (first.each k run (slice_get-get_or x.runs k no_run here)) (second.each k other (slice_get-get_or y.runs k no_run there)) chosen)
    ∙ sym (get_or-map decisions y.runs k no_run d there)) in
    let f : List (List ℕ) → Choice = λ ds. record { decisions = ds; sources = x.sources } in
    let g : List ℕ → Choice = λ ws. record { decisions = map decisions y.runs; sources = ws } in
    ap f same ∙ ap g sources
