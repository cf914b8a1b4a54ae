-- What a check line makes of a draft.
use Rattle.std.proofs.Common.{◌≡◌, ◌≢◌, ℕ, suc, ◌+◌, ◌<◌, ◌≤◌, Bool, true, false, cond, leb, eqb, ◌&&◌, List, [], ◌∷◌, length, map, Result, Ok, Err, refl, ap, sym, subst, ◌∙◌, arith}
use Rattle.std.specs.Prelude.{String, reverse}
use Rattle.std.specs.Global.{Vec, Global}
use Rattle.std.specs.List.{list_all, list_any}
use Rattle.std.specs.Str.{bytes_eq}
use Rattle.std.proofs.lemmas.Bool.{leb-true, eqb-true}
use Rattle.std.proofs.lemmas.List.{length-reverse}
use Rattle.std.proofs.lemmas.List.Folds.{list_all-map, list_all-append}
use Rattle.lit_syntax.specs.Litmus.{agents_view}
use Rattle.lit_read.specs.declared.draft.OpenIf as raw
use Rattle.lit_read.specs.declared.forms.marks.Mark as marks
use Rattle.lit_read.specs.declared.fault.ReadKind.{ReadKind}
use Rattle.lit_read.specs.declared.fault.ReadKind.TheVariants.{TooLong, NotAscii, Syntax, Misplaced, BlockSize, TooManyAgents, DuplicateAgent, LiteralRange, OutOfBlock, UnknownName, TooDeep, MissingPart, OutOfMemory}
use Rattle.lit_syntax.specs.declared.syntax.Stmt.{Stmt}
use Rattle.lit_syntax.specs.declared.limits.TheConstants.{AGENT_LIMIT, COMPARED_LIMIT}
use Rattle.lit_syntax.specs.Syntax.{Agent, Statements, End, Condition, IsLitmus}
use Rattle.lit_syntax.specs.Written.{Comparison, Operand, Compared, Negated, Grouped, Conjunction, Lone, Both, Written, Single, Either, operand_depths, conjunction_depths, written_depths, is_shallow}
use Rattle.lit_syntax.specs.Forms.{CheckLine, IsForm}
use Rattle.lit_read.specs.Spelling.{written_value}
use Rattle.lit_read.specs.Internal.Marks.{Mark, Bang, Opens, Closes, Joins, Parts, Compares, operand_marks, conjunction_marks, written_marks, is_small}
use Rattle.lit_read.specs.Internal.Built.{build, begun}
use Rattle.lit_read.specs.Internal.State.{State, Open, Whole, OpenIf, with_agent, is_known, is_known_mark, are_known, next_step, agent_step, test_of, check_step, IsState, has_small_numbers}
use Rattle.lit_read.specs.Internal.Views.{mark_view, mark_views, open_if_view, Fails}
use Rattle.lit_read.proofs.BuildLemmas.{built}
use Rattle.lit_read.proofs.StepLemmas.{check_preserved}

-- ---- the open `if`s that a vector holds

abbrev pub views : List raw.OpenIf → List OpenIf
views items = map open_if_view (reverse items)

pub none_open : (items : List raw.OpenIf) → length items ≡ 0 → views items ≡ []
none_open [] e = refl
none_open (x ∷ xs) e = absurd (omega (arith, e))

-- ---- a test of each comparison, and of each mark

module _ (q : Mark → Bool) (p : Comparison → Bool) (bang : q Bang ≡ true) (opens : q Opens ≡ true) (closes : q Closes ≡ true) (joins : q Joins ≡ true) (parts : q Parts ≡ true) (compares : (c : Comparison) → q (Compares c) ≡ p c) where
  true_first : (x y : Bool) → x ≡ true → (x && y) ≡ y
  true_first true y e = refl
  true_first false y e = absurd cc

  true_last : (x y : Bool) → y ≡ true → (x && (y && true)) ≡ x
  true_last true true e = refl
  true_last false true e = refl
  true_last x false e = absurd cc

  abbrev test : Comparison × ℕ → Bool
  test r = p r.0

  mutual
    operand_all : (o : Operand) (n : ℕ) → list_all q (operand_marks o) ≡ list_all test (operand_depths n o)
    operand_all (Compared c) n = ap (λ (x : Bool). x && true) (compares c)
    operand_all (Negated o) n = true_first (q Bang) (list_all q (operand_marks o)) bang ∙ operand_all o (n + 1)
    operand_all (Grouped w) n =
        true_first (q Opens) _ opens ∙ list_all-append q (written_marks w) (Closes ∷ []) ∙ true_last (list_all q (written_marks w)) (q Closes) closes ∙ written_all w (n + 1)

    conjunction_all : (c : Conjunction) (n : ℕ) → list_all q (conjunction_marks c) ≡ list_all test (conjunction_depths n c)
    conjunction_all (Lone o) n = operand_all o n
    conjunction_all (Both o c) n =
        list_all-append q (operand_marks o) (Joins ∷ conjunction_marks c) ∙ ap (λ (x : Bool). list_all q (operand_marks o) && x) (true_first (q Joins) (list_all q (conjunction_marks c)) joins)
        ∙ ap (λ (x : Bool). x && list_all q (conjunction_marks c)) (operand_all o n) ∙ ap (λ (x : Bool). list_all test (operand_depths n o) && x) (conjunction_all c n) ∙ sym (list_all-append test (operand_depths n o) (conjunction_depths n c))

    written_all : (w : Written) (n : ℕ) → list_all q (written_marks w) ≡ list_all test (written_depths n w)
    written_all (Single c) n = conjunction_all c n
    written_all (Either c w) n =
        list_all-append q (conjunction_marks c) (Parts ∷ written_marks w) ∙ ap (λ (x : Bool). list_all q (conjunction_marks c) && x) (true_first (q Parts) (list_all q (written_marks w)) parts)
        ∙ ap (λ (x : Bool). x && list_all q (written_marks w)) (conjunction_all c n) ∙ ap (λ (x : Bool). list_all test (conjunction_depths n c) && x) (written_all w n) ∙ sym (list_all-append test (conjunction_depths n c) (written_depths n w))

  pub all_of_marks : (xs : List marks.Mark) (w : Written) → mark_views xs ≡ written_marks w → list_all (λ m. q (mark_view m)) xs ≡ list_all test (written_depths 0 w)
  all_of_marks xs w is = sym (list_all-map q mark_view xs) ∙ ap (list_all q) is ∙ written_all w 0

pub small_is : (xs : List marks.Mark) (w : Written) → mark_views xs ≡ written_marks w → list_all (λ m. is_small (mark_view m)) xs ≡ has_small_numbers w
small_is xs w is = all_of_marks is_small (λ c. leb c.value COMPARED_LIMIT) refl refl refl refl refl (λ c. refl) xs w is

pub known_is : (agents : List Agent) (xs : List marks.Mark) (w : Written) → mark_views xs ≡ written_marks w → list_all (λ m. is_known_mark agents (mark_view m)) xs ≡ are_known agents w
known_is agents xs w is = all_of_marks (is_known_mark agents) (is_known agents) refl refl refl refl refl (λ c. refl) xs w is

-- ---- a check line

abbrev result_of : List Agent → Written → Result Condition ReadKind
result_of agents w = cond (is_shallow w) (Ok (written_value agents w)) (Err TooDeep)

module _ (name : List ℕ) (bytes : ℕ) (agents : List Agent) (agent : List ℕ) (body : Statements) (w : Written) where
  abbrev all_agents : List Agent
  all_agents = with_agent agents agent body

  abbrev bare : State
  bare = Open name bytes agents agent [] body

  large : has_small_numbers w ≡ false → check_step bare w ≡ Err LiteralRange
  unfolding check_step test_of
  large e = rw e refl

  unknown : has_small_numbers w ≡ true → are_known all_agents w ≡ false → check_step bare w ≡ Err UnknownName
  unfolding check_step test_of
  unknown e f = rw (e, f) refl

  deep : has_small_numbers w ≡ true → are_known all_agents w ≡ true → is_shallow w ≡ false → check_step bare w ≡ Err TooDeep
  unfolding check_step test_of
  deep e f g = rw (e, f, g) refl

  pub fine : has_small_numbers w ≡ true → are_known all_agents w ≡ true → is_shallow w ≡ true → check_step bare w ≡ Ok (Whole (record { name = name; bytes = bytes; agents = all_agents; check = written_value all_agents w }))
  unfolding check_step test_of
  fine e f g = rw (e, f, g) refl

  err_is : (k : ReadKind) → has_small_numbers w ≡ true → are_known all_agents w ≡ true → result_of all_agents w ≡ Err k → check_step bare w ≡ Err k
  err_is k e f h = by (is_shallow w) refl h
    where
      by : (b : Bool) → is_shallow w ≡ b → cond b (Ok (written_value all_agents w)) (Err TooDeep) ≡ Err k → check_step bare w ≡ Err k
      by true g h = absurd cc
      by false g h = let same : TooDeep ≡ k = cc in deep e f g ∙ ap (λ (x : ReadKind). Err x) same

  fails : (k : ReadKind) → has_small_numbers w ≡ true → are_known all_agents w ≡ true → Fails k (result_of all_agents w) → Fails k (check_step bare w)
  fails TooLong e f h = err_is TooLong e f h
  fails NotAscii e f h = err_is NotAscii e f h
  fails Syntax e f h = err_is Syntax e f h
  fails Misplaced e f h = err_is Misplaced e f h
  fails BlockSize e f h = err_is BlockSize e f h
  fails TooManyAgents e f h = err_is TooManyAgents e f h
  fails DuplicateAgent e f h = err_is DuplicateAgent e f h
  fails LiteralRange e f h = err_is LiteralRange e f h
  fails OutOfBlock e f h = err_is OutOfBlock e f h
  fails UnknownName e f h = err_is UnknownName e f h
  fails TooDeep e f h = err_is TooDeep e f h
  fails MissingPart e f h = err_is MissingPart e f h
  fails OutOfMemory e f h = tt

  told : (c : Condition) → result_of all_agents w ≡ Ok c → (is_shallow w ≡ true) × (written_value all_agents w ≡ c)
  told c h = by (is_shallow w) refl h
    where
      by : (b : Bool) → is_shallow w ≡ b → cond b (Ok (written_value all_agents w)) (Err TooDeep) ≡ Ok c → (is_shallow w ≡ true) × (written_value all_agents w ≡ c)
      by true g h = (g, cc)
      by false g h = absurd cc

-- ---- the same over the program's marks and open `if`s

module _ (name : List ℕ) (bytes : ℕ) (agents : List Agent) (agent : List ℕ) (items : List raw.OpenIf) (body : Statements) (xs : List marks.Mark) where
  abbrev every : List Agent
  every = with_agent agents agent body

  abbrev draft : State
  draft = Open name bytes agents agent (views items) body

  bare_is : length items ≡ 0 → draft ≡ Open name bytes agents agent [] body
  bare_is none = ap (λ (l : List OpenIf). Open name bytes agents agent l body) (none_open items none)

  pub too_open : (w : Written) → length items ≢ 0 → check_step draft w ≡ Err Misplaced
  unfolding check_step
  too_open w some = by (reverse items) refl
    where
      nothing : (l : List raw.OpenIf) → reverse l ≡ [] → length l ≡ 0
      nothing l e = sym (length-reverse l) ∙ ap length e

      by : (l : List raw.OpenIf) → reverse items ≡ l → check_step (Open name bytes agents agent (map open_if_view l) body) w ≡ Err Misplaced
      by [] e = absurd (some (nothing items e))
      by (x ∷ l) e = refl

  pub too_large : (w : Written) → mark_views xs ≡ written_marks w → length items ≡ 0 → list_all (λ m. is_small (mark_view m)) xs ≡ false → check_step draft w ≡ Err LiteralRange
  too_large w is none small = ap (λ (s : State). check_step s w) (bare_is none) ∙ large name bytes agents agent body w (sym (small_is xs w is) ∙ small)

  pub not_known : (w : Written) → mark_views xs ≡ written_marks w → length items ≡ 0 → list_all (λ m. is_small (mark_view m)) xs ≡ true → list_all (λ m. is_known_mark every (mark_view m)) xs ≡ false → check_step draft w ≡ Err UnknownName
  not_known w is none small known = ap (λ (s : State). check_step s w) (bare_is none) ∙ unknown name bytes agents agent body w (sym (small_is xs w is) ∙ small) (sym (known_is every xs w is) ∙ known)

  pub build_fails : (w : Written) (k : ReadKind) → mark_views xs ≡ written_marks w → length items ≡ 0 → list_all (λ m. is_small (mark_view m)) xs ≡ true → list_all (λ m. is_known_mark every (mark_view m)) xs ≡ true
      → Fails k (build every begun (mark_views xs)) → Fails k (check_step draft w)
  build_fails w k is none small known h =
      let built_is : build every begun (mark_views xs) ≡ result_of every w = ap (build every begun) is ∙ built every w in
      subst (λ (s : State). Fails k (check_step s w)) (sym (bare_is none)) (fails name bytes agents agent body w k (sym (small_is xs w is) ∙ small) (sym (known_is every xs w is) ∙ known) (subst (Fails k) built_is h))

  pub makes : (w : Written) (c : Condition) → mark_views xs ≡ written_marks w → length items ≡ 0 → list_all (λ m. is_small (mark_view m)) xs ≡ true → list_all (λ m. is_known_mark every (mark_view m)) xs ≡ true
      → build every begun (mark_views xs) ≡ Ok c → check_step draft w ≡ Ok (Whole (record { name = name; bytes = bytes; agents = every; check = c }))
  makes w c is none small known h =
      let found = told name bytes agents agent body w c (sym (ap (build every begun) is ∙ built every w) ∙ h) in
      ap (λ (s : State). check_step s w) (bare_is none) ∙ fine name bytes agents agent body w (sym (small_is xs w is) ∙ small) (sym (known_is every xs w is) ∙ known) found.0
      ∙ ap (λ (x : Condition). Ok (Whole (record { name = name; bytes = bytes; agents = every; check = x }))) found.1

  -- the test that comes of it is one
  pub made_litmus : (w : Written) (c : Condition) → IsState draft → IsForm (CheckLine w) → mark_views xs ≡ written_marks w → length items ≡ 0 → list_all (λ m. is_small (mark_view m)) xs ≡ true
      → list_all (λ m. is_known_mark every (mark_view m)) xs ≡ true → build every begun (mark_views xs) ≡ Ok c → IsLitmus (record { name = name; bytes = bytes; agents = every; check = c })
  unfolding IsState
  made_litmus w c state form is none small known h = check_preserved draft (Whole (record { name = name; bytes = bytes; agents = every; check = c })) w state form (makes w c is none small known h)

views_len : (entries : List (String Global × Vec Stmt)) → length (agents_view entries) ≡ length entries
views_len [] = refl
views_len (e ∷ es) = ap suc (views_len es)

pub few_entries : (entries : List (String Global × Vec Stmt)) (agents : List Agent) → agents_view entries ≡ agents → length agents ≤ AGENT_LIMIT → length entries ≤ AGENT_LIMIT
few_entries entries agents e few = omega (arith, views_len entries, ap length e)

-- ---- the next agent

pub next_ok : (name : List ℕ) (bytes : ℕ) (entries : List (String Global × Vec Stmt)) (agent : List ℕ) (items : List raw.OpenIf) (body : Statements) (next : List ℕ) (more : List Agent) → length items ≡ 0 → length entries + 1 < AGENT_LIMIT
    → list_any (λ a. bytes_eq next a.name) (with_agent (agents_view entries) agent body) ≡ false → more ≡ with_agent (agents_view entries) agent body
    → agent_step (Open name bytes (agents_view entries) agent (views items) body) next ≡ Ok (Open name bytes more next (views items) End)
unfolding agent_step next_step
next_ok name bytes entries agent items body next more none few new is =
    let room : leb AGENT_LIMIT (length (agents_view entries) + 1) ≡ false = above (leb AGENT_LIMIT (length (agents_view entries) + 1)) refl in
    ap (λ (l : List OpenIf). agent_step (Open name bytes (agents_view entries) agent l body) next) (none_open items none) ∙ rw (room, new) refl
    ∙ ap (λ (l : List Agent). Ok (Open name bytes l next [] End)) (sym is) ∙ ap (λ (l : List OpenIf). Ok (Open name bytes more next l End)) (sym (none_open items none))
  where
    above : (b : Bool) → leb AGENT_LIMIT (length (agents_view entries) + 1) ≡ b → b ≡ false
    above true e = let le : AGENT_LIMIT ≤ length (agents_view entries) + 1 = leb-true _ _ e in absurd (omega (arith, views_len entries))
    above false e = refl

-- ---- whether an `if` is open

pub is_zero : (n : ℕ) (b : Bool) → b ≡ eqb n 0 → b ≡ true → n ≡ 0
is_zero n b e f = eqb-true _ _ (sym e ∙ f)

pub is_some_number : (n : ℕ) (b : Bool) → b ≡ eqb n 0 → b ≡ false → n ≢ 0
is_some_number n b e f h = let zero_is : eqb n 0 ≡ true = ap (λ (k : ℕ). eqb k 0) h in absurd cc
