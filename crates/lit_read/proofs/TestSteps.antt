-- The reader goes through the forms of a test without a fault.
use Rattle.std.proofs.Common.{◌≡◌, ◌≢◌, ℕ, suc, ◌+◌, ◌<◌, ◌≤◌, Bool, true, false, leb, ltb, eqb, List, [], ◌∷◌, ◌++◌, length, get_or, Ok, inl, inr, refl, ap, sym, subst, ◌∙◌, append_assoc, arith}
use Rattle.std.specs.List.{list_any}
use Rattle.std.specs.Str.{bytes_eq}
use Rattle.std.proofs.lemmas.Bool.{leb-true, le-ltb, eqb-true, and_from}
use Rattle.std.proofs.lemmas.List.{length-append, append-nil}
use Rattle.lit_syntax.specs.declared.limits.TheConstants.{BLOCK_LIMIT, AGENT_LIMIT, COMPARED_LIMIT, IF_LIMIT}
use Rattle.lit_syntax.specs.Syntax.{fits_window, Statement, Statements, Load, Store, Exchange, CompareExchange, If, End, Then, IsStatementIn, AreStatementsIn, statement_nesting, nesting, Condition, Agent, Litmus, IsLitmus}
use Rattle.lit_syntax.specs.Written.{Written, is_shallow}
use Rattle.lit_syntax.specs.Forms.{Form, TestLine, BytesLine, AgentLine, StatementLine, IfLine, ElseLine, EndLine, CheckLine}
use Rattle.lit_read.specs.Structure.{IsStatement, AreStatements, AreAgents}
use Rattle.lit_read.proofs.SpellLemmas.{AreElse, else_lines}
use Rattle.lit_read.specs.Faults.{stays_in_block}
use Rattle.lit_read.specs.Spelling.{written_value, AreFormsOf}
use Rattle.lit_read.specs.Internal.State.{OpenIf, State, Empty, Named, Sized, Open, Whole, followed_by, with_agent, else_open_if, are_known, test_step, block_step, next_step, agent_step, statement_step, if_step, else_step, end_step, check_step, step, has_fitting_literals}
use Rattle.lit_read.proofs.TestForms.{behind, behind_end, behind_one, new_open_if}
use Rattle.lit_read.proofs.CanonicalForms.{differ}
use Rattle.lit_read.proofs.CheckAsks.{check_small, check_known}
use Rattle.lit_read.proofs.CheckSteps.{fine}

-- these forms, one after the other, make this draft of that one
abbrev pub Reaches : State → List Form → State → Type 0
Reaches s [] t = s ≡ t
Reaches s (f ∷ fs) t = (u : State) × (step s f ≡ Ok u) × Reaches u fs t

reaches_then : (fs gs : List Form) (s u t : State) → Reaches s fs u → Reaches u gs t → Reaches s (fs ++ gs) t
reaches_then [] gs s u t a b = subst (λ (x : State). Reaches x gs t) (sym a) b
reaches_then (f ∷ fs) gs s u t a b = (a.0, a.1, reaches_then fs gs a.0 u t a.2 b)

-- ---- accesses

module _ (name : List ℕ) (bytes : ℕ) (agents : List Agent) (agent : List ℕ) where
  abbrev at : List OpenIf → Statements → State
  at ifs body = Open name bytes agents agent ifs body

  access_step : (s : Statement) (ifs : List OpenIf) (body : Statements) → has_fitting_literals s ≡ true → stays_in_block bytes s ≡ true → step (at ifs body) (StatementLine s) ≡ Ok (at ifs (followed_by body s))
  unfolding step statement_step
  access_step s ifs body fits stays = rw (fits, stays) refl

  begin_if : (reg : ℕ) (equal : Bool) (value : ℕ) (ifs : List OpenIf) (body : Statements) → value ≤ COMPARED_LIMIT → length ifs < IF_LIMIT → step (at ifs body) (IfLine reg equal value) ≡ Ok (at (new_open_if reg equal value body ∷ ifs) End)
  unfolding step if_step
  begin_if reg equal value ifs body small room =
      let fits : ltb COMPARED_LIMIT value ≡ false = le-ltb _ _ small in
      rw (fits, no_more (leb IF_LIMIT (length ifs)) refl) refl
    where
      no_more : (b : Bool) → leb IF_LIMIT (length ifs) ≡ b → b ≡ false
      no_more true e = let le : IF_LIMIT ≤ length ifs = leb-true _ _ e in absurd (omega arith)
      no_more false e = refl

  begin_else : (reg : ℕ) (equal : Bool) (value : ℕ) (before body : Statements) (ifs : List OpenIf) → step (at (new_open_if reg equal value before ∷ ifs) body) ElseLine ≡ Ok (at (else_open_if (new_open_if reg equal value before) body ∷ ifs) End)
  unfolding step else_step
  begin_else reg equal value before body ifs = refl

  end_then : (reg : ℕ) (equal : Bool) (value : ℕ) (before body : Statements) (ifs : List OpenIf) → step (at (new_open_if reg equal value before ∷ ifs) body) EndLine ≡ Ok (at ifs (followed_by before (If reg equal value body End)))
  unfolding step end_step
  end_then reg equal value before body ifs = refl

  end_else : (reg : ℕ) (equal : Bool) (value : ℕ) (before part body : Statements) (ifs : List OpenIf) → step (at (else_open_if (new_open_if reg equal value before) part ∷ ifs) body) EndLine ≡ Ok (at ifs (followed_by before (If reg equal value part body)))
  unfolding step end_step
  end_else reg equal value before part body ifs = refl

  -- ---- statements

  abbrev Goes : List OpenIf → Statements → List Form → List OpenIf → Statements → Type 0
  Goes ifs body fs more after = Reaches (at ifs body) fs (at more after)

  mutual
    statement_reached : (fs : List Form) (s : Statement) (ifs : List OpenIf) (body : Statements) → IsStatement fs s → IsStatementIn bytes s → statement_nesting s + length ifs ≤ IF_LIMIT → Goes ifs body fs ifs (followed_by body s)
    statement_reached fs (Load r w i a) ifs body h is deep = rw h (at ifs (followed_by body (Load r w i a)), access_step (Load r w i a) ifs body refl is.1, refl)
    statement_reached fs (Store w i v a) ifs body h is deep = rw h (at ifs (followed_by body (Store w i v a)), access_step (Store w i v a) ifs body is.1 is.0, refl)
    statement_reached fs (Exchange r w i v) ifs body h is deep = rw h (at ifs (followed_by body (Exchange r w i v)), access_step (Exchange r w i v) ifs body is.2 is.1, refl)
    statement_reached fs (CompareExchange r w i e v) ifs body h is deep =
        rw h (at ifs (followed_by body (CompareExchange r w i e v)), access_step (CompareExchange r w i e v) ifs body (and_from (fits_window w e) (fits_window w v) is.2 is.3) is.1, refl)
    statement_reached fs (If r e v part other) ifs body h is deep =
        let inside = new_open_if r e v body ∷ ifs in
        rw h.2 (
          at inside End,
          begin_if r e v ifs body is.1 (omega arith),
          reaches_then h.0 (h.1 ++ EndLine ∷ []) (at inside End) (at inside part) (at ifs (followed_by body (If r e v part other)))
              (statements_reached h.0 part inside End h.3 is.2 (omega arith)) (else_reached h.1 r e v body part other ifs (else_lines h.1 other h.4) is.3 (omega arith)),
        )

    pub statements_reached : (fs : List Form) (ss : Statements) (ifs : List OpenIf) (body : Statements) → AreStatements fs ss → AreStatementsIn bytes ss → nesting ss + length ifs ≤ IF_LIMIT → Goes ifs body fs ifs (behind body ss)
    statements_reached fs End ifs body h are deep = rw h (ap (at ifs) (sym (behind_end body)))
    statements_reached fs (Then s ss) ifs body h are deep =
        rw h.2
        (reaches_then h.0 h.1 (at ifs body) (at ifs (followed_by body s)) (at ifs (behind body (Then s ss))) (statement_reached h.0 s ifs body h.3 are.0 (omega arith))
        (subst (λ (x : Statements). Goes ifs (followed_by body s) h.1 ifs x) (behind_one body s ss) (statements_reached h.1 ss ifs (followed_by body s) h.4 are.1 (omega arith))))

    else_reached : (fs : List Form) (r : ℕ) (e : Bool) (v : ℕ) (body part other : Statements) (ifs : List OpenIf) → AreElse fs other → AreStatementsIn bytes other → nesting other + (length ifs + 1) ≤ IF_LIMIT
        → Goes (new_open_if r e v body ∷ ifs) part (fs ++ EndLine ∷ []) ifs (followed_by body (If r e v part other))
    else_reached fs r e v body part End ifs (inl h) are deep = rw h (at ifs (followed_by body (If r e v part End)), end_then r e v body part ifs, refl)
    else_reached fs r e v body part End ifs (inr h) are deep =
        let inside = else_open_if (new_open_if r e v body) part ∷ ifs in
        rw h (at inside End, begin_else r e v body part ifs, (at ifs (followed_by body (If r e v part End)), end_else r e v body part End ifs, refl))
    else_reached fs r e v body part (Then s ss) ifs h are deep =
        let inside = else_open_if (new_open_if r e v body) part ∷ ifs in
        let end : Goes inside (Then s ss) (EndLine ∷ []) ifs (followed_by body (If r e v part (Then s ss))) = (at ifs (followed_by body (If r e v part (Then s ss))), end_else r e v body part (Then s ss) ifs, refl) in
        let both : Goes inside End (h.0 ++ h.1) inside (Then s ss) =
        reaches_then h.0 h.1 (at inside End) (at inside (Then s End)) (at inside (Then s ss)) (statement_reached h.0 s inside End h.3 are.0 (omega arith)) (statements_reached h.1 ss inside (Then s End) h.4 are.1 (omega arith)) in
        rw h.2 (at inside End, begin_else r e v body part ifs, reaches_then (h.0 ++ h.1) (EndLine ∷ []) (at inside End) (at inside (Then s ss)) (at ifs (followed_by body (If r e v part (Then s ss)))) both end)

-- ---- agents

abbrev IsApart : List Agent → Type 0
IsApart agents = (j k : ℕ) → j < k → k < length agents → (get_or agents j (record { name = []; body = End })).name ≢ (get_or agents k (record { name = []; body = End })).name

-- what each agent says can stand in a test
abbrev AreBodies : ℕ → List Agent → Type 0
AreBodies bytes [] = Unit {0}
AreBodies bytes (a ∷ others) = AreStatementsIn bytes a.body × (nesting a.body ≤ IF_LIMIT) × AreBodies bytes others

behind_first : (earlier : List Agent) (a : Agent) (rest : List Agent) → get_or (earlier ++ a ∷ rest) (length earlier) (record { name = []; body = End }) ≡ a
behind_first [] a rest = refl
behind_first (e ∷ es) a rest = behind_first es a rest

name_new : (earlier : List Agent) (a : Agent) (rest : List Agent) → IsApart (earlier ++ a ∷ rest) → list_any (λ b. bytes_eq a.name b.name) earlier ≡ false
name_new [] a rest apart = refl
name_new (e ∷ es) a rest apart =
    let far : length es < length (es ++ a ∷ rest) = omega (arith, length-append es (a ∷ rest)) in
    let here : bytes_eq a.name e.name ≡ false = differ _ _ (λ same. apart 0 (suc (length es)) (omega arith) (omega arith) (sym same ∙ ap (λ (b : Agent). b.name) (sym (behind_first es a rest)))) in
    rw here (name_new es a rest (λ j k jk within. apart (suc j) (suc k) (omega arith) (omega arith)))

module _ (name : List ℕ) (bytes : ℕ) where
  abbrev bare : List Agent → List ℕ → Statements → State
  bare agents agent body = Open name bytes agents agent [] body

  next_agent : (agents : List Agent) (agent : List ℕ) (body : Statements) (next : List ℕ) → length agents + 1 < AGENT_LIMIT → list_any (λ a. bytes_eq next a.name) (with_agent agents agent body) ≡ false
      → step (bare agents agent body) (AgentLine next) ≡ Ok (bare (with_agent agents agent body) next End)
  unfolding step agent_step next_step
  next_agent agents agent body next room new = rw (no_more (leb AGENT_LIMIT (length agents + 1)) refl, new) refl
    where
      no_more : (b : Bool) → leb AGENT_LIMIT (length agents + 1) ≡ b → b ≡ false
      no_more true e = let le : AGENT_LIMIT ≤ length agents + 1 = leb-true _ _ e in absurd (omega arith)
      no_more false e = refl

  -- the draft in which the last of these agents is open
  record Reached (s : State) (forms : List Form) (agents : List Agent) : Type 0 where
    earlier : List Agent
    agent : List ℕ
    body : Statements
    together : with_agent earlier agent body ≡ agents
    reached : Reaches s forms (bare earlier agent body)

  agents_reached : (fs : List Form) (others agents : List Agent) (agent : List ℕ) (body : Statements) → AreAgents fs others → AreBodies bytes others → length agents + length others < AGENT_LIMIT → IsApart (with_agent agents agent body ++ others)
      → Reached (bare agents agent body) fs (with_agent agents agent body ++ others)
  agents_reached fs [] agents agent body h are few apart = record { earlier = agents; agent = agent; body = body; together = sym (append-nil (with_agent agents agent body)); reached = rw h refl }
  agents_reached fs (a ∷ others) agents agent body h are few apart =
      let all = with_agent agents agent body in
      let same : all ++ a ∷ others ≡ with_agent all a.name a.body ++ others = sym (append_assoc all (a ∷ []) others) in
      let rest = agents_reached h.1 others all a.name a.body h.4 are.2 (omega (arith, length-append agents (record { name = agent; body = body } ∷ []))) (subst IsApart same apart) in
      subst (Reached (bare agents agent body) fs) (sym same)
      (record {
        earlier = rest.earlier;
        agent = rest.agent;
        body = rest.body;
        together = rest.together;
        reached = rw h.2 (
          bare all a.name End,
          next_agent agents agent body a.name (omega arith) (name_new all a others apart),
          reaches_then h.0 h.1 (bare all a.name End) (bare all a.name a.body) (bare rest.earlier rest.agent rest.body) (statements_reached name bytes all a.name h.0 a.body [] End h.3 are.0 (omega (arith, are.1))) rest.reached,
        );
      })

-- ---- a whole test

begins : (name : List ℕ) (bytes : ℕ) (first : List ℕ) → 1 ≤ bytes → bytes ≤ BLOCK_LIMIT → (step Empty (TestLine name) ≡ Ok (Named name)) × (step (Named name) (BytesLine bytes) ≡ Ok (Sized name bytes)) × (step (Sized name bytes) (AgentLine first) ≡ Ok (Open name bytes [] first [] End))
unfolding step test_step block_step agent_step
begins name bytes first some few = (refl, rw (not_zero (eqb bytes 0) refl, le-ltb BLOCK_LIMIT bytes few) refl, refl)
  where
    not_zero : (b : Bool) → eqb bytes 0 ≡ b → b ≡ false
    not_zero true e = absurd (omega (arith, eqb-true bytes 0 e))
    not_zero false e = refl

checked : (s : State) (w : Written) → step s (CheckLine w) ≡ check_step s w
unfolding step
checked s w = refl

bodies_are : (bytes : ℕ) (agents : List Agent) → ((i : ℕ) → i < length agents → AreStatementsIn bytes (get_or agents i (record { name = []; body = End })).body)
    → ((i : ℕ) → i < length agents → nesting (get_or agents i (record { name = []; body = End })).body ≤ IF_LIMIT) → AreBodies bytes agents
bodies_are bytes [] h k = tt
bodies_are bytes (a ∷ others) h k = (h 0 (omega arith), k 0 (omega arith), bodies_are bytes others (λ i lt. h (suc i) (omega arith)) (λ i lt. k (suc i) (omega arith)))

module _ (t : Litmus) (is : IsLitmus t) (asked : Written) (asks : t.check ≡ written_value t.agents asked) (shallow : is_shallow asked ≡ true) where
  abbrev with_check : List Agent → Condition → State
  with_check agents check = Whole (record { name = t.name; bytes = t.bytes; agents = agents; check = check })

  check_reached : (earlier : List Agent) (agent : List ℕ) (body : Statements) → with_agent earlier agent body ≡ t.agents → step (Open t.name t.bytes earlier agent [] body) (CheckLine asked) ≡ Ok (Whole t)
  check_reached earlier agent body all =
      checked (Open t.name t.bytes earlier agent [] body) asked
      ∙ fine t.name t.bytes earlier agent body asked (check_small t is asked asks) (subst (λ (agents : List Agent). are_known agents asked ≡ true) (sym all) (check_known t is asked asks)) shallow
      ∙ ap (λ (agents : List Agent). Ok (with_check agents (written_value agents asked))) all ∙ ap (λ (check : Condition). Ok (with_check t.agents check)) (sym asks)

  agents_whole : (fs : List Form) (a : Agent) (others : List Agent) → t.agents ≡ a ∷ others → AreAgents fs (a ∷ others) → Reaches (Sized t.name t.bytes) (fs ++ CheckLine asked ∷ []) (Whole t)
  agents_whole fs a others e h =
      let are = subst (AreBodies t.bytes) e (bodies_are t.bytes t.agents is.bodies is.few_ifs) in
      let open_first = Open t.name t.bytes [] a.name [] in
      let rest = agents_reached t.name t.bytes h.1 others [] a.name a.body h.4 are.2 (omega (arith, is.few_agents, ap length e)) (subst IsApart e is.distinct) in
      let last = Open t.name t.bytes rest.earlier rest.agent [] rest.body in
      let first = statements_reached t.name t.bytes [] a.name h.0 a.body [] End h.3 are.0 (omega (arith, are.1)) in
      let both : Reaches (open_first End) (h.0 ++ h.1) last = reaches_then h.0 h.1 (open_first End) (open_first a.body) last first rest.reached in
      let check : Reaches last (CheckLine asked ∷ []) (Whole t) = (Whole t, check_reached rest.earlier rest.agent rest.body (subst (λ (agents : List Agent). with_agent rest.earlier rest.agent rest.body ≡ agents) (sym e) rest.together), refl) in
      rw h.2 (open_first End, (begins t.name t.bytes a.name is.some_byte is.block).2, reaches_then (h.0 ++ h.1) (CheckLine asked ∷ []) (open_first End) last (Whole t) both check)

  all_agents : (fs : List Form) (agents : List Agent) → t.agents ≡ agents → AreAgents fs agents → Reaches (Sized t.name t.bytes) (fs ++ CheckLine asked ∷ []) (Whole t)
  all_agents fs [] e h = absurd (omega (arith, is.some_agent, ap length e))
  all_agents fs (a ∷ others) e h = agents_whole fs a others e h

pub test_reached : (t : Litmus) (fs : List Form) → IsLitmus t → (are : AreFormsOf fs t) → is_shallow are.check ≡ true → Reaches Empty fs (Whole t)
test_reached t fs is are shallow =
    let first = begins t.name t.bytes [] is.some_byte is.block in
    rw are.parts (Named t.name, first.0, (Sized t.name t.bytes, first.1, all_agents t is are.check are.asks shallow are.agents t.agents refl are.bodies))
