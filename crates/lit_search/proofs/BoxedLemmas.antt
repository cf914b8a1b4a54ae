-- The choices of a range on one combination, by its boxes: which of them have completions of a box, and what those give.
use Rattle.lit_search.proofs.Words.{◌+◌, ◌++◌, ◌<◌, [], AddsEntries, ap, AreDomainsIn, AreNewEntries, AreOfRange, AreSources, arith, Bool}
use Rattle.lit_search.proofs.Words.{Box, box_with, boxes_events, boxes_len, BoxesModel, byte_reads, cases_lt, cases_order, Choice}
use Rattle.lit_search.proofs.Words.{choices_before, choices_of, Class, combination_at, Entry, events_same, EventSet, Execution}
use Rattle.lit_search.proofs.Words.{execution_choice, execution_outcome, Gains, GivesRace, HasEachOutcome, HasNoneBefore, HasNoneOf}
use Rattle.lit_search.proofs.Words.{HasOutcome, HasSolution, HasSources, in_range, inl, inr, is_of_class, IsCompletion, IsFirstOf}
use Rattle.lit_search.proofs.Words.{IsLeastEntry, IsLeastOf, IsLeastSolution, IsOfBox, IsOfCombination, IsOfFirst, IsTrue}
use Rattle.lit_search.proofs.Words.{IsValidExecution, Laws, length, LiesIn, LiesInBox, List, Litmus, map, maps, never_both_less}
use Rattle.lit_search.proofs.Words.{outcome_stays, Path, refl, run_path, slice_get, slice_get_within, Some, sources_are}
use Rattle.lit_search.proofs.Words.{sources_rise, subst, suc, sym, zero, ℕ, ◌↔◌, ◌∙◌, ◌∷◌, ◌≡◌, ◌≤◌, ◌⊎◌}
use Rattle.lit_solve.specs.declared.goal.Goal.TheVariants.{OfClass, Race}
use Rattle.lit_solve.specs.Box.{events_on}
use Rattle.lit_search.proofs.MergedEntries.{cmp_same}
use Rattle.lit_solve.proofs.RangeLemmas.{one_sources, sourced}
use Rattle.lit_search.proofs.GainLemmas.{gains_more, gains_none}
use Rattle.lit_search.proofs.NumberSets.{before_end, not_below, within}

-- an execution with a choice has the choice's sources
has_its_sources : (t : Litmus) (n : ℕ) (x : Execution) → slice_get (choices_of t) n ≡ Some (execution_choice x) → HasSources t n x.sources
has_its_sources t n x chosen = record { choice = execution_choice x; listed = chosen; same = refl }

-- an execution on a combination has the decisions of its paths
its_decisions : (t : Litmus) (c : ℕ) (x : Execution) → map run_path x.runs ≡ combination_at t c
    → map (λ path. path.decisions) (combination_at t c) ≡ map (λ run. run.decisions) x.runs
its_decisions t c x on = ap (map (λ (path : Path). path.decisions)) (sym on) ∙ maps run_path (λ (path : Path). path.decisions) x.runs

-- ---- one box more
module _ (t : Litmus) (boxes : BoxesModel) (from to i : ℕ) where
  pub of_none : (n : ℕ) → ¬ IsOfFirst t boxes from to 0 n
  of_none n of = omega (arith, of.before)

  of_more : (n : ℕ) → (IsOfFirst t boxes from to i n ⊎ IsOfBox t boxes from to i n) ↔ IsOfFirst t boxes from to (i + 1) n
  of_more n = (
    λ some. elim some [
      | inl of ↦ record { place = of.place; before = omega (arith, of.before); is = of.is }
      | inr is ↦ record { place = i; before = omega arith; is = is }
    ],
    λ of. elim (cases_lt of.place i) [
      | inl less ↦ inl (record { place = of.place; before = less; is = of.is })
      | inr more ↦ inr (subst (λ (k : ℕ). IsOfBox t boxes from to k n) (let e : of.place ≡ i = omega (arith, of.before, more) in e) of.is)
    ],
  )

-- ---- the boxes of a range
module _ (laws : Laws) (p : Litmus × ℕ) (from to : ℕ) (boxes : BoxesModel) (are_in : AreOfRange p from to boxes) where
  abbrev t : Litmus
  t = p.0

  abbrev c : ℕ
  c = p.1

  placed : (n : ℕ) → choices_before t c ≤ n → n < choices_before t (c + 1) → IsOfCombination t n c
  placed n = laws.placed t n c are_in.known

  of_range : (n : ℕ) → IsTrue (in_range from to n) → IsOfCombination t n c
  of_range n among = placed n (omega (arith, not_below from to n among, are_in.begins)) (omega (arith, before_end from to n among, are_in.ends))

  covers : (n : ℕ) (sources : List ℕ) → choices_before t c ≤ n → n < choices_before t (c + 1) → HasSources t n sources
      → ((from ≤ n) × (n < to)) ↔ ((i : ℕ) × (i < boxes_len boxes) × LiesInBox boxes i sources)
  covers = rw (← are_in.same) are_in.cuts.covers

  -- a choice of the range is of some box
  its_box : (n : ℕ) → IsTrue (in_range from to n) → IsOfFirst t boxes from to (boxes_len boxes) n
  its_box n among =
      let of = of_range n among in
      let has : HasSources t n of.choice.sources = record { choice = of.choice; listed = of.listed; same = refl } in
      let there =
      (covers n of.choice.sources (omega (arith, not_below from to n among, are_in.begins)) (omega (arith, before_end from to n among, are_in.ends)) has).0
      (not_below from to n among, before_end from to n among) in
      record { place = there.0; before = there.1; is = record { among = among; sources = of.choice.sources; has = has; lies = there.2 } }

  -- choices rise from box to box
  boxes_rise : (i j m n : ℕ) → i < j → j < boxes_len boxes → IsOfBox t boxes from to i m → IsOfBox t boxes from to j n → m < n
  boxes_rise i j m n less inside a b =
      let a_are = sourced t c m a.sources (of_range m a.among) a.has in
      let b_are = sourced t c n b.sources (of_range n b.among) b.has in
      let rises = are_in.cuts.rising i j a.sources b.sources less inside
      (subst (λ (q : Litmus × ℕ). AreSources (events_on q) a.sources) (sym are_in.same) a_are)
      (subst (λ (q : Litmus × ℕ). AreSources (events_on q) b.sources) (sym are_in.same) b_are) a.lies b.lies in
      elim (cases_order m n) [
        | inl same ↦
            let one : b.sources ≡ a.sources =
            one_sources t m b.sources a.sources (subst (λ (k : ℕ). HasSources t k b.sources) (sym same) b.has) a.has in
            cc (cmp_same a.sources, rises)
        | inr apart ↦ elim apart [
          | inl below ↦ below
          | inr over ↦ absurd (never_both_less a.sources b.sources (a_are.one_each ∙ sym b_are.one_each) rises
              (sources_rise t c n m b.sources a.sources (laws.chosen t) (of_range n b.among) (of_range m a.among) b.has a.has over))
        ]
      ]

  module _ (i : ℕ) (inside : i < boxes_len boxes) (domains : List EventSet) (exact : AreDomainsIn boxes i domains) where
    abbrev box : Box
    box = box_with p domains

    -- sources that lie in the i-th box are those in its domains
    by_domains : (sources : List ℕ) → AreSources (events_on p) sources → LiesIn box sources ↔ LiesInBox boxes i sources
    by_domains sources are =
        let there : (k w : ℕ) → slice_get sources k ≡ Some w → k < length (byte_reads (boxes_events boxes)) = λ k w at. omega (
          arith,
          slice_get_within sources k w at,
          are.one_each,
          ap (λ (q : Litmus × ℕ). length (byte_reads (events_on q))) are_in.same,
        ) in
        (λ lies k w at. (exact k w (there k w at)).0 (lies k w at), λ lies k w at. (exact k w (there k w at)).1 (lies k w at))

    -- a valid execution with a choice of the box is a completion of it
    its_completion : (n : ℕ) (x : Execution) → IsValidExecution t x → slice_get (choices_of t) n ≡ Some (execution_choice x) → IsOfBox t boxes from to i n
        → IsCompletion box x
    its_completion n x valid chosen of = record {
      valid = valid;
      on_paths = (of_range n of.among).on_paths x valid.candidate chosen;
      within = subst (λ (ws : List ℕ). LiesIn box ws) (one_sources t n of.sources x.sources of.has (has_its_sources t n x chosen))
          ((by_domains of.sources (sourced t c n of.sources (of_range n of.among) of.has)).1 of.lies);
    }

    module _ (n : ℕ) (x : Execution) (is : IsCompletion box x) (low : choices_before t c ≤ n) (high : n < choices_before t (c + 1)) (has : HasSources t n x.sources) where
      -- a choice on the combination with a completion's sources is of the box
      of_box : IsOfBox t boxes from to i n
      of_box =
          let lies = (by_domains x.sources (sourced t c n x.sources (placed n low high) has)).0 is.within in
          let between = (covers n x.sources low high has).1 (i, inside, lies) in
          record { among = within from to n between.0 between.1; sources = x.sources; has = has; lies = lies }

      -- and is the completion's
      chosen_by : slice_get (choices_of t) n ≡ Some (execution_choice x)
      chosen_by =
          let of = placed n low high in
          let decided : of.choice.decisions ≡ map (λ run. run.decisions) x.runs = sym of.decided ∙ its_decisions t c x is.on_paths in
          let f : List (List ℕ) → Choice = λ ds. record { decisions = ds; sources = of.choice.sources } in
          let g : List ℕ → Choice = λ ws. record { decisions = map (λ run. run.decisions) x.runs; sources = ws } in
          of.listed ∙ ap (λ (ch : Choice). Some ch) (ap f decided ∙ ap g (sources_are t c n x.sources of has))

    -- ---- a class
    pub none_more : (class : Class) → HasNoneBefore t boxes class from to i → ¬ HasSolution box (OfClass class) → HasNoneBefore t boxes class from to (i + 1)
    none_more class none not n of g = elim ((of_more t boxes from to i n).1 of) [
      | inl earlier ↦ none n earlier g
      | inr here ↦ not (
        g.gives.execution,
        record {
          completes = its_completion n g.gives.execution g.gives.valid g.gives.chosen here;
          meets = subst (λ (o : List ℕ). IsTrue (is_of_class t class o)) (sym g.gives.result) g.of_class;
        },
      )
    ]

    pub first_found : (class : Class) (n : ℕ) (sources order : List ℕ) → HasNoneBefore t boxes class from to i
        → IsLeastSolution box (OfClass class) sources order → choices_before t c ≤ n → n < choices_before t (c + 1) → HasSources t n sources
        → IsFirstOf t class (in_range from to) n
    first_found class n sources order none least low high has =
        let x = least.execution in
        let has_x : HasSources t n x.sources = subst (λ (ws : List ℕ). HasSources t n ws) (sym least.same) has in
        let here = of_box n x least.solves.completes low high has_x in
        record {
          among = here.among;
          gives = record {
            outcome = execution_outcome t x;
            gives = record {
              execution = x;
              valid = least.solves.completes.valid;
              chosen = chosen_by n x least.solves.completes low high has_x;
              result = refl;
            };
            of_class = least.solves.meets;
          };
          least = λ m among less g.
              let y = g.gives.execution in
              let of = its_box m among in
              elim (cases_order of.place i) [
                | inl same ↦ least.least y (record {
                  completes = its_completion m y g.gives.valid g.gives.chosen (subst (λ (k : ℕ). IsOfBox t boxes from to k m) same of.is);
                  meets = subst (λ (o : List ℕ). IsTrue (is_of_class t class o)) (sym g.gives.result) g.of_class;
                }) (sources_rise t c m n y.sources sources (laws.chosen t) (of_range m among) (placed n low high)
                    (has_its_sources t m y g.gives.chosen) has less)
                | inr apart ↦ elim apart [
                  | inl earlier ↦ none m (record { place = of.place; before = earlier; is = of.is }) g
                  | inr later ↦ omega (arith, boxes_rise i of.place n m later of.before here of.is, less)
                ]
              ];
        }

    -- ---- a data race
    race_here : HasSolution box Race ↔ ((n : ℕ) × IsOfBox t boxes from to i n × GivesRace t n)
    race_here = (
      λ some.
          let x = some.0 in
          let is = some.1.completes in
          let listed = (laws.chosen t).all (execution_choice x) (laws.choice t x is.valid.candidate) in
          let numbers = laws.numbered t c are_in.known in
          let range = (numbers.whole listed.0).0 (record {
            choice = execution_choice x;
            listed = listed.1;
            on = its_decisions t c x is.on_paths;
            rest = x.sources;
            begun = refl;
          }) in (
            listed.0,
            of_box listed.0 x is range.0 (omega (arith, range.1, numbers.behind)) (has_its_sources t listed.0 x listed.1),
            record { execution = x; valid = is.valid; chosen = listed.1; races = some.1.meets },
          ),
      λ one.
          let g = one.2 in
          (g.execution, record { completes = its_completion one.0 g.execution g.valid g.chosen one.1; meets = g.races }),
    )

    -- ---- outcomes
    least_here : (e : Entry) → IsLeastEntry box e → IsLeastOf t (λ n. IsOfBox t boxes from to i n) e
    least_here e is =
        let x = is.execution in
        let here = of_box e.choice x is.completes is.from is.to is.chosen in
        record {
          among = here;
          gives = record {
            execution = x;
            valid = is.completes.valid;
            chosen = chosen_by e.choice x is.completes is.from is.to is.chosen;
            result = is.outcome;
          };
          least_choice = λ m of less g.
              is.least g.execution (its_completion m g.execution g.valid g.chosen of) g.result
              (sources_rise t c m e.choice g.execution.sources x.sources (laws.chosen t) (of_range m of.among)
              (placed e.choice is.from is.to) (has_its_sources t m g.execution g.chosen) is.chosen less);
          least_order = λ y valid taken. rw (
            events_same box y (its_completion e.choice y valid taken here),
            one_sources t e.choice y.sources x.sources (has_its_sources t e.choice y taken) is.chosen,
          ) is.ordered;
        }

    -- each new entry is one, and its outcome was lacked
    new_here : (old added : List Entry) → AreNewEntries box old added → (k : ℕ) (e : Entry) → slice_get added k ≡ Some e → IsLeastEntry box e × (¬ HasOutcome old e.outcome)
    new_here old [] all k e at = absurd (let f = at in cc)
    new_here old (y ∷ ys) all zero e at =
        let same : y ≡ e = (let f : Some y ≡ Some e = at in cc) in
        subst (λ (z : Entry). IsLeastEntry box z × (¬ HasOutcome old z.outcome)) same (all.0, all.1)
    new_here old (y ∷ ys) all (suc k) e at =
        let later = new_here (old ++ (y ∷ [])) ys all.2 k e at in
        (later.0, λ o. later.1 (outcome_stays old (y ∷ []) e.outcome o))

    pub gained_more : (old mid new : List Entry) (raced some all : Bool) → Gains t (λ n. IsOfFirst t boxes from to i n) old mid raced some
        → AddsEntries box mid new → HasEachOutcome box new → IsTrue all ↔ (IsTrue some ⊎ HasSolution box Race)
        → Gains t (λ n. IsOfFirst t boxes from to (i + 1) n) old new raced all
    gained_more old mid new raced some all before adds each marks =
        gains_more t (λ n. IsOfFirst t boxes from to i n) (λ n. IsOfBox t boxes from to i n) (λ n. IsOfFirst t boxes from to (i + 1) n)
        (of_more t boxes from to i) old mid new raced some all (λ m n of is. boxes_rise of.place i m n of.before inside of.is is) before here
      where
        here : Gains t (λ n. IsOfBox t boxes from to i n) mid new some all
        here = record {
          goes_on = record { added = adds.added; is = adds.goes_on };
          each = λ e there. least_here e (new_here mid adds.added adds.each there.0 e there.1).0;
          lacked = λ e there. (new_here mid adds.added adds.each there.0 e there.1).1;
          whole = λ n outcome of g.
              subst (λ (o : List ℕ). HasOutcome new o) g.result (each g.execution (its_completion n g.execution g.valid g.chosen of));
          race = (
            λ r. elim (marks.0 r) [ inl m ↦ inl m | inr solved ↦ inr (race_here.0 solved) ],
            λ h. marks.1 (elim h [ inl m ↦ inl m | inr one ↦ inr (race_here.1 one) ]),
          );
        }

  -- ---- all boxes
  pub none_at_all : (class : Class) → HasNoneBefore t boxes class from to (boxes_len boxes) → HasNoneOf t class (in_range from to)
  none_at_all class none n among g = none n (its_box n among) g

  pub gained_all : (old new : List Entry) (raced all : Bool) → Gains t (λ n. IsOfFirst t boxes from to (boxes_len boxes) n) old new raced all
      → Gains t (λ n. IsTrue (in_range from to n)) old new raced all
  gained_all old new raced all gains =
      gains_more t (λ n. IsOfFirst t boxes from to (boxes_len boxes) n) (λ n. ⊥) (λ n. IsTrue (in_range from to n))
      (λ n. (λ of. elim of [ inl is ↦ is.is.among | inr none ↦ absurd none ], λ among. inl (its_box n among)))
      old new new raced all all (λ m n of none. absurd none) gains (gains_none t (λ n. ⊥) new all (λ n none. none))
