-- Sources that don't mix, boxes in which they don't, and the first solution read by read.
use Rattle.std.proofs.Common.{◌≡◌, inl, inr, ℕ, ◌+◌, ◌<◌, ◌≤◌, List, [], Option, None, Some, length, refl, sym, ap, subst, ◌∙◌, arith, get_or, map, append-nil}
use Rattle.std.specs.Prelude.{◌≢◌, ◌⊎◌, MatchOption, slice_get}
use Rattle.std.specs.Cmp.Lexicographic.{slice_cmp}
use Rattle.std.specs.Ordering.{nat_cmp}
use Rattle.std.specs.declared.cmp.Ordering.TheVariants.{Less}
use Rattle.std.proofs.lemmas.Bool.{cases_lt}
use Rattle.std.proofs.lemmas.Option.{same_Some, get_or_from_slice_get, slice_get-get_or, slice_get_within}
use Rattle.lit_syntax.specs.Syntax.{IsLitmus, Litmus}
use Rattle.lit_paths.specs.ByteReads.{byte_reads, byte_read_at, pair_of}
use Rattle.lit_paths.specs.Members.{IsCandidate, AreSources}
use Rattle.lit_paths.specs.declared.byte_reads.ByteRead.{ByteRead}
use Rattle.lit_paths.specs.Choice.{combinations_of}
use Rattle.lit_paths.specs.Event.{HasByte, event_at, init_event}
use Rattle.lit_paths.specs.Execution.{Execution}
use Rattle.lit_paths.specs.Plan.{AreEventsIn}
use Rattle.lit_paths.proofs.ChoiceLists.{execution-sources}
use Rattle.lit_paths.specs.declared.event.Event.{Event}
use Rattle.lit_paths.specs.declared.event.Order3.TheVariants.{Init}
use Rattle.lit_rel.specs.Part.{PartModel}
use Rattle.lit_rel.specs.declared.event_set.EventSet.{EventSet}
use Rattle.lit_valid.proofs.CompletionLemmas.{its_events}
use Rattle.lit_solve.specs.declared.goal.Goal.{Goal}
use Rattle.lit_solve.specs.Box.{IsBox, LiesIn, box_with, events_on}
use Rattle.lit_solve.specs.Completion.{HasSolution, IsLeastSolution, IsSolution}
use Rattle.lit_solve.proofs.LexLemmas.{less_from_place}
use Rattle.lit_solve.proofs.PruningLemmas.{as_many, read_here, read_listed}
use Rattle.lit_solve.proofs.ReadByteLemmas.{rise}
use Rattle.lit_why.specs.LeastMixing.{AgreeBefore, AreTakenFrom, GivesOn, IsFirstOn, IsLessOn, IsUnmixed}
use Rattle.lit_why.specs.Internal.Domains.{AreDomainsBy}
use Rattle.lit_why.specs.Internal.Unmixing.{AreDomainsFor, HasNoneFilled, HasNoneUnmixed, IsFilled, IsFirstUnmixed, IsLeastAfter}
use Rattle.lit_why.specs.Internal.Unmixing.{IsLeastFilled, TakesFilled, filling}

-- ---- agreement
pub agree_same : (events : List Event) (r : ℕ) (a : List ℕ) → AgreeBefore events r a a
agree_same events r a k q b at less = refl

pub agree_through : (events : List Event) (r : ℕ) (a b d : List ℕ) → AgreeBefore events r a b → AgreeBefore events r b d → AgreeBefore events r a d
agree_through events r a b d first second k q byte at less = first k q byte at less ∙ second k q byte at less

pub agree_back : (events : List Event) (r : ℕ) (a b : List ℕ) → AgreeBefore events r a b → AgreeBefore events r b a
agree_back events r a b is k q byte at less = sym (is k q byte at less)

pub agree_less : (events : List Event) (q r : ℕ) (a b : List ℕ) → q ≤ r → AgreeBefore events r a b → AgreeBefore events q a b
agree_less events q r a b le is k p byte at less = is k p byte at (omega (arith, less, le))

-- ---- a read that agrees
module _ (events : List Event) (q r : ℕ) (below : q < r) (a b : List ℕ) (agree : AgreeBefore events r a b) where
  pub taken_too : (P : ℕ → Type 0) → AreTakenFrom events a q P → AreTakenFrom events b q P
  taken_too P is k byte w at there = is k byte w at (agree k q byte at below ∙ there)

  pub unmixed_too : IsUnmixed events a q → IsUnmixed events b q
  unmixed_too (inl init) = inl (taken_too (λ w. (event_at events w).order ≡ Init) init)
  unmixed_too (inr one) = inr (one.0, taken_too (λ w. w ≡ one.0) one.1)

-- the first on a read stays it where sources of later reads change
pub first_stays : (events : List Event) (holds : List ℕ → Type 0) (q r : ℕ) (a b : List ℕ) → q < r → AgreeBefore events r a b
    → IsFirstOn events holds a q → IsFirstOn events holds b q
first_stays events holds q r a b below agree is =
    let back = agree_back events r a b agree in
    let before = agree_less events q r a b (omega (arith, below)) agree in
    record {
      unmixed = λ other h same unmixed.
          unmixed_too events q r below a b agree (is.unmixed other h (agree_through events q a b other before same) unmixed);
      least = λ other h same kinds less.
          is.least other h (agree_through events q a b other before same) (λ u. kinds (unmixed_too events q r below a b agree u)) (record {
            place = less.place;
            byte = less.byte;
            is_read = less.is_read;
            source = less.source;
            other_source = less.other_source;
            has = less.has;
            has_other = agree less.place q less.byte less.is_read below ∙ less.has_other;
            less = less.less;
            same = λ k byte earlier at. less.same k byte earlier at ∙ back k q byte at below;
          });
    }

-- ---- the byte read at a place of a list
abbrev pub no_read : ByteRead
no_read = record { read = 0; byte = 0 }

module _ (events : List Event) (reads : List ByteRead) (listed : map pair_of reads ≡ byte_reads events) (r place k b : ℕ)
    (inside : place < length reads) (last : k ≡ place) (at : slice_get (byte_reads events) k ≡ Some (r, b)) where
  pub pair_at : pair_of (get_or reads place no_read) ≡ (r, b)
  pair_at =
      same_Some (pair_of (get_or reads place no_read)) (r, b)
      (sym (read_listed events reads place no_read listed (omega (arith, inside, as_many events reads listed)))
      ∙ ap (λ (i : ℕ). slice_get (byte_reads events) i) (sym last) ∙ at)

  pub filled_at : (ws : List ℕ) → AreSources events ws → (filler : Option ℕ) → get_or ws place 0 ≡ filling filler (get_or reads place no_read).byte
      → slice_get ws k ≡ Some (filling filler b)
  filled_at ws are filler same =
      ap (λ (i : ℕ). slice_get ws i) last ∙ slice_get-get_or ws place 0 (omega (arith, inside, as_many events reads listed, are.one_each))
      ∙ ap (λ (w : ℕ). Some w) (same ∙ ap (λ (p : ℕ × ℕ). filling filler p.1) pair_at)

-- ---- on one combination
module _ (c : Litmus × ℕ) where
  abbrev events : List Event
  events = events_on c

  -- a source of a list, and its byte read
  read_at : (ws : List ℕ) (k w : ℕ) → AreSources events ws → slice_get ws k ≡ Some w
      → slice_get (byte_reads events) k ≡ Some ((byte_read_at events k).0, (byte_read_at events k).1)
  read_at ws k w are at = read_here events k (omega (arith, slice_get_within ws k w at, are.one_each))

  source_at : (ws : List ℕ) (k r b : ℕ) → AreSources events ws → slice_get (byte_reads events) k ≡ Some (r, b) → slice_get ws k ≡ Some (get_or ws k 0)
  source_at ws k r b are at = slice_get-get_or ws k 0 (omega (arith, slice_get_within (byte_reads events) k (r, b) at, are.one_each))

  -- ---- fillings
  module _ (sound : AreEventsIn c.0.bytes events) where
    -- an event of init is the source of the byte that it makes alone
    init_of : (r b w : ℕ) → IsCandidate events r b w → w < c.0.bytes → w ≡ b
    init_of r b w is small =
        let range : HasByte (init_event w) b = subst (λ (e : Event). HasByte e b) (sound.making w small) is.in_range in
        omega (arith, range.0, range.1)

    made_by : (r b w : ℕ) → IsCandidate events r b w → (event_at events w).order ≡ Init → w ≡ b
    made_by r b w is init = elim (cases_lt w c.0.bytes) [
      | inl small ↦ init_of r b w is small
      | inr large ↦ absurd (sound.accessed w (omega (arith, large)) is.known init)
    ]

    in_block : (r b w : ℕ) → IsCandidate events r b w → b < c.0.bytes
    in_block r b w is = omega (arith, sound.in_block w is.known, is.in_range.1)

    byte_is_init : (r b w : ℕ) → IsCandidate events r b w → (event_at events b).order ≡ Init
    byte_is_init r b w is = ap (λ (e : Event). e.order) (sound.making b (in_block r b w is))

    pub filled_is_unmixed : (ws : List ℕ) → AreSources events ws → (r : ℕ) (filler : Option ℕ) → IsFilled events ws r filler → IsUnmixed events ws r
    filled_is_unmixed ws are r None filled =
        inl (λ k b w at there.
        let same : w ≡ b = same_Some w b (sym there ∙ filled k b at) in
        subst (λ (v : ℕ). (event_at events v).order ≡ Init) (sym same) (byte_is_init r b w (are.each k r b w at there)))
    filled_is_unmixed ws are r (Some e) filled = inr (e, λ k b w at there. same_Some w e (sym there ∙ filled k b at))

    -- the ways to fill a read
    pub unmixed_is_filled : (ws : List ℕ) → AreSources events ws → (r : ℕ) → IsUnmixed events ws r
        → IsFilled events ws r None ⊎ ((e : ℕ) × (e < length events) × IsFilled events ws r (Some e))
    unmixed_is_filled ws are r (inl init) =
        inl (λ k b at.
        let there = source_at ws k r b are at in
        there ∙ ap (λ (w : ℕ). Some w) (made_by r b (get_or ws k 0) (are.each k r b (get_or ws k 0) at there) (init k b (get_or ws k 0) at there)))
    unmixed_is_filled ws are r (inr one) =
        elim (cases_lt one.0 (length events)) [
          | inl known ↦ inr (
            one.0,
            known,
            λ k b at.
                source_at ws k r b are at ∙ ap (λ (w : ℕ). Some w) (one.1 k b (get_or ws k 0) at (source_at ws k r b are at)),
          )
          | inr unknown ↦ inl (λ k b at.
              let there = source_at ws k r b are at in
              let known = (are.each k r b (get_or ws k 0) at there).known in
              let same : get_or ws k 0 ≡ one.0 = one.1 k b (get_or ws k 0) at there in
              absurd (omega (arith, known, same, unknown)))
        ]

  -- ---- and for one goal
  module _ (goal : Goal) where
    abbrev Gives : List ℕ → Type 0
    Gives ws = GivesOn c.0 goal c.1 ws

    abbrev part : List ℕ → PartModel
    part ws = record { test = c.0; combination = c.1; sources = ws }

    -- its sources are candidates
    pub sourced : (ws : List ℕ) → Gives ws → AreSources events ws
    sourced ws g =
        let x = g.execution in
        let same = its_events (part x.sources) x (record { valid = g.valid; on_paths = g.on_paths; rest = []; begun = sym (append-nil x.sources) }) in
        subst (λ (vs : List ℕ). AreSources events vs) g.same (subst (λ (es : List Event). AreSources es x.sources) same (execution-sources c.0 x g.valid.candidate))

    -- it is a solution of a box that has its sources
    pub solution : (domains : List EventSet) (ws : List ℕ) (g : Gives ws) → LiesIn (box_with c domains) ws
        → IsSolution (box_with c domains) goal g.execution
    solution domains ws g lies = record {
      completes = record {
        valid = g.valid;
        on_paths = g.on_paths;
        within = subst (λ (vs : List ℕ). LiesIn (box_with c domains) vs) (sym g.same) lies;
      };
      meets = g.meets;
    }

    pub gives : (domains : List EventSet) (x : Execution) → c.1 < length (combinations_of c.0) → IsSolution (box_with c domains) goal x → Gives x.sources
    gives domains x known is = record {
      known = known;
      execution = x;
      valid = is.completes.valid;
      on_paths = is.completes.on_paths;
      meets = is.meets;
      same = refl;
    }

    pub gives_least : (domains : List EventSet) (sources order : List ℕ) → c.1 < length (combinations_of c.0)
        → IsLeastSolution (box_with c domains) goal sources order → Gives sources
    gives_least domains sources order known least = subst (λ (ws : List ℕ). Gives ws) least.same (gives domains least.execution known least.solves)

    -- ---- the box of all candidates
    pub least_of_all : (domains : List EventSet) (sources order : List ℕ) → c.1 < length (combinations_of c.0)
        → AreDomainsBy c (λ p w. IsCandidate events p.0 p.1 w) domains → IsLeastSolution (box_with c domains) goal sources order
        → IsLeastAfter c goal 0 sources order
    least_of_all domains sources order known all least = record {
      gives = gives_least domains sources order known least;
      least = λ other g agree.
          subst (λ (ws : List ℕ). slice_cmp nat_cmp ws sources ≢ Less) g.same
          (least.least g.execution (solution domains other g (λ k w at.
          let are = sourced other g in
          let here = read_at other k w are at in
          (all k (byte_read_at events k).0 (byte_read_at events k).1 w here).1
          (are.each k (byte_read_at events k).0 (byte_read_at events k).1 w here at))));
      ordered = least.ordered;
    }

    pub none_of_all : (domains : List EventSet) → AreDomainsBy c (λ p w. IsCandidate events p.0 p.1 w) domains
        → ¬ HasSolution (box_with c domains) goal → (ws : List ℕ) → ¬ Gives ws
    none_of_all domains all none ws g =
        none (
          g.execution,
          solution domains ws g (λ k w at.
              let are = sourced ws g in
              let here = read_at ws k w are at in
              (all k (byte_read_at events k).0 (byte_read_at events k).1 w here).1
              (are.each k (byte_read_at events k).0 (byte_read_at events k).1 w here at)),
        )

    -- ---- a box in which a read is filled
    module _ (given : List ℕ) (are_given : AreSources events given) (r : ℕ) (filler : Option ℕ) (domains : List EventSet)
        (are_domains : AreDomainsFor c given (TakesFilled events r filler) domains) where
      pub filled_is_box : IsLitmus c.0 → c.1 < length (combinations_of c.0) → IsBox (box_with c domains)
      filled_is_box litmus known = record {
        litmus = litmus;
        known = known;
        candidates = λ k q b w at there.
            ((are_domains k q b (get_or given k 0) w at (source_at given k q b are_given at)).0 there).candidate;
      }

      lies_filled : (other : List ℕ) → Gives other → AgreeBefore events r given other → IsFilled events other r filler → LiesIn (box_with c domains) other
      lies_filled other g agree filled k w at =
          let are = sourced other g in
          let q = (byte_read_at events k).0 in
          let b = (byte_read_at events k).1 in
          let here = read_at other k w are at in
          let there = source_at given k q b are_given here in
          (are_domains k q b (get_or given k 0) w here there).1 (record {
            candidate = are.each k q b w here at;
            kept = λ less. same_Some w (get_or given k 0) (sym at ∙ sym (agree k q b here less) ∙ there);
            filled = λ same.
                same_Some w (filling filler b)
                (sym at ∙ filled k b (here ∙ ap (λ (p : ℕ). Some (p, b)) same));
          })

      takes_filled : (ws : List ℕ) → AreSources events ws → LiesIn (box_with c domains) ws → (k q b : ℕ) → slice_get (byte_reads events) k ≡ Some (q, b)
          → TakesFilled events r filler (q, b) (get_or given k 0) (get_or ws k 0)
      takes_filled ws are lies k q b at =
          (are_domains k q b (get_or given k 0) (get_or ws k 0) at (source_at given k q b are_given at)).0
          (lies k (get_or ws k 0) (source_at ws k q b are at))

      pub none_filled : ¬ HasSolution (box_with c domains) goal → HasNoneFilled c goal r filler given
      none_filled none other g agree filled = none (g.execution, solution domains other g (lies_filled other g agree filled))

      module _ (known : c.1 < length (combinations_of c.0)) (sources order : List ℕ) (least : IsLeastSolution (box_with c domains) goal sources order) where
        its : Gives sources
        its = gives_least domains sources order known least

        lies : LiesIn (box_with c domains) sources
        lies = subst (λ (ws : List ℕ). LiesIn (box_with c domains) ws) least.same least.solves.completes.within

        taken : (k q b : ℕ) → slice_get (byte_reads events) k ≡ Some (q, b) → TakesFilled events r filler (q, b) (get_or given k 0) (get_or sources k 0)
        taken = takes_filled sources (sourced sources its) lies

        agrees : AgreeBefore events r given sources
        agrees k q b at less =
            source_at given k q b are_given at ∙ ap (λ (w : ℕ). Some w) (sym ((taken k q b at).kept less))
            ∙ sym (source_at sources k q b (sourced sources its) at)

        filled_so : IsFilled events sources r filler
        filled_so k b at = source_at sources k r b (sourced sources its) at ∙ ap (λ (w : ℕ). Some w) ((taken k r b at).filled refl)

        pub least_filled : IsLeastFilled c goal r filler given sources order
        least_filled = record {
          agrees = agrees;
          filled = filled_so;
          after = record {
            gives = its;
            least = λ other g agree.
                subst (λ (ws : List ℕ). slice_cmp nat_cmp ws sources ≢ Less) g.same
                (least.least g.execution (solution domains other g (lies_filled other g
                (agree_through events r given sources other agrees (agree_less events r (r + 1) sources other (omega arith) agree))
                (λ k b at. sym (agree k r b at (omega arith)) ∙ filled_so k b at))));
            ordered = least.ordered;
          };
        }

      pub filled_or_none : {A : Type 0} (sources order : A → List ℕ) (found : Option A) → c.1 < length (combinations_of c.0)
          → MatchOption found (¬ HasSolution (box_with c domains) goal) (λ a. IsLeastSolution (box_with c domains) goal (sources a) (order a))
          → MatchOption found (HasNoneFilled c goal r filler given) (λ a. IsLeastFilled c goal r filler given (sources a) (order a))
      filled_or_none sources order None known none = none_filled none
      filled_or_none sources order (Some a) known least = least_filled known (sources a) (order a) least

    -- ---- one more read is decided
    module _ (r : ℕ) (sources order : List ℕ) (after : IsLeastAfter c goal r sources order) where
      pub after_more : IsLeastAfter c goal (r + 1) sources order
      after_more = record {
        gives = after.gives;
        least = λ other g agree. after.least other g (agree_less events r (r + 1) sources other (omega arith) agree);
        ordered = after.ordered;
      }

      -- a solution that is less on the read would be less
      none_less : (other : List ℕ) → Gives other → AgreeBefore events r sources other → ¬ IsLessOn events r other sources
      none_less other g agree less =
          let are = sourced sources after.gives in
          let are_too = sourced other g in
          let inside : less.place < length other = slice_get_within other less.place less.source less.has in
          after.least other g agree
          (less_from_place other sources less.place (are_too.one_each ∙ sym are.one_each) inside (record {
            same = λ k earlier.
                let q = (byte_read_at events k).0 in
                let b = (byte_read_at events k).1 in
                let here : slice_get (byte_reads events) k ≡ Some (q, b) = read_here events k (omega (arith, earlier, inside, are_too.one_each)) in
                let le : q ≤ r = rise events k less.place (q, b) (r, less.byte) (omega (arith, earlier)) here less.is_read in
                let there : slice_get other k ≡ slice_get sources k = elim (cases_lt q r) [
                  | inl below ↦ sym (agree k q b here below)
                  | inr not_below ↦ less.same k b earlier (here ∙ ap (λ (p : ℕ). Some (p, b)) (omega (arith, le, not_below)))
                ] in
                get_or_from_slice_get sources k (get_or other k 0) 0 (sym there ∙ source_at other k q b are_too here);
            greater = λ _. rw (
              get_or_from_slice_get other less.place less.source 0 less.has,
              get_or_from_slice_get sources less.place less.other_source 0 less.has_other,
            ) less.less;
          }))

      pub first_here : (IsUnmixed events sources r ⊎ HasNoneUnmixed c goal r sources) → IsFirstOn events Gives sources r
      first_here unmixed_or_none = record {
        unmixed = λ other g agree unmixed. elim unmixed_or_none [ inl is ↦ is | inr none ↦ absurd (none other g agree unmixed) ];
        least = λ other g agree kinds. none_less other g agree;
      }

      -- it is the first of the solutions that agree with it before the read
      pub stays_first : (IsUnmixed events sources r ⊎ HasNoneUnmixed c goal r sources) → IsFirstUnmixed c goal r sources sources order
      stays_first is = record { agrees = agree_same events r sources; after = after_more; first = first_here is }

    module _ (sound : AreEventsIn c.0.bytes events) where
      pub none_unmixed : (r : ℕ) (given : List ℕ) → HasNoneFilled c goal r None given
          → ((e : ℕ) → e < length events → HasNoneFilled c goal r (Some e) given) → HasNoneUnmixed c goal r given
      none_unmixed r given no_init no_event other g agree unmixed =
          elim (unmixed_is_filled sound other (sourced other g) r unmixed) [
            | inl init ↦ no_init other g agree init
            | inr one ↦ no_event one.0 one.1 other g agree one.2
          ]

      -- the first filling with a solution is the first of all
      module _ (r : ℕ) (given sources order : List ℕ) where
        pub first_of_init : IsLeastFilled c goal r None given sources order → IsFirstUnmixed c goal r given sources order
        first_of_init is = record {
          agrees = is.agrees;
          after = is.after;
          first = record {
            unmixed = λ other g agree unmixed. filled_is_unmixed sound sources (sourced sources is.after.gives) r None is.filled;
            least = λ other g agree kinds less.
                let are = sourced other g in
                let candidate = are.each less.place r less.byte less.source less.is_read less.has in
                let here : less.other_source ≡ less.byte =
                same_Some less.other_source less.byte (sym less.has_other ∙ is.filled less.place less.byte less.is_read) in
                let small : less.source < c.0.bytes = omega (arith, less.less, here, in_block sound r less.byte less.source candidate) in
                omega (arith, less.less, here, init_of sound r less.byte less.source candidate small);
          };
        }

        pub first_of_event : (e : ℕ) → HasNoneFilled c goal r None given → ((d : ℕ) → d < e → HasNoneFilled c goal r (Some d) given)
            → IsLeastFilled c goal r (Some e) given sources order → IsFirstUnmixed c goal r given sources order
        first_of_event e no_init no_lesser is = record {
          agrees = is.agrees;
          after = is.after;
          first = record {
            unmixed = λ other g agree unmixed. its_kind;
            least = λ other g agree kinds less.
                let are = sourced other g in
                let through = agree_through events r given sources other is.agrees agree in
                let here : less.other_source ≡ e =
                same_Some less.other_source e (sym less.has_other ∙ is.filled less.place less.byte less.is_read) in
                elim (unmixed_is_filled sound other are r (kinds its_kind)) [
                  | inl init ↦ no_init other g through init
                  | inr one ↦
                      let same : less.source ≡ one.0 = same_Some less.source one.0 (sym less.has ∙ one.2 less.place less.byte less.is_read) in
                      no_lesser one.0 (omega (arith, less.less, here, same)) other g through one.2
                ];
          };
        }
          where
            its_kind : IsUnmixed events sources r
            its_kind = filled_is_unmixed sound sources (sourced sources is.after.gives) r (Some e) is.filled
