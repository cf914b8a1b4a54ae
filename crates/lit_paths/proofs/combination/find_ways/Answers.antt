use Rattle.std.proofs.Common.{arith, ap, sym, ◌∙◌, map, List, [], ◌∷◌, ◌++◌, ℕ, length, subst, take}
use Rattle.std.proofs.lemmas.List.{map-append, length-map, length-take-le}
use Rattle.lit_paths.specs.Internal.CandidateLists.{candidates_for}
use Rattle.lit_paths.proofs.WaySteps.{AreFormed, formed_none, some_way, formed_more, formed_all, behind_all}
use Rattle.lit_paths.proofs.combination.find_ways.Goals as goal

pub loop-read-init : goal.loop-read-init
loop-read-init c =
    let P : List (List ℕ) → List ℕ → Type 0 = λ ws ls. AreFormed c.args.events.now c.args.reads.now 0 ws ls c.args.total in
    let none : List (List ℕ) = [] in
    let nothing : List ℕ = [] in
    subst (λ (ws : List (List ℕ)). P ws c.clear-2.new.self.items) (sym (ap (map (λ list. list.items)) c.clear.ensures))
    (subst (λ (ls : List ℕ). P none ls) (sym c.clear-2.ensures) (formed_none c.args.events.now c.args.reads.now c.args.total c.requires.whole c.requires.some))

pub nonzero_div-left : goal.nonzero_div-left
nonzero_div-left c =
    some_way c.args.events.now c.args.reads.now c.loop-read.read-index _ _ _ _ c.len.result c.loop-read-test.true
    (c.len.ensures.value ∙ ap (λ ws. length ws) c.candidates_of-list.ensures) c.loop-read.invariant

pub push-requires : goal.push-requires
push-requires c = (omega arith, omega (arith, length-map c.loop-read.ways.candidates.items (λ list. list.items), ap length c.loop-read.invariant.formed, length-map (take c.loop-read.read-index c.args.reads.now) (candidates_for c.args.events.now), c.requires.room, c.loop-read-test.true, length-take-le c.loop-read.read-index c.args.reads.now (omega (arith, c.loop-read-test.true))))

pub push-requires-in-loop-read : goal.push-requires-in-loop-read
push-requires-in-loop-read c = (omega arith, omega (arith, c.loop-read.invariant.counted, c.requires.room, c.loop-read-test.true))

pub loop-read-preserved : goal.loop-read-preserved
loop-read-preserved c =
    formed_more c.args.events.now c.args.reads.now c.loop-read.read-index _ _ _ _ _ c.loop-read.left c.len.result c.loop-read-test.true
    (c.len.ensures.value ∙ ap (λ ws. length ws) c.candidates_of-list.ensures)
    (ap (map (λ list. list.items)) c.push.ensures.items ∙ map-append (λ list. list.items) c.loop-read.ways.candidates.items (c.candidates_of-list.result ∷ [])
    ∙ ap (λ (ws : List ℕ). map (λ list. list.items) c.loop-read.ways.candidates.items ++ ws ∷ []) c.candidates_of-list.ensures)
    c.push-in-loop-read.ensures.items c.loop-read.invariant

pub returns-clause-candidates : goal.returns-clause-candidates
returns-clause-candidates c = formed_all c.args.events.now c.args.reads.now c.loop-read.read-index _ _ c.loop-read.left c.loop-read-test.false c.loop-read.invariant

pub returns-clause-later : goal.returns-clause-later
returns-clause-later c = behind_all c.args.events.now c.args.reads.now c.loop-read.read-index _ _ c.loop-read.left c.loop-read-test.false c.loop-read.invariant
