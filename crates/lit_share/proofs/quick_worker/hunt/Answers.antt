use Rattle.std.proofs.Common.{◌≡◌, ℕ, List, [], ◌∷◌, ◌++◌, sym, ap, subst, ◌∙◌, arith}
use Rattle.std.specs.Prelude.{All}
use Rattle.std.proofs.lemmas.List.Elements.{All-push, All-weaker}
use Rattle.lit_desk.specs.Desk.{draws_of}
use Rattle.lit_valid.specs.declared.class.Class.{Class}
use Rattle.lit_valid.specs.declared.class.Class.TheVariants.{Met}
use Rattle.lit_share.specs.Drawn.{since, drawn_since}
use Rattle.lit_share.specs.Hunted.{IsHunted, HasTold}
use Rattle.lit_share.proofs.Rising.{above, above_least, above_last, since_more, grown_more}
use Rattle.lit_share.proofs.Places.{told_then, hunted_on, ticket_told, late_told, in_both}
use Rattle.lit_share.proofs.quick_worker.hunt.Goals as goal

pub loop-number-smaller : goal.loop-number-smaller
loop-number-smaller g c =
    let ds = draws_of c.loop-number.place in
    let n = c.in-Some.number in
    let draws = c.hunt_in-in-Some.ensures.draws ∙ c.hunt_in.ensures.draws ∙ c.in-Some.ensures.joins in
    omega (arith, ap above draws, above_last ds n, above_least ds n c.in-Some.ensures.above, c.in-Some.ensures.below)

pub loop-number-preserved : goal.loop-number-preserved
loop-number-preserved g c =
    let t = c.args.plan.now in
    let cut = c.args.cut in
    let inv = c.loop-number.invariant in
    let start = c.args.place in
    let before = c.loop-number.place in
    let drawn_at = c.draw.new.place in
    let met_at = c.hunt_in.new.place in
    let last = c.hunt_in-in-Some.new.place in
    let ds = draws_of before in
    let n = c.in-Some.number in
    let draws = c.hunt_in-in-Some.ensures.draws ∙ c.hunt_in.ensures.draws ∙ c.in-Some.ensures.joins in
    let drawn = drawn_since start before in
    let after : since (draws_of start) (draws_of last) ≡ drawn ++ n ∷ [] = ap (since (draws_of start)) draws ∙ since_more (draws_of start) ds (n ∷ []) inv.drew in
    let onward : (class : Class) → HasTold t class before last =
    λ class. told_then t class before drawn_at last (subst (HasTold t class before) (sym c.in-Some.ensures.taken) (ticket_told t class before n))
    (told_then t class drawn_at met_at last (c.hunt_in.ensures.told class) (c.hunt_in-in-Some.ensures.told class)) in
    let here = in_both (λ class. IsHunted t cut class last n) (hunted_on t Met cut met_at last n (c.hunt_in-in-Some.ensures.told Met) c.hunt_in.ensures.hunted) c.hunt_in-in-Some.ensures.hunted in record {
      own = c.hunt_in-in-Some.ensures.own;
      drew = subst (λ (xs : List ℕ). xs ≡ draws_of start ++ since (draws_of start) xs) (sym draws) (grown_more (draws_of start) ds (n ∷ []) inv.drew);
      told = λ class. told_then t class start before last (inv.told class) (onward class);
      hunted =
          λ class. subst (λ (xs : List ℕ). All (IsHunted t cut class last) xs) (sym after)
          (All-push (IsHunted t cut class last) drawn n
          (All-weaker (IsHunted t cut class before) (IsHunted t cut class last) (λ piece h. hunted_on t class cut before last piece (onward class) h) drawn (inv.hunted class)) (here class));
    }

pub returns-clause-hunted : goal.returns-clause-hunted
returns-clause-hunted g c class =
    let t = c.args.plan.now in
    let cut = c.args.cut in
    let before = c.loop-number.place in
    let last = c.draw.new.place in
    let done = c.in_default.ensures.done in
    let onward = late_told t class c.args.desk.now.pieces before last c.in_default.ensures.late in
    subst (λ (xs : List ℕ). All (IsHunted t cut class last) (since (draws_of c.args.place) xs)) (sym done.1)
    (All-weaker (IsHunted t cut class before) (IsHunted t cut class last) (λ piece h. hunted_on t class cut before last piece onward h) (drawn_since c.args.place before) (c.loop-number.invariant.hunted class))
