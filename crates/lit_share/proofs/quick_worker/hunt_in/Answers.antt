use Rattle.std.proofs.Common.{◌≡◌, ◌<◌, ℕ, Bool, inl, inr, length, sym, ap, subst, ◌∙◌, arith}
use Rattle.std.specs.Prelude.{Contains}
use Rattle.lit_desk.specs.Desk.{PlaceLists, told_by, seen_by, with_told, with_seen}
use Rattle.lit_paths.specs.Choice.{choices_of}
use Rattle.lit_search.specs.FirstOfClass.{IsFirstOf}
use Rattle.lit_share.specs.Pieces.{piece_start}
use Rattle.lit_share.specs.Hunted.{desk_class, HasTold}
use Rattle.lit_share.proofs.Cutting.{same_piece}
use Rattle.lit_share.proofs.Places.{told_then, look_told, tell_told, told_it, saw_it}
use Rattle.lit_share.proofs.quick_worker.hunt_in.Goals as goal

pub returns-clause-hunted : goal.returns-clause-hunted
returns-clause-hunted c =
    let of = desk_class c.args.class in
    let least = c.in-Some.least in
    let is : c.look.new.place ≡ with_seen of c.args.place.now least = c.in-Some.ensures.seen ∙ ap (λ k. with_seen k c.args.place.now least) c.desk_class.ensures in
    let below : least < piece_start c.args.cut c.args.number = omega (arith, c.if-least-piece.true, c.piece-piece.ensures.start) in
    inr (inr (least, below, inr (subst (λ (p : PlaceLists). Contains (seen_by of p) least) (sym is) (saw_it of c.args.place.now least))))

pub returns-in-Some-first_in-clause-told : goal.returns-in-Some-first_in-clause-told
returns-in-Some-first_in-clause-told c class =
    let t = c.args.plan.now in
    let looked = c.look.new.place in
    let first = c.in-Some-first_in.first in
    let is = c.tell.ensures ∙ ap (λ k. with_told k looked first) c.desk_class-in-Some-first_in.ensures in
    told_then t class c.args.place.now looked c.tell.new.place (look_told t class c.desk_class.result c.args.place.now looked c.look.result c.look.ensures.seen c.look.ensures.none)
    (subst (HasTold t class looked) (sym is) (tell_told t class c.args.class looked first c.in-Some-first_in.ensures.gives))

pub returns-in-Some-first_in-clause-hunted : goal.returns-in-Some-first_in-clause-hunted
returns-in-Some-first_in-clause-hunted c =
    let t = c.args.plan.now in
    let of = desk_class c.args.class in
    let looked = c.look.new.place in
    let first = c.in-Some-first_in.first in
    let is = c.tell.ensures ∙ ap (λ k. with_told k looked first) c.desk_class-in-Some-first_in.ensures in
    let piece = c.piece-piece.ensures in
    let range = same_piece (length (choices_of t)) c.total.result c.args.cut c.args.number c.piece-piece.result.start c.piece-piece.result.end c.total.ensures.value piece.start piece.end in
    inl (
      first,
      subst (λ (numbers : ℕ → Bool). IsFirstOf t c.args.class numbers first) range c.in-Some-first_in.ensures,
      subst (λ (p : PlaceLists). Contains (told_by of p) first) (sym is) (told_it of looked first),
    )
