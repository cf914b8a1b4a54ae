use Rattle.std.proofs.Common.{◌<◌, ℕ, Option, sym, ap, ◌∙◌, subst, min}
use Rattle.std.specs.Prelude.{Contains, ◌↔◌}
use Rattle.std.specs.Slots.{slots_items}
use Rattle.lit_desk.specs.declared.class.Class2.TheVariants.{Met, Unmet}
use Rattle.lit_desk.specs.declared.rule.Terms.{Terms}
use Rattle.lit_desk.specs.Desk.{DeskName, IsLeastOf, all_draws, all_told}
use Rattle.lit_desk.proofs.Gathering.{closes}
use Rattle.lit_desk.proofs.desk.Desk.close.Goals as goal

pub returns : goal.returns
returns c =
    let places = c.args.places.items in
    let words = slots_items c.close_with-closed.result.words in
    let homes = slots_items c.close_with-closed.result.slots in
    let seat = c.gather-seat.result in
    let gathered = c.gather-seat.ensures in
    let seats = ap (λ (d : DeskName). d.seats) c.self.view_is in
    let stands = gathered.places ∙ c.requires.all ∙ sym seats ∙ sym (ap (λ (t : Terms). t.seats) c.self.invariant.key) in
    let all =
    closes c.self.inside.table.shared.key c.args.self places words homes seat.id seat.me.0 c.word.result c.word-2.result c.word-3.result c.close_with-closed.ensures.values.2 c.word.ensures c.word-2.ensures c.word-3.ensures gathered.gathered stands
    c.requires.own in
    let least = c.min.ensures ∙ ap (λ k. min c.word.result k) (ap (λ (d : DeskName). d.pieces) c.self.view_is) in record {
      once = all.once;
      drawn = subst (λ k. (x : ℕ) → Contains (all_draws places) x ↔ (x < k)) (sym least) all.drawn;
      pieces = λ any. least ∙ all.done any;
      met = subst (λ (o : Option _). IsLeastOf (all_told Met places) o) (sym c.number_in_word.ensures) all.met;
      unmet = subst (λ (o : Option _). IsLeastOf (all_told Unmet places) o) (sym c.number_in_word-2.ensures) all.unmet;
      seen = all.seen;
    }
