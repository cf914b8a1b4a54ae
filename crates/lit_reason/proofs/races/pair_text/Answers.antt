use Rattle.std.proofs.Common.{◌∙◌, ◌++◌, List, ℕ, ap, codes, inl, subst, sym}
use Rattle.lit_syntax.specs.Syntax.{Litmus}
use Rattle.lit_paths.specs.Event.{event_at}
use Rattle.lit_rel.specs.DataRace.{HasDataRace}
use Rattle.lit_rel.specs.Part.{part_events}
use Rattle.lit_valid.specs.Gives.{GivesRace}
use Rattle.lit_reason.proofs.TextLemmas.{pair_is}
use Rattle.lit_reason.proofs.races.pair_text.Goals.{in-Some+in_ok-write_all+in_ok-put_placed+in_ok-write_all-2+in_ok-put_placed-2+in_ok-deeds_text+in_ok-write_all-3, in_default}
use Rattle.lit_reason.proofs.races.pair_text.Goals as goal

pub returns : goal.returns
returns c =
    let n = c.args.choice in
    let part = c.new-scene.result.part in
    let events = part_events part in
    let is = c.new-scene.ensures.part in
    let races : HasDataRace events part.sources =
    c.complete_parts_are_choices.ensures.race part n is.of is.has is.complete (subst (λ (u : Litmus). GivesRace u n) (sym is.test) c.requires.races) in
    elim c.match-racing_pair.branch [
      | in-Some+in_ok-write_all+in_ok-put_placed+in_ok-write_all-2+in_ok-put_placed-2+in_ok-deeds_text+in_ok-write_all-3 w ↦
          let pair = w.in-Some.pair in
          let least = w.in-Some.ensures in
          let first = w.in_ok-put_placed.ensures least.is_race.first_known in
          let second = w.in_ok-put_placed-2.ensures least.is_race.second_known in
          inl (
            n,
            c.requires.races,
            record {
              part = part;
              is_part = is;
              pair = pair;
              is_racing = least;
              words = first.0;
              other_words = second.0 ++ w.deref.result.now;
              example = c.args.example.now;
              shown = c.requires.shown;
              is = pair_is c.args.plan.now part.test (event_at events pair.first) (event_at events pair.second) first.0 second.0
                  w.deref.result.now c.args.example.now _ _ _ _ _ _ is.test
                  (w.in_ok-write_all.ensures.bytes ∙ ap (λ (bytes : List ℕ). bytes ++ codes "data race ") c.new-text.ensures.items)
                  first.1 w.in_ok-write_all-2.ensures.bytes second.1 w.in_ok-write_all-3.ensures.bytes
                  (c.in_ok-write_all-4.ensures.bytes ∙ ap (λ text. text.items ++ c.args.example.now) w.text-is);
            },
          )
      | in_default w ↦ absurd (w.in_default.ensures races)
    ]
