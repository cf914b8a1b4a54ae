use Rattle.std.proofs.Common.{◌++◌, ◌∷◌, [], arith, inl, inr, length, below_more, refl}
use Rattle.std.proofs.lemmas.Bool.{false≢true}
use Rattle.lit_rel.specs.Rows.{Holds}
use Rattle.lit_why.specs.declared.derivations.lines.DerivationLine.{DerivationLine}
use Rattle.lit_why.specs.declared.derivations.lines.Reason.TheVariants as reasons
use Rattle.lit_why.specs.Internal.Deriving.{HasLine}
use Rattle.lit_why.proofs.DerivationLemmas.{AreGiven-more, HasLine-more, IsLineOf-last, once_more, only_more}
use Rattle.lit_why.proofs.derivations.searching.push_given.Goals as goal
use Rattle.lit_why.proofs.derivations.searching.push_given.Goals.{then-holds+in_ok-push, else-holds}

pub loop-second-preserved : goal.loop-second-preserved
loop-second-preserved c =
    let lines = c.loop-second.lines.items in
    let so_far = c.loop-second.invariant in
    elim c.if-holds.branch [
      | then-holds+in_ok-push w ↦
          let holds = w.if-holds.ensures.0 refl in
          let line : DerivationLine = record { before = c.args.first; after = c.loop-second.second; reason = reasons.HappensBefore } in
          rw (w.lines-is, w.in_ok-push.ensures.items) record {
            given = λ before. AreGiven-more (Holds c.args.before.now) lines line (so_far.given before) (record { reason = refl; has = holds });
            retained = λ e d h. HasLine-more lines line e d (so_far.retained e d h);
            once = λ was none. once_more lines line (so_far.once was none) (λ h. elim (so_far.only c.args.first c.loop-second.second h) [
              | inl old ↦ none c.loop-second.second old
              | inr new ↦ omega (arith, new.1)
            ]);
            only = λ e d h. elim (only_more lines line e d h) [
              | inl old ↦ elim (so_far.only e d old) [
                | inl init ↦ inl init
                | inr at ↦ inr (at.0, omega (arith, at.1))
              ]
              | inr new ↦ inr (new.0, omega (arith, new.1))
            ];
            all = below_more (λ d. Holds c.args.before.now c.args.first d → HasLine (lines ++ line ∷ []) c.args.first d) c.loop-second.second
                (λ d less h. HasLine-more lines line c.args.first d (so_far.all d less h)) (λ h. (length lines, IsLineOf-last lines line));
          }
      | else-holds w ↦ rw w.lines-is record {
        given = so_far.given;
        retained = so_far.retained;
        once = so_far.once;
        only = λ e d h. elim (so_far.only e d h) [
          | inl init ↦ inl init
          | inr at ↦ inr (at.0, omega (arith, at.1))
        ];
        all = below_more (λ d. Holds c.args.before.now c.args.first d → HasLine lines c.args.first d) c.loop-second.second so_far.all
            (λ h. absurd (false≢true (w.if-holds.ensures.1 h)));
      }
    ]

pub returns-clause-only : goal.returns-clause-only
returns-clause-only c e d h = elim (c.loop-second.invariant.only e d h) [
  | inl old ↦ inl old
  | inr at ↦ inr at.0
]
