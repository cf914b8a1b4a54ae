use Rattle.std.proofs.Common.{◌≡◌, ℕ, ◌++◌, ◌∷◌, [], List, length, refl, subst, ◌∙◌, arith, inl, inr}
use Rattle.std.proofs.lemmas.Bool.{true≢false}
use Rattle.lit_order.proofs.RowsLemmas.{pairs_missing, pairs_missing-lt}
use Rattle.lit_rel.specs.Between.{Forbids}
use Rattle.lit_rel.specs.Rows.{Holds, rows_len}
use Rattle.lit_why.specs.declared.derivations.lines.DerivationLine.{DerivationLine}
use Rattle.lit_why.specs.Derivation.{EachFollows}
use Rattle.lit_why.specs.Internal.Deriving.{IsNewLine, NoPair}
use Rattle.lit_why.proofs.DerivationLemmas.{EachFollows-given, EachFollows-more, EndsInCycle-last, Follows-wider, HasForced-from_old, HasLines-more, forced_within, no_cycle_more, once_more, only_more, two_less}
use Rattle.lit_why.proofs.derivations.searching.lines_to_cycle.Goals as goal

pub iterations-init : goal.iterations-init
iterations-init c = record {
  known_len = refl;
  old_len = refl;
  follows = EachFollows-given (Holds c.args.before.now) (Forbids c.args.between.now) c.in_ok-lines.lines.items c.in_ok-lines.ensures.0;
  lines = c.in_ok-lines.ensures.1;
  once = c.in_ok-lines.ensures.2;
  only = λ e d h.
      let given = c.in_ok-lines.ensures.0 h.0 h.1.line h.1.at_place in
      subst (λ (x : ℕ). Holds c.args.before.now x d) h.1.first
      (subst (λ (y : ℕ). Holds c.args.before.now h.1.line.before y) h.1.second given.has);
  given = λ e d h. h;
  older = λ e d h. h;
  same = λ _ e d h. h;
  no_cycle = c.requires.no_cycle;
}

pub next_line-requires-clause-lines : goal.next_line-requires-clause-lines
next_line-requires-clause-lines c e d old =
    rw c.as_slice.ensures.value (c.iterations.invariant.lines e d (c.iterations.invariant.older e d old))

follows_now : (before : ℕ → ℕ → Type 0) (forbidden : ℕ → ℕ → ℕ → Type 0) (n : ℕ) (known : ℕ → ℕ → Type 0) (lines slice : List DerivationLine) (line : DerivationLine) → slice ≡ lines
    → EachFollows before forbidden lines → IsNewLine n forbidden known slice line → EachFollows before forbidden (lines ++ line ∷ [])
follows_now before forbidden n known lines slice line same each new =
    EachFollows-more lines line before forbidden each
    (Follows-wider NoPair before forbidden forbidden (λ e d h. absurd h) (λ w r v h. h) lines (length lines) line.before line.after line.reason (rw same at new.follows))

pub returns-then-line : goal.returns-then-line
returns-then-line c =
    let lines = c.iterations.lines.items in
    let line : DerivationLine = c.in-Some.line in
    let each = follows_now (Holds c.args.before.now) (Forbids c.args.between.now) (rows_len c.iterations.old) (Holds c.iterations.known) lines c.as_slice.result.now line
    c.as_slice.ensures.value c.iterations.invariant.follows c.in-Some.ensures in
    rw c.in_ok-push-in-Some.ensures.items (
      each,
      EndsInCycle-last lines line c.if-line.true,
      once_more lines line c.iterations.invariant.once
          (λ h. c.in-Some.ensures.new (c.iterations.invariant.only line.before line.after h)),
    )

pub put-requires-clause-first : goal.put-requires-clause-first
put-requires-clause-first c = let new = c.in-Some.ensures in let so_far = c.iterations.invariant in omega (arith, new.first, c.from.ensures, so_far.known_len, so_far.old_len)

pub put-requires-clause-second : goal.put-requires-clause-second
put-requires-clause-second c = let new = c.in-Some.ensures in let so_far = c.iterations.invariant in omega (arith, new.second, c.from-in-Some.ensures, so_far.known_len, so_far.old_len)

pub iterations-smaller-in-Some : goal.iterations-smaller-in-Some
iterations-smaller-in-Some c =
    let known = c.iterations.known in
    let more = c.put.new.self in
    let line : DerivationLine = c.in-Some.line in
    let put = rw (c.from.ensures, c.from-in-Some.ensures) at c.put.ensures.pairs in
    let fewer = pairs_missing-lt known more c.put.ensures.len (λ a d h. (put a d).1 (inl h)) line.before line.after c.in-Some.ensures.new ((put line.before line.after).1 (inr (refl, refl))) in
    two_less (pairs_missing known) (pairs_missing more) c.iterations.grown fewer

pub iterations-preserved-in-Some : goal.iterations-preserved-in-Some
iterations-preserved-in-Some c =
    let lines = c.iterations.lines.items in
    let line : DerivationLine = c.in-Some.line in
    let so_far = c.iterations.invariant in
    let put = rw (c.from.ensures, c.from-in-Some.ensures) at c.put.ensures.pairs in
    let each = follows_now (Holds c.args.before.now) (Forbids c.args.between.now) (rows_len c.iterations.old) (Holds c.iterations.known) lines c.as_slice.result.now line
    c.as_slice.ensures.value so_far.follows c.in-Some.ensures in
    record {
      known_len = c.put.ensures.len ∙ so_far.known_len;
      old_len = so_far.old_len;
      follows = rw c.in_ok-push-in-Some.ensures.items each;
      lines = rw c.in_ok-push-in-Some.ensures.items (HasLines-more lines line (Holds c.iterations.known) (Holds c.put.new.self) so_far.lines put);
      once = rw c.in_ok-push-in-Some.ensures.items (once_more lines line so_far.once
          (λ h. c.in-Some.ensures.new (so_far.only line.before line.after h)));
      only = rw c.in_ok-push-in-Some.ensures.items (λ e d h. (put e d).1 (elim (only_more lines line e d h) [
        | inl old ↦ inl (so_far.only e d old)
        | inr new ↦ inr new
      ]));
      given = λ e d h. (put e d).1 (inl (so_far.given e d h));
      older = λ e d h. (put e d).1 (inl (so_far.older e d h));
      same = λ h. absurd (true≢false h);
      no_cycle = no_cycle_more (Holds c.iterations.known) (Holds c.put.new.self) line.before line.after put so_far.no_cycle c.if-line.false;
    }

pub returns-then-not-grown : goal.returns-then-not-grown
returns-then-not-grown c cycle =
    let so_far = c.iterations.invariant in
    let same = so_far.same c.if-not-grown.true in
    let closed = c.in-None.ensures in
    let forced = HasForced-from_old (Forbids c.args.between.now) (Holds c.iterations.old) (Holds c.iterations.known) same closed.0 in
    so_far.no_cycle cycle.0 (forced_within (Holds c.args.before.now) (Holds c.iterations.known) (Forbids c.args.between.now) so_far.given forced
    (λ e m d p q. closed.1 e m d (same e m p) (same m d q)) cycle.0 cycle.0 cycle.1)
