use Rattle.std.proofs.Common.{◌≡◌, ◌++◌, ◌-◌, List, ℕ, length, take, ap, ◌∙◌, arith}
use Rattle.lit_paths.specs.declared.event.Event.{Event}
use Rattle.lit_paths.specs.ByteReads.{byte_reads}
use Rattle.std.proofs.lemmas.List.{take-append-drop}
use Rattle.lit_report.specs.EntryText.{from_lines}
use Rattle.lit_report.specs.ReadLine.{line_end, lines_up_to}
use Rattle.lit_report.proofs.Putting.{HasPut-then, HasPut-is}
use Rattle.lit_report.proofs.RegisterLemmas.{all_behind}
use Rattle.lit_report.proofs.SourceLines.{lines_whole, parts_long}
use Rattle.lit_report.proofs.source_lines.put_lines.Goals as goal

pub overflow_sub-sources : goal.overflow_sub-sources
overflow_sub-sources g c = omega (arith, parts_long c.args.events.now c.last_read-part.result.0 (length c.args.sources.now) c.last_read-part.result.1 c.requires.one_each c.last_read-part.ensures.size)

pub put_cached_lines-requires-clause-one_each : goal.put_cached_lines-requires-clause-one_each
put_cached_lines-requires-clause-one_each g c =
    omega (arith, c.split_at.ensures.front_len, parts_long c.args.events.now c.last_read-part.result.0 (length c.args.sources.now) c.last_read-part.result.1 c.requires.one_each c.last_read-part.ensures.size)

pub returns-clause-text : goal.returns-clause-text
returns-clause-text g c =
    let t = c.args.test.now in
    let events = c.args.events.now in
    let sources = c.args.sources.now in
    let k = c.last_read-part.result.0 in
    let own = c.split_at.result.0.now in
    let last = c.split_at.result.1.now in
    let whole : own ++ last ≡ sources =
    ap (λ (ws : List ℕ). ws ++ last) c.split_at.ensures.front ∙ ap (λ (ws : List ℕ). take (length sources - c.last_read-part.result.1) sources ++ ws) c.split_at.ensures.back ∙ take-append-drop (length sources - c.last_read-part.result.1) sources in
    let long : length own ≡ length (byte_reads (take k events)) =
    omega (arith, c.split_at.ensures.front_len, parts_long events k (length sources) c.last_read-part.result.1 c.requires.one_each c.last_read-part.ensures.size) in
    HasPut-is _ _ _ _ (HasPut-then _ _ _ _ _ c.put_cached_lines.ensures.text c.put_line_end.ensures)
    (ap (λ (es : List Event). lines_up_to t events k own ++ line_end t events es last) (all_behind events k)
    ∙ lines_whole t events k own last (ap length whole ∙ c.requires.one_each) long c.last_read-part.ensures.last
    ∙ ap (from_lines t events) whole)
