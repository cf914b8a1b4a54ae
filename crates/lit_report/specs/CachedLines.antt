-- The cached source lines of an entry, the last up to its sources.
use Rattle.std.specs.Prelude.{List}
use Rattle.lit_syntax.specs.Syntax.{Litmus}
use Rattle.lit_paths.specs.declared.event.Event.{Event}
use Rattle.lit_report.specs.declared.source_lines.CachedLines.{CachedLines}
use Rattle.lit_report.specs.CachedText.{HoldsText}
use Rattle.lit_report.specs.ReadLine.{lines_up_to}

-- the cached text is that of the part and the sources that are saved with it
abbrev pub HoldsLines : Litmus → List Event → CachedLines → Type 0
HoldsLines t events cached = HoldsText cached.text (lines_up_to t events cached.part cached.sources.items)
