-- The cache of one text.
use Rattle.std.specs.Prelude.{◌≡◌, false, List, ℕ}
use Rattle.lit_report.specs.declared.cached_text.CachedText.{CachedText}

-- where a text is cached, it is this one
abbrev pub HoldsText : CachedText → List ℕ → Type 0
HoldsText cached text = cached.buffer.failed ≡ false → cached.buffer.waiting ≡ text
