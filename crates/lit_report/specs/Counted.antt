-- What a counted reader or writer shows: its device, and how many reads and writes failed.
use Rattle.std.specs.Prelude.{ℕ, ◌+◌, ◌-◌, ◌^◌, ◌==◌, ◌&&◌, not, min, Bool, true, List, length, Result, Ok, Err}
use Rattle.lit_report.specs.declared.counted.Counted.{Counted}

-- the device of a counted reader or writer
abbrev pub device_of : {D : Type 0} → Counted D → D
device_of c = c.device

-- how many of its reads, or writes, have failed, up to 2^64 - 1
abbrev pub failures_of : {D : Type 0} → Counted D → ℕ
failures_of c = c.failures

-- one more, up to the greatest `u64`
abbrev pub one_more : ℕ → ℕ
one_more n = min (n + 1) (2 ^ 64 - 1)

-- a write that answers an error, or takes nothing of bytes that are not empty
abbrev pub is_failed_write : {E : Type 0} → Result ℕ E → List ℕ → Bool
is_failed_write (Ok taken) bytes = (taken == 0) && not (length bytes == 0)
is_failed_write (Err e) bytes = true
