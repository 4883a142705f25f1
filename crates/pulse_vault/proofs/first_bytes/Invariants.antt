-- The first `len` bytes of the vector are what the reader has given.
use Rattle.std.proofs.Common.{◌≡◌, ◌≤◌, ◌-◌, take, vec_len}
use Rattle.std.specs.Io.KnownBytes.{Consumes}
use Rattle.pulse_vault.proofs.first_bytes.Given as goal

abbrev pub invariant-loop-len : goal.invariant-loop-len
invariant-loop-len g l = (vec_len l.bytes ≡ vec_len l.initial.bytes) × (l.len ≤ vec_len l.bytes) × Consumes (g.R.Read.remaining l.initial.reader) (g.R.Read.remaining l.reader) (take l.len l.bytes.items)

abbrev pub decreases-loop-len : goal.decreases-loop-len
decreases-loop-len g l = vec_len l.bytes - l.len
