-- What ends a script early (this product).
use Rattle.std.specs.Prelude.{◌≡◌, ℕ, OnErr, OnOk, Result, Ok, Err}
use Rattle.mbdc_io.specs.Failures.{HasRisen}
use Rattle.mbdc_io.specs.declared.stream.IoFault.{IoFault}
use Rattle.mbdc_io.specs.declared.stream.Sink.{Ghosts as SinkGhosts}
use Rattle.dc_poller.specs.declared.halt.Halt.{Halt}
use Rattle.dc_poller.specs.declared.halt.Halt.TheVariants.{Write, NoMemory}

-- a failed write does
abbrev pub halted_by : {X : Type 0} → Result X IoFault → Result X Halt
halted_by (Ok x) = Ok x
halted_by (Err fault) = Err Write

-- what is said where it ended so or so
abbrev pub OnWrite : {X : Type 0} → Result X Halt → Type 0 → Type 0
OnWrite (Ok x) P = Unit {0}
OnWrite (Err Write) P = P
OnWrite (Err NoMemory) P = Unit {0}

abbrev pub OnNoMemory : {X : Type 0} → Result X Halt → Type 0 → Type 0
OnNoMemory (Ok x) P = Unit {0}
OnNoMemory (Err Write) P = Unit {0}
OnNoMemory (Err NoMemory) P = P

-- a failed write is counted; without one, also if memory ran out, the count stays
abbrev pub IsCounted : {X : Type 0} → Result X Halt → ℕ → ℕ → Type 0
IsCounted (Ok x) before after = after ≡ before
IsCounted (Err Write) before after = HasRisen before after
IsCounted (Err NoMemory) before after = after ≡ before

-- the same of a call that only writes
abbrev pub CountsPuts : {W X E : Type 0} → SinkGhosts W → Result X E → W → W → Type 0
CountsPuts sink result old new =
    OnOk result (sink.put_failures new ≡ sink.put_failures old)
    × OnErr result (HasRisen (sink.put_failures old) (sink.put_failures new))
