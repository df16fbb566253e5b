-- What one or more puts make of a sink, at a bound `S: Sink` whose ghosts are g.
use Rattle.std.specs.Prelude.{◌≡◌, ℕ, List, OnOk, OnErr, Result}
use Rattle.mbdc_io.specs.Chain.{IsChain, IsBroken}
use Rattle.mbdc_io.specs.Failures.{HasRisen}
use Rattle.mbdc_io.specs.Stream.{Puts, PutsFront}
use Rattle.mbdc_io.specs.declared.stream.Sink.{Ghosts}

-- these bytes went in
abbrev pub PutsInto : {S : Type 0} → Ghosts S → S → S → List ℕ → Type 0
PutsInto g old new = Puts (g.written old) (g.written new)

-- Where the result is Ok, the bytes went in and no put failed. Where it isn't, a put failed, and what went in is a
-- prefix of the bytes: after the failed put nothing was put.
abbrev pub Wrote : {S X E : Type 0} → Ghosts S → Result X E → S → S → List ℕ → Type 0
Wrote g result old new bytes =
    OnOk result (Puts (g.written old) (g.written new) bytes)
    × OnOk result (g.put_failures new ≡ g.put_failures old)
    × OnErr result (PutsFront (g.written old) (g.written new) bytes)
    × OnErr result (HasRisen (g.put_failures old) (g.put_failures new))

-- All of the bytes went in, by puts that succeeded.
pub record IsWritten {S : Type 0} (g : Ghosts S) (old new : S) (bytes : List ℕ) : Type 0 where
  pub went : Puts (g.written old) (g.written new) bytes
  pub well : g.put_failures new ≡ g.put_failures old
  pub chain : IsChain g.puts old new bytes

-- A prefix of the bytes went in, and the put of the next piece failed.
pub record IsStopped {S : Type 0} (g : Ghosts S) (old new : S) (bytes : List ℕ) : Type 0 where
  pub went : PutsFront (g.written old) (g.written new) bytes
  pub failed : HasRisen (g.put_failures old) (g.put_failures new)
  pub broken : IsBroken g.puts g.breaks old new bytes
