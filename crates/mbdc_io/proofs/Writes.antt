-- Bytes that are written in pieces: none, one put, one piece after another.
use Rattle.std.proofs.Common.{◌≡◌, ℕ, List, [], ◌++◌, Result, Ok, Err, OnErr, ◌∙◌, refl, subst}
use Rattle.mbdc_io.specs.Failures.{HasRisen}
use Rattle.mbdc_io.specs.Stream.{Puts, PutsFront}
use Rattle.mbdc_io.proofs.Chains.{chain-none, chain-one, chain-both, broken-one, broken-first, broken-second}
use Rattle.mbdc_io.proofs.Pieces.{puts-both, puts-none, puts_front-first, puts_front-second}
use Rattle.mbdc_io.specs.Written.{IsWritten, IsStopped}
use Rattle.mbdc_io.specs.declared.stream.Sink.{Ghosts}

module _ {S : Type 0} {g : Ghosts S} where
  pub written_one : (old new : S) (bytes : List ℕ) → Puts (g.written old) (g.written new) bytes → g.put_failures new ≡ g.put_failures old → g.puts old bytes new → IsWritten g old new bytes
  written_one old new bytes went well step = record { went = went; well = well; chain = chain-one g.puts step }

  pub stopped_one : (old new : S) (bytes : List ℕ) → PutsFront (g.written old) (g.written new) bytes → HasRisen (g.put_failures old) (g.put_failures new) → g.breaks old bytes new → IsStopped g old new bytes
  stopped_one old new bytes went failed step = record { went = went; failed = failed; broken = broken-one g.puts g.breaks step }

  pub written_none : (old : S) → IsWritten g old old []
  written_none old = record { went = puts-none (g.written old); well = refl; chain = chain-none g.puts old }

  pub written_both : {old between new : S} {a b : List ℕ} → IsWritten g old between a → IsWritten g between new b → IsWritten g old new (a ++ b)
  written_both {old} {between} {new} {a} {b} first second = record {
    went = puts-both (g.written old) (g.written between) (g.written new) a b first.went second.went;
    well = second.well ∙ first.well;
    chain = chain-both g.puts first.chain second.chain;
  }

  pub stopped_first : {old new : S} {a : List ℕ} (b : List ℕ) → IsStopped g old new a → IsStopped g old new (a ++ b)
  stopped_first b stopped = record {
    went = puts_front-first b stopped.went;
    failed = stopped.failed;
    broken = broken-first g.puts g.breaks b stopped.broken;
  }

  pub stopped_second : {old between new : S} {a b : List ℕ} → IsWritten g old between a → IsStopped g between new b → IsStopped g old new (a ++ b)
  stopped_second {old} {between} {new} {a} {b} first stopped = record {
    went = puts_front-second a first.went stopped.went;
    failed = let P : ℕ → Type 0 = λ n. HasRisen n (g.put_failures new) in subst P first.well stopped.failed;
    broken = broken-second g.puts g.breaks first.chain stopped.broken;
  }

-- what holds at all holds on an error
pub on_any_err : {X E : Type 0} {P : Type 0} (r : Result X E) → P → OnErr r P
on_any_err (Ok x) p = tt
on_any_err (Err e) p = p
