-- Two pieces of a text that were written, one after the other.
use Rattle.std.proofs.Common.{◌≡◌, ℕ, List, ◌++◌, Result, Ok, Err, ◌∙◌, subst}
use Rattle.mbdc_io.specs.Failures.{HasRisen}
use Rattle.mbdc_io.specs.Stream.{Puts}
use Rattle.mbdc_io.specs.Written.{Wrote}
use Rattle.mbdc_io.specs.declared.stream.Sink.{Ghosts}
use Rattle.mbdc_io.proofs.Pieces.{puts-both, puts_front-second}

pub wrote_both : {S X E : Type 0} (g : Ghosts S) (old mid new : S) (a b : List ℕ) (r : Result X E) → Puts (g.written old) (g.written mid) a → g.put_failures mid ≡ g.put_failures old
    → Wrote g r mid new b → Wrote g r old new (a ++ b)
wrote_both g old mid new a b (Ok x) first same more = (puts-both (g.written old) (g.written mid) (g.written new) a b first more.0, more.1 ∙ same, tt, tt)
wrote_both g old mid new a b (Err e) first same more = (tt, tt, puts_front-second a first more.2, subst (λ (n : ℕ). HasRisen n (g.put_failures new)) same more.3)
