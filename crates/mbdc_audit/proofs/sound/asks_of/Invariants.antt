use Rattle.std.proofs.Common.{◌<◌, All, take, length}
use Rattle.std.proofs.Common.{Any}
use Rattle.mbdc_audit.proofs.sound.asks_of.Given as goal

abbrev pub invariant-places : goal.invariant-places
invariant-places g l = All (λ p. Any (λ w. 0 < length w.numbers.items) p.windows.items → ⊥) (take l.place-index l.places)
