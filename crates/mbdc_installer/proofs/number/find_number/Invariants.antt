use Rattle.std.proofs.Common.{◌-◌}
use Rattle.mbdc_installer.specs.Number.{IsFound, Tries}
use Rattle.mbdc_installer.specs.declared.number.Numbered.{Numbered}
use Rattle.mbdc_installer.proofs.number.find_number.Given as goal

-- whatever the tries that are left find, all tries do
abbrev pub invariant-tries : goal.invariant-tries
invariant-tries g l = (found : Numbered) (new : g.row.B.Denot) → Tries g.B.Bus.asks_all l.digits (3 - l.counter) l.collided l.misses l.bus found new
    → IsFound g.B.Bus.asks_all l.digits l.fn.bus found new
