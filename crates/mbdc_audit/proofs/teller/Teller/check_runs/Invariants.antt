use Rattle.std.proofs.Common.{◌↔◌, All, AllPairs, IsTrue, take}
use Rattle.mbdc_audit.specs.Walk.{is_clean}
use Rattle.mbdc_audit.specs.View.{house_of}
use Rattle.mbdc_audit.proofs.Windowed.{HasTime, IsFollowed, IsCounted}
use Rattle.mbdc_audit.proofs.teller.Teller.check_runs.Given as goal

abbrev pub invariant-runs : goal.invariant-runs
invariant-runs g l = IsTrue (is_clean l.self.counts) ↔ (IsTrue (is_clean l.initial.self.counts)
    × (All HasTime (take l.i l.runs) × AllPairs IsFollowed (take l.i l.runs)
    × All (IsCounted (house_of l.house) l.place.used l.name) (take l.i l.runs)))
