-- nothing is found of the values so far exactly if nothing is wrong with them
use Rattle.std.proofs.Common.{◌↔◌, All, IsTrue, map, take}
use Rattle.mbdc_audit.specs.Settled.{IsTold}
use Rattle.mbdc_audit.specs.View.{run_of, struck_of}
use Rattle.mbdc_audit.specs.Walk.{is_clean}
use Rattle.mbdc_audit.proofs.teller.Teller.tell_values.Given as goal

abbrev pub invariant-values : goal.invariant-values
invariant-values g l = IsTrue (is_clean l.self.counts) ↔ (IsTrue (is_clean l.initial.self.counts)
    × All (IsTold (map run_of l.runs) l.values (map struck_of l.struck)) (take l.value-index l.values))
