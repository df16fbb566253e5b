use Rattle.std.proofs.Common.{◌↔◌, IsTrue, map}
use Rattle.mbdc_audit.specs.Walk.{is_clean}
use Rattle.mbdc_audit.specs.View.{place_of, span_of}
use Rattle.mbdc_audit.proofs.Windowed.{AreSpanned}
use Rattle.mbdc_audit.proofs.teller.Teller.check_spanned.Given as goal

abbrev pub invariant-spans : goal.invariant-spans
invariant-spans g l = IsTrue (is_clean l.self.counts) ↔ (IsTrue (is_clean l.initial.self.counts)
    × AreSpanned (place_of l.place) (map span_of l.spans) l.i-counter)
