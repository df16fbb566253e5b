use Rattle.std.proofs.Common.{◌≤◌, sym, subst}
use Rattle.dc_readout.specs.Bound.{requests_left}
use Rattle.dc_readout.specs.Summary.{Summary, IsSound}
use Rattle.dc_readout.proofs.Bound.{rests}
use Rattle.dc_readout.proofs.History.{sums_settled}
use Rattle.dc_readout.proofs.session.Session.settle.Goals as goal

pub returns-clause-past : goal.returns-clause-past
returns-clause-past c past sums =
    sums_settled past c.args.self.now c.leave_telegram.new.self sums c.requires c.leave_telegram.ensures

pub returns-clause-no_more : goal.returns-clause-no_more
returns-clause-no_more c =
    let s = c.args.self.now in
    let sound : IsSound s.stage s.tries s.settled = subst (λ (x : Summary). IsSound x.stage x.tries x.settled) c.self.view_is c.self.invariant in
    subst (λ (left : Summary). requests_left left ≤ requests_left s) (sym c.leave_telegram.ensures) (rests s sound c.requires)
