use Rattle.std.proofs.Common.{◌<◌, ap, sym, subst, ◌∙◌}
use Rattle.dc_readout.specs.Bound.{requests_left}
use Rattle.dc_readout.specs.Summary.{Summary, heard_by}
use Rattle.dc_readout.proofs.Bound.{falls}
use Rattle.dc_readout.proofs.History.{sums_heard}
use Rattle.dc_readout.proofs.session.Session.hear.Goals as goal

pub returns-clause-past : goal.returns-clause-past
returns-clause-past c past sums =
    sums_heard past c.args.self.now c.judge.new.self c.args.answer.now _ sums c.requires c.judge.ensures.exact c.judge.ensures.after

pub returns-clause-fewer : goal.returns-clause-fewer
returns-clause-fewer c =
    let s = c.args.self.now in
    subst (λ (left : Summary). requests_left left < requests_left s) (sym (c.judge.ensures.after ∙ ap (heard_by s) c.judge.ensures.exact)) (falls s c.args.answer.now c.requires)
