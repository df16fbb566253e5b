use Rattle.std.proofs.Common.{◌≡◌, false, Err, ap, sym, ◌∙◌}
use Rattle.std.proofs.lemmas.Result.{err_from_is_err_and}
use Rattle.dc_core.specs.declared.fault.CommitFault.{CommitFault}
use Rattle.dc_core.specs.declared.fault.CommitFault.TheVariants.{Device, Worn, Stopped as CommitStopped}
use Rattle.dc_core.specs.Core.{Core}
use Rattle.dc_core.specs.Images.{Machine}
use Rattle.dc_core.specs.Step.{IsUnstored, MayCommit}
use Rattle.dc_core.proofs.Answering.{commit_shown}
use Rattle.dc_core.proofs.concentrator.Concentrator.settle.Goals as goal

unstored_by : (core : Core) (fault : CommitFault) → MayCommit core (Err fault) → IsUnstored core fault
unstored_by core Device may = may
unstored_by core Worn may = may
unstored_by core CommitStopped may = may.1

pub returns-clause-ok : goal.returns-clause-ok
returns-clause-ok g c origin core at =
    let running : c.args.self.now.store.is_stopped ≡ false = sym (ap (λ (b : Machine (g.row.D.Denot)). b.store.is_stopped) c.self.view_is) ∙ sym c.is_stopped.ensures ∙ c.if-is_stopped.false in
    (sym at.stopped_is ∙ running, c.in_ok-commit.ensures.at origin core at)

pub returns-in_err-commit-clause-err : goal.returns-in_err-commit-clause-err
returns-in_err-commit-clause-err g c origin core at =
    let fault = c.in_err-commit.field-0.0 in
    let failed = err_from_is_err_and c.from_residual.result c.from_residual.ensures.1 in
    let from : c.from_residual.result ≡ Err fault = cc (failed.1, failed.2) in
    rw from (unstored_by core fault (c.in_err-commit.ensures.may origin core at), c.in_err-commit.ensures.at origin core at)

pub returns-in_err-commit-clause-failed : goal.returns-in_err-commit-clause-failed
returns-in_err-commit-clause-failed g c =
    let fault = c.in_err-commit.field-0.0 in
    let failed = err_from_is_err_and c.from_residual.result c.from_residual.ensures.1 in
    let from : c.from_residual.result ≡ Err fault = cc (failed.1, failed.2) in
    rw from (commit_shown g.D.Disk c.args.self.now c.commit.new.self (Err fault) c.in_err-commit.ensures.counts.failed c.in_err-commit.ensures.worn c.in_err-commit.ensures.unchanged)
