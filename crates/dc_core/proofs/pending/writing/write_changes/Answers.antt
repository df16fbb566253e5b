use Rattle.std.proofs.Common.{subst, OnOk, ⊎_elim, inl, inr, length, rules}
use Rattle.dc_sectors.specs.Runs.{LeavesOnly}
use Rattle.mbdc_change.specs.State.{State}
use Rattle.mbdc_log.specs.Halves.{half_of}
use Rattle.dc_core.specs.PendingImages.{StandsForEither, Keeps}
use Rattle.mbdc_log.specs.Store.{Fits}
use Rattle.dc_core.proofs.pending.writing.write_changes.Goals as goal

pub returns-then-fits-clause-goes_on : goal.returns-then-fits-clause-goes_on
returns-then-fits-clause-goes_on g c = c.append.ensures.running

pub returns-clause-goes_on : goal.returns-clause-goes_on
returns-clause-goes_on g c = c.compact.ensures.running

pub returns-clause-kept : goal.returns-clause-kept
returns-clause-kept g c was changes kept spells accepted same =
    subst (λ (s : State). OnOk c.compact.result (Keeps g.D.Disk c.compact.new.self s)) same (c.compact.ensures.kept was kept)

pub returns-clause-any_moment : goal.returns-clause-any_moment
returns-clause-any_moment g c was changes kept spells accepted same =
    subst (λ (s : State). LeavesOnly g.D.Disk c.args.store.now.disk c.compact.new.self.disk (StandsForEither (half_of g.D.Disk c.args.store.now.disk) was s)) same
    (c.compact.ensures.any_moment was kept)

pub returns-then-fits-clause-worn : goal.returns-then-fits-clause-worn
returns-then-fits-clause-worn g c worn = inl (c.append.ensures.worn.0 worn).1

pub returns-clause-worn : goal.returns-clause-worn
returns-clause-worn g c worn =
    let no_room : ¬ (Fits (g.D.Disk.sectors c.args.store.now.disk) c.args.store.now (length c.args.bytes.now)) = search rules in
    ⊎_elim (λ last. inl last) (λ generation. inr (no_room, generation)) (c.compact.ensures.worn.0 worn).1
