use Rattle.std.proofs.Common.{refl, subst, [], ◌++◌}
use Rattle.dc_sectors.proofs.Moments.{weakened}
use Rattle.mbdc_log.specs.Halves.{half_of}
use Rattle.dc_core.specs.PendingImages.{StandsForFront}
use Rattle.mbdc_log.proofs.Fronts.{longer_front}
use Rattle.dc_meters.specs.Language.{register}
use Rattle.dc_core.specs.Run.{IsInTime}
use Rattle.dc_core.specs.Event.{starts, asks, hears, started, asked, heard, committed}
use Rattle.dc_core.proofs.Going.{turned_at_rest}
use Rattle.dc_core.proofs.Answering.{commit_shown}
use Rattle.dc_core.proofs.concentrator.Concentrator.turn.Goals as goal

pub returns-in-Start-clause-turned : goal.returns-in-Start-clause-turned
returns-in-Start-clause-turned g c origin core at =
    let machine = c.args.self.now in
    rw c.in-Start.is
    (turned_at_rest g.D.Disk origin machine.house.budget
    machine c.start-answer.new.self core (starts c.in-Start.line c.in-Start.meter) (started c.start-answer.result) _ refl
    (c.start-answer.ensures.may origin core at) c.put_started.ensures at (c.start-answer.ensures.at origin core at) c.start-answer.ensures.store (λ h. g.met.D.Disk.only_now machine.store.disk))

pub returns-in-Ask-clause-turned : goal.returns-in-Ask-clause-turned
returns-in-Ask-clause-turned g c origin core at =
    let machine = c.args.self.now in
    rw c.in-Ask.is
    (turned_at_rest g.D.Disk origin machine.house.budget
    machine machine core (asks c.in-Ask.line) (asked c.ask-answer.result) _ refl
    (c.ask-answer.ensures.may origin core at) c.put_asked.ensures at at refl (λ h. g.met.D.Disk.only_now machine.store.disk))

pub returns-in-Hear-clause-turned : goal.returns-in-Hear-clause-turned
returns-in-Hear-clause-turned g c origin core at =
    let machine = c.args.self.now in
    rw c.in-Hear.is
    (turned_at_rest g.D.Disk origin machine.house.budget
    machine c.hear-answer.new.self core (hears c.in-Hear.line c.in-Hear.moment c.in-Hear.bytes.now) (heard c.hear-answer.result) _ refl
    (c.hear-answer.ensures.may origin core at) c.put_heard.ensures at (c.hear-answer.ensures.at origin core at) c.hear-answer.ensures.store (λ h. g.met.D.Disk.only_now machine.store.disk))

pub returns-in-Commit-clause-turned : goal.returns-in-Commit-clause-turned
returns-in-Commit-clause-turned g c origin core at =
    let machine = c.args.self.now in
    let new = c.commit-answer.new.self in
    let H = half_of g.D.Disk machine.store.disk in
    rw c.in-Commit.is (record {
      answer = committed c.commit-answer.result;
      may = c.commit-answer.ensures.may origin core at;
      text = c.put_committed.ensures;
      at = c.commit-answer.ensures.at origin core at;
      failed = commit_shown g.D.Disk machine new c.commit-answer.result c.commit-answer.ensures.counts.failed c.commit-answer.ensures.worn c.commit-answer.ensures.unchanged;
      leaves = λ h. weakened g.D.Disk machine.store.disk new.store.disk (StandsForFront H core.committed core.pending) (StandsForFront H core.committed (core.pending ++ []))
          (c.commit-answer.ensures.any_moment origin h core at) (longer_front register H core.committed core.pending []);
    })

pub returns-in-Ok-clause-turned : goal.returns-in-Ok-clause-turned
returns-in-Ok-clause-turned g c origin core at = rw c.in-Office.is (c.in-Ok.ensures.turned origin core at)

pub returns-in-Err-clause-turned : goal.returns-in-Err-clause-turned
returns-in-Err-clause-turned g c origin core at = rw c.in-Office.is (c.in-Err.ensures.turned origin core at)

pub hear-answer-requires : goal.hear-answer-requires
hear-answer-requires g c = subst IsInTime c.in-Hear.is c.requires
