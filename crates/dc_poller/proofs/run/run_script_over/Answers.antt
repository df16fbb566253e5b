use Rattle.std.proofs.Common.{Bool, inr, refl, ◌≡◌, List, ℕ, [], sym, subst}
use Rattle.std.specs.Prelude.{IfSome}
use Rattle.mbdc_change.specs.State.{State}
use Rattle.dc_core.specs.Core.{opened}
use Rattle.dc_core.specs.Images.{Machine, IsAt}
use Rattle.mbdc_log.specs.Halves.{half_of}
use Rattle.dc_core.specs.PendingImages.{EachStands}
use Rattle.mbdc_io.specs.Stream.{Puts}
use Rattle.mbdc_io.specs.Lines.{lines_of}
use Rattle.dc_poller.specs.Run.{run_of}
use Rattle.dc_poller.specs.ImageRun.{ImageWent}
use Rattle.dc_poller.specs.Link.{HasBus, link_of}
use Rattle.dc_poller.specs.Script.{ScriptCut}
use Rattle.dc_poller.specs.Starved.{ScriptStarved}
use Rattle.dc_poller.specs.Traffic.{AreCarried}
use Rattle.dc_poller.proofs.Halts.{of_write, of_no_memory}
use Rattle.dc_poller.proofs.run.run_script_over.Given.{Over}
use Rattle.dc_poller.proofs.run.run_script_over.Goals.{After-run_lines}
use Rattle.dc_poller.proofs.run.run_script_over.Goals as goal

-- THE RUN FROM THE DISK TO THE DISK, of what the lines did.
gone_over : (g : Over) (c : After-run_lines g) → (script : List (List ℕ) → State → Machine (g.row.D.Denot) → Machine (g.row.D.Denot) → Type 0) → (new : g.row.D.Denot)
    → (g.D.Disk.keeps c.args.disk → EachStands (half_of g.D.Disk c.args.disk) (g.D.Disk.choices c.args.disk))
    → (IsAt g.D.Disk c.in-Ok-open.concentrator.store.disk c.in-Ok-open.concentrator (opened c.in-Ok-open.concentrator.house.state)
    → script (lines_of c.as_slice.result.now) c.in-Ok-open.concentrator.house.state c.in-Ok-open.concentrator c.run_lines.new.concentrator)
    → new ≡ c.run_lines.new.concentrator.store.disk
    → ImageWent g.D.Disk (g.R.Source.left c.args.reader.now) script c.args.disk new
gone_over g c script new premise went disk_is =
    let each : g.D.Disk.keeps c.in-Ok-open.concentrator.store.disk → EachStands (half_of g.D.Disk c.args.disk) (g.D.Disk.choices c.args.disk) = λ h. premise (c.in-Ok-open.ensures.before h) in
    let at = c.in-Ok-open.ensures.at each in
    record {
      input = c.as_slice.result.now;
      input_is = subst (λ (input : List ℕ). IfSome (g.R.Source.left c.args.reader.now) (λ known. input ≡ known)) (sym c.as_slice.ensures.value) c.in-Ok.ensures.whole;
      state = c.in-Ok-open.concentrator.house.state;
      first = c.in-Ok-open.concentrator;
      last = c.run_lines.new.concentrator;
      opening = record {
        budget_is = c.in-Ok-open.ensures.budget;
        count = c.in-Ok-open.ensures.counts.count;
        at = at;
        reads_as = λ h. c.in-Ok-open.ensures.reads h;
        leaves = λ h. c.in-Ok-open.ensures.any_moment (each h) h;
        kept = λ was done more stopped h. ((c.in-Ok-open.ensures.the_headline was done more stopped).1 h).0;
      };
      went = went at;
      disk_is = disk_is;
    }

pub returns-in-Ok-run_lines-clause-ran : goal.returns-in-Ok-run_lines-clause-ran
returns-in-Ok-run_lines-clause-ran g c premise =
    gone_over g (goal.at.returns-in-Ok-run_lines-clause-ran g c).After-run_lines _ c.close.result premise
    (λ at. (c.in-Ok-run_lines.ensures.ran c.in-Ok-open.concentrator.store.disk c.in-Ok-open.concentrator.house.state [] tt at)) c.close.ensures.disk

pub returns-in-Write-clause-cut : goal.returns-in-Write-clause-cut
returns-in-Write-clause-cut g c premise write =
    let first = c.in-Ok-open.concentrator in
    gone_over g (goal.at.returns-in-Write-clause-cut g c).After-run_lines _ c.close-in-Write.result premise
    (λ at. (of_write Bool c.in-Err-run_lines.halt (ScriptCut g.D.Disk (run_of first.store.disk first.house.budget first.house.state [] first c.run_lines.new.concentrator) (link_of g.B.Bus.lost c.args.gateway.now) (lines_of c.as_slice.result.now) (AreCarried g.B.Bus.lost g.B.Bus.asks c.args.gateway.now c.run_lines.new.gateway)) c.in-Write.is (c.in-Err-run_lines.ensures.cut first.store.disk first.house.state [] tt at))) c.close-in-Write.ensures.disk

pub returns-clause-starved : goal.returns-clause-starved
returns-clause-starved g c premise write =
    let first = c.in-Ok-open.concentrator in
    inr (gone_over g (goal.at.returns-clause-starved g c).After-run_lines _ c.close-in-NoMemory.result premise
    (λ at. (of_no_memory Bool c.in-Err-run_lines.halt (ScriptStarved g.D.Disk (run_of first.store.disk first.house.budget first.house.state [] first c.run_lines.new.concentrator) (link_of g.B.Bus.lost c.args.gateway.now) (lines_of c.as_slice.result.now) (Puts (g.W.Sink.written c.args.writer.now) (g.W.Sink.written c.run_lines.new.out)) (AreCarried g.B.Bus.lost g.B.Bus.asks c.args.gateway.now c.run_lines.new.gateway)) c.in-NoMemory.is (c.in-Err-run_lines.ensures.starved first.store.disk first.house.state [] tt at))) c.close-in-NoMemory.ensures.disk)

pub returns-clause-unread : goal.returns-clause-unread
returns-clause-unread g c of_reading = inr (refl, of_no_memory Bool c.in-Err-run_lines.halt (HasBus (link_of g.B.Bus.lost c.args.gateway.now)) c.in-NoMemory.is c.in-Err-run_lines.ensures.through)

pub returns-clause-untouched : goal.returns-clause-untouched
returns-clause-untouched g c other = inr (refl, of_no_memory Bool c.in-Err-run_lines.halt (HasBus (link_of g.B.Bus.lost c.args.gateway.now)) c.in-NoMemory.is c.in-Err-run_lines.ensures.through)

-- the store's refusal, of the disk as it came
pub returns-in-Err-open-clause-unopened : goal.returns-in-Err-open-clause-unopened
returns-in-Err-open-clause-unopened g c =
    let refusal = c.in-Err-open.ensures in
    record {
      refused = λ keeps long. refusal.refused long keeps;
      premise = λ keeps long each tells. refusal.premise long each keeps tells;
      unwritten = λ other. refusal.unwritten other;
      spares = λ other. refusal.spares_images other;
      device = λ is. refusal.counts.failed is;
      any_moment = λ keeps each. refusal.any_moment each keeps;
    }
