use Rattle.std.proofs.Common.{List, []}
use Rattle.dc_core.specs.Core.{Core}
use Rattle.dc_core.specs.OpenedOn.{IsOpenedOn}
use Rattle.mbdc_log.specs.Halves.{half_of}
use Rattle.dc_core.specs.PendingImages.{EachStands}
use Rattle.mbdc_poll.specs.Happening.{Happening}
use Rattle.mbdc_poll.proofs.ImagePolls.{none_opened, turned, turned_ok}
use Rattle.mbdc_poll.proofs.Running.{runs_as}
use Rattle.mbdc_poll.proofs.image.poll_image.Given.{Over}
use Rattle.mbdc_poll.proofs.image.poll_image.Goals.{After-poll-polled}
use Rattle.mbdc_poll.proofs.image.poll_image.Goals as goal

opening : (g : Over) (c : After-poll-polled g) → (g.D.Disk.keeps c.args.disk → EachStands (half_of g.D.Disk c.args.disk) (g.D.Disk.choices c.args.disk))
    → IsOpenedOn g.D.Disk c.args.disk c.in-Ok.concentrator.house.state c.in-Ok.concentrator
opening g c premise =
    let each : g.D.Disk.keeps c.in-Ok.concentrator.store.disk → EachStands (half_of g.D.Disk c.args.disk) (g.D.Disk.choices c.args.disk) = λ h. premise (c.in-Ok.ensures.before h) in
    record {
      budget_is = c.in-Ok.ensures.budget;
      count = c.in-Ok.ensures.counts.count;
      at = c.in-Ok.ensures.at each;
      reads_as = λ h. c.in-Ok.ensures.reads h;
      leaves = λ h. c.in-Ok.ensures.any_moment (each h) h;
      kept = λ was done more stopped h. ((c.in-Ok.ensures.the_headline was done more stopped).1 h).0;
    }

pub returns-clause-polled : goal.returns-clause-polled
returns-clause-polled g c premise =
    let first = c.in-Ok.concentrator in
    let opens = opening g (goal.at.returns-clause-polled g c).After-poll-polled premise in
    turned_ok g.D.Disk c.args.disk c.close.result first.house.state first c.poll-polled.new.concentrator c.poll-polled.result _ opens (c.poll-polled.ensures.went first.store.disk first.house.state [] tt opens.at) c.close.ensures.disk

pub returns-clause-cut : goal.returns-clause-cut
returns-clause-cut g c premise write =
    let first = c.in-Ok.concentrator in
    let opens = opening g (goal.at.returns-clause-cut g c).After-poll-polled premise in
    turned g.D.Disk c.args.disk c.close.result first.house.state first c.poll-polled.new.concentrator _ opens
    (runs_as g.D.Disk _ (λ (core : Core) (happened : List Happening). Unit {0}) first c.poll-polled.new.concentrator c.poll-polled.ensures.went (λ core happened p. tt) first.store.disk first.house.state [] tt opens.at) c.close.ensures.disk

pub returns-clause-starved : goal.returns-clause-starved
returns-clause-starved g c premise starved =
    let first = c.in-Ok.concentrator in
    let opens = opening g (goal.at.returns-clause-starved g c).After-poll-polled premise in
    let none = c.poll-polled.ensures.starved starved in
    (none.0, turned g.D.Disk c.args.disk c.close.result first.house.state first c.poll-polled.new.concentrator _ opens (none.1 first.store.disk first.house.state [] tt opens.at) c.close.ensures.disk)

-- once it is open, no fault is of the opening
pub returns-clause-refused : goal.returns-clause-refused
returns-clause-refused g c keeps size = none_opened c.poll-polled.result _ c.poll-polled.ensures.opened

pub returns-clause-premise : goal.returns-clause-premise
returns-clause-premise g c keeps size each = none_opened c.poll-polled.result _ c.poll-polled.ensures.opened

pub returns-clause-unwritten : goal.returns-clause-unwritten
returns-clause-unwritten g c = none_opened c.poll-polled.result _ c.poll-polled.ensures.opened

pub returns-clause-device : goal.returns-clause-device
returns-clause-device g c = none_opened c.poll-polled.result _ c.poll-polled.ensures.opened

pub returns-clause-any_moment : goal.returns-clause-any_moment
returns-clause-any_moment g c keeps each = none_opened c.poll-polled.result _ c.poll-polled.ensures.opened

pub returns-clause-unopened : goal.returns-clause-unopened
returns-clause-unopened g c = none_opened c.poll-polled.result _ c.poll-polled.ensures.opened
