use Rattle.std.proofs.Common.{◌≡◌, ◌∙◌, [], ap, subst, arith}
use Rattle.std.proofs.lemmas.Grind.{common_steps}
use Rattle.dc_sectors.specs.Runs.{IsSettled}
use Rattle.dc_pages.specs.Draft.{Draft}
use Rattle.dc_pages.specs.PagesWriting.{SameOutside}
use Rattle.mbdc_log.proofs.Drafts.{Begins, first_going, put_failed, finish_failed, finish_leaves, finish_written}
use Rattle.mbdc_log.proofs.writing.write_group.Given.{Over}
use Rattle.mbdc_log.proofs.writing.write_group.Goals.{After-begin-writer}
use Rattle.mbdc_log.proofs.writing.write_group.Goals as goal

begins : (g : Over) (c : After-begin-writer g) → IsSettled g.D.Disk c.args.disk.now
    → Begins g.D.Disk c.args.disk.now c.begin-writer.result c.args.site c.args.session
begins g c is_settled = record { draft_is = c.begin-writer.ensures; is_settled = is_settled; only_now = g.met.D.Disk.only_now c.args.disk.now }

pub returns-in_err-put-clause-any_moment : goal.returns-in_err-put-clause-any_moment
returns-in_err-put-clause-any_moment g c is_settled =
    let start = begins g (goal.at.returns-in_err-put-clause-any_moment g c).After-begin-writer is_settled in
    put_failed start c.args.bytes.now c.put.new.disk (c.put.ensures.any_moment c.args.disk.now [] (first_going start))

pub returns-in_err-count-clause-any_moment : goal.returns-in_err-count-clause-any_moment
returns-in_err-count-clause-any_moment g c is_settled =
    let start = begins g (goal.at.returns-in_err-count-clause-any_moment g c).After-begin-writer is_settled in
    finish_failed start c.args.bytes.now c.finish.new.disk c.put.new.self c.in_ok-put.ensures.same
    (c.in_err-count.ensures.any_moment c.args.disk.now c.args.bytes.now (c.in_ok-put.ensures.going c.args.disk.now [] (first_going start)))

pub returns-clause-any_moment : goal.returns-clause-any_moment
returns-clause-any_moment g c is_settled =
    let start = begins g (goal.at.returns-clause-any_moment g c).After-begin-writer is_settled in
    finish_leaves start c.args.bytes.now c.finish.new.disk c.put.new.self c.in_ok-put.ensures.same
    (c.in_ok-count.ensures.closed c.args.disk.now c.args.bytes.now (c.in_ok-put.ensures.going c.args.disk.now [] (first_going start)))

pub returns-clause-written : goal.returns-clause-written
returns-clause-written g c is_settled =
    let start = begins g (goal.at.returns-clause-written g c).After-begin-writer is_settled in
    finish_written start c.args.bytes.now c.finish.new.disk c.put.new.self c.in_ok-put.ensures.same
    (c.in_ok-count.ensures.closed c.args.disk.now c.args.bytes.now (c.in_ok-put.ensures.going c.args.disk.now [] (first_going start))) c.in_ok-count.count c.in_ok-count.ensures.sectors

pub returns-in_err-put-clause-elsewhere : goal.returns-in_err-put-clause-elsewhere
returns-in_err-put-clause-elsewhere g c =
    subst (λ (d : Draft). SameOutside d.site (g.D.Disk.reads c.args.disk.now) (g.D.Disk.reads c.put.new.disk)) c.begin-writer.ensures c.put.ensures.elsewhere

pub returns-in_err-count-clause-elsewhere : goal.returns-in_err-count-clause-elsewhere
returns-in_err-count-clause-elsewhere g c m out =
    let same : c.put.new.self ≡ record { site = c.args.site; session = c.args.session; pages = c.put.new.self.pages; buffer = c.put.new.self.buffer }
    = c.in_ok-put.ensures.same ∙ ap (λ (d : Draft). record d { pages = c.put.new.self.pages; buffer = c.put.new.self.buffer }) c.begin-writer.ensures in
    subst (λ (d : Draft). SameOutside d.site (g.D.Disk.reads c.put.new.disk) (g.D.Disk.reads c.finish.new.disk)) same c.finish.ensures.elsewhere m out
    ∙ subst (λ (d : Draft). SameOutside d.site (g.D.Disk.reads c.args.disk.now) (g.D.Disk.reads c.put.new.disk)) c.begin-writer.ensures c.put.ensures.elsewhere m out

pub returns-clause-elsewhere : goal.returns-clause-elsewhere
returns-clause-elsewhere g c m out =
    let same : c.put.new.self ≡ record { site = c.args.site; session = c.args.session; pages = c.put.new.self.pages; buffer = c.put.new.self.buffer }
    = c.in_ok-put.ensures.same ∙ ap (λ (d : Draft). record d { pages = c.put.new.self.pages; buffer = c.put.new.self.buffer }) c.begin-writer.ensures in
    subst (λ (d : Draft). SameOutside d.site (g.D.Disk.reads c.put.new.disk) (g.D.Disk.reads c.finish.new.disk)) same c.finish.ensures.elsewhere m out
    ∙ subst (λ (d : Draft). SameOutside d.site (g.D.Disk.reads c.args.disk.now) (g.D.Disk.reads c.put.new.disk)) c.begin-writer.ensures c.put.ensures.elsewhere m out

pub returns-in_err-count-clause-counts : goal.returns-in_err-count-clause-counts
returns-in_err-count-clause-counts g c = grind (arith, common_steps)

pub returns-clause-counts : goal.returns-clause-counts
returns-clause-counts g c = grind (arith, common_steps)
