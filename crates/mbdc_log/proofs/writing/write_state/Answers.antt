use Rattle.std.proofs.Common.{◌≡◌, ◌∙◌, [], rules, ap, subst, arith}
use Rattle.std.proofs.lemmas.Grind.{common_steps}
use Rattle.dc_sectors.specs.Runs.{LeavesOnly, IsSettled}
use Rattle.dc_pages.specs.Draft.{Draft}
use Rattle.dc_pages.specs.PagesWriting.{SameOutside}
use Rattle.mbdc_log.specs.Writing.{IsAttempt, IsWritten}
use Rattle.mbdc_log.proofs.Drafts.{Begins, first_going, put_failed, finish_failed, finish_leaves, finish_written}
use Rattle.mbdc_log.proofs.writing.write_state.Given.{Over}
use Rattle.mbdc_log.proofs.writing.write_state.Goals.{After-begin}
use Rattle.mbdc_log.proofs.writing.write_state.Goals as goal

begins : (g : Over) (c : After-begin g) → IsSettled g.D.Disk c.args.disk.now
    → Begins g.D.Disk c.args.disk.now c.begin.result c.args.site c.args.session
begins g c is_settled = record { draft_is = c.begin.ensures; is_settled = is_settled; only_now = g.met.D.Disk.only_now c.args.disk.now }

-- the group may be written in part, on that disk
abbrev Leaves : (g : Over) (c : After-begin g) → g.row.D.Denot → Type 0
Leaves g c new =
    LeavesOnly g.D.Disk c.args.disk.now new
    (IsAttempt c.args.site c.args.session (g.K.Language.bytes_of (g.K.Language.state c.args.kept.now)) (g.D.Disk.reads c.args.disk.now))

pub returns-in_err-encode_into-clause-any_moment : goal.returns-in_err-encode_into-clause-any_moment
returns-in_err-encode_into-clause-any_moment g c is_settled =
    let from = (goal.at.returns-in_err-encode_into-clause-any_moment g c).After-begin in
    let start = begins g from is_settled in
    subst (Leaves g from) (search rules)
    (put_failed start (g.K.Language.bytes_of (g.K.Language.state c.args.kept.now)) c.encode_into.new.sink.disk.now (c.in_err-encode_into.ensures.breaks_off.any_moment c.args.disk.now [] (first_going start)))

pub returns-in_err-count-clause-any_moment : goal.returns-in_err-count-clause-any_moment
returns-in_err-count-clause-any_moment g c is_settled =
    let from = (goal.at.returns-in_err-count-clause-any_moment g c).After-begin in
    let start = begins g from is_settled in
    let bytes = g.K.Language.bytes_of (g.K.Language.state c.args.kept.now) in
    subst (Leaves g from) (search rules)
    (finish_failed start bytes c.finish.new.disk c.encode_into.new.sink.writer c.in_ok-encode_into.ensures.goes_into.same
    (c.in_err-count.ensures.any_moment c.args.disk.now bytes (c.in_ok-encode_into.ensures.goes_into.going c.args.disk.now [] (first_going start))))

pub returns-clause-any_moment : goal.returns-clause-any_moment
returns-clause-any_moment g c is_settled =
    let from = (goal.at.returns-clause-any_moment g c).After-begin in
    let start = begins g from is_settled in
    let bytes = g.K.Language.bytes_of (g.K.Language.state c.args.kept.now) in
    subst (Leaves g from) (search rules)
    (finish_leaves start bytes c.finish.new.disk c.encode_into.new.sink.writer c.in_ok-encode_into.ensures.goes_into.same
    (c.in_ok-count.ensures.closed c.args.disk.now bytes (c.in_ok-encode_into.ensures.goes_into.going c.args.disk.now [] (first_going start))))

pub returns-clause-written : goal.returns-clause-written
returns-clause-written g c is_settled =
    let start = begins g (goal.at.returns-clause-written g c).After-begin is_settled in
    let bytes = g.K.Language.bytes_of (g.K.Language.state c.args.kept.now) in
    subst (λ (d : g.row.D.Denot). IsWritten c.args.site c.args.session bytes c.in_ok-count.count (g.D.Disk.reads c.args.disk.now) (g.D.Disk.reads d)) (search rules)
    (finish_written start bytes c.finish.new.disk c.encode_into.new.sink.writer c.in_ok-encode_into.ensures.goes_into.same
    (c.in_ok-count.ensures.closed c.args.disk.now bytes (c.in_ok-encode_into.ensures.goes_into.going c.args.disk.now [] (first_going start))) c.in_ok-count.count c.in_ok-count.ensures.sectors)

-- the sectors outside the site stay, on that disk
abbrev Spares : (g : Over) (c : After-begin g) → g.row.D.Denot → Type 0
Spares g c new = SameOutside c.args.site (g.D.Disk.reads c.args.disk.now) (g.D.Disk.reads new)

pub returns-in_err-encode_into-clause-elsewhere : goal.returns-in_err-encode_into-clause-elsewhere
returns-in_err-encode_into-clause-elsewhere g c =
    subst (Spares g (goal.at.returns-in_err-encode_into-clause-elsewhere g c).After-begin) (search rules)
    (subst (λ (d : Draft). SameOutside d.site (g.D.Disk.reads c.args.disk.now) (g.D.Disk.reads c.encode_into.new.sink.disk.now)) c.begin.ensures c.in_err-encode_into.ensures.breaks_off.elsewhere)

pub returns-in_err-count-clause-elsewhere : goal.returns-in_err-count-clause-elsewhere
returns-in_err-count-clause-elsewhere g c =
    let draft = c.encode_into.new.sink.writer in
    let same : draft ≡ record { site = c.args.site; session = c.args.session; pages = draft.pages; buffer = draft.buffer }
    = c.in_ok-encode_into.ensures.goes_into.same ∙ ap (λ (d : Draft). record d { pages = draft.pages; buffer = draft.buffer }) c.begin.ensures in
    subst (Spares g (goal.at.returns-in_err-count-clause-elsewhere g c).After-begin) (search rules)
    (λ m out. subst (λ (d : Draft). SameOutside d.site (g.D.Disk.reads c.encode_into.new.sink.disk.now) (g.D.Disk.reads c.finish.new.disk)) same c.finish.ensures.elsewhere m out
    ∙ subst (λ (d : Draft). SameOutside d.site (g.D.Disk.reads c.args.disk.now) (g.D.Disk.reads c.encode_into.new.sink.disk.now)) c.begin.ensures c.in_ok-encode_into.ensures.goes_into.elsewhere m out)

pub returns-clause-elsewhere : goal.returns-clause-elsewhere
returns-clause-elsewhere g c =
    let draft = c.encode_into.new.sink.writer in
    let same : draft ≡ record { site = c.args.site; session = c.args.session; pages = draft.pages; buffer = draft.buffer }
    = c.in_ok-encode_into.ensures.goes_into.same ∙ ap (λ (d : Draft). record d { pages = draft.pages; buffer = draft.buffer }) c.begin.ensures in
    subst (Spares g (goal.at.returns-clause-elsewhere g c).After-begin) (search rules)
    (λ m out. subst (λ (d : Draft). SameOutside d.site (g.D.Disk.reads c.encode_into.new.sink.disk.now) (g.D.Disk.reads c.finish.new.disk)) same c.finish.ensures.elsewhere m out
    ∙ subst (λ (d : Draft). SameOutside d.site (g.D.Disk.reads c.args.disk.now) (g.D.Disk.reads c.encode_into.new.sink.disk.now)) c.begin.ensures c.in_ok-encode_into.ensures.goes_into.elsewhere m out)

pub returns-in_err-count-clause-counts : goal.returns-in_err-count-clause-counts
returns-in_err-count-clause-counts g c = grind (arith, common_steps)

pub returns-clause-counts : goal.returns-clause-counts
returns-clause-counts g c = grind (arith, common_steps)
