use Rattle.std.proofs.Common.{◌≡◌, List, ℕ, arith, ap, subst, sym, rules}
use Rattle.dc_pages.specs.Draft.{Draft}
use Rattle.dc_pages.specs.Group.{piece}
use Rattle.dc_pages.specs.PagesWriting.{IsGoing}
use Rattle.dc_pages.proofs.Buffers.{buffer_long}
use Rattle.dc_pages.proofs.Going.{next_piece, going_flushed}
use Rattle.dc_pages.proofs.writer.GroupWriter.make_room.Given.{Over}
use Rattle.dc_pages.proofs.writer.GroupWriter.make_room.Goals.{After-flush_page}
use Rattle.dc_pages.proofs.writer.GroupWriter.make_room.Goals as goal

-- the payload's next piece is in the buffer
buffered : (g : Over) (c : After-flush_page g) (start : g.row.D.Denot) (payload : List ℕ) → IsGoing g.D.Disk start c.args.disk.now c.args.self.now payload
    → c.args.self.now.buffer ≡ piece c.args.self.now.pages payload
buffered g c start payload is =
    let long = buffer_long c.self.inside.used c.self.inside.page c.args.self.now.buffer c.self.invariant (ap (λ (d : Draft). d.buffer) c.self.view_is) in
    let small = c.self.invariant.small in
    next_piece g.D.Disk start c.args.disk.now c.args.self.now payload (omega arith) is

pub returns-in_err-flush_page-clause-any_moment : goal.returns-in_err-flush_page-clause-any_moment
returns-in_err-flush_page-clause-any_moment g c start payload is =
    c.flush_page.ensures.any_moment start payload (buffered g (goal.at.returns-in_err-flush_page-clause-any_moment g c).After-flush_page start payload is) is.on_disk

pub returns-clause-any_moment : goal.returns-clause-any_moment
returns-clause-any_moment g c start payload is =
    c.flush_page.ensures.any_moment start payload (buffered g (goal.at.returns-clause-any_moment g c).After-flush_page start payload is) is.on_disk

pub returns-clause-going : goal.returns-clause-going
returns-clause-going g c start payload is =
    let draft = c.args.self.now in
    let long = buffer_long c.self.inside.used c.self.inside.page draft.buffer c.self.invariant (ap (λ (d : Draft). d.buffer) c.self.view_is) in
    let small = c.self.invariant.small in
    let on_disk = c.in_ok-flush_page.ensures.on_disk start payload (buffered g (goal.at.returns-clause-going g c).After-flush_page start payload is) is.on_disk in
    subst (λ (d : Draft). IsGoing g.D.Disk start c.flush_page.new.disk d payload) (sym c.in_ok-flush_page.ensures.flushed)
    (going_flushed g.D.Disk start c.args.disk.now c.flush_page.new.disk draft payload (omega arith) (omega arith) is on_disk)

pub returns-clause-length : goal.returns-clause-length
returns-clause-length g c = search rules
