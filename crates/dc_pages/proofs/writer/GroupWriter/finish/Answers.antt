use Rattle.std.proofs.Common.{◌≡◌, ◌+◌, ◌++◌, List, ℕ, drop, replicate, inl, inr, arith, ap, subst, sym, ◌∙◌, rules}
use Rattle.dc_sectors.specs.Disk.{Image, put}
use Rattle.dc_pages.specs.Draft.{Draft}
use Rattle.dc_pages.specs.Group.{commit_kind, piece, head_bytes, commit_bytes}
use Rattle.dc_pages.specs.PagesWriting.{SameOutside, IsGoing, IsClosed}
use Rattle.dc_pages.proofs.Buffers.{buffer_long}
use Rattle.dc_pages.proofs.Closing.{committed, closes}
use Rattle.dc_pages.proofs.Flushing.{same_outside}
use Rattle.dc_pages.proofs.Going.{next_piece, on_err_always}
use Rattle.dc_pages.proofs.writer.GroupWriter.finish.Given.{Over}
use Rattle.dc_pages.proofs.writer.GroupWriter.finish.Goals.{After-flush_page, After-write}
use Rattle.dc_pages.proofs.writer.GroupWriter.finish.Goals as goal

-- the payload's last piece is in the buffer
last_piece : (g : Over) (c : After-flush_page g) (start : g.row.D.Denot) (payload : List ℕ) → IsGoing g.D.Disk start c.args.disk.now c.args.self payload
    → c.args.self.buffer ≡ piece c.args.self.pages payload
last_piece g c start payload is =
    let long = buffer_long c.self.inside.used c.self.inside.page c.args.self.buffer c.self.invariant (ap (λ (d : Draft). d.buffer) c.self.view_is) in
    let small = c.self.invariant.small in
    next_piece g.D.Disk start c.args.disk.now c.args.self payload (omega arith) is

-- THE COMMIT SECTOR CLOSES THE GROUP, whatever its write answers.
closed_by : (g : Over) (c : After-write g) → (start : g.row.D.Denot) (payload : List ℕ) → IsGoing g.D.Disk start c.args.disk.now c.args.self payload
    → IsClosed g.D.Disk start c.write.new.self (g.D.Disk.reads start) c.args.self.site c.args.self.session (c.args.self.pages + 1) payload
    (put (g.D.Disk.reads c.flush_page.new.disk) (c.self.inside.site.first + (c.self.inside.index + 1)) c.write_head.new.sector)
closed_by g c start payload is =
    let draft = c.args.self in
    let inside = c.self.inside in
    let long = buffer_long inside.used inside.page draft.buffer c.self.invariant (ap (λ (d : Draft). d.buffer) c.self.view_is) in
    let small = c.self.invariant.small in
    let pages = ap (λ (d : Draft). d.pages) c.self.view_is in
    let limit = ap (λ (d : Draft). d.site.limit) c.self.view_is in
    let session = ap (λ (d : Draft). d.session) c.self.view_is in
    let sequence = ap (λ (d : Draft). d.site.sequence) c.self.view_is in
    let at_is : inside.site.first + (inside.index + 1) ≡ draft.site.first + (draft.pages + 1) = ap (λ (d : Draft). d.site.first + (d.pages + 1)) c.self.view_is in
    let sector_is : c.write_head.new.sector ≡ commit_bytes draft.site draft.session (draft.pages + 1)
    = c.write_head.ensures ∙ ap (λ (d : Draft). head_bytes commit_kind d.site.version 0 (d.pages + 1) d.session d.site.sequence ++ drop 24 (replicate 512 0)) c.self.view_is ∙ committed draft.site draft.session (draft.pages + 1) in
    let last = next_piece g.D.Disk start c.args.disk.now draft payload (omega arith) is in
    closes g.D.Disk c.args.disk.now c.flush_page.new.disk c.write.new.self draft (inside.site.first + (inside.index + 1)) c.write_head.new.sector at_is sector_is
    (omega arith) (omega arith) (omega arith) (omega arith) c.requires.some (omega arith) (c.write.ensures.time) start payload is
    (c.in_ok-flush_page.ensures.on_disk start payload last is.on_disk)

spares : (g : Over) (c : After-write g) → SameOutside c.args.self.site (g.D.Disk.reads c.args.disk.now) (g.D.Disk.reads c.write.new.self)
spares g c m out =
    let draft = c.args.self in
    let inside = c.self.inside in
    let long = buffer_long inside.used inside.page draft.buffer c.self.invariant (ap (λ (d : Draft). d.buffer) c.self.view_is) in
    let small = c.self.invariant.small in
    let at_is : inside.site.first + (inside.index + 1) ≡ draft.site.first + (draft.pages + 1) = ap (λ (d : Draft). d.site.first + (d.pages + 1)) c.self.view_is in
    same_outside draft.site (g.D.Disk.reads c.flush_page.new.disk) (g.D.Disk.reads c.write.new.self) (inside.site.first + (inside.index + 1)) (omega arith) (omega arith) c.write.ensures.elsewhere m out
    ∙ c.flush_page.ensures.elsewhere m out

pub returns-in_err-flush_page-clause-any_moment : goal.returns-in_err-flush_page-clause-any_moment
returns-in_err-flush_page-clause-any_moment g c start payload is =
    on_err_always c.from_residual.result
    (inl (c.flush_page.ensures.any_moment start payload (last_piece g (goal.at.returns-in_err-flush_page-clause-any_moment g c).After-flush_page start payload is) is.on_disk))

pub returns-in_err-write-clause-any_moment : goal.returns-in_err-write-clause-any_moment
returns-in_err-write-clause-any_moment g c start payload is =
    on_err_always c.from_residual-in_err-write.result
    (inr (put (g.D.Disk.reads c.flush_page.new.disk) (c.self.inside.site.first + (c.self.inside.index + 1)) c.write_head.new.sector, closed_by g (goal.at.returns-in_err-write-clause-any_moment g c).After-write start payload is))

pub returns-clause-closed : goal.returns-clause-closed
returns-clause-closed g c start payload is =
    let draft = c.args.self in
    subst (λ (image : Image). IsClosed g.D.Disk start c.write.new.self (g.D.Disk.reads start) draft.site draft.session (draft.pages + 1) payload image)
    (sym (c.in_ok-write.ensures.reads)) (closed_by g (goal.at.returns-clause-closed g c).After-write start payload is)

pub returns-in_err-write-clause-elsewhere : goal.returns-in_err-write-clause-elsewhere
returns-in_err-write-clause-elsewhere g c = spares g (goal.at.returns-in_err-write-clause-elsewhere g c).After-write

pub returns-clause-elsewhere : goal.returns-clause-elsewhere
returns-clause-elsewhere g c = spares g (goal.at.returns-clause-elsewhere g c).After-write

pub returns-in_err-write-clause-counts : goal.returns-in_err-write-clause-counts
returns-in_err-write-clause-counts g c = search rules

pub returns-clause-counts : goal.returns-clause-counts
returns-clause-counts g c = search rules

pub returns-in_err-flush_page-clause-closed : goal.returns-in_err-flush_page-clause-closed
returns-in_err-flush_page-clause-closed g c = search rules
