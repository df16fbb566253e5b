use Rattle.std.proofs.Common.{◌<◌, ◌+◌, take, drop, arith, refl, sym, subst}
use Rattle.dc_sectors.specs.declared.sector.Sector.TheVariants.{Bytes}
use Rattle.dc_pages.specs.Draft.{Draft}
use Rattle.dc_pages.specs.PagesWriting.{SameOutside, IsPageWritten}
use Rattle.dc_pages.proofs.Buffers.{headed_buffer}
use Rattle.dc_pages.proofs.Flushing.{LeavesPart, Flushes, same_outside, page_written, leaves_part, flushes}
use Rattle.dc_pages.proofs.writer.GroupWriter.flush_page.Given.{Over}
use Rattle.dc_pages.proofs.writer.GroupWriter.flush_page.Goals.{After-write}
use Rattle.dc_pages.proofs.writer.GroupWriter.flush_page.Goals as goal

pub invariant_of-self : goal.invariant_of-self
invariant_of-self g c =
    let inside = c.self.inside in
    headed_buffer inside.site.kind inside.site.version inside.index inside.session inside.site.sequence inside.used inside.page c.write_head.new.sector c.self.invariant c.write_head.array_long c.write_head.ensures

-- the draft by the writer's fields
abbrev draft_of : (g : Over) → After-write g → Draft
draft_of g c = record {
  site = c.self.inside.site;
  session = c.self.inside.session;
  pages = c.self.inside.index;
  buffer = take c.self.inside.used (drop 24 c.self.inside.page);
}

fits : (g : Over) (c : After-write g) → (draft_of g c).site.first + (draft_of g c).pages < (draft_of g c).site.limit
fits g c =
    let room : (draft_of g c).site.first + (draft_of g c).pages + 1 < (draft_of g c).site.limit = subst (λ (d : Draft). d.site.first + d.pages + 1 < d.site.limit) (sym c.self.view_is) c.requires.room in
    omega arith

-- what is written is the draft's next page
page : (g : Over) (c : After-write g) → IsPageWritten c.self.inside.site c.self.inside.session c.self.inside.index (draft_of g c).buffer (Bytes c.write_head.new.sector)
page g c =
    let inside = c.self.inside in
    page_written inside.site inside.session inside.index inside.used inside.page c.write_head.new.sector _ c.self.invariant c.write_head.ensures (omega arith) (omega arith) (omega arith) refl

-- whatever the write answers
leaves : (g : Over) (c : After-write g) → LeavesPart g.D.Disk c.args.disk.now c.write.new.self c.args.self.now
leaves g c =
    subst (LeavesPart g.D.Disk c.args.disk.now c.write.new.self) c.self.view_is
    (leaves_part g.D.Disk c.args.disk.now c.write.new.self (draft_of g c) c.write_head.new.sector (fits g c) (page g c) (c.write.ensures.time))

pub returns-in_err-write-clause-any_moment : goal.returns-in_err-write-clause-any_moment
returns-in_err-write-clause-any_moment g c = leaves g (goal.at.returns-in_err-write-clause-any_moment g c).After-write

pub returns-clause-any_moment : goal.returns-clause-any_moment
returns-clause-any_moment g c = leaves g (goal.at.returns-clause-any_moment g c).After-write

pub returns-clause-on_disk : goal.returns-clause-on_disk
returns-clause-on_disk g c =
    let c' = (goal.at.returns-clause-on_disk g c).After-write in
    subst (Flushes g.D.Disk c.args.disk.now c.write.new.self) c.self.view_is
    (flushes g.D.Disk c.args.disk.now c.write.new.self (draft_of g c') c.write_head.new.sector (fits g c') (page g c')
    (c.write.ensures.time) (c.in_ok-write.ensures.reads) (c.in_ok-write.ensures.choices))

spares : (g : Over) (c : After-write g) → SameOutside c.args.self.now.site (g.D.Disk.reads c.args.disk.now) (g.D.Disk.reads c.write.new.self)
spares g c =
    let draft = draft_of g c in
    subst (λ (d : Draft). SameOutside d.site (g.D.Disk.reads c.args.disk.now) (g.D.Disk.reads c.write.new.self)) c.self.view_is
    (same_outside draft.site (g.D.Disk.reads c.args.disk.now) (g.D.Disk.reads c.write.new.self) (draft.site.first + draft.pages) (omega arith) (fits g c) c.write.ensures.elsewhere)

pub returns-in_err-write-clause-elsewhere : goal.returns-in_err-write-clause-elsewhere
returns-in_err-write-clause-elsewhere g c = spares g (goal.at.returns-in_err-write-clause-elsewhere g c).After-write

pub returns-clause-elsewhere : goal.returns-clause-elsewhere
returns-clause-elsewhere g c = spares g (goal.at.returns-clause-elsewhere g c).After-write
