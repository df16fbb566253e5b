use Rattle.std.proofs.Common.{◌+◌, ◌++◌, ℕ, List, take, drop, arith, sym, subst}
use Rattle.std.proofs.lemmas.Grind.{common_steps}
use Rattle.dc_pages.specs.Reading.{IsBegun}
use Rattle.dc_pages.proofs.Collected.{cut_neither, begun_page}
use Rattle.dc_pages.proofs.reader.Reading.read_next.Goals as goal

pub returns-in-Neither-clause-step : goal.returns-in-Neither-clause-step
returns-in-Neither-clause-step g c h at lt begun =
    let reading = c.args.self.now in
    let judged = c.in-Neither.ensures in
    cut_neither reading.site reading.session reading.payload.items c.in-Ok.bytes reading.pages c.args.at (g.D.Disk.reads c.args.disk.now)
    begun at (c.in-Ok.ensures.answer h) judged.0 judged.1

pub returns-in-Ok-take-clause-step : goal.returns-in-Ok-take-clause-step
returns-in-Ok-take-clause-step g c h at lt begun =
    let reading = c.args.self.now in
    let image = g.D.Disk.reads c.args.disk.now in
    let judged = c.in-Page.ensures in
    let more = c.in-Ok-take.ensures in
    let content = take c.in-Page.used (drop 24 c.in-Ok.bytes) in
    subst (λ (p : ℕ). IsBegun reading.site c.take.new.self.session c.take.new.self.payload.items p image) (sym more.pages)
    (subst (λ (l : List ℕ). IsBegun reading.site c.take.new.self.session l (reading.pages + 1) image) (sym more.payload)
    (subst (λ (s : ℕ). IsBegun reading.site s (reading.payload.items ++ content) (reading.pages + 1) image) (sym more.session)
    (begun_page reading.site reading.session c.in-Page.session c.in-Page.used reading.payload.items c.in-Ok.bytes reading.pages c.args.at image
    begun more.long (omega arith) judged.0 judged.1 judged.2 at lt (c.in-Ok.ensures.answer h) judged.3)))

pub returns-in-Err-Unreadable-clause-step : goal.returns-in-Err-Unreadable-clause-step
returns-in-Err-Unreadable-clause-step g c = grind (arith, common_steps)
