use Rattle.std.proofs.Common.{◌≡◌, ⊎_elim, inl, sym, subst, ◌∙◌, refl, arith, false, ℕ, length}
use Rattle.dc_sectors.specs.Disk.{Image, IsImage}
use Rattle.dc_sectors.specs.Runs.{LeavesOnly}
use Rattle.dc_sectors.proofs.Moments.{started, weakened, at_end}
use Rattle.mbdc_change.specs.History.{AcceptsAll}
use Rattle.mbdc_log.specs.Halves.{half_of, half_len_of}
use Rattle.dc_core.specs.PendingImages.{StandsForFront}
use Rattle.mbdc_log.specs.Store.{Fits, Opened}
use Rattle.mbdc_log.proofs.Fronts.{either_is_front}
use Rattle.dc_meters.specs.Language.{register}
use Rattle.dc_core.specs.Lines.{NoMoreRequests}
use Rattle.dc_core.specs.Writing.{IsWornFor}
use Rattle.dc_core.specs.Core.{Core}
use Rattle.dc_core.specs.Images.{Machine, IsAt}
use Rattle.dc_core.proofs.At.{at_committed, at_device}
use Rattle.dc_core.proofs.concentrator.Concentrator.commit.Given.{Over}
use Rattle.dc_core.proofs.concentrator.Concentrator.commit.Goals.{After-write_waiting}
use Rattle.dc_core.proofs.concentrator.Concentrator.commit.Goals as goal

-- the concentrator by its fields
abbrev inside : (g : Over) → After-write_waiting g → Machine (g.row.D.Denot)
inside g c = record { store = c.self.inside.store; house = c.self.inside.house; waiting = c.self.inside.waiting; lines = c.self.inside.lines }

at_inside : (g : Over) (c : After-write_waiting g) (origin : g.row.D.Denot) (core : Core) → IsAt g.D.Disk origin c.args.self.now core
    → IsAt g.D.Disk origin (inside g c) core
at_inside g c origin core at = subst (λ (b : Machine (g.row.D.Denot)). IsAt g.D.Disk origin b core) (sym c.self.view_is) at

-- while the pending changes are written, and after it, whatever that answers
left_inside : (g : Over) (c : After-write_waiting g) (origin : g.row.D.Denot) → g.D.Disk.keeps origin → (core : Core) → IsAt g.D.Disk origin c.args.self.now core → c.self.inside.store.is_stopped ≡ false
    → LeavesOnly g.D.Disk c.self.inside.store.disk c.write_waiting.new.store.disk (StandsForFront (half_of g.D.Disk c.self.inside.store.disk) core.committed core.pending)
left_inside g c origin h core at runs =
    let at' = at_inside g c origin core at in
    let accepted = subst (λ (b : ℕ). AcceptsAll b core.committed core.pending) c.self.invariant at'.accepted in
    let H = half_of g.D.Disk c.self.inside.store.disk in
    weakened g.D.Disk c.self.inside.store.disk c.write_waiting.new.store.disk _ (StandsForFront H core.committed core.pending)
    (c.write_waiting.ensures.any_moment core.committed core.pending (at'.keeps h (sym at'.stopped_is ∙ runs)) at'.spells accepted at'.house_is) (either_is_front register H core.committed core.pending)

left : (g : Over) (c : After-write_waiting g) (origin : g.row.D.Denot) → g.D.Disk.keeps origin → (core : Core) → IsAt g.D.Disk origin c.args.self.now core → c.self.inside.store.is_stopped ≡ false
    → LeavesOnly g.D.Disk c.args.self.now.store.disk c.write_waiting.new.store.disk (StandsForFront (half_of g.D.Disk c.args.self.now.store.disk) core.committed core.pending)
left g c origin h core at runs =
    subst (λ (b : Machine (g.row.D.Denot)). LeavesOnly g.D.Disk b.store.disk c.write_waiting.new.store.disk (StandsForFront (half_of g.D.Disk b.store.disk) core.committed core.pending)) c.self.view_is (left_inside g c origin h core at runs)

-- what fits stays under the same root, whatever the write answers
same_root : (g : Over) (c : After-write_waiting g)
    → Fits (g.D.Disk.sectors c.args.self.now.store.disk) c.args.self.now.store (length c.args.self.now.waiting.bytes)
    → c.write_waiting.new.store.root ≡ c.args.self.now.store.root
same_root g c =
    subst (λ (b : Machine (g.row.D.Denot)). Fits (g.D.Disk.sectors b.store.disk) b.store (length b.waiting.bytes) → c.write_waiting.new.store.root ≡ b.store.root)
    c.self.view_is c.write_waiting.ensures.one_group

pub returns-then-count-eq0-clause-any_moment : goal.returns-then-count-eq0-clause-any_moment
returns-then-count-eq0-clause-any_moment g c origin h core at =
    let store = c.args.self.now.store in
    started g.D.Disk store.disk _ (λ image left. at.leaves h image (g.met.D.Disk.only_now store.disk image left))

pub write_waiting-requires-clause-some : goal.write_waiting-requires-clause-some
write_waiting-requires-clause-some g c =
    let some = c.count-count.ensures.some in
    let count = c.count-count.ensures.count in
    let not_0 = c.if-count-eq0.false in
    omega (arith, some, count, not_0)

pub returns-in-Ok-clause-at : goal.returns-in-Ok-clause-at
returns-in-Ok-clause-at g c origin core at =
    let from = (goal.at.returns-in-Ok-clause-at g c).After-write_waiting in
    let at' = at_inside g from origin core at in
    let runs : c.self.inside.store.is_stopped ≡ false = ⊎_elim (λ bad. cc) (λ r. r) c.in-Ok.ensures.running in
    let new : Machine (g.row.D.Denot) = record { store = c.write_waiting.new.store; house = c.self.inside.house; waiting = c.clear.new.self; lines = c.settle.new.self } in
    let accepted = subst (λ (b : ℕ). AcceptsAll b core.committed core.pending) c.self.invariant at'.accepted in
    at_committed g.D.Disk origin (inside g from) new core at'
    (λ e. c.if-count-eq0.false (c.count-count.ensures.count ∙ e)) runs c.in-Ok.ensures.goes_on
    (λ h. c.in-Ok.ensures.kept core.committed core.pending (at'.keeps h (sym at'.stopped_is ∙ runs)) at'.spells accepted at'.house_is)
    refl c.clear.ensures c.settle.ensures.exact

pub returns-in-Ok-clause-any_moment : goal.returns-in-Ok-clause-any_moment
returns-in-Ok-clause-any_moment g c origin h core at =
    let runs : c.self.inside.store.is_stopped ≡ false = ⊎_elim (λ bad. cc) (λ r. r) c.in-Ok.ensures.running in
    left g (goal.at.returns-in-Ok-clause-any_moment g c).After-write_waiting origin h core at runs

pub returns-in-Err-Device-clause-any_moment : goal.returns-in-Err-Device-clause-any_moment
returns-in-Err-Device-clause-any_moment g c origin h core at =
    let runs : c.self.inside.store.is_stopped ≡ false = ⊎_elim (λ bad. cc) (λ r. r) c.in-Err-Device.ensures.running in
    left g (goal.at.returns-in-Err-Device-clause-any_moment g c).After-write_waiting origin h core at runs

pub returns-in-Err-Worn-clause-any_moment : goal.returns-in-Err-Worn-clause-any_moment
returns-in-Err-Worn-clause-any_moment g c origin h core at =
    let runs : c.self.inside.store.is_stopped ≡ false = ⊎_elim (λ bad. cc) (λ r. r) c.in-Err-Worn.ensures.running in
    left g (goal.at.returns-in-Err-Worn-clause-any_moment g c).After-write_waiting origin h core at runs

pub returns-in-Err-Device-clause-at : goal.returns-in-Err-Device-clause-at
returns-in-Err-Device-clause-at g c origin core at =
    let from = (goal.at.returns-in-Err-Device-clause-at g c).After-write_waiting in
    let runs : c.self.inside.store.is_stopped ≡ false = ⊎_elim (λ bad. cc) (λ r. r) c.in-Err-Device.ensures.running in
    let new : Machine (g.row.D.Denot) = record { store = c.write_waiting.new.store; house = c.self.inside.house; waiting = c.self.inside.waiting; lines = c.self.inside.lines } in
    let H = half_of g.D.Disk c.self.inside.store.disk in
    let disk = c.write_waiting.new.store.disk in
    at_device g.D.Disk origin (inside g from) new core (at_inside g from origin core at) (let named = c.in-Err-Device.field-0-is in c.in-Err-Device.ensures.stops cc)
    (λ h image is.
    let stands : StandsForFront H core.committed core.pending image
    = at_end g.D.Disk c.self.inside.store.disk disk (StandsForFront H core.committed core.pending) (IsImage (g.D.Disk.choices disk)) (left_inside g from origin h core at runs) (g.met.D.Disk.counts_now disk) image is in
    subst (λ (n : ℕ). StandsForFront (half_len_of n) core.committed core.pending image) (sym c.write_waiting.ensures.counts.count) stands)
    refl refl refl

pub returns-in-Ok-clause-one_group : goal.returns-in-Ok-clause-one_group
returns-in-Ok-clause-one_group g c = same_root g (goal.at.returns-in-Ok-clause-one_group g c).After-write_waiting

pub returns-in-Err-Device-clause-one_group : goal.returns-in-Err-Device-clause-one_group
returns-in-Err-Device-clause-one_group g c = same_root g (goal.at.returns-in-Err-Device-clause-one_group g c).After-write_waiting

pub returns-in-Err-Worn-clause-worn : goal.returns-in-Err-Worn-clause-worn
returns-in-Err-Worn-clause-worn g c worn =
    let named = c.in-Err-Worn.field-0-is in
    subst (λ (b : Machine (g.row.D.Denot)). IsWornFor (g.D.Disk.sectors b.store.disk) b.store (length b.waiting.bytes)) c.self.view_is (c.in-Err-Worn.ensures.worn cc)

pub returns-in-Err-Stopped-clause-any_moment : goal.returns-in-Err-Stopped-clause-any_moment
returns-in-Err-Stopped-clause-any_moment g c origin h core at =
    let from = (goal.at.returns-in-Err-Stopped-clause-any_moment g c).After-write_waiting in
    let named = c.in-Err-Stopped.field-0-is in
    let same : c.write_waiting.new.store ≡ c.self.inside.store = c.in-Err-Stopped.ensures.unchanged (inl cc) in
    let disk = c.self.inside.store.disk in
    let P : Image → Type 0 = StandsForFront (half_of g.D.Disk disk) core.committed core.pending in
    let begun = started g.D.Disk disk P (λ image left. (at_inside g from origin core at).leaves h image (g.met.D.Disk.only_now disk image left)) in
    let ended = subst (λ (s : Opened (g.row.D.Denot)). LeavesOnly g.D.Disk disk s.disk P) (sym same) begun in
    subst (λ (b : Machine (g.row.D.Denot)). LeavesOnly g.D.Disk b.store.disk c.write_waiting.new.store.disk (StandsForFront (half_of g.D.Disk b.store.disk) core.committed core.pending)) c.self.view_is ended

pub returns-in-Ok-clause-no_more : goal.returns-in-Ok-clause-no_more
returns-in-Ok-clause-no_more g c =
    subst (λ (b : Machine (g.row.D.Denot)). NoMoreRequests b.lines c.settle.new.self) c.self.view_is c.settle.ensures.no_more
