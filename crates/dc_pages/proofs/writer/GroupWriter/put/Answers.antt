use Rattle.std.proofs.Common.{◌≡◌, ◌+◌, ◌-◌, ◌++◌, List, ℕ, length, take, drop, arith, ap, subst, sym, ◌∙◌}
use Rattle.std.proofs.lemmas.List.{take_all, append_assoc, length-append}
use Rattle.dc_sectors.specs.Runs.{LeavesOnly}
use Rattle.dc_pages.specs.Draft.{Draft}
use Rattle.dc_pages.specs.PagesWriting.{SameOutside, IsGoing, IsPartOf}
use Rattle.dc_pages.proofs.Buffers.{part_taken, take-further}
use Rattle.dc_pages.proofs.Going.{going_filled, same_through, same_filled}
use Rattle.dc_pages.proofs.writer.GroupWriter.put.Goals as goal

pub returns-in_err-make_room-clause-any_moment : goal.returns-in_err-make_room-clause-any_moment
returns-in_err-make_room-clause-any_moment g c start payload is =
    let so_far = c.loop-at.invariant in
    let P : Draft → Type 0 = λ d. LeavesOnly g.D.Disk start c.make_room.new.disk (IsPartOf d.site d.session (g.D.Disk.reads start)) in
    subst P so_far.same (c.make_room.ensures.any_moment start _ (so_far.going start payload is))

pub returns-in_err-make_room-clause-elsewhere : goal.returns-in_err-make_room-clause-elsewhere
returns-in_err-make_room-clause-elsewhere g c m out =
    let so_far = c.loop-at.invariant in
    subst (λ (d : Draft). SameOutside d.site (g.D.Disk.reads c.loop-at.disk) (g.D.Disk.reads c.make_room.new.disk)) so_far.same c.make_room.ensures.elsewhere m out
    ∙ so_far.elsewhere m out

pub returns-clause-any_moment : goal.returns-clause-any_moment
returns-clause-any_moment g c start payload is =
    let so_far = c.loop-at.invariant in
    let P : Draft → Type 0 = λ d. LeavesOnly g.D.Disk start c.loop-at.disk (IsPartOf d.site d.session (g.D.Disk.reads start)) in
    subst P so_far.same (so_far.going start payload is).on_disk.any_moment

pub returns-clause-going : goal.returns-clause-going
returns-clause-going g c start payload is =
    let so_far = c.loop-at.invariant in
    subst (λ (l : List ℕ). IsGoing g.D.Disk start c.loop-at.disk c.loop-at.self (payload ++ l)) (take_all c.loop-at.at c.args.bytes.now (omega arith)) (so_far.going start payload is)

pub loop-at-preserved : goal.loop-at-preserved
loop-at-preserved g c =
    let so_far = c.loop-at.invariant in
    let room = c.in_ok-make_room.ensures in
    let bytes = c.args.bytes.now in
    let at = c.loop-at.at in
    let count = c.fill-at.result in
    let roomy = c.make_room.new.self in
    let new = c.fill-at.new.self in
    let part = part_taken at count (488 - length roomy.buffer) bytes so_far.within c.fill-at.ensures.count in
    let long = part.1 in
    let as_many = part.2 in
    let filled : new ≡ record roomy { buffer = roomy.buffer ++ take count (drop at bytes) } = c.fill-at.ensures.filled ∙ ap (λ (l : List ℕ). record roomy { buffer = roomy.buffer ++ l }) part.0 in
    let buffer : length new.buffer ≡ length roomy.buffer + count = ap (λ (d : Draft). length d.buffer) filled ∙ length-append roomy.buffer (take count (drop at bytes)) ∙ ap (λ (n : ℕ). length roomy.buffer + n) long in
    let pages : new.pages ≡ roomy.pages = ap (λ (d : Draft). d.pages) filled in
    let roomy_long = room.length in
    let old_long = so_far.length in
    let free = room.room in
    let more = c.loop-at-test.true in
    record {
      within = omega arith;
      some = λ any. omega arith;
      length = omega arith;
      same = same_through c.args.self.now roomy new (same_through c.args.self.now c.loop-at.self roomy so_far.same room.same) (same_filled roomy new (roomy.buffer ++ take count (drop at bytes)) filled);
      going = λ start payload is.
          subst (λ (d : Draft). IsGoing g.D.Disk start c.make_room.new.disk d (payload ++ take (at + count) bytes)) (sym filled)
          (subst (λ (l : List ℕ). IsGoing g.D.Disk start c.make_room.new.disk (record roomy { buffer = roomy.buffer ++ take count (drop at bytes) }) l)
          (append_assoc payload (take at bytes) (take count (drop at bytes)) ∙ ap (λ (l : List ℕ). payload ++ l) (sym (take-further at count bytes)))
          (going_filled g.D.Disk start c.make_room.new.disk roomy (payload ++ take at bytes) (take count (drop at bytes))
          (room.going start (payload ++ take at bytes) (so_far.going start payload is))));
      elsewhere = λ m out.
          subst (λ (d : Draft). SameOutside d.site (g.D.Disk.reads c.loop-at.disk) (g.D.Disk.reads c.make_room.new.disk)) so_far.same c.make_room.ensures.elsewhere m out
          ∙ so_far.elsewhere m out;
      before = λ kept. so_far.before (room.before kept);
      count = c.in_ok-make_room.ensures.counts.count ∙ so_far.count;
      failures = c.in_ok-make_room.ensures.counts.passed (λ is. cc is) ∙ so_far.failures;
    }
