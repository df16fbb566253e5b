use Rattle.std.proofs.Common.{List, length, replicate, sym, ap, subst, ◌∙◌, arith}
use Rattle.std.proofs.lemmas.Grind.{common_steps}
use Rattle.dc_sectors.specs.Disk.{Image, IsImage}
use Rattle.dc_sectors.specs.Record.{image_of, reads_after, writes_after}
use Rattle.dc_sectors.specs.declared.sector.Sector.{Sector}
use Rattle.dc_sectors.specs.declared.event.Event.{Event}
use Rattle.dc_sectors.specs.Memory.{Memory, IsPickFor, pending_of, pending_below, choices_of, picked_from}
use Rattle.dc_sectors.proofs.Stops.{AllZip-length, picked_is_image, kept_stopped, take_written}
use Rattle.dc_sectors.proofs.memory.MemoryDisk.stop.Goals as goal

pub pick_each-requires-clause-picks : goal.pick_each-requires-clause-picks
pick_each-requires-clause-picks g c =
    AllZip-length IsPickFor (pending_of c.args.self.now) c.args.picks.now c.requires
    ∙ ap (λ (d : Memory). length (pending_of d)) (sym c.self.view_is)
    ∙ ap (λ (l : List Event). length (pending_below (writes_after l) (length c.self.inside.start.items))) (sym c.deref-2.ensures.value)
    ∙ ap (λ (l : List Sector). length (pending_below (writes_after c.deref-2.result.now) (length l))) (sym c.deref.ensures.value)

pub invariant_of-self : goal.invariant_of-self
invariant_of-self g c =
    kept_stopped c.copy_from_slice.new.self.items _ c.fill.new.self.items c.clear.new.self.items
    (c.copy_from_slice.ensures.items ∙ c.deref-4.ensures.value)
    (c.fill.ensures.items (λ y e. e) ∙ ap (λ k. replicate k 0) (omega (arith, c.self.invariant.writes_length, c.copy_from_slice.ensures.len)))
    c.clear.ensures.items
    (omega (arith, c.self.invariant.small, c.copy_from_slice.ensures.len))

pub returns-clause-choice : goal.returns-clause-choice
returns-clause-choice g c =
    let was = c.args.self.now in
    let picks = c.args.picks.now in
    let start = ap (λ (d : Memory). d.start) c.self.view_is in
    let events = ap (λ (d : Memory). d.events) c.self.view_is in
    let left = ap (reads_after (image_of c.copy_from_slice.new.self.items)) c.clear.ensures.items
    ∙ ap image_of (c.copy_from_slice.ensures.items ∙ c.deref-4.ensures.value ∙ take_written c.pick_each.new.reads c.self.inside.reads.items c.self.inside.reads.len (omega (arith, c.pick_each.auto.reads, c.deref_mut.ensures.len)))
    ∙ c.pick_each.ensures ∙ ap (λ (l : List Event). picked_from (image_of c.deref.result.now) l picks) (c.deref-2.ensures.value ∙ events)
    ∙ ap (λ (l : List Sector). picked_from (image_of l) was.events picks) (c.deref.ensures.value ∙ start) in
    subst (λ (image : Image). IsImage (choices_of was) image) (sym left) (picked_is_image (image_of was.start) was.events picks)

pub returns-clause-picked : goal.returns-clause-picked
returns-clause-picked g c = grind (arith, common_steps)

pub returns-clause-only : goal.returns-clause-only
returns-clause-only g c = grind (arith, common_steps)

pub returns-clause-count : goal.returns-clause-count
returns-clause-count g c = grind (arith, common_steps)
