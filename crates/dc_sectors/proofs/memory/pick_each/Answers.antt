use Rattle.std.proofs.Common.{◌≡◌, ◌<◌, ◌+◌, ℕ, List, length, get_or, sym, ap, ◌∙◌, arith}
use Rattle.std.proofs.lemmas.List.{get_or_default}
use Rattle.dc_sectors.specs.declared.sector.Sector.{Sector}
use Rattle.dc_sectors.specs.declared.sector.Sector.TheVariants.{Unreadable}
use Rattle.dc_sectors.specs.declared.pick.Pick.TheVariants.{Old}
use Rattle.dc_sectors.specs.Record.{image_of, writes_after, choices_after}
use Rattle.dc_sectors.specs.Memory.{picked, picked_from}
use Rattle.dc_sectors.proofs.Pending.{pending_within, length-pending_more, pending_idle}
use Rattle.dc_sectors.proofs.Stops.{above_more, above_pending, below_idle, below_pending, picked_pending, picked_all}
use Rattle.dc_sectors.proofs.memory.pick_each.Goals.{then-writes-n-gt0, else-writes-n-gt0}
use Rattle.dc_sectors.proofs.memory.pick_each.Goals as goal

pub offset_bounds-picks-next : goal.offset_bounds-picks-next
offset_bounds-picks-next c = omega (arith, c.requires.kept.writes_length, c.requires.kept.small)

pub bounds-picks-next : goal.bounds-picks-next
bounds-picks-next c =
    let writes = writes_after c.args.events.now in
    let some : 0 < writes c.loop-n.n = omega (arith, c.if-writes-n-gt0.true, ap (λ (w : ℕ → ℕ). w c.loop-n.n) c.requires.kept.written) in
    omega (arith, pending_within writes c.loop-n.n (length c.args.start.now) (omega (arith, c.requires.kept.writes_length)) some, c.requires.picks, c.loop-n.invariant.next)

pub overflow_add-next : goal.overflow_add-next
overflow_add-next c = omega (arith, c.requires.kept.writes_length, c.requires.kept.small)

pub loop-n-preserved : goal.loop-n-preserved
loop-n-preserved c =
    let n = c.loop-n.n in
    let inv = c.loop-n.invariant in
    let start = image_of c.args.start.now in
    let events = c.args.events.now in
    let picks = c.args.picks.now in
    let count : get_or c.args.writes.now n 0 ≡ writes_after events n = ap (λ (w : ℕ → ℕ). w n) c.requires.kept.written in
    elim c.if-writes-n-gt0.branch [
      | then-writes-n-gt0 w ↦
          let some : 0 < writes_after events n = omega (arith, w.if-writes-n-gt0.true, count) in
          let within : n < length c.args.start.now = omega (arith, c.requires.kept.writes_length, c.loop-n-test.true) in
          let here : n < length c.loop-n.reads = omega (arith, c.requires.kept.reads_length, c.loop-n.auto.reads, within) in
          let is : w.picked.result ≡ picked_from start events picks n =
          w.picked.ensures start (get_or_default c.args.start.now n Unreadable _ within)
          ∙ ap (λ k. picked (choices_after start events n) (get_or picks k Old)) inv.next ∙ sym (picked_pending start events picks n some) in
          record {
            next = w.next-is ∙ ap (λ k. k + 1) inv.next ∙ sym (length-pending_more (writes_after events) n some);
            few = omega (arith, w.next-is, inv.few);
            below = λ m lt. ap (λ (l : List Sector). image_of l m) w.reads-is ∙ below_pending c.args.reads.now start events picks n c.loop-n.reads inv.below inv.above w.picked.result here is m lt;
            above = λ m past. ap (λ (l : List Sector). image_of l m) w.reads-is ∙ above_pending c.args.reads.now start events picks n c.loop-n.reads inv.below inv.above w.picked.result m past;
          }
      | else-writes-n-gt0 w ↦
          let none : writes_after events n ≡ 0 = sym count ∙ omega (arith, w.if-writes-n-gt0.false) in
          record {
            next = w.next-is ∙ inv.next ∙ sym (ap length (pending_idle (writes_after events) n none));
            few = omega (arith, w.next-is, inv.few);
            below = λ m lt. ap (λ (l : List Sector). image_of l m) w.reads-is ∙ below_idle c.args.reads.now start events picks n c.loop-n.reads inv.below inv.above c.requires.kept.reading none m lt;
            above = λ m past. ap (λ (l : List Sector). image_of l m) w.reads-is ∙ above_more c.args.reads.now start events picks n c.loop-n.reads inv.below inv.above m past;
          }
    ]

pub returns : goal.returns
returns c =
    let inv = c.loop-n.invariant in
    let same = picked_all c.args.reads.now c.loop-n.reads c.args.start.now c.args.writes.now c.args.events.now c.args.picks.now c.requires.kept
    (λ m lt. inv.below m (omega (arith, c.loop-n-test.false, lt))) (λ m past. inv.above m (omega (arith, c.loop-n.auto.n-end, past))) in
    λ i m. same m i
