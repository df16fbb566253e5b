use Rattle.std.proofs.Common.{◌<◌, length, true, false, inl, ap, ◌∙◌, rules, arith}
use Rattle.std.proofs.lemmas.Grind.{common_steps}
use Rattle.dc_sectors.specs.Memory.{Memory, reads_of}
use Rattle.dc_sectors.specs.Images.{put_elsewhere}
use Rattle.dc_sectors.specs.declared.event.Event.TheVariants.{Write}
use Rattle.dc_sectors.proofs.Kept.{elapses_kept, elapses_pushed, reads_pushed, choices_pushed, kept_failed, kept_done, writes_small}
use Rattle.dc_sectors.proofs.memory.MemoryDiskDisk.write.Goals as goal

pub returns-then-is_err-clause-time : goal.returns-then-is_err-clause-time
returns-then-is_err-clause-time g c =
    let was = c.args.self.now in
    elapses_kept was.start c.self.inside.start.items was.events c.push.new.self.items _ (ap (λ (d : Memory). d.start) c.self.view_is) (search rules)

pub overflow_add-index_mut : goal.overflow_add-index_mut
overflow_add-index_mut g c =
    let within : c.args.n < length c.self.inside.writes.items = omega (arith, ap (λ (d : Memory). length d.start) c.self.view_is) in
    omega (arith, writes_small c.self.inside.writes.items c.self.inside.events.items c.args.n c.index_mut.result.now c.self.invariant.written within c.index_mut.ensures.value, c.self.inside.events.small)

pub invariant_of-self-then-not-done : goal.invariant_of-self-then-not-done
invariant_of-self-then-not-done g c =
    kept_failed c.self.inside.start.items c.self.inside.reads.items c.self.inside.writes.items c.self.inside.events.items c.push.new.self.items c.args.n c.index_mut.result.now c.args.bytes.now (search rules)
    (omega (arith, ap (λ (d : Memory). length d.start) c.self.view_is)) c.index_mut.ensures.value c.self.invariant

pub returns-then-not-done-clause-elsewhere : goal.returns-then-not-done-clause-elsewhere
returns-then-not-done-clause-elsewhere g c m other =
    let was = c.args.self.now in
    ap (λ image. image m) (reads_pushed was.start c.self.inside.start.items was.events c.push.new.self.items (Write c.args.n c.args.bytes.now false) (ap (λ (d : Memory). d.start) c.self.view_is) (search rules))

pub returns-then-not-done-clause-choices_err : goal.returns-then-not-done-clause-choices_err
returns-then-not-done-clause-choices_err g c =
    let was = c.args.self.now in
    inl (choices_pushed was.start c.self.inside.start.items was.events c.push.new.self.items (Write c.args.n c.args.bytes.now false) (ap (λ (d : Memory). d.start) c.self.view_is) (search rules))

pub returns-then-not-done-clause-time : goal.returns-then-not-done-clause-time
returns-then-not-done-clause-time g c =
    let was = c.args.self.now in
    elapses_pushed was.start c.self.inside.start.items was.events c.push.new.self.items (Write c.args.n c.args.bytes.now false) _ (ap (λ (d : Memory). d.start) c.self.view_is) (search rules) (λ image is. is)

pub invariant_of-self-2 : goal.invariant_of-self-2
invariant_of-self-2 g c =
    kept_done c.self.inside.start.items c.self.inside.reads.items c.self.inside.writes.items c.self.inside.events.items c.push.new.self.items c.args.n c.index_mut.result.now c.args.bytes.now (search rules)
    (omega (arith, ap (λ (d : Memory). length d.start) c.self.view_is)) c.index_mut.ensures.value c.self.invariant

pub returns-clause-reads : goal.returns-clause-reads
returns-clause-reads g c =
    let was = c.args.self.now in
    reads_pushed was.start c.self.inside.start.items was.events c.push.new.self.items (Write c.args.n c.args.bytes.now true) (ap (λ (d : Memory). d.start) c.self.view_is) (search rules)

pub returns-clause-elsewhere : goal.returns-clause-elsewhere
returns-clause-elsewhere g c m other =
    let was = c.args.self.now in
    ap (λ image. image m) (reads_pushed was.start c.self.inside.start.items was.events c.push.new.self.items (Write c.args.n c.args.bytes.now true) (ap (λ (d : Memory). d.start) c.self.view_is) (search rules))
    ∙ put_elsewhere (reads_of was) c.args.n c.args.bytes.now m other

pub returns-clause-choices : goal.returns-clause-choices
returns-clause-choices g c =
    let was = c.args.self.now in
    choices_pushed was.start c.self.inside.start.items was.events c.push.new.self.items (Write c.args.n c.args.bytes.now true) (ap (λ (d : Memory). d.start) c.self.view_is) (search rules)

pub returns-clause-time : goal.returns-clause-time
returns-clause-time g c =
    let was = c.args.self.now in
    elapses_pushed was.start c.self.inside.start.items was.events c.push.new.self.items (Write c.args.n c.args.bytes.now true) _ (ap (λ (d : Memory). d.start) c.self.view_is) (search rules) (λ image is. is)

pub returns-then-is_err-clause-choices_err : goal.returns-then-is_err-clause-choices_err
returns-then-is_err-clause-choices_err g c = grind (arith, common_steps)

pub returns-then-is_err-clause-counts : goal.returns-then-is_err-clause-counts
returns-then-is_err-clause-counts g c = grind (arith, common_steps)

pub returns-then-not-done-clause-exact : goal.returns-then-not-done-clause-exact
returns-then-not-done-clause-exact g c = grind (arith, common_steps)

pub returns-then-not-done-clause-counts : goal.returns-then-not-done-clause-counts
returns-then-not-done-clause-counts g c = grind (arith, common_steps)

pub index_mut-requires-2 : goal.index_mut-requires-2
index_mut-requires-2 g c = grind (arith, common_steps)
