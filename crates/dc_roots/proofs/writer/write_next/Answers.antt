use Rattle.std.proofs.Common.{arith, ap, ◌∙◌, ℕ}
use Rattle.dc_roots.proofs.Spelled.{root_bytes-is_root}
use Rattle.dc_roots.specs.Root.{root_bytes, next_of, slot}
use Rattle.dc_roots.proofs.RootsWriting.{unwritten, written}
use Rattle.dc_roots.proofs.writer.write_next.Goals as goal

pub returns-in_default-clause-any_moment : goal.returns-in_default-clause-any_moment
returns-in_default-clause-any_moment g c =
    unwritten g.D.Disk c.args.disk.now (g.D.Disk.choices c.args.disk.now) (g.met.D.Disk.only_now c.args.disk.now) (slot (next_of c.args.root.now).generation) (root_bytes (next_of c.args.root.now))

pub returns-in-Ok-clause-is_root : goal.returns-in-Ok-clause-is_root
returns-in-Ok-clause-is_root g c lt = root_bytes-is_root (next_of c.args.root.now) c.requires.half (omega arith) (omega arith) (omega arith) (omega arith)

pub returns-in-Err-clause-is_root : goal.returns-in-Err-clause-is_root
returns-in-Err-clause-is_root g c lt = root_bytes-is_root (next_of c.args.root.now) c.requires.half (omega arith) (omega arith) (omega arith) (omega arith)

pub returns-in-Ok-clause-any_moment : goal.returns-in-Ok-clause-any_moment
returns-in-Ok-clause-any_moment g c =
    let next = next_of c.args.root.now in
    let up = c.in-Some.ensures.1 in
    written g.D.Disk c.args.disk.now (g.D.Disk.choices c.args.disk.now) (g.met.D.Disk.only_now c.args.disk.now) (slot next.generation) (root_bytes next)
    c.write.new.self (slot c.in-Some.generation) c.sector_of.result (ap slot up) (c.sector_of.ensures ∙ ap (λ (n : ℕ). root_bytes (record next { generation = n })) up) (c.write.ensures.time)

pub returns-in-Err-clause-any_moment : goal.returns-in-Err-clause-any_moment
returns-in-Err-clause-any_moment g c =
    let next = next_of c.args.root.now in
    let up = c.in-Some.ensures.1 in
    written g.D.Disk c.args.disk.now (g.D.Disk.choices c.args.disk.now) (g.met.D.Disk.only_now c.args.disk.now) (slot next.generation) (root_bytes next)
    c.write.new.self (slot c.in-Some.generation) c.sector_of.result (ap slot up) (c.sector_of.ensures ∙ ap (λ (n : ℕ). root_bytes (record next { generation = n })) up) (c.write.ensures.time)
