use Rattle.std.proofs.Common.{◌≡◌, ◌++◌, arith, refl, replicate, length, length-append}
use Rattle.dc_sectors.proofs.Numbers.{written_behind, length-number_bytes}
use Rattle.dc_sectors.specs.Fields.{number_bytes}
use Rattle.dc_roots.specs.Root.{root_bytes, root_front}
use Rattle.dc_roots.proofs.format.sector_of.Goals as goal

pub returns : goal.returns
unfolding root_bytes
returns c =
    let root = c.args.root.now in
    let front = root_front root in
    let a = front ++ number_bytes 8 root.generation in
    let b = a ++ number_bytes 8 root.session in
    let d = b ++ number_bytes 8 root.base_sequence in
    let a_long : length a ≡ 16 = omega (arith, length-append front (number_bytes 8 root.generation), length-number_bytes 8 root.generation) in
    let b_long : length b ≡ 24 = omega (arith, a_long, length-append a (number_bytes 8 root.session), length-number_bytes 8 root.session) in
    let d_long : length d ≡ 32 = omega (arith, b_long, length-append b (number_bytes 8 root.base_sequence), length-number_bytes 8 root.base_sequence) in
    let first = written_behind 8 8 root.generation front (replicate 504 0) _ c.put_u64.new.sector (rw c.copy_from_slice.ensures.after refl) refl c.put_u64.ensures in
    let second = written_behind 8 16 root.session a (replicate 496 0) c.put_u64.new.sector c.put_u64-2.new.sector first a_long c.put_u64-2.ensures in
    let third = written_behind 8 24 root.base_sequence b (replicate 488 0) c.put_u64-2.new.sector c.put_u64-3.new.sector second b_long c.put_u64-3.ensures in
    written_behind 4 32 root.half_len d (replicate 480 0) c.put_u64-3.new.sector c.put_u32.new.sector third d_long c.put_u32.ensures
