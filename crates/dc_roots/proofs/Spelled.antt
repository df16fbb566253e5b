-- What is written for a root reads as that root.
use Rattle.std.proofs.Common.{◌≡◌, ℕ, ◌^◌, ◌<◌, ◌≤◌, List, ◌++◌, length, replicate, refl, ◌∙◌, arith, length-append}
use Rattle.dc_sectors.specs.declared.sector.Sector.TheVariants.{Bytes}
use Rattle.dc_sectors.specs.Fields.{number_bytes}
use Rattle.dc_sectors.proofs.Numbers.{length-number_bytes, field-number_bytes, field-append}
use Rattle.dc_roots.specs.declared.root.Root.{Root}
use Rattle.dc_roots.specs.Root.{IsRoot, root_front, root_bytes}

pub root_bytes-is_root : (root : Root) → root.half ≤ 1 → root.generation < 2 ^ 64 → root.session < 2 ^ 64 → root.base_sequence < 2 ^ 64 → root.half_len < 2 ^ 32
    → IsRoot root (Bytes (root_bytes root))
unfolding root_bytes
root_bytes-is_root root small generation session base half_len =
    let zeros : List ℕ = replicate 476 0 in
    let first = root_front root in
    let second = first ++ number_bytes 8 root.generation in
    let third = second ++ number_bytes 8 root.session in
    let fourth = third ++ number_bytes 8 root.base_sequence in
    let fifth = fourth ++ number_bytes 4 root.half_len in
    let second_long : length second ≡ 16 = omega (arith, length-append first (number_bytes 8 root.generation), length-number_bytes 8 root.generation) in
    let third_long : length third ≡ 24 = omega (arith, second_long, length-append second (number_bytes 8 root.session), length-number_bytes 8 root.session) in
    let fourth_long : length fourth ≡ 32 = omega (arith, third_long, length-append third (number_bytes 8 root.base_sequence), length-number_bytes 8 root.base_sequence) in
    let fifth_long : length fifth ≡ 36 = omega (arith, fourth_long, length-append fourth (number_bytes 4 root.half_len), length-number_bytes 4 root.half_len) in
    record {
      bytes = fifth ++ zeros;
      readable = refl;
      magic_is = refl;
      version_is = refl;
      half_is = refl;
      half_small = small;
      generation_is = field-append 8 8 fifth zeros (omega arith) ∙ field-append 8 8 fourth (number_bytes 4 root.half_len) (omega arith) ∙ field-append 8 8 third (number_bytes 8 root.base_sequence) (omega arith)
          ∙ field-number_bytes 8 8 root.generation first (number_bytes 8 root.session) refl generation;
      session_is = field-append 8 16 fifth zeros (omega arith) ∙ field-append 8 16 fourth (number_bytes 4 root.half_len) (omega arith)
          ∙ field-number_bytes 8 16 root.session second (number_bytes 8 root.base_sequence) second_long session;
      base_is = field-append 8 24 fifth zeros (omega arith) ∙ field-number_bytes 8 24 root.base_sequence third (number_bytes 4 root.half_len) third_long base;
      length_is = field-number_bytes 4 32 root.half_len fourth zeros fourth_long half_len;
    }
