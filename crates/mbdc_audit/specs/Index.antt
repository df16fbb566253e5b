-- Numbers of places by a key (this product).
use Rattle.std.specs.Prelude.{ℕ, ◌*◌, ◌%◌, ◌^◌, List, [], bit_xor, fold, option_map}
use Rattle.std.specs.BTreeMap.{get}
use Rattle.std.specs.Option.{unwrap_or}
use Rattle.std.specs.Ordering.{nat_cmp}
use Rattle.mbdc_audit.specs.declared.index.Index as index_type

-- the numbers of a key
abbrev pub at : {A : Type 0} → index_type.Index A → ℕ → List ℕ
at i key = unwrap_or (option_map (λ v. v.items) (get nat_cmp i.numbers key)) []

-- the key of a flat, which others may share
abbrev pub flat_key : List ℕ → ℕ
flat_key flat = fold (λ key byte. (bit_xor key byte * 0x0000_0100_0000_01B3) % 2 ^ 64) 0xCBF2_9CE4_8422_2325 flat
