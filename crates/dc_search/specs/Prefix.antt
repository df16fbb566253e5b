-- Masks that fix the first digits of the identification number and nothing else: the masks of a search.
use Rattle.std.specs.Prelude.{ℕ, ◌-◌, List, ◌++◌, Some, None, length, map, replicate}
use Rattle.dc_address.specs.Mask.{MaskParts}

-- these digits, then wildcards
unfoldable pub mask_of_digits : List ℕ → MaskParts
mask_of_digits digits = record {
  digits = map Some digits ++ replicate (8 - length digits) None;
  maker = None;
  version = None;
  kind = None;
}
