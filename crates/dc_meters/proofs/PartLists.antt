-- A meter's parts stay parts as one is added.
use Rattle.std.proofs.Common.{◌+◌, ◌≤◌, [], ◌∷◌, ◌++◌, length, arith, length-append}
use Rattle.std.proofs.lemmas.List.Elements.{All-push, All-nil, All-cons}
use Rattle.mbdc_change.specs.State.{MeterRow, PartRow}
use Rattle.mbdc_change.specs.Valid.{IsMeter, IsPart}

pub IsMeter-pushed : (row : MeterRow) (part : PartRow) → IsMeter row → IsPart part → length row.parts + 1 ≤ 255 → IsMeter (record row { parts = row.parts ++ part ∷ [] })
IsMeter-pushed row part is part_is room = record {
  line_is = is.line_is;
  address_is = is.address_is;
  flat_is = is.flat_is;
  parts_are = record { count = omega (arith, length-append row.parts (part ∷ [])); each = All-push IsPart row.parts part is.parts_are.each part_is };
}

pub IsMeter-begun : (row : MeterRow) (part : PartRow) → IsMeter row → IsPart part → IsMeter (record row { parts = part ∷ [] })
IsMeter-begun row part is part_is = record {
  line_is = is.line_is;
  address_is = is.address_is;
  flat_is = is.flat_is;
  parts_are = record { count = omega arith; each = All-cons IsPart part [] part_is (All-nil IsPart) };
}
