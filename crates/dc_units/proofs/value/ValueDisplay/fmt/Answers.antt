use Rattle.std.proofs.lemmas.Str.{IsUtf8-from_ascii}
use Rattle.dc_units.proofs.value.ValueDisplay.fmt.Goals as goal

pub unreachable-requires : goal.unreachable-requires
unreachable-requires g c = c.in-Err.ensures.cases.0 (IsUtf8-from_ascii c.write_into.result.now c.write_into.ensures.ascii)
