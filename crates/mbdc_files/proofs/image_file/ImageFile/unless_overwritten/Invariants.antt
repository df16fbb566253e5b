use Rattle.std.proofs.Common.{◌≡◌}
use Rattle.dc_sectors.specs.Over.{steps_of}
use Rattle.mbdc_files.specs.ImageFile.{HasLooked}
use Rattle.mbdc_files.proofs.image_file.ImageFile.unless_overwritten.Given as goal

-- the roots so far were looked at
abbrev pub invariant-roots : goal.invariant-roots
invariant-roots g l = record {
  steps : HasLooked (steps_of l.fn.self.log.notes) (steps_of l.self.log.notes);
  start : l.self.file.log.start ≡ l.fn.self.file.log.start;
}
