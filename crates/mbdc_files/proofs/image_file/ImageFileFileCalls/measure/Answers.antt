use Rattle.std.proofs.Common.{rules}
use Rattle.dc_sectors.specs.Over.{steps_of}
use Rattle.mbdc_files.proofs.Steps.{follows_same, follows_more}
use Rattle.mbdc_files.proofs.image_file.ImageFileFileCalls.measure.Goals as goal

pub returns-in-Ok-clause-follows : goal.returns-in-Ok-clause-follows
returns-in-Ok-clause-follows g c =
    follows_more (steps_of c.args.self.now.log.notes) (steps_of c.args.self.now.log.notes) (steps_of c.note.new.self.notes) (follows_same _) (search rules) (search rules)

pub returns-in-Err-clause-follows : goal.returns-in-Err-clause-follows
returns-in-Err-clause-follows g c =
    follows_more (steps_of c.args.self.now.log.notes) (steps_of c.args.self.now.log.notes) (steps_of c.note-in-Err.new.self.notes) (follows_same _) (search rules) (search rules)
