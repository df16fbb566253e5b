use Rattle.std.proofs.Common.{rules}
use Rattle.dc_sectors.specs.Over.{steps_of}
use Rattle.mbdc_files.proofs.Steps.{follows_more}
use Rattle.mbdc_files.proofs.image_file.ImageFileFileCalls.write_some.Goals as goal

pub returns-in-Err-clause-follows : goal.returns-in-Err-clause-follows
returns-in-Err-clause-follows g c =
    follows_more (steps_of c.args.self.now.log.notes) (steps_of c.unless_overwritten.new.self.log.notes) (steps_of c.note.new.self.notes) c.unless_overwritten.ensures.steps.follows (search rules) (search rules)

pub returns-in-Ok-eq512-clause-follows : goal.returns-in-Ok-eq512-clause-follows
returns-in-Ok-eq512-clause-follows g c =
    follows_more (steps_of c.args.self.now.log.notes) (steps_of c.unless_overwritten.new.self.log.notes) (steps_of c.keep-in-Ok-eq512.new.self.log.notes) c.unless_overwritten.ensures.steps.follows (search rules) (search rules)

pub returns-after-answer-clause-follows : goal.returns-after-answer-clause-follows
returns-after-answer-clause-follows g c =
    follows_more (steps_of c.args.self.now.log.notes) (steps_of c.unless_overwritten.new.self.log.notes) (steps_of c.match-answer.self.log.notes) c.unless_overwritten.ensures.steps.follows (search rules) (search rules)

pub returns-after-answer-2-clause-follows : goal.returns-after-answer-2-clause-follows
returns-after-answer-2-clause-follows g c =
    follows_more (steps_of c.args.self.now.log.notes) (steps_of c.unless_overwritten.new.self.log.notes) (steps_of c.match-answer.self.log.notes) c.unless_overwritten.ensures.steps.follows (search rules) (search rules)
