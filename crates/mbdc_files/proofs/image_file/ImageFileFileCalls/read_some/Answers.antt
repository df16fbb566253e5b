use Rattle.std.proofs.Common.{rules, refl, take, Ok}
use Rattle.dc_sectors.specs.Over.{steps_of}
use Rattle.mbdc_files.proofs.Steps.{follows_same, follows_more}
use Rattle.mbdc_files.proofs.image_file.ImageFileFileCalls.read_some.Goals as goal

pub returns-in-Ok-eq512-clause-read : goal.returns-in-Ok-eq512-clause-read
returns-in-Ok-eq512-clause-read g c = (Ok (take 512 c.read_some-answer.new.bytes), search rules, refl)

pub returns-in-Ok-eq512-clause-follows : goal.returns-in-Ok-eq512-clause-follows
returns-in-Ok-eq512-clause-follows g c =
    follows_more (steps_of c.args.self.now.log.notes) (steps_of c.args.self.now.log.notes) (steps_of c.keep.new.self.log.notes) (follows_same _) (search rules) (search rules)

pub returns-in-Err-Unreadable-answer-clause-follows : goal.returns-in-Err-Unreadable-answer-clause-follows
returns-in-Err-Unreadable-answer-clause-follows g c =
    follows_more (steps_of c.args.self.now.log.notes) (steps_of c.args.self.now.log.notes) (steps_of c.match-answer.self.log.notes) (follows_same _) (search rules) (search rules)

pub returns-in_default-clause-follows : goal.returns-in_default-clause-follows
returns-in_default-clause-follows g c =
    follows_more (steps_of c.args.self.now.log.notes) (steps_of c.args.self.now.log.notes) (steps_of c.match-answer.self.log.notes) (follows_same _) (search rules) (search rules)

pub returns-in_default-2-clause-follows : goal.returns-in_default-2-clause-follows
returns-in_default-2-clause-follows g c =
    follows_more (steps_of c.args.self.now.log.notes) (steps_of c.args.self.now.log.notes) (steps_of c.match-answer.self.log.notes) (follows_same _) (search rules) (search rules)

pub returns-in_default-3-clause-follows : goal.returns-in_default-3-clause-follows
returns-in_default-3-clause-follows g c =
    follows_more (steps_of c.args.self.now.log.notes) (steps_of c.args.self.now.log.notes) (steps_of c.match-answer.self.log.notes) (follows_same _) (search rules) (search rules)
