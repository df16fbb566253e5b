use Rattle.std.proofs.Common.{rules}
use Rattle.dc_sectors.specs.Over.{steps_of}
use Rattle.mbdc_files.proofs.Steps.{follows_same, follows_to, follows_more, follows_then}
use Rattle.mbdc_files.specs.ImageFile.{Follows}
use Rattle.mbdc_files.proofs.image_file.ImageFileFileCalls.sync_once.Goals.{in-Ok-tried, in-Err-tried}
use Rattle.mbdc_files.proofs.image_file.ImageFileFileCalls.sync_once.Goals as goal

pub returns-clause-follows : goal.returns-clause-follows
returns-clause-follows g c =
    let s0 = steps_of c.args.self.now.log.notes in
    let s1 = steps_of c.match-tried.self.log.notes in
    let s2 = steps_of c.match-tried-2.self.log.notes in
    let tried : Follows s0 s1 = follows_more s0 s0 s1 (follows_same s0) (search rules) (search rules) in
    let checked : Follows s0 s2 = elim c.match-tried-2.branch [
      | in-Ok-tried w ↦ follows_then s0 s1 s2 tried (follows_to s1 (steps_of w.unless_overwritten-answer.new.self.log.notes) s2 w.unless_overwritten-answer.ensures.steps.follows (search rules))
      | in-Err-tried w ↦ follows_to s0 s1 s2 tried (search rules)
    ] in
    follows_more s0 s2 _ checked (search rules) (search rules)
