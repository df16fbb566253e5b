use Rattle.std.proofs.Common.{rules}
use Rattle.dc_sectors.specs.Over.{steps_of}
use Rattle.mbdc_files.proofs.Steps.{follows_more}
use Rattle.mbdc_files.proofs.image_file.ImageFile.unless_overwritten.Goals as goal

pub returns-in-Ok-answer-clause-steps : goal.returns-in-Ok-answer-clause-steps
returns-in-Ok-answer-clause-steps g c =
    record {
      follows = follows_more (steps_of c.args.self.now.log.notes) (steps_of c.roots.self.log.notes) (steps_of c.match-answer.self.log.notes) c.roots.invariant.steps.follows (search rules) (search rules);
      told_same = search rules;
      durable_same = search rules;
    }

pub returns-in-Err-clause-steps : goal.returns-in-Err-clause-steps
returns-in-Err-clause-steps g c =
    record {
      follows = follows_more (steps_of c.args.self.now.log.notes) (steps_of c.roots.self.log.notes) (steps_of c.match-answer.self.log.notes) c.roots.invariant.steps.follows (search rules) (search rules);
      told_same = search rules;
      durable_same = search rules;
    }

pub roots-preserved : goal.roots-preserved
roots-preserved g c = record {
  steps =
      record {
        follows = follows_more (steps_of c.args.self.now.log.notes) (steps_of c.roots.self.log.notes) (steps_of c.match-answer.self.log.notes) c.roots.invariant.steps.follows (search rules) (search rules);
        told_same = search rules;
        durable_same = search rules;
      };
  start = search rules;
}
