use Rattle.std.proofs.Common.{ap, ◌∙◌}
use Rattle.mbdc_decode.specs.Frames.{all_shown}
use Rattle.mbdc_decode.proofs.Turns.{whole, spelled_in_turn, shown_in_turn}
use Rattle.mbdc_decode.proofs.laws.frames_are_told_in_turn.Goals as goal

pub returns-clause-whole : goal.returns-clause-whole
returns-clause-whole c = whole

pub returns-clause-frames : goal.returns-clause-frames
returns-clause-frames c = spelled_in_turn c.need_agrees_with_parse.ensures.found

pub returns-clause-text : goal.returns-clause-text
returns-clause-text c = λ frames rooms. ap all_shown (spelled_in_turn c.need_agrees_with_parse.ensures.found frames rooms) ∙ shown_in_turn frames
