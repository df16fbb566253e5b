use Rattle.dc_core.proofs.Following.{lives_follow}
use Rattle.dc_core.proofs.laws.an_image_of_a_life_may_be_opened.Goals as goal

pub returns : goal.returns
returns c = lives_follow
