use Rattle.mbdc_installer.proofs.Courses.{counts_answers}
use Rattle.mbdc_installer.proofs.laws.a_course_counts_the_answers.Goals as goal

pub returns : goal.returns
returns c = counts_answers
