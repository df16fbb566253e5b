use Rattle.std.proofs.Common.{◌≡◌, ◌∙◌, ℕ, List, [], length, ◌==◌, subst, sym}
use Rattle.mbdc_raw.specs.Heard.{IsKept}
use Rattle.mbdc_raw.proofs.Echoes.{hearing_answer, kept_new}
use Rattle.mbdc_raw.proofs.hearing.Hearing.take.Goals as goal

pub returns-clause-answer : goal.returns-clause-answer
returns-clause-answer c =
    c.replace.ensures.value ∙ hearing_answer c.args.self.now c.self.inside.request c.self.inside.answer c.self.inside.echoed c.self.view_is c.self.invariant

pub invariant_of-self : goal.invariant_of-self
invariant_of-self c =
    let none : c.replace.new.dest ≡ [] = cc in
    let is : c.is_empty-self-inside.result ≡ (length c.self.inside.request == 0) = cc in
    subst (λ (answer : List ℕ). IsKept c.self.inside.request answer c.is_empty-self-inside.result) (sym none) (kept_new c.self.inside.request c.is_empty-self-inside.result is)
