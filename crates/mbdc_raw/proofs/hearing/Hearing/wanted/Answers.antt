use Rattle.std.proofs.Common.{Bool, length, ◌-◌, min, ap, sym, refl, ◌∙◌, if◌then◌else◌}
use Rattle.mbdc_raw.specs.Heard.{begins, missing_of}
use Rattle.mbdc_raw.proofs.Echoes.{hearing_wanted}
use Rattle.mbdc_raw.proofs.hearing.Hearing.wanted.Goals as goal

pub returns-then-self-clause-wanted : goal.returns-then-self-clause-wanted
returns-then-self-clause-wanted c =
    let request = c.self.inside.request in
    let answer = c.self.inside.answer in
    c.missing-count.ensures ∙ ap missing_of c.as_slice-answer.ensures.bytes
    ∙ sym (hearing_wanted c.args.self.now request answer c.self.inside.echoed (begins answer request) c.self.view_is c.self.invariant refl
    ∙ ap (λ (b : Bool). if b then missing_of answer else if begins answer request then min (missing_of answer) (length request - length answer) else missing_of answer) c.if-self.true)
