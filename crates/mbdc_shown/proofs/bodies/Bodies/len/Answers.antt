use Rattle.std.proofs.Common.{◌∙◌, ap, length, sym}
use Rattle.std.proofs.lemmas.List.{length-map}
use Rattle.mbdc_shown.proofs.bodies.Bodies.len.Goals as goal

pub returns-clause-len : goal.returns-clause-len
returns-clause-len c = c.len.ensures.value ∙ sym (length-map c.self.inside.bodies.items (λ s. s.now)) ∙ ap length c.self.view_is
