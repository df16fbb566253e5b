use Rattle.std.proofs.Common.{◌≡◌, ◌∙◌, ℕ, List, [], ◌∷◌, ◌++◌, Option, None, Some, ap, sym, subst, append_assoc}
use Rattle.std.specs.Prelude.{codes, decimal}
use Rattle.mbdc_io.specs.Stream.{Puts}
use Rattle.mbdc_audit.specs.Fault.{name_of, number_of}
use Rattle.mbdc_audit.specs.Told.{IsTooLarge}
use Rattle.mbdc_audit.specs.declared.fault.AuditFault.{AuditFault}
use Rattle.mbdc_audit.specs.declared.fault.AuditFault.TheVariants.{TooLarge}
use Rattle.mbdc_audit.specs.declared.fault.Stop.TheVariants as stop
use Rattle.mbdc_audit.proofs.engine.stopped.Goals as goal

ends : (old new : Option (List ℕ)) (bytes front : List ℕ) → Puts old new bytes → bytes ≡ front ++ (codes " FAULT " ++ (decimal 9 ++ (codes " TooLarge" ++ 10 ∷ []))) → IsTooLarge new
ends None new bytes front puts is = subst IsTooLarge (sym puts) tt
ends (Some out) new bytes front puts is = subst IsTooLarge (sym puts)
    (out ++ front, ap (λ (b : List ℕ). out ++ b) is ∙ sym (append_assoc out front (codes " FAULT " ++ (decimal 9 ++ (codes " TooLarge" ++ 10 ∷ [])))))

line_is : (line n : ℕ) (name : List ℕ) → n ≡ 9 → name ≡ codes "TooLarge"
    → codes "LINE " ++ (decimal line ++ (codes " FAULT " ++ (decimal n ++ (codes " " ++ (name ++ 10 ∷ [])))))
    ≡ (codes "LINE " ++ decimal line) ++ (codes " FAULT " ++ (decimal 9 ++ (codes " TooLarge" ++ 10 ∷ [])))
line_is line n name e e' =
    ap (λ (k : ℕ). codes "LINE " ++ (decimal line ++ (codes " FAULT " ++ (decimal k ++ (codes " " ++ (name ++ 10 ∷ [])))))) e
    ∙ ap (λ (t : List ℕ). codes "LINE " ++ (decimal line ++ (codes " FAULT " ++ (decimal 9 ++ (codes " " ++ (t ++ 10 ∷ [])))))) e'

same_fault : (a b : AuditFault) → stop.Fault a ≡ stop.Fault b → a ≡ b
same_fault a b e = cc

pub returns-in-Ok-clause-told : goal.returns-in-Ok-clause-told
returns-in-Ok-clause-told g c = λ is.
    let fault = same_fault c.in-Fault.fault TooLarge (sym c.in-Fault.is ∙ is) in
    ends _ _ _ (codes "LINE " ++ decimal c.args.line) c.in-Ok.ensures.0 (line_is c.args.line _ _
    (c.from.ensures ∙ (c.told-number.ensures.number ∙ ap number_of fault)) (c.as_bytes.ensures.value ∙ (c.told-number.ensures.name ∙ ap name_of fault)))
