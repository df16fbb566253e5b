use Rattle.std.proofs.Common.{◌≡◌, ◌+◌, ◌++◌, ◌∷◌, [], ℕ, List, length, map, sym, ap, subst, ◌∙◌}
use Rattle.std.proofs.lemmas.List.{length-map, map_push}
use Rattle.mbdc_audit.specs.House.{Span}
use Rattle.mbdc_audit.specs.declared.line.Word.{Word}
use Rattle.mbdc_audit.specs.Line.{HasDay, IsBounded}
use Rattle.mbdc_audit.specs.File.{Adds}
use Rattle.mbdc_audit.specs.View.{house_of, span_of}
use Rattle.mbdc_audit.proofs.Added.{adds_span}
use Rattle.mbdc_audit.proofs.Tests.{below_by, same_by}
use Rattle.mbdc_audit.proofs.house.House.add_span.Goals as goal

pub returns-clause-ok : goal.returns-clause-ok
returns-clause-ok g c =
    let h = house_of c.args.self.now in
    let l = c.args.line.now in
    let v = c.args.self.now.spans in
    let bound : HasDay 1 l × HasDay 3 l = subst (λ (w : Word). IsBounded w l) c.requires.word c.requires.bounded in
    let long : c.len-count.result ≡ length h.spans = c.len-count.ensures ∙ (v.ok.0 ∙ sym (length-map v.items span_of)) in
    let next : c.number.result ≡ c.len-count.result + 1 = same_by c.number.result (c.len-count.result + 1) c.in_ok-only_if.ensures.ok in
    let s : Span = span_of (record { line = c.args.self.now.lines; from = c.day_end.result; to = c.day_end-2.result }) in
    let pushed : map span_of c.push.new.self.items ≡ h.spans ++ s ∷ [] =
    ap (map span_of) c.in_ok-push.ensures.items ∙ map_push span_of v.items _ in
    subst (λ (ss : List Span). Adds h l (record h { spans = ss })) (sym pushed)
    (adds_span h l s c.requires.word (sym c.number.ensures ∙ (next ∙ ap (λ (n : ℕ). n + 1) long))
    (sym (c.day_end.ensures.day bound.0.0), sym (c.day_end.ensures.offset bound.0.1))
    (sym (c.day_end-2.ensures.day bound.1.0), sym (c.day_end-2.ensures.offset bound.1.1))
    (below_by c.len-count.result (length h.spans) 4 c.in_ok-only_if-2.ensures.ok long))
