use Rattle.std.proofs.Common.{arith, ◌≡◌, ◌-◌, ◌+◌, length, sym, ◌∙◌}
use Rattle.std.proofs.lemmas.Grind.{common_steps}
use Rattle.mbdc_audit.proofs.Bare.{at_front, cut, kept}
use Rattle.mbdc_audit.proofs.evidence.bare.Goals as goal

pub returns-then-last-ne0 : goal.returns-then-last-ne0
returns-then-last-ne0 c = λ few.
    let v = c.args.vib.now in
    let s = c.copy_from_slice.new.self in
    let len = c.min-len.result in
    let whole : len ≡ length v = omega arith in
    let is : s ≡ v = grind (arith, common_steps) in
    let two : length v ≡ (len - 2) + 2 = omega arith in
    let next : len - 1 ≡ (len - 2) + 1 = omega arith in
    at_front v s _ len is whole ∙ sym (kept v s _ (len - 2) (len - 1) is two next c.then-last-ne0.either)

pub returns : goal.returns
returns c = λ few.
    let v = c.args.vib.now in
    let s = c.copy_from_slice.new.self in
    let len = c.min-len.result in
    let whole : len ≡ length v = omega arith in
    let is : s ≡ v = grind (arith, common_steps) in
    let two : length v ≡ (len - 2) + 2 = omega arith in
    let next : len - 1 ≡ (len - 2) + 1 = omega arith in
    cut v s _ (len - 2) (len - 1) is two next c.if-last-ne0.false c.if-code-lt128.false c.if-code.false

pub returns-then-len-lt2 : goal.returns-then-len-lt2
returns-then-len-lt2 c = grind (arith, common_steps)
