use Rattle.std.proofs.Common.{◌≡◌, ℕ, ◌+◌, ◌∙◌, List, IfSome, Some, length, false, true, ap, sym, subst, arith, eqb-true}
use Rattle.std.specs.Prelude.{◌==◌}
use Rattle.dc_address.specs.Text.{text_of}
use Rattle.dc_address.specs.declared.identity.Identity.{Identity as Meter}
use Rattle.dc_meters.specs.Name.{capitals}
use Rattle.dc_meters.proofs.Wholes.{length_spelled, whole}
use Rattle.dc_meters.proofs.named.name.identity_of.Goals as goal

pub returns-in_err-text-clause-only : goal.returns-in_err-text-clause-only
returns-in_err-text-clause-only c meter bytes is =
    let long : length c.args.word.now ≡ 18 = length_spelled c.args.word.now meter is in
    absurd (omega (arith, long, c.in_err-text.ensures.cases))

pub returns-then-not-is_empty-clause-only : goal.returns-then-not-is_empty-clause-only
returns-then-not-is_empty-clause-only c meter bytes is =
    let long : length c.args.word.now ≡ 18 = length_spelled c.args.word.now meter is in
    let none : length c.in_ok-text.rest.now ≡ 0 = omega (arith, long, c.in_ok-text.ensures.cases.2) in
    let empty : (length c.in_ok-text.rest.now == 0) ≡ true = ap (λ (n : ℕ). n == 0) none in
    let test : c.is_empty.result ≡ true = c.is_empty.ensures ∙ empty in
    let other : c.is_empty.result ≡ false = c.if-not-is_empty.true in
    let both : true ≡ false = sym test ∙ other in
    cc

pub returns-clause-found : goal.returns-clause-found
returns-clause-found c =
    let test : c.is_empty.result ≡ true = c.if-not-is_empty.false in
    let none : length c.in_ok-text.rest.now ≡ 0 = eqb-true _ _ (sym c.is_empty.ensures ∙ test) in
    let same : c.in_ok-text.text.now ≡ c.args.word.now = whole 18 c.args.word.now c.in_ok-text.text.now c.in_ok-text.rest.now c.in_ok-text.ensures.cases.0 c.in_ok-text.ensures.cases.2 none in
    subst (λ (word : List ℕ). IfSome c.identity_in.result (λ (meter : Meter). capitals word ≡ text_of meter)) same c.identity_in.ensures.found

pub returns-clause-only : goal.returns-clause-only
returns-clause-only c meter bytes is =
    let test : c.is_empty.result ≡ true = c.if-not-is_empty.false in
    let none : length c.in_ok-text.rest.now ≡ 0 = eqb-true _ _ (sym c.is_empty.ensures ∙ test) in
    let same : c.in_ok-text.text.now ≡ c.args.word.now = whole 18 c.args.word.now c.in_ok-text.text.now c.in_ok-text.rest.now c.in_ok-text.ensures.cases.0 c.in_ok-text.ensures.cases.2 none in
    c.identity_in.ensures.only meter bytes (ap capitals same ∙ is)
