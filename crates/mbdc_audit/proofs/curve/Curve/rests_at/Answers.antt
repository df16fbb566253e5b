use Rattle.std.proofs.Common.{◌≡◌, ◌||◌, rules, tests, sym, ◌∙◌, Bool, true, false}
use Rattle.std.specs.List.{list_any}
use Rattle.mbdc_audit.specs.Evidence.{list_of}
use Rattle.mbdc_audit.specs.Kept.{is_so, known_source}
use Rattle.mbdc_audit.proofs.Lasting.{decided_known}
use Rattle.mbdc_audit.proofs.Nears.{so_at}
use Rattle.mbdc_audit.proofs.curve.Curve.rests_at.Goals as goal

front : (a b d r : Bool) → a ≡ true → a ≡ b → r ≡ (b || d) → a ≡ r
front true true d r so e h = sym h
front true false d r so e h = absurd cc
front false b d r so e h = absurd cc

back : (a b d x r : Bool) → a ≡ false → a ≡ b → x ≡ d → r ≡ (b || d) → x ≡ r
back true b d x r not_so e e' h = absurd cc
back false true d x r not_so e e' h = absurd cc
back false false d x r not_so e e' h = e' ∙ sym h

pub returns-then-is_some_and : goal.returns-then-is_some_and
returns-then-is_some_and g c =
    let v = c.args.self.now in
    let e = decided_known c.args.moment v.values.items _ _ v.found v.counted c.deciding.ensures.last c.deciding.ensures.next in
    let one : c.is_some_and.result ≡ list_any (λ v. is_so c.args.is_guess (known_source v)) (list_of c.deciding.result.0) = search (rules, tests) in
    front _ _ _ _ c.if-is_some_and.true one (so_at c.args.is_guess c.args.moment v.values.items _ _ e)

pub returns-else-is_some_and : goal.returns-else-is_some_and
returns-else-is_some_and g c =
    let v = c.args.self.now in
    let e = decided_known c.args.moment v.values.items _ _ v.found v.counted c.deciding.ensures.last c.deciding.ensures.next in
    let one : c.is_some_and.result ≡ list_any (λ v. is_so c.args.is_guess (known_source v)) (list_of c.deciding.result.0) = search (rules, tests) in
    let two : c.is_some_and-else-is_some_and.result ≡ list_any (λ v. is_so c.args.is_guess (known_source v)) (list_of c.deciding.result.1) = search (rules, tests) in
    back _ _ _ _ _ c.if-is_some_and.false one two (so_at c.args.is_guess c.args.moment v.values.items _ _ e)
