use Rattle.std.proofs.Common.{arith, ◌∙◌, ◌≤◌, sym, ap, length}
use Rattle.std.proofs.lemmas.Bool.Decides.{nat_tests}
use Rattle.mbdc_audit.proofs.Bare.{at_end, more, no_more}
use Rattle.mbdc_audit.proofs.evidence.is_named.Goals as goal

pub returns-in_default-split_first : goal.returns-in_default-split_first
returns-in_default-split_first c =
    sym (no_more _ _ _ _ c.in-Some.ensures.cases.0 c.in_default-split_first.ensures.cases) ∙ c.bytes.invariant

pub returns-then-rest-lt2 : goal.returns-then-rest-lt2
returns-then-rest-lt2 c =
    let few : length c.bytes.left.now ≤ 11 = let e = ap length c.in-Some.ensures.cases.0 in omega (arith, e) in
    let is = c.bare.ensures few in
    rw is at c.eq.ensures ∙ c.bytes.invariant

pub returns-then-byte-wanted : goal.returns-then-byte-wanted
returns-then-byte-wanted c =
    let e = more _ _ _ _ _ _ c.in-Some.ensures.cases.0 c.in-Some-split_first.ensures.cases.0 c.if-rest-lt2.false in
    let inv = c.bytes.invariant in
    grind (arith, nat_tests)

pub bytes-preserved : goal.bytes-preserved
bytes-preserved c =
    let e = more _ _ _ _ _ _ c.in-Some.ensures.cases.0 c.in-Some-split_first.ensures.cases.0 c.if-rest-lt2.false in
    let inv = c.bytes.invariant in
    grind (arith, nat_tests)

pub returns : goal.returns
returns c = c.is_empty.ensures ∙ (sym (at_end _ _ c.in_default.ensures.cases) ∙ c.bytes.invariant)
