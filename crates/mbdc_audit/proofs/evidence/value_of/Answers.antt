use Rattle.std.proofs.Common.{◌≡◌, ℕ, Some, None, sym, ap, ◌∙◌, subst, map, List, arith}
use Rattle.std.proofs.lemmas.Grind.{common_steps}
use Rattle.dc_records.specs.Record.{Entry, view}
use Rattle.mbdc_audit.specs.Evidence.{AreOf, Gives, main}
use Rattle.mbdc_audit.specs.Walk.{day_meant}
use Rattle.mbdc_audit.proofs.evidence.value_of.Goals as goal

some_one : (n m : ℕ) → Some n ≡ Some m → m ≡ n
some_one n m e = cc

none_some : (m : ℕ) → None ≡ Some m → ⊥
none_some m e = cc

pub returns-in-Some-clause-one : goal.returns-in-Some-clause-one
returns-in-Some-clause-one g c = λ m t.
    let id = c.args.run.now.identity in
    let bodies = sym (ap (map (λ b. b.items)) c.as_slice.ensures.value ∙ c.in_ok-bodies.ensures.ok) in
    let records = c.in_ok-records.ensures.one t.telegrams (subst (λ (l : List (List ℕ)). AreOf id l t.telegrams) bodies t.readout)
    ∙ ap (map view) (sym c.as_slice-records.ensures.value) in
    let vib = sym (c.as_slice-2.ensures.value ∙ c.in_ok-named.ensures.ok) in
    some_one c.in-Some.amount m (c.in-Some.ensures.only m
    (subst (λ (l : List Entry). Gives c.as_slice-2.result.now c.args.counted (day_meant c.args.meant) l m) records
    (subst (λ (v : List ℕ). Gives v c.args.counted (day_meant c.args.meant) (main t.telegrams) m) vib t.gives)))

pub returns-clause-only : goal.returns-clause-only
returns-clause-only g c = λ refused n t.
    let id = c.args.run.now.identity in
    let bodies = sym (ap (map (λ b. b.items)) c.as_slice.ensures.value ∙ c.in_ok-bodies.ensures.ok) in
    let records = c.in_ok-records.ensures.one t.telegrams (subst (λ (l : List (List ℕ)). AreOf id l t.telegrams) bodies t.readout)
    ∙ ap (map view) (sym c.as_slice-records.ensures.value) in
    let vib = sym (c.as_slice-2.ensures.value ∙ c.in_ok-named.ensures.ok) in
    none_some n (c.in-None.ensures.only n
    (subst (λ (l : List Entry). Gives c.as_slice-2.result.now c.args.counted (day_meant c.args.meant) l n) records
    (subst (λ (v : List ℕ). Gives v c.args.counted (day_meant c.args.meant) (main t.telegrams) n) vib t.gives)))

pub returns-in_err-named-clause-ok : goal.returns-in_err-named-clause-ok
returns-in_err-named-clause-ok g c = grind (arith, common_steps)

pub returns-in_err-named-clause-one : goal.returns-in_err-named-clause-one
returns-in_err-named-clause-one g c = grind (arith, common_steps)

pub returns-in_err-named-clause-only : goal.returns-in_err-named-clause-only
returns-in_err-named-clause-only g c = grind (arith, common_steps)

pub returns-in_err-bodies-clause-ok : goal.returns-in_err-bodies-clause-ok
returns-in_err-bodies-clause-ok g c = grind (arith, common_steps)

pub returns-in_err-bodies-clause-one : goal.returns-in_err-bodies-clause-one
returns-in_err-bodies-clause-one g c = grind (arith, common_steps)

pub returns-in_err-bodies-clause-only : goal.returns-in_err-bodies-clause-only
returns-in_err-bodies-clause-only g c = grind (arith, common_steps)

pub returns-in_err-records-clause-ok : goal.returns-in_err-records-clause-ok
returns-in_err-records-clause-ok g c = grind (arith, common_steps)

pub returns-in_err-records-clause-one : goal.returns-in_err-records-clause-one
returns-in_err-records-clause-one g c = grind (arith, common_steps)

pub returns-in-Err-clause-only : goal.returns-in-Err-clause-only
returns-in-Err-clause-only g c = grind (arith, common_steps)

pub returns-in-Some-clause-ok : goal.returns-in-Some-clause-ok
returns-in-Some-clause-ok g c = grind (arith, common_steps)
