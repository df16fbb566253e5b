use Rattle.std.proofs.Common.{ℕ, sym, ap, ◌∙◌, subst, map, List, Result, Ok, Err, arith}
use Rattle.std.specs.Prelude.{IfErr}
use Rattle.std.proofs.lemmas.Bool.{false≢true}
use Rattle.std.proofs.lemmas.Grind.{common_steps}
use Rattle.dc_records.specs.Body.{continues}
use Rattle.dc_records.specs.Record.{view}
use Rattle.dc_records.specs.Telegram.{Parsed, parsed}
use Rattle.mbdc_audit.specs.Evidence.{AreOf, IsOf}
use Rattle.mbdc_audit.specs.Walk.{IsRefused}
use Rattle.mbdc_audit.proofs.Bare.{nil}
use Rattle.mbdc_audit.proofs.Readouts.{Continues, Walked, done, goes_by, goes_none, none, only_one, step, stops}
use Rattle.mbdc_audit.proofs.evidence.records_of.Goals.{else-not-is_empty-via-then-not-is_empty+else-not-more_follows, else-not-is_empty-via-else-not-is_empty}
use Rattle.mbdc_audit.proofs.evidence.records_of.Goals as goal

for_err : {T E : Type 0} (r : Result T E) (P : E → Type 0) → ((e : E) → P e) → IfErr r P
for_err (Ok x) P f = tt
for_err (Err e) P f = f e

pub returns-in_err-telegram-clause-only : goal.returns-in_err-telegram-clause-only
returns-in_err-telegram-clause-only g c =
    let id = c.args.run.now.identity in
    let all = map (λ b. b.items) c.args.bodies.now in
    let w = subst (λ l. Walked id all (map (λ b. b.items) l) (map view c.bodies.records.items)) c.in-Some.ensures.cases.0 c.bodies.invariant in
    for_err c.from_residual.result (λ s. IsRefused s → (us : List Parsed) → AreOf id all us → ⊥) (λ e refused. none id all _ _ _ w
    (λ t is goes. c.in_err-telegram.ensures.only t (subst (λ (x : List ℕ). IsOf id x t) (sym c.as_slice.ensures.value) is)))

pub returns-then-not-more_follows-clause-only : goal.returns-then-not-more_follows-clause-only
returns-then-not-more_follows-clause-only g c = λ refused.
    let id = c.args.run.now.identity in
    let all = map (λ b. b.items) c.args.bodies.now in
    let w = subst (λ l. Walked id all (map (λ b. b.items) l) (map view c.bodies.records.items)) c.in-Some.ensures.cases.0 c.bodies.invariant in
    none id all _ _ _ w (λ t is goes.
    let more = stops (λ b. b.items) c.in-Some.rest.now t c.if-not-is_empty.ensures goes in
    let same = c.in_ok-telegram.ensures.one t (subst (λ (x : List ℕ). IsOf id x t) (sym c.as_slice.ensures.value) is) in
    absurd (false≢true (c.if-not-more_follows.ensures ∙ (ap (λ (x : Parsed). continues x.ending) same ∙ more))))

pub bodies-preserved : goal.bodies-preserved
bodies-preserved g c =
    let id = c.args.run.now.identity in
    let all = map (λ b. b.items) c.args.bodies.now in
    let w = subst (λ l. Walked id all (map (λ b. b.items) l) (map view c.bodies.records.items)) c.in-Some.ensures.cases.0 c.bodies.invariant in
    let t = parsed c.in_ok-telegram.telegram in
    let goes : Continues (map (λ b. b.items) c.in-Some.rest.now) t = elim c.else-not-is_empty.branch [
      | else-not-is_empty-via-then-not-is_empty+else-not-more_follows v ↦ goes_by (λ b. b.items) c.in-Some.rest.now t (sym v.more_follows.ensures ∙ v.if-not-more_follows.false)
      | else-not-is_empty-via-else-not-is_empty v ↦ goes_none (λ b. b.items) c.in-Some.rest.now t (sym c.is_empty.ensures ∙ v.if-not-is_empty.false)
    ] in
    subst (λ l. Walked id all (map (λ b. b.items) c.in-Some.rest.now) l) (sym c.in_ok-push_records.ensures.ok)
    (step id all _ _ _ t (subst (λ (x : List ℕ). IsOf id x t) c.as_slice.ensures.value c.in_ok-telegram.ensures.ok)
    (λ u is. c.in_ok-telegram.ensures.one u (subst (λ (x : List ℕ). IsOf id x u) (sym c.as_slice.ensures.value) is)) goes w)

pub returns-clause-ok : goal.returns-clause-ok
returns-clause-ok g c =
    let id = c.args.run.now.identity in
    let all = map (λ b. b.items) c.args.bodies.now in
    done id all _ (subst (λ l. Walked id all (map (λ b. b.items) l) (map view c.bodies.records.items))
    (nil c.bodies.left.now c.in_default.ensures.cases) c.bodies.invariant)

pub returns-clause-one : goal.returns-clause-one
returns-clause-one g c =
    let id = c.args.run.now.identity in
    let all = map (λ b. b.items) c.args.bodies.now in
    only_one id all _ (subst (λ l. Walked id all (map (λ b. b.items) l) (map view c.bodies.records.items))
    (nil c.bodies.left.now c.in_default.ensures.cases) c.bodies.invariant)

pub returns-in_err-telegram-clause-ok : goal.returns-in_err-telegram-clause-ok
returns-in_err-telegram-clause-ok g c = grind (arith, common_steps)

pub returns-in_err-telegram-clause-one : goal.returns-in_err-telegram-clause-one
returns-in_err-telegram-clause-one g c = grind (arith, common_steps)

pub returns-in_err-push_records-clause-ok : goal.returns-in_err-push_records-clause-ok
returns-in_err-push_records-clause-ok g c = grind (arith, common_steps)

pub returns-in_err-push_records-clause-one : goal.returns-in_err-push_records-clause-one
returns-in_err-push_records-clause-one g c = grind (arith, common_steps)

pub returns-in_err-push_records-clause-only : goal.returns-in_err-push_records-clause-only
returns-in_err-push_records-clause-only g c = grind (arith, common_steps)

pub bodies-smaller : goal.bodies-smaller
bodies-smaller g c = grind (arith, common_steps)
