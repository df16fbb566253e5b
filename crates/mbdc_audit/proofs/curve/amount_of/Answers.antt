use Rattle.std.proofs.Common.{Bool, ap, map, sym, ◌∙◌}
use Rattle.std.specs.Prelude.{if◌then◌else◌}
use Rattle.mbdc_audit.specs.declared.grade.Grade.TheVariants.{Estimated, Hand}
use Rattle.mbdc_audit.specs.View.{known_in, run_of}
use Rattle.mbdc_audit.proofs.Alone.{not_measured, nothing_put, told_order, told_other, told_same}
use Rattle.mbdc_audit.proofs.curve.amount_of.Goals as goal

pub returns-then-not-is_measured : goal.returns-then-not-is_measured
returns-then-not-is_measured g c = λ o p.
    not_measured (map run_of c.args.runs.now) (known_in c.args.values.now) c.args.from c.args.to c.in_ok-all.all
    (c.in_ok-all.ensures o p) (sym c.is_measured.ensures ∙ c.if-not-is_measured.true)

pub returns-then-not-is_any_so : goal.returns-then-not-is_any_so
returns-then-not-is_any_so g c = λ o p.
    nothing_put (map run_of c.args.runs.now) (known_in c.args.values.now) c.args.from c.args.to c.in_ok-all.all
    (c.in_ok-all.ensures o p) (sym c.is_measured.ensures ∙ c.if-not-is_measured.false)
    (sym c.is_any_so.ensures ∙ c.if-not-is_any_so.true)

pub returns-then-is_told : goal.returns-then-is_told
returns-then-is_told g c = λ o p.
    let runs = map run_of c.args.runs.now in
    let vs = known_in c.args.values.now in
    told_same runs vs c.args.from c.args.to c.in_ok-all.all c.in_ok-told.told c.is_told.result (c.in_ok-all.ensures o p)
    (sym c.is_measured.ensures ∙ c.if-not-is_measured.false) (c.in_ok-told.ensures (told_order runs vs o) p)
    c.is_told.ensures c.if-is_told.true

pub returns-then-is_any_so : goal.returns-then-is_any_so
returns-then-is_any_so g c = λ o p.
    let runs = map run_of c.args.runs.now in
    let vs = known_in c.args.values.now in
    told_other runs vs c.args.from c.args.to c.in_ok-all.all c.in_ok-told.told c.is_told.result Estimated
    (c.in_ok-all.ensures o p) (sym c.is_measured.ensures ∙ c.if-not-is_measured.false)
    (c.in_ok-told.ensures (told_order runs vs o) p) c.is_told.ensures c.if-is_told.false
    (ap (λ (b : Bool). if b then Estimated else Hand) (sym c.if-is_any_so.true ∙ c.is_any_so-2.ensures))

pub returns : goal.returns
returns g c = λ o p.
    let runs = map run_of c.args.runs.now in
    let vs = known_in c.args.values.now in
    told_other runs vs c.args.from c.args.to c.in_ok-all.all c.in_ok-told.told c.is_told.result Hand
    (c.in_ok-all.ensures o p) (sym c.is_measured.ensures ∙ c.if-not-is_measured.false)
    (c.in_ok-told.ensures (told_order runs vs o) p) c.is_told.ensures c.if-is_told.false
    (ap (λ (b : Bool). if b then Estimated else Hand) (sym c.if-is_any_so.false ∙ c.is_any_so-2.ensures))
