use Rattle.std.proofs.Common.{◌∙◌, ap, rules, is_some}
use Rattle.std.specs.Prelude.{codes}
use Rattle.mbdc_audit.specs.declared.field.Kind.{Kind}
use Rattle.mbdc_audit.specs.declared.field.Kind.TheVariants as kind
use Rattle.mbdc_audit.specs.Line.{IsDayOf, IsTypeOf, is_of}
use Rattle.mbdc_audit.specs.Uses.{counted_named}
use Rattle.mbdc_audit.proofs.Forms.{above_0_as, any_kind, as_kind, dash_no_ratio, dash_no_whole, how, identity_iff, mark_no_decimal, nothing, number_of, or_word, same_test, says_as, says_decimal, some_iff, word_iff}
use Rattle.mbdc_audit.proofs.field.Kind.read.Goals as goal

pub returns-in-Any : goal.returns-in-Any
returns-in-Any c =
    let form = any_kind c.args.self c.args.field.now c.in-Any.is in
    record { found = form.found; only = form.only }

pub returns-in-Two : goal.returns-in-Two
returns-in-Two c =
    let form = as_kind c.args.self kind.Two c.args.field.now c.then_some.result c.in-Two.is
    (nothing _ _ c.then_some.result c.then_some.ensures (rw c.is_word.ensures (word_iff c.args.field.now (codes "2")))) in
    record { found = form.found; only = form.only }

pub returns-in-Dash : goal.returns-in-Dash
returns-in-Dash c =
    let form = as_kind c.args.self kind.Dash c.args.field.now c.then_some-in-Dash.result c.in-Dash.is
    (nothing _ _ c.then_some-in-Dash.result c.then_some-in-Dash.ensures (rw c.is_word-in-Dash.ensures (word_iff c.args.field.now (codes "-")))) in
    record { found = form.found; only = form.only }

pub returns-in-Month : goal.returns-in-Month
returns-in-Month c =
    let form = as_kind c.args.self kind.Month c.args.field.now c.then_some-in-Month.result c.in-Month.is
    (nothing _ c.is_month.result c.then_some-in-Month.result c.then_some-in-Month.ensures (c.is_month.ensures)) in
    record { found = form.found; only = form.only }

pub returns-in-Use : goal.returns-in-Use
returns-in-Use c =
    let form = as_kind c.args.self kind.Use c.args.field.now c.then_some-in-Use.result c.in-Use.is
    (nothing _ c.is_of.result c.then_some-in-Use.result c.then_some-in-Use.ensures (same_test c.is_of.result (is_of kind.Use 32 c.args.field.now) (c.is_of.ensures ∙ ap (λ (k : Kind). is_of k 32 c.args.field.now) c.in-Use.is))) in
    record { found = form.found; only = form.only }

pub returns-in-Flat : goal.returns-in-Flat
returns-in-Flat c =
    let form = as_kind c.args.self kind.Flat c.args.field.now c.then_some-in-Flat.result c.in-Flat.is
    (nothing _ c.is_of-in-Flat.result c.then_some-in-Flat.result c.then_some-in-Flat.ensures (same_test c.is_of-in-Flat.result (is_of kind.Flat 12 c.args.field.now) (c.is_of-in-Flat.ensures ∙ ap (λ (k : Kind). is_of k 12 c.args.field.now) c.in-Flat.is))) in
    record { found = form.found; only = form.only }

pub returns-in-Why : goal.returns-in-Why
returns-in-Why c =
    let form = as_kind c.args.self kind.Why c.args.field.now c.then_some-in-Why.result c.in-Why.is
    (nothing _ c.is_of-in-Why.result c.then_some-in-Why.result c.then_some-in-Why.ensures (same_test c.is_of-in-Why.result (is_of kind.Why 60 c.args.field.now) (c.is_of-in-Why.ensures ∙ ap (λ (k : Kind). is_of k 60 c.args.field.now) c.in-Why.is))) in
    record { found = form.found; only = form.only }

pub returns-in-Vib : goal.returns-in-Vib
returns-in-Vib c =
    let form = as_kind c.args.self kind.Vib c.args.field.now c.then_some-in-Vib.result c.in-Vib.is
    (nothing _ c.is_vib.result c.then_some-in-Vib.result c.then_some-in-Vib.ensures (c.is_vib.ensures)) in
    record { found = form.found; only = form.only }

pub returns-in-Bodies : goal.returns-in-Bodies
returns-in-Bodies c =
    let form = as_kind c.args.self kind.Bodies c.args.field.now c.then_some-in-Bodies.result c.in-Bodies.is
    (nothing _ c.are_bodies.result c.then_some-in-Bodies.result c.then_some-in-Bodies.ensures (c.are_bodies.ensures)) in
    record { found = form.found; only = form.only }

pub returns-in-Identity : goal.returns-in-Identity
returns-in-Identity c =
    let form = as_kind c.args.self kind.Identity c.args.field.now c.then_some-in-Identity.result c.in-Identity.is
    (nothing _ c.is_ok.result c.then_some-in-Identity.result c.then_some-in-Identity.ensures (identity_iff c.args.field.now c.parse_text.result c.is_ok.result c.is_ok.ensures.value (search rules) c.parse_text.ensures.found c.parse_text.ensures.only)) in
    record { found = form.found; only = form.only }

pub returns-in-Quantity : goal.returns-in-Quantity
returns-in-Quantity c =
    let form = as_kind c.args.self kind.Quantity c.args.field.now c.then_some-in-Quantity.result c.in-Quantity.is
    (nothing _ c.is_some.result c.then_some-in-Quantity.result c.then_some-in-Quantity.ensures (some_iff (counted_named c.args.field.now) c.is_some.result (c.is_some.ensures ∙ ap is_some c.named.ensures))) in
    record { found = form.found; only = form.only }

pub returns-in-Text : goal.returns-in-Text
returns-in-Text c =
    let form = as_kind c.args.self kind.Text c.args.field.now c.then_some-in-Text.result c.in-Text.is
    (nothing _ c.is_text.result c.then_some-in-Text.result c.then_some-in-Text.ensures (c.is_text.ensures)) in
    record { found = form.found; only = form.only }

pub returns-in-Whole : goal.returns-in-Whole
returns-in-Whole c =
    let form = as_kind c.args.self kind.Whole c.args.field.now c.number.result c.in-Whole.is
    (says_as c.whole_in.result _ c.number.result c.number.ensures c.whole_in.ensures.value) in
    record { found = form.found; only = form.only }

pub returns-in-Ratio : goal.returns-in-Ratio
returns-in-Ratio c =
    let form = as_kind c.args.self kind.Ratio c.args.field.now c.number-in-Ratio.result c.in-Ratio.is
    (says_as c.ratio_in.result _ c.number-in-Ratio.result c.number-in-Ratio.ensures c.ratio_in.ensures) in
    record { found = form.found; only = form.only }

pub returns-in-Offset : goal.returns-in-Offset
returns-in-Offset c =
    let form = as_kind c.args.self kind.Offset c.args.field.now c.number-in-Offset.result c.in-Offset.is
    (says_as c.offset_in.result _ c.number-in-Offset.result c.number-in-Offset.ensures c.offset_in.ensures) in
    record { found = form.found; only = form.only }

pub returns-in-WholeOrNone : goal.returns-in-WholeOrNone
returns-in-WholeOrNone c =
    let form = as_kind c.args.self kind.WholeOrNone c.args.field.now c.unless.result c.in-WholeOrNone.is
    (or_word (codes "-") _ c.args.field.now c.number-in-WholeOrNone.result c.unless.result c.unless.ensures (says_as c.whole_in-in-WholeOrNone.result _ c.number-in-WholeOrNone.result c.number-in-WholeOrNone.ensures c.whole_in-in-WholeOrNone.ensures.value) (dash_no_whole c.args.field.now)) in
    record { found = form.found; only = form.only }

pub returns-in-Positive : goal.returns-in-Positive
returns-in-Positive c =
    let form = as_kind c.args.self kind.Positive c.args.field.now c.above_0.result c.in-Positive.is
    (above_0_as c.ratio_in-in-Positive.result _ c.above_0.result c.ratio_in-in-Positive.ensures c.above_0.ensures.found c.above_0.ensures.only) in
    record { found = form.found; only = form.only }

pub returns-in-PositiveOrNone : goal.returns-in-PositiveOrNone
returns-in-PositiveOrNone c =
    let form = as_kind c.args.self kind.PositiveOrNone c.args.field.now c.unless-in-PositiveOrNone.result c.in-PositiveOrNone.is
    (or_word (codes "-") _ c.args.field.now c.above_0-in-PositiveOrNone.result c.unless-in-PositiveOrNone.result c.unless-in-PositiveOrNone.ensures (above_0_as c.ratio_in-in-PositiveOrNone.result _ c.above_0-in-PositiveOrNone.result c.ratio_in-in-PositiveOrNone.ensures c.above_0-in-PositiveOrNone.ensures.found c.above_0-in-PositiveOrNone.ensures.only) (dash_no_ratio c.args.field.now)) in
    record { found = form.found; only = form.only }

pub returns-in-Decimal : goal.returns-in-Decimal
returns-in-Decimal c =
    let form = as_kind c.args.self kind.Decimal c.args.field.now c.decimal.result c.in-Decimal.is
    (says_decimal _ c.decimal.result c.decimal.ensures) in
    record { found = form.found; only = form.only }

pub returns-in-Exact : goal.returns-in-Exact
returns-in-Exact c =
    let form = as_kind c.args.self kind.Exact c.args.field.now c.unless-in-Exact.result c.in-Exact.is
    (or_word (codes "?") _ c.args.field.now c.decimal-in-Exact.result c.unless-in-Exact.result c.unless-in-Exact.ensures (says_decimal _ c.decimal-in-Exact.result c.decimal-in-Exact.ensures) (mark_no_decimal c.args.field.now)) in
    record { found = form.found; only = form.only }

pub returns-in-Day : goal.returns-in-Day
returns-in-Day c =
    let form = as_kind c.args.self kind.Day c.args.field.now c.number-in-Day.result c.in-Day.is
    (number_of (IsDayOf c.args.field.now) c.day_in.result c.number-in-Day.result c.number-in-Day.ensures c.day_in.ensures.found c.day_in.ensures.only) in
    record { found = form.found; only = form.only }

pub returns-in-Type : goal.returns-in-Type
returns-in-Type c =
    let form = as_kind c.args.self kind.Type c.args.field.now c.number-in-Type.result c.in-Type.is
    (number_of (IsTypeOf c.args.field.now) c.type_in.result c.number-in-Type.result c.number-in-Type.ensures c.type_in.ensures.found c.type_in.ensures.only) in
    record { found = form.found; only = form.only }

pub returns-in-How : goal.returns-in-How
returns-in-How c =
    let form = as_kind c.args.self kind.How c.args.field.now c.number-in-How.result c.in-How.is
    (how c.args.field.now c.how_in.result c.number-in-How.result c.number-in-How.ensures c.how_in.ensures) in
    record { found = form.found; only = form.only }
