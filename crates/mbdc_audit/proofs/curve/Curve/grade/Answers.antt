use Rattle.std.proofs.Common.{◌∙◌, List, true, false, not, length, map, sym, ap}
use Rattle.mbdc_audit.specs.Consumption.Mark.{marked_in}
use Rattle.mbdc_audit.specs.declared.consumption.entry.Entry.{Entry}
use Rattle.mbdc_audit.specs.View.{run_of}
use Rattle.mbdc_audit.proofs.Marks.{Known, is_by, is_disturbed, is_guessed, is_missing, is_provisional, is_unclear, more, none}
use Rattle.mbdc_audit.proofs.curve.Curve.grade.Goals as goal

pub returns-then-backwards-gt0 : goal.returns-then-backwards-gt0
returns-then-backwards-gt0 g c = λ e.
    let v = c.args.self.now in
    let k : Known (map run_of v.runs.now) v.values.items v.entries.items =
    record { found = v.found; counted = v.counted; same = v.same } in
    let n = c.backwards.ensures ∙ ap (λ (l : List Entry). length (marked_in l c.args.from c.args.to)) c.as_slice.ensures.value in
    is_disturbed (map run_of v.runs.now) v.values.items v.entries.items c.args.from c.args.to c.args.amount k e
    (more c.backwards.result (length (marked_in v.entries.items c.args.from c.args.to)) n c.if-backwards-gt0.true)

pub returns-then-not-is_clear : goal.returns-then-not-is_clear
returns-then-not-is_clear g c = λ e.
    let v = c.args.self.now in
    let k : Known (map run_of v.runs.now) v.values.items v.entries.items =
    record { found = v.found; counted = v.counted; same = v.same } in
    let n = c.backwards.ensures ∙ ap (λ (l : List Entry). length (marked_in l c.args.from c.args.to)) c.as_slice.ensures.value in
    is_unclear (map run_of v.runs.now) v.values.items v.entries.items c.args.from c.args.to c.args.amount k e
    (none c.backwards.result (length (marked_in v.entries.items c.args.from c.args.to)) n c.if-backwards-gt0.false)
    (sym c.is_clear.ensures ∙ c.if-not-is_clear.true)

pub returns-then-is_none : goal.returns-then-is_none
returns-then-is_none g c = λ e.
    let v = c.args.self.now in
    let k : Known (map run_of v.runs.now) v.values.items v.entries.items =
    record { found = v.found; counted = v.counted; same = v.same } in
    let n = c.backwards.ensures ∙ ap (λ (l : List Entry). length (marked_in l c.args.from c.args.to)) c.as_slice.ensures.value in
    is_missing (map run_of v.runs.now) v.values.items v.entries.items c.args.from c.args.to c.args.amount k e
    (none c.backwards.result (length (marked_in v.entries.items c.args.from c.args.to)) n c.if-backwards-gt0.false)
    (sym c.is_clear.ensures ∙ c.if-not-is_clear.false) (c.is_none.ensures ∙ ap not c.if-is_none.true)

pub returns-then-is_estimated : goal.returns-then-is_estimated
returns-then-is_estimated g c = λ e.
    let v = c.args.self.now in
    let k : Known (map run_of v.runs.now) v.values.items v.entries.items =
    record { found = v.found; counted = v.counted; same = v.same } in
    let n = c.backwards.ensures ∙ ap (λ (l : List Entry). length (marked_in l c.args.from c.args.to)) c.as_slice.ensures.value in
    is_guessed (map run_of v.runs.now) v.values.items v.entries.items c.args.from c.args.to c.args.amount k e
    (none c.backwards.result (length (marked_in v.entries.items c.args.from c.args.to)) n c.if-backwards-gt0.false)
    (sym c.is_clear.ensures ∙ c.if-not-is_clear.false) (c.is_none.ensures ∙ ap not c.if-is_none.false)
    (sym c.is_estimated.ensures ∙ c.if-is_estimated.true)

pub returns-then-not-is_final : goal.returns-then-not-is_final
returns-then-not-is_final g c = λ e.
    let v = c.args.self.now in
    let k : Known (map run_of v.runs.now) v.values.items v.entries.items =
    record { found = v.found; counted = v.counted; same = v.same } in
    let n = c.backwards.ensures ∙ ap (λ (l : List Entry). length (marked_in l c.args.from c.args.to)) c.as_slice.ensures.value in
    is_provisional (map run_of v.runs.now) v.values.items v.entries.items c.args.from c.args.to c.args.amount k e
    (none c.backwards.result (length (marked_in v.entries.items c.args.from c.args.to)) n c.if-backwards-gt0.false)
    (sym c.is_clear.ensures ∙ c.if-not-is_clear.false) (c.is_none.ensures ∙ ap not c.if-is_none.false)
    (sym c.is_estimated.ensures ∙ c.if-is_estimated.false) (sym c.is_final.ensures ∙ c.if-not-is_final.true)

pub returns-then-rests_on : goal.returns-then-rests_on
returns-then-rests_on g c = λ e.
    let v = c.args.self.now in
    let k : Known (map run_of v.runs.now) v.values.items v.entries.items =
    record { found = v.found; counted = v.counted; same = v.same } in
    let n = c.backwards.ensures ∙ ap (λ (l : List Entry). length (marked_in l c.args.from c.args.to)) c.as_slice.ensures.value in
    is_by (map run_of v.runs.now) v.values.items v.entries.items c.args.from c.args.to c.args.amount k e
    (none c.backwards.result (length (marked_in v.entries.items c.args.from c.args.to)) n c.if-backwards-gt0.false)
    (sym c.is_clear.ensures ∙ c.if-not-is_clear.false) (c.is_none.ensures ∙ ap not c.if-is_none.false)
    (sym c.is_estimated.ensures ∙ c.if-is_estimated.false) (sym c.is_final.ensures ∙ c.if-not-is_final.false) true (sym c.rests_on.ensures ∙ c.if-rests_on.true)

pub returns : goal.returns
returns g c = λ e.
    let v = c.args.self.now in
    let k : Known (map run_of v.runs.now) v.values.items v.entries.items =
    record { found = v.found; counted = v.counted; same = v.same } in
    let n = c.backwards.ensures ∙ ap (λ (l : List Entry). length (marked_in l c.args.from c.args.to)) c.as_slice.ensures.value in
    is_by (map run_of v.runs.now) v.values.items v.entries.items c.args.from c.args.to c.args.amount k e
    (none c.backwards.result (length (marked_in v.entries.items c.args.from c.args.to)) n c.if-backwards-gt0.false)
    (sym c.is_clear.ensures ∙ c.if-not-is_clear.false) (c.is_none.ensures ∙ ap not c.if-is_none.false)
    (sym c.is_estimated.ensures ∙ c.if-is_estimated.false) (sym c.is_final.ensures ∙ c.if-not-is_final.false) false (sym c.rests_on.ensures ∙ c.if-rests_on.false)
