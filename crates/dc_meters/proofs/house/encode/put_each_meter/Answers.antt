use Rattle.std.proofs.Common.{rules, ◌≡◌, List, [], ◌∷◌, ◌++◌, ap, sym, subst, ◌∙◌, append_assoc}
use Rattle.std.specs.List.{flat_map}
use Rattle.dc_address.specs.declared.identity.Identity.{Identity}
use Rattle.mbdc_change.specs.State.{MeterRow}
use Rattle.mbdc_change.specs.Encoding.{meter_bytes}
use Rattle.mbdc_io.specs.Written.{IsStopped}
use Rattle.mbdc_io.proofs.Writes.{written_none, written_both, stopped_first, stopped_second}
use Rattle.mbdc_io.proofs.Writes.{on_any_err}
use Rattle.dc_meters.proofs.house.encode.put_each_meter.Goals as goal

pub loop-meter-init : goal.loop-meter-init
loop-meter-init g c =
    let same : c.into_iter-meter-iterator.result ≡ c.args.meters.now.entries = search rules in
    ([], written_none c.args.sink.now, ap (λ (es : List (Identity × MeterRow)). flat_map meter_bytes es) same)

pub loop-meter-preserved : goal.loop-meter-preserved
loop-meter-preserved g c =
    let e : Identity × MeterRow = (c.in-Some.meter.now, c.in-Some.row.now) in
    let before = c.loop-meter.invariant in
    let left : c.loop-meter.meter-iterator ≡ e ∷ c.next.new.self = search rules in
    let all : (before.0 ++ meter_bytes e) ++ flat_map meter_bytes c.next.new.self ≡ flat_map meter_bytes c.args.meters.now.entries =
    append_assoc before.0 (meter_bytes e) (flat_map meter_bytes c.next.new.self) ∙ ap (λ (es : List (Identity × MeterRow)). before.0 ++ flat_map meter_bytes es) (sym left) ∙ before.2 in
    (before.0 ++ meter_bytes e, written_both before.1 c.in_ok-put_meter.ensures.ok, all)

pub returns-in_err-put_meter-clause-err : goal.returns-in_err-put_meter-clause-err
returns-in_err-put_meter-clause-err g c =
    let e : Identity × MeterRow = (c.in-Some.meter.now, c.in-Some.row.now) in
    let before = c.loop-meter.invariant in
    let left : c.loop-meter.meter-iterator ≡ e ∷ c.next.new.self = search rules in
    let all : (before.0 ++ meter_bytes e) ++ flat_map meter_bytes c.next.new.self ≡ flat_map meter_bytes c.args.meters.now.entries =
    append_assoc before.0 (meter_bytes e) (flat_map meter_bytes c.next.new.self) ∙ ap (λ (es : List (Identity × MeterRow)). before.0 ++ flat_map meter_bytes es) (sym left) ∙ before.2 in
    on_any_err _ (subst (IsStopped g.S.Sink c.args.sink.now c.put_meter.new.sink) all (stopped_first (flat_map meter_bytes c.next.new.self) (stopped_second before.1 c.in_err-put_meter.ensures.err)))
