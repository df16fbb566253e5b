use Rattle.std.proofs.Common.{rules, tests, ◌≡◌}
use Rattle.mbdc_audit.specs.View.{end_or, run_of}
use Rattle.mbdc_audit.proofs.Rests.{by_ended, by_read, by_stored, ok, one, only}
use Rattle.mbdc_audit.proofs.readings.found_of.Goals as goal

pub returns-in-Read-clause-one : goal.returns-in-Read-clause-one
returns-in-Read-clause-one g c = one (run_of c.args.run.now) c.args.counted c.args.value.now _
    (by_read (run_of c.args.run.now) c.args.counted c.args.value.now c.in-Read.is) c.value_of.result c.value_of.ensures.one

pub returns-in-Read-clause-only : goal.returns-in-Read-clause-only
returns-in-Read-clause-only g c = only (run_of c.args.run.now) c.args.counted c.args.value.now _
    (by_read (run_of c.args.run.now) c.args.counted c.args.value.now c.in-Read.is) c.value_of.result c.value_of.ensures.only

pub returns-in-Stored-clause-ok : goal.returns-in-Stored-clause-ok
returns-in-Stored-clause-ok g c =
    let day : c.map_or-day.result ≡ (end_or c.args.value.now.end).day = search (rules, tests) in
    ok (run_of c.args.run.now) c.args.counted c.args.value.now _
    (by_stored (run_of c.args.run.now) c.args.counted c.args.value.now _ day c.in-Stored.is) c.value_of-in-Stored.result c.value_of-in-Stored.ensures.ok

pub returns-in-Stored-clause-one : goal.returns-in-Stored-clause-one
returns-in-Stored-clause-one g c =
    let day : c.map_or-day.result ≡ (end_or c.args.value.now.end).day = search (rules, tests) in
    one (run_of c.args.run.now) c.args.counted c.args.value.now _
    (by_stored (run_of c.args.run.now) c.args.counted c.args.value.now _ day c.in-Stored.is) c.value_of-in-Stored.result c.value_of-in-Stored.ensures.one

pub returns-in-Stored-clause-only : goal.returns-in-Stored-clause-only
returns-in-Stored-clause-only g c =
    let day : c.map_or-day.result ≡ (end_or c.args.value.now.end).day = search (rules, tests) in
    only (run_of c.args.run.now) c.args.counted c.args.value.now _
    (by_stored (run_of c.args.run.now) c.args.counted c.args.value.now _ day c.in-Stored.is) c.value_of-in-Stored.result c.value_of-in-Stored.ensures.only

pub returns-in-Ended-clause-ok : goal.returns-in-Ended-clause-ok
returns-in-Ended-clause-ok g c =
    let day : c.map_or-day.result ≡ (end_or c.args.value.now.end).day = search (rules, tests) in
    ok (run_of c.args.run.now) c.args.counted c.args.value.now _
    (by_ended (run_of c.args.run.now) c.args.counted c.args.value.now _ day c.in-Ended.is) c.value_of-in-Ended.result c.value_of-in-Ended.ensures.ok

pub returns-in-Ended-clause-one : goal.returns-in-Ended-clause-one
returns-in-Ended-clause-one g c =
    let day : c.map_or-day.result ≡ (end_or c.args.value.now.end).day = search (rules, tests) in
    one (run_of c.args.run.now) c.args.counted c.args.value.now _
    (by_ended (run_of c.args.run.now) c.args.counted c.args.value.now _ day c.in-Ended.is) c.value_of-in-Ended.result c.value_of-in-Ended.ensures.one

pub returns-in-Ended-clause-only : goal.returns-in-Ended-clause-only
returns-in-Ended-clause-only g c =
    let day : c.map_or-day.result ≡ (end_or c.args.value.now.end).day = search (rules, tests) in
    only (run_of c.args.run.now) c.args.counted c.args.value.now _
    (by_ended (run_of c.args.run.now) c.args.counted c.args.value.now _ day c.in-Ended.is) c.value_of-in-Ended.result c.value_of-in-Ended.ensures.only
