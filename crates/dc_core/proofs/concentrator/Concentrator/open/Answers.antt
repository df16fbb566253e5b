use Rattle.std.proofs.Common.{rules, ap, sym, subst}
use Rattle.mbdc_log.specs.Halves.{half_of}
use Rattle.dc_core.specs.PendingImages.{EachStands}
use Rattle.dc_core.specs.Waiting.{Waiting}
use Rattle.dc_core.specs.Images.{Machine}
use Rattle.dc_core.proofs.At.{at_opened}
use Rattle.dc_core.proofs.Headline.{stopped_reads}
use Rattle.dc_core.proofs.concentrator.Concentrator.open.Goals as goal

pub returns-clause-at : goal.returns-clause-at
returns-clause-at g c each =
    let new : Machine (g.row.D.Denot) = record { store = c.in_ok-store.store; house = c.in_ok-store.house; waiting = c.new.result; lines = c.new-2.result } in
    at_opened g.D.Disk c.in_ok-store.store.disk new c.in_ok-store.ensures.running (λ h. c.in_ok-store.ensures.kept (each h) h) c.new.ensures c.new-2.ensures

pub returns-clause-at_look : goal.returns-clause-at_look
returns-clause-at_look g c one =
    let new : Machine (g.row.D.Denot) = record { store = c.in_ok-store.store; house = c.in_ok-store.house; waiting = c.new.result; lines = c.new-2.result } in
    at_opened g.D.Disk c.in_ok-store.store.disk new c.in_ok-store.ensures.running (λ h. c.in_ok-store.ensures.keeps (one h).0 (one h).1 h) c.new.ensures c.new-2.ensures

pub returns-clause-the_headline : goal.returns-clause-the_headline
returns-clause-the_headline g c state done more was =
    let disk = c.args.disk in
    let new : Machine (g.row.D.Denot) = record { store = c.in_ok-store.store; house = c.in_ok-store.house; waiting = c.new.result; lines = c.new-2.result } in
    let opens = stopped_reads g.D.Disk g.met.D.Disk.only_now state done more was in
    let each = subst (EachStands (half_of g.D.Disk disk)) (sym opens.is_settled) opens.each in (
      each,
      λ h. (
        opens.kept new.house.state (c.in_ok-store.ensures.reads h),
        at_opened g.D.Disk new.store.disk new c.in_ok-store.ensures.running (c.in_ok-store.ensures.kept each) c.new.ensures c.new-2.ensures,
      ),
      λ enough. tt,
    )

pub returns-in_err-store-clause-the_headline : goal.returns-in_err-store-clause-the_headline
returns-in_err-store-clause-the_headline g c state done more was =
    let opens = stopped_reads g.D.Disk g.met.D.Disk.only_now state done more was in
    let each = subst (EachStands (half_of g.D.Disk c.args.disk)) (sym opens.is_settled) opens.each in
    (each, search rules, λ enough. let named = c.in_err-store.ensures.premise enough each in search rules)

pub returns-clause-on_any_disk : goal.returns-clause-on_any_disk
returns-clause-on_any_disk g c state done more is_settled holds =
    let disk = c.args.disk in
    let new : Machine (g.row.D.Denot) = record { store = c.in_ok-store.store; house = c.in_ok-store.house; waiting = c.new.result; lines = c.new-2.result } in
    let each = subst (EachStands (half_of g.D.Disk disk)) (sym is_settled) holds.premise in (
      each,
      λ h. (
        holds.kept new.house.state (c.in_ok-store.ensures.reads h),
        at_opened g.D.Disk new.store.disk new c.in_ok-store.ensures.running (c.in_ok-store.ensures.kept each) c.new.ensures c.new-2.ensures,
      ),
      λ enough. tt,
    )

pub returns-in_err-store-clause-on_any_disk : goal.returns-in_err-store-clause-on_any_disk
returns-in_err-store-clause-on_any_disk g c state done more is_settled holds =
    let each = subst (EachStands (half_of g.D.Disk c.args.disk)) (sym is_settled) holds.premise in
    (each, search rules, λ enough. let named = c.in_err-store.ensures.premise enough each in search rules)

pub returns-clause-empty : goal.returns-clause-empty
returns-clause-empty g c = ap (λ (w : Waiting). w.count) c.new.ensures

pub returns-clause-idle : goal.returns-clause-idle
returns-clause-idle g c = c.new-2.ensures
