use Rattle.std.proofs.Common.{rules, tests, map, refl}
use Rattle.std.proofs.lemmas.Bool.{false≢true}
use Rattle.std.proofs.lemmas.Iterator.{YieldsList-from_slice}
use Rattle.std.proofs.lemmas.Iterator.Search.{all_from_yields_List}
use Rattle.dc_records.specs.Record.{view}
use Rattle.dc_records.specs.declared.record.Record.{Record}
use Rattle.mbdc_audit.specs.Dates.{is_once, may_be_own, may_be_stored}
use Rattle.mbdc_audit.proofs.Days.{all_hold, not_once, not_own, not_stored}
use Rattle.mbdc_audit.proofs.evidence.check_dates.Goals as goal

pub returns-then-not-all : goal.returns-then-not-all
returns-then-not-all c =
    let rs = c.args.records.now in
    let all = all_from_yields_List (λ (r : Record). is_once (map view rs) (view r)) _ _ c.all.result c.all.ensures.ran (YieldsList-from_slice rs cc) (λ x b q k. search (rules, tests)) in
    (λ e. absurd (false≢true e), λ h. absurd (not_once view rs c.all.result all c.if-not-all.true h.0))

pub returns-then-not-all-2 : goal.returns-then-not-all-2
returns-then-not-all-2 c =
    let rs = c.args.records.now in
    let all = all_from_yields_List (λ (r : Record). may_be_own c.args.meant (view r)) _ _ c.all-2.result c.all-2.ensures.ran (YieldsList-from_slice rs cc) (λ x b q k. search (rules, tests)) in
    (λ e. absurd (false≢true e), λ h. absurd (not_own c.args.meant view rs c.all-2.result all c.if-not-all-2.true h.1))

pub returns-then-not-all-3 : goal.returns-then-not-all-3
returns-then-not-all-3 c =
    let rs = c.args.records.now in
    let all = all_from_yields_List (λ (r : Record). may_be_stored c.args.meant (view r)) _ _ c.all-3.result c.all-3.ensures.ran (YieldsList-from_slice rs cc) (λ x b q k. search (rules, tests)) in
    (λ e. absurd (false≢true e), λ h. absurd (not_stored c.args.meant view rs c.all-3.result all c.if-not-all-3.true h.1))

pub returns : goal.returns
returns c =
    let rs = c.args.records.now in
    let once = all_from_yields_List (λ (r : Record). is_once (map view rs) (view r)) _ _ c.all.result c.all.ensures.ran (YieldsList-from_slice rs cc) (λ x b q k. search (rules, tests)) in
    let own = all_from_yields_List (λ (r : Record). may_be_own c.args.meant (view r)) _ _ c.all-2.result c.all-2.ensures.ran (YieldsList-from_slice rs cc) (λ x b q k. search (rules, tests)) in
    let stored = all_from_yields_List (λ (r : Record). may_be_stored c.args.meant (view r)) _ _ c.all-3.result c.all-3.ensures.ran (YieldsList-from_slice rs cc) (λ x b q k. search (rules, tests)) in (
      λ e. all_hold c.args.meant view rs c.all.result c.all-2.result c.all-3.result once own stored
          c.if-not-all.false c.if-not-all-2.false c.if-not-all-3.false,
      λ h. refl,
    )
