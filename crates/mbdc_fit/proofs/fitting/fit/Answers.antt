use Rattle.std.proofs.Common.{◌≡◌, ◌∙◌, ℕ, List, length, eqb-true, subst, sym}
use Rattle.mbdc_change.specs.History.{AcceptsAll}
use Rattle.mbdc_change.specs.Spelled.{SpellsChanges}
use Rattle.mbdc_change.specs.declared.change.Change.{Change}
use Rattle.mbdc_fit.proofs.Fitted.{all_standing, all_written, all_wrong, some_written}
use Rattle.mbdc_fit.proofs.fitting.fit.Goals as goal

pub returns-then-is_wrong-clause-fitted : goal.returns-then-is_wrong-clause-fitted
returns-then-is_wrong-clause-fitted g c =
    let plan = c.in_ok-plan.plan in
    let planned = c.in_ok-plan.ensures.met in
    let group = c.in_ok-plan.ensures.one_group in
    all_wrong g.D.Disk c.args.wish.now c.args.house.now plan planned group (sym c.is_wrong-is_wrong.ensures ∙ c.if-is_wrong.true) c.args.store.now

pub returns-then-is_empty-clause-fitted : goal.returns-then-is_empty-clause-fitted
returns-then-is_empty-clause-fitted g c =
    let plan = c.in_ok-plan.plan in
    let planned = c.in_ok-plan.ensures.met in
    let group = c.in_ok-plan.ensures.one_group in
    let none : length c.changes.result.now ≡ 0 = eqb-true _ _ cc in
    all_standing g.D.Disk c.args.wish.now c.args.house.now plan planned group (sym c.is_wrong-is_wrong.ensures ∙ c.if-is_wrong.false) (subst (λ (b : List ℕ). length b ≡ 0) c.changes.ensures none) c.args.store.now

pub returns-in-Ok-write_changes-clause-fitted : goal.returns-in-Ok-write_changes-clause-fitted
returns-in-Ok-write_changes-clause-fitted g c =
    let plan = c.in_ok-plan.plan in
    let planned = c.in_ok-plan.ensures.met in
    let all = c.in-Ok.ensures.ok in
    let changes : List Change = all.0 in
    let spells = subst (λ (b : List ℕ). SpellsChanges b changes) c.changes-2.ensures all.1 in
    let written = subst (λ (b : List ℕ). SpellsChanges b changes) (sym c.changes-3.ensures) spells in
    let fine = subst (λ (n : ℕ). AcceptsAll n c.args.house.now.state changes) c.requires all.2 in
    all_written g.D.Disk c.args.wish.now c.args.house.now plan planned changes spells all.2 (sym c.is_wrong-is_wrong.ensures ∙ c.if-is_wrong.false) c.args.store.now c.write_changes.new.store
    (λ keeps. c.write_changes.ensures.any_moment c.args.house.now.state changes keeps written fine all.3)
    (λ keeps. c.in-Ok-write_changes.ensures.kept c.args.house.now.state changes keeps written fine all.3)

pub returns-in-Err-clause-broken : goal.returns-in-Err-clause-broken
returns-in-Err-clause-broken g c =
    let plan = c.in_ok-plan.plan in
    let planned = c.in_ok-plan.ensures.met in
    let all = c.in-Ok.ensures.ok in
    let changes : List Change = all.0 in
    let spells = subst (λ (b : List ℕ). SpellsChanges b changes) c.changes-2.ensures all.1 in
    let written = subst (λ (b : List ℕ). SpellsChanges b changes) (sym c.changes-3.ensures) spells in
    let fine = subst (λ (n : ℕ). AcceptsAll n c.args.house.now.state changes) c.requires all.2 in
    some_written g.D.Disk c.args.wish.now c.args.house.now plan planned changes spells all.2 (sym c.is_wrong-is_wrong.ensures ∙ c.if-is_wrong.false) c.args.store.now c.write_changes.new.store
    (λ keeps. c.write_changes.ensures.any_moment c.args.house.now.state changes keeps written fine all.3)
