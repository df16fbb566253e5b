use Rattle.std.proofs.Common.{ap, sym, ◌∙◌, List, ℕ}
use Rattle.mbdc_io.specs.Written.{Wrote}
use Rattle.dc_core.specs.Step.{Spells}
use Rattle.dc_core.proofs.Answering.{still_running, turned_unread, turned_unstored, turned_answered}
use Rattle.dc_core.specs.Step.{settled}
use Rattle.dc_core.proofs.concentrator.Concentrator.reply.Goals as goal

pub returns-clause-turned : goal.returns-clause-turned
returns-clause-turned g c origin core at =
    let text = c.args.text.now in
    let line = c.in-Some.line in
    let wrote : List ℕ → Type 0 = Wrote g.W.Sink c.answer.result c.args.out.now c.answer.new.out in
    let spells : Spells text line = record { is_line = c.in-Some.ensures.found.0; text_is = c.in-Some.ensures.found.1 } in
    let done = c.in-Ok.ensures.ok origin core at in
    let answered = c.answer.ensures.answered origin (settled core) done.1 (still_running core core.pending ∙ done.0) in
    turned_answered g.D.Disk origin
    c.args.self.now c.settle.new.self c.answer.new.self core text line wrote spells done.0 (ap (λ (h : _). h.budget) c.in-Ok.ensures.house) c.in-Ok.ensures.counts.count c.in-Ok.ensures.counts.later
    (λ h. c.in-Ok.ensures.any_moment origin h core at) answered

pub returns-in_default-clause-turned : goal.returns-in_default-clause-turned
returns-in_default-clause-turned g c origin core at =
    let text = c.args.text.now in
    let machine = c.args.self.now in
    let wrote : List ℕ → Type 0 = Wrote g.W.Sink c.write_refusal.result c.args.out.now c.write_refusal.new.out in
    turned_unread g.D.Disk origin
    machine core text wrote at (λ h image left. g.met.D.Disk.only_now machine.store.disk image left)
    (λ line is spelled. let found = c.parse_line.ensures.only line is spelled in let none = c.in_default.is in let bad = sym none ∙ found in cc) c.write_refusal.ensures

pub returns-in-Err-clause-turned : goal.returns-in-Err-clause-turned
returns-in-Err-clause-turned g c origin core at =
    let text = c.args.text.now in
    let line = c.in-Some.line in
    let wrote : List ℕ → Type 0 = Wrote g.W.Sink c.write_refusal-in-Err.result c.args.out.now c.write_refusal-in-Err.new.out in
    let spells : Spells text line = record { is_line = c.in-Some.ensures.found.0; text_is = c.in-Some.ensures.found.1 } in
    let failed = c.in-Err.ensures.err origin core at in
    turned_unstored g.D.Disk origin
    c.args.self.now c.settle.new.self core text line c.in-Err.field-0 wrote spells failed.0 failed.1 c.in-Err.ensures.failed
    (λ h. c.in-Err.ensures.any_moment origin h core at) c.write_refusal-in-Err.ensures
