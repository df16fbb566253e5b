use Rattle.std.proofs.Common.{◌≡◌, ⊎_elim, ap, sym, subst, ◌∙◌, List, ℕ}
use Rattle.mbdc_io.specs.Written.{Wrote}
use Rattle.mbdc_change.specs.State.{Held}
use Rattle.mbdc_change.specs.Apply.{applied}
use Rattle.dc_upload.specs.declared.verdict.Verdict.TheVariants.{Repeat}
use Rattle.dc_upload.specs.Verdict.{verdict_of}
use Rattle.dc_upload.specs.Reply.{reply_text}
use Rattle.dc_upload.proofs.Verdicts.{done_without_memory, repeated}
use Rattle.dc_core.specs.Step.{ordered}
use Rattle.dc_core.specs.Images.{Machine}
use Rattle.dc_core.proofs.Answering.{answered_memory, answered_obeyed, answered_uncommitted}
use Rattle.dc_core.proofs.concentrator.Concentrator.obey.Goals as goal

pub returns-in-Err-clause-answered : goal.returns-in-Err-clause-answered
returns-in-Err-clause-answered g c origin core at running =
    let wrote : List ℕ → Type 0 = Wrote g.W.Sink c.write_refusal.result c.args.out.now c.write_refusal.new.out in
    answered_memory g.D.Disk origin
    c.args.self.now c.order.new.self core c.args.line.now c.args.change.now wrote at c.requires.empty
    (λ h image left. g.met.D.Disk.only_now c.args.self.now.store.disk image left) c.requires.verdict c.in-Err.ensures.err c.write_refusal.ensures

pub write_answer-requires-clause-verdict : goal.write_answer-requires-clause-verdict
write_answer-requires-clause-verdict g c =
    let house : c.self.inside.house ≡ record c.args.self.now.house { state = applied c.args.change.now c.args.self.now.house.state } =
    ap (λ (b : Machine (g.row.D.Denot)). b.house) c.self.view_is ∙ c.in-Ok-settle.ensures.house ∙ c.in-Ok.ensures.house in
    let is : verdict_of c.self.inside.house c.args.line.now ≡ Repeat =
    ap (λ (h : Held). verdict_of h c.args.line.now) house ∙ repeated c.args.self.now.house c.args.line.now c.args.change.now c.requires.verdict in
    sym is

pub returns-clause-answered : goal.returns-clause-answered
returns-clause-answered g c origin core at running =
    let wrote : List ℕ → Type 0 = Wrote g.W.Sink c.write_answer.result c.args.out.now c.write_answer.new.out in
    let change = c.args.change.now in
    let at_mid = c.in-Ok.ensures.at origin core at in
    let done = c.in-Ok-settle.ensures.ok origin (ordered change core) at_mid in
    answered_obeyed g.D.Disk origin
    c.args.self.now c.order.new.self c.settle.new.self core c.args.line.now change wrote at c.requires.empty c.requires.verdict c.in-Ok.ensures.store
    (c.in-Ok-settle.ensures.house ∙ c.in-Ok.ensures.house) done.1
    (λ h. c.in-Ok-settle.ensures.any_moment origin h (ordered change core) at_mid)
    (subst (λ (b : Machine (g.row.D.Denot)). wrote (reply_text b.house c.args.line.now)) c.self.view_is
    (⊎_elim (λ text. text) (λ memory. absurd (done_without_memory c.args.self.now.house c.args.line.now change c.requires.verdict memory.0)) c.write_answer.ensures.told))

pub returns-in-Err-settle-clause-answered : goal.returns-in-Err-settle-clause-answered
returns-in-Err-settle-clause-answered g c origin core at running =
    let wrote : List ℕ → Type 0 = Wrote g.W.Sink c.write_refusal-in-Err-settle.result c.args.out.now c.write_refusal-in-Err-settle.new.out in
    let change = c.args.change.now in
    let at_mid = c.in-Ok.ensures.at origin core at in
    let failed = c.in-Err-settle.ensures.err origin (ordered change core) at_mid in
    answered_uncommitted g.D.Disk origin
    c.args.self.now c.order.new.self c.settle.new.self core c.args.line.now change c.in-Err-settle.field-0 wrote at c.requires.empty c.requires.verdict c.in-Ok.ensures.store
    failed.0 failed.1 c.in-Err-settle.ensures.failed
    (λ h. c.in-Err-settle.ensures.any_moment origin h (ordered change core) at_mid)
    c.write_refusal-in-Err-settle.ensures
