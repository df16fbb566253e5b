use Rattle.std.proofs.Common.{◌≡◌, ◌⊎◌, ⊎_elim, ap, sym, subst, ◌∙◌, refl, List, ℕ}
use Rattle.mbdc_io.specs.Written.{Wrote}
use Rattle.dc_upload.specs.Verdict.{verdict_of}
use Rattle.dc_upload.specs.Reply.{refusal_line, reply_text, TakesMemory}
use Rattle.dc_upload.specs.declared.code.Code.TheVariants.{Memory}
use Rattle.dc_core.specs.Images.{Machine}
use Rattle.dc_core.proofs.Answering.{none_done, answered_told, answered_untold}
use Rattle.dc_core.proofs.concentrator.Concentrator.answer.Goals as goal

pub returns-in-Repeat : goal.returns-in-Repeat
returns-in-Repeat g c =
    let machine = c.args.self.now in
    let line = c.args.line.now in
    let wrote : List ℕ → Type 0 = Wrote g.W.Sink c.write_answer.result c.args.out.now c.write_answer.new.out in
    let is : verdict_of machine.house line ≡ c.judge-verdict.result = ap (λ (b : Machine (g.row.D.Denot)). verdict_of b.house line) (sym c.self.view_is) ∙ sym c.judge-verdict.ensures.verdict in
    let told : wrote (reply_text machine.house line) ⊎ (TakesMemory line × wrote (refusal_line Memory)) =
    subst (λ (b : Machine (g.row.D.Denot)). wrote (reply_text b.house line) ⊎ (TakesMemory line × wrote (refusal_line Memory))) c.self.view_is c.write_answer.ensures.told in
    record {
      answered = λ origin core at running. ⊎_elim
          (λ text. answered_told g.D.Disk origin
          machine core line wrote c.judge-verdict.result at c.requires.empty (λ h image left. g.met.D.Disk.only_now machine.store.disk image left) is (none_done c.judge-verdict.result c.in-Repeat.is) text)
          (λ memory. answered_untold g.D.Disk origin
          machine core line wrote at c.requires.empty (λ h image left. g.met.D.Disk.only_now machine.store.disk image left) memory.0 memory.1)
          told;
      count = refl;
      budget = refl;
      fault = c.write_answer.ensures.fault;
      well = c.write_answer.ensures.well;
    }
