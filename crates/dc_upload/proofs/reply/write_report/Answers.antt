use Rattle.std.proofs.Common.{ℕ, List, ◌++◌, ap, ◌∙◌, subst, arith}
use Rattle.std.specs.Io.KnownBytes.{append_known}
use Rattle.std.proofs.lemmas.Grind.{common_steps}
use Rattle.mbdc_io.specs.Stream.{PutsFront}
use Rattle.dc_report.specs.DueTable.{due_text}
use Rattle.dc_upload.specs.Reply.{end_line, report_text}
use Rattle.dc_upload.proofs.reply.write_report.Goals as goal

pub returns-clause-text : goal.returns-clause-text
unfolding report_text
returns-clause-text g c =
    let before = g.W.Sink.written c.args.out.now in
    let table = due_text c.args.date c.args.house.now.state in
    c.in_ok-put_table.ensures.0
    ∙ ap (λ (text : List ℕ). append_known before (text ++ end_line c.in_ok-table.table.rows)) (c.deref.ensures.value ∙ c.in_ok-table.ensures.text)
    ∙ ap (λ (rows : ℕ). append_known before (table ++ end_line rows)) c.in_ok-table.ensures.count

pub returns-in_err-put_table-clause-fault : goal.returns-in_err-put_table-clause-fault
unfolding report_text
returns-in_err-put_table-clause-fault g c =
    let before = g.W.Sink.written c.args.out.now in
    let after = g.W.Sink.written c.put_table.new.out in
    let table = due_text c.args.date c.args.house.now.state in
    let same = ap (λ (text : List ℕ). text ++ end_line c.in_ok-table.table.rows) (c.deref.ensures.value ∙ c.in_ok-table.ensures.text)
    ∙ ap (λ (rows : ℕ). table ++ end_line rows) c.in_ok-table.ensures.count in
    let front : PutsFront before after (report_text c.args.date c.args.house.now.state) = subst (PutsFront before after) same c.in_err-put_table.ensures.2 in
    grind arith

pub returns-in_err-table-clause-text : goal.returns-in_err-table-clause-text
unfolding report_text
returns-in_err-table-clause-text g c = grind (arith, common_steps)

pub returns-in_err-table-clause-well : goal.returns-in_err-table-clause-well
unfolding report_text
returns-in_err-table-clause-well g c = grind (arith, common_steps)

pub returns-in_err-table-clause-fault : goal.returns-in_err-table-clause-fault
unfolding report_text
returns-in_err-table-clause-fault g c = grind (arith, common_steps)

pub returns-in_err-put_table-clause-text : goal.returns-in_err-put_table-clause-text
unfolding report_text
returns-in_err-put_table-clause-text g c = grind (arith, common_steps)

pub returns-in_err-put_table-clause-well : goal.returns-in_err-put_table-clause-well
unfolding report_text
returns-in_err-put_table-clause-well g c = grind (arith, common_steps)

pub returns-clause-well : goal.returns-clause-well
unfolding report_text
returns-clause-well g c = grind (arith, common_steps)
