use Rattle.std.proofs.Common.{◌+◌, ◌∙◌, Bool, List, Option, ap, arith, drop, false, get_or, sym, ℕ}
use Rattle.std.specs.Io.KnownBytes.{append_known}
use Rattle.mbdc_io.specs.Stream.{PutsFront}
use Rattle.mbdc_io.proofs.Pieces.{append_known-more, append_known-nil}
use Rattle.mbdc_reading.specs.Meaning.{is_extension}
use Rattle.mbdc_reading.specs.Vifes.{Vife}
use Rattle.mbdc_json.specs.LatestValues.{name_words, names_words}
use Rattle.mbdc_json.proofs.Fronts.{front_of_all}
use Rattle.mbdc_json.proofs.Names.{next_name, no_names}
use Rattle.mbdc_json.proofs.latest.lines.put_names.Goals as goal

pub returns-in_err-put_pieces : goal.returns-in_err-put_pieces
returns-in_err-put_pieces g c =
    let name = c.as_bytes.ensures.value ∙ ap (λ (v : Vife). v.name) c.vife_at-named.ensures.exact in
    let next = next_name c.vifes.after_fc c.args.vifes.now c.vifes.vife-index c.number_after.result c.as_bytes.result.now (omega (arith, c.vifes-test.true)) c.number_after.ensures name in
    let front : PutsFront (g.W.Sink.written c.args.out.now) (g.W.Sink.written c.put_pieces.new.out) (names_words false c.args.vifes.now)
    = front_of_all _ _ _ (name_words c.as_bytes.result.now) _ _ _ next c.vifes.invariant.text c.in_err-put_pieces.ensures.2 in
    grind arith

pub vifes-preserved : goal.vifes-preserved
vifes-preserved g c =
    let left = drop (c.vifes.vife-index + 1) c.args.vifes.now in
    let name = c.as_bytes.ensures.value ∙ ap (λ (v : Vife). v.name) c.vife_at-named.ensures.exact in
    let next = next_name c.vifes.after_fc c.args.vifes.now c.vifes.vife-index c.number_after.result c.as_bytes.result.now (omega (arith, c.vifes-test.true)) c.number_after.ensures name in
    record {
      text =
          ap (λ (fc : Bool). append_known (g.W.Sink.written c.put_pieces.new.out) (names_words fc left)) c.is_extension-after_fc.ensures
          ∙ ap (λ (m : Option (List ℕ)). append_known m (names_words (is_extension c.vifes.after_fc (get_or c.args.vifes.now c.vifes.vife-index 0)) left)) c.in_ok-put_pieces.ensures.0
          ∙ append_known-more (g.W.Sink.written c.vifes.out) (name_words c.as_bytes.result.now) (names_words (is_extension c.vifes.after_fc (get_or c.args.vifes.now c.vifes.vife-index 0)) left)
          ∙ ap (append_known (g.W.Sink.written c.vifes.out)) (sym next)
          ∙ c.vifes.invariant.text;
      well = c.in_ok-put_pieces.ensures.1 ∙ c.vifes.invariant.well;
    }

pub returns : goal.returns
returns g c =
    let none = no_names c.vifes.after_fc c.args.vifes.now c.vifes.vife-index c.vifes-test.false in
    (sym (append_known-nil (g.W.Sink.written c.vifes.out)) ∙ ap (append_known (g.W.Sink.written c.vifes.out)) (sym none) ∙ c.vifes.invariant.text, c.vifes.invariant.well, tt, tt)
