use Rattle.std.proofs.Common.{◌≡◌, ◌+◌, ◌∷◌, ℕ, List, drop, ap, arith}
use Rattle.std.proofs.lemmas.Grind.{common_steps}
use Rattle.mbdc_io.specs.Stream.{PutsFront}
use Rattle.mbdc_change.specs.State.{PartRow}
use Rattle.dc_upload.specs.Window.{part_line, part_lines}
use Rattle.dc_upload.proofs.Prefixes.{front_of_all}
use Rattle.dc_upload.proofs.window.write_parts.Goals as goal

pub returns-in_err-write_part : goal.returns-in_err-write_part
returns-in_err-write_part g c =
    let i : ℕ = c.loop-i.i in
    let parts : List PartRow = c.args.parts.now in
    let part : PartRow = c.index-parts-i.result in
    let next : drop i parts ≡ part ∷ drop (i + 1) parts = grind (arith, common_steps) in
    let front : PutsFront (g.W.Sink.written c.args.out.now) (g.W.Sink.written c.write_part.new.out) (part_lines 1 parts) =
    front_of_all _ _ _ (part_line (i + 1) part) (part_lines (i + 1 + 1) (drop (i + 1) parts)) _ _ (ap (part_lines (i + 1)) next) c.loop-i.invariant.text c.in_err-write_part.ensures.2 in
    grind arith

pub returns : goal.returns
returns g c = grind (arith, common_steps)
