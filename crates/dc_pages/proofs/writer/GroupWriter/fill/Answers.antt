use Rattle.std.proofs.Common.{arith, ◌≡◌, ◌++◌, List, ℕ, length, ap, ◌∙◌}
use Rattle.std.proofs.lemmas.List.{length-take-le}
use Rattle.std.proofs.lemmas.Grind.{common_steps}
use Rattle.dc_pages.specs.Draft.{Draft}
use Rattle.dc_pages.proofs.Buffers.{filled, filled_buffer}
use Rattle.dc_pages.proofs.writer.GroupWriter.fill.Goals as goal

pub invariant_of-self : goal.invariant_of-self
invariant_of-self c =
    let inside = c.self.inside in
    let small = c.self.invariant.small in
    let all : length c.copy_from_slice.new.self ≡ c.min-count.result = ap length c.copy_from_slice.ensures.after ∙ length-take-le c.min-count.result c.args.bytes.now (omega arith) in
    filled_buffer inside.used c.min-count.result _ inside.page c.copy_from_slice.new.self c.self.invariant (omega arith) all (omega arith)

pub returns-clause-filled : goal.returns-clause-filled
returns-clause-filled c =
    let inside = c.self.inside in
    let small = c.self.invariant.small in
    let all : length c.copy_from_slice.new.self ≡ c.min-count.result = ap length c.copy_from_slice.ensures.after ∙ length-take-le c.min-count.result c.args.bytes.now (omega arith) in
    let with_buffer : List ℕ → Draft
    = λ buffer. record { site = inside.site; session = inside.session; pages = inside.index; buffer = buffer } in
    ap with_buffer (filled inside.used c.min-count.result _ inside.page c.copy_from_slice.new.self c.self.invariant (omega arith) all (omega arith))
    ∙ ap (λ (d : Draft). record d { buffer = d.buffer ++ c.copy_from_slice.new.self }) c.self.view_is
    ∙ ap (λ (l : List ℕ). record c.args.self.now { buffer = c.args.self.now.buffer ++ l }) c.copy_from_slice.ensures.after

pub copy_from_slice-requires : goal.copy_from_slice-requires
copy_from_slice-requires c = grind (arith, common_steps)
