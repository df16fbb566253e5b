use Rattle.std.proofs.Common.{slice_index_or, ap, sym, ◌∙◌, arith}
use Rattle.dc_linkframe.specs.Fault.{fault_of}
use Rattle.dc_linkframe.proofs.Spellings.{long_parts, wrong_sum, long_found}
use Rattle.dc_linkframe.proofs.parser.read_long.Goals as goal

pub returns-then-sum-checksum-clause-refused : goal.returns-then-sum-checksum-clause-refused
returns-then-sum-checksum-clause-refused c =
    let content = c.split_at.result.0.now in
    let end = c.split_at.result.1.now in
    let parts = long_parts c.args.text.now content end c.from-len_of_content.result c.in-len4-up.len_at_least c.requires c.from-len_of_content.ensures c.if-len-again.false c.if-start-ne-LONG.false c.split_at.ensures.front_len c.split_at.ensures.front c.split_at.ensures.back (omega arith) in
    ap fault_of parts ∙ wrong_sum content (slice_index_or end 0 0) (slice_index_or end 1 0) (omega arith) c.if-stop-ne-STOP.false (λ e. c.if-sum-checksum.true (e ∙ sym c.checksum.ensures))

pub returns-clause-found : goal.returns-clause-found
returns-clause-found c =
    let content = c.split_at.result.0.now in
    let end = c.split_at.result.1.now in
    let parts = long_parts c.args.text.now content end c.from-len_of_content.result c.in-len4-up.len_at_least c.requires c.from-len_of_content.ensures c.if-len-again.false c.if-start-ne-LONG.false c.split_at.ensures.front_len c.split_at.ensures.front c.split_at.ensures.back (omega arith) in
    long_found c.args.text.now content (slice_index_or end 0 0) (slice_index_or end 1 0) parts (omega arith) (omega arith) c.if-stop-ne-STOP.false (c.if-sum-checksum.false ∙ c.checksum.ensures)
