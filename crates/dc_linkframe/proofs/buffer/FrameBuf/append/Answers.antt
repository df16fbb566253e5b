use Rattle.std.proofs.Common.{ℕ, List, ◌+◌, ◌-◌, ◌++◌, length, take, ap, sym, ◌∙◌, arith}
use Rattle.std.proofs.lemmas.List.{length-append}
use Rattle.dc_linkframe.proofs.Buffers.{IsBuffer-padded, put_mid-padded, take-padded}
use Rattle.dc_linkframe.proofs.buffer.FrameBuf.append.Goals as goal

pub invariant_of-self : goal.invariant_of-self
invariant_of-self c =
    let i = c.self.inside in
    let bytes : List ℕ = take i.len i.bytes in
    let more : List ℕ = c.args.more.now in
    let len = length-append bytes more in
    rw (put_mid-padded i.bytes bytes more c.copy_from_slice.new.self c.from-len.result (c.from-len.result + length more - c.from-len.result) (sym c.self.invariant.zeros) (c.from-len.ensures ∙ sym c.self.invariant.counted) (omega arith) c.copy_from_slice.ensures.after)
    (IsBuffer-padded (bytes ++ more) (i.len + length more) (omega (arith, c.self.invariant.counted)) (omega (arith, c.self.invariant.counted, ap length c.self.view_is, c.requires)))

pub returns : goal.returns
returns c =
    let i = c.self.inside in
    let bytes : List ℕ = take i.len i.bytes in
    let more : List ℕ = c.args.more.now in
    let len = length-append bytes more in
    rw (put_mid-padded i.bytes bytes more c.copy_from_slice.new.self c.from-len.result (c.from-len.result + length more - c.from-len.result) (sym c.self.invariant.zeros) (c.from-len.ensures ∙ sym c.self.invariant.counted) (omega arith) c.copy_from_slice.ensures.after)
    (take-padded (bytes ++ more) (i.len + length more) (omega (arith, c.self.invariant.counted)) ∙ ap (λ kept. kept ++ more) c.self.view_is)
