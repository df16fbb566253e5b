use Rattle.std.proofs.Common.{◌≡◌, ◌+◌, ◌-◌, ◌≤◌, ◌++◌, ℕ, List, length, take, min, arith, ap, sym, ◌∙◌}
use Rattle.std.proofs.lemmas.List.{length-take-le}
use Rattle.std.proofs.lemmas.Slice.{take-put_mid}
use Rattle.mbdc_bus.specs.Limits.{most_answer}
use Rattle.mbdc_bus.proofs.Keeping.{kept_piece}
use Rattle.mbdc_bus.proofs.answer_buf.AnswerBuf.append.Goals as goal

pub returns : goal.returns
returns c =
    let i = c.self.inside in
    let held : List ℕ = c.args.self.now in
    let more : List ℕ = c.args.more.now in
    let count : ℕ = c.min-count.result in
    let view : take i.len i.bytes ≡ held = c.self.view_is in
    let fits : i.len ≤ most_answer = c.self.invariant in
    let long : length i.bytes ≡ 300 = c.self.told in
    let own : length held ≡ i.len = sym (ap length view) ∙ length-take-le i.len i.bytes (omega (arith, fits, long)) in
    let least : count ≡ min (length more) (300 - i.len) = c.min-count.ensures in
    let piece = c.copy_from_slice.ensures.after ∙ c.split_at.ensures.front in
    let cut : length (take count more) ≡ count = length-take-le count more (omega (arith, least)) in
    take-put_mid i.len (i.len + count - i.len) i.bytes c.copy_from_slice.new.self (i.len + count) (omega (arith, ap length piece, cut)) (omega (arith, fits, long))
    ∙ ap (λ (xs : List ℕ). xs ++ c.copy_from_slice.new.self) view
    ∙ ap (λ (xs : List ℕ). held ++ xs) piece
    ∙ kept_piece held more most_answer count (omega (arith, own, fits)) (omega (arith, least, own))
