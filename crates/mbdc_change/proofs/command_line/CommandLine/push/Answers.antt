use Rattle.std.proofs.Common.{◌≡◌, ◌+◌, ◌-◌, ◌≤◌, ℕ, List, ◌++◌, length, take, sym, ap, ◌∙◌, arith, length-append}
use Rattle.mbdc_change.proofs.Padding.{put_padded, IsKept-padded, take-padded}
use Rattle.mbdc_change.proofs.command_line.CommandLine.push.Goals as goal

pub invariant_of-self : goal.invariant_of-self
invariant_of-self c =
    let text : List ℕ = take c.self.inside.len c.self.inside.bytes in
    let word : List ℕ = c.args.bytes.now in
    let start : c.from-start.result ≡ length text = c.from-start.ensures ∙ sym c.self.invariant.counted in
    let room : length text + length word ≤ 120 = omega (arith, c.requires, ap (λ (l : List ℕ). length l) c.self.view_is) in
    let all = put_padded 120 c.from-start.result ((c.from-start.result + length word) - c.from-start.result) text word c.self.inside.bytes c.copy_from_slice.new.self (sym c.self.invariant.zeros) start (omega arith) c.copy_from_slice.ensures.after room in
    let stop : c.from-start.result + length word ≡ length (text ++ word) = omega (arith, start, length-append text word) in
    rw (all, stop) (IsKept-padded 120 (text ++ word) (omega (arith, room, length-append text word)))

pub returns-clause-line : goal.returns-clause-line
returns-clause-line c =
    let text : List ℕ = take c.self.inside.len c.self.inside.bytes in
    let word : List ℕ = c.args.bytes.now in
    let start : c.from-start.result ≡ length text = c.from-start.ensures ∙ sym c.self.invariant.counted in
    let room : length text + length word ≤ 120 = omega (arith, c.requires, ap (λ (l : List ℕ). length l) c.self.view_is) in
    let all = put_padded 120 c.from-start.result ((c.from-start.result + length word) - c.from-start.result) text word c.self.inside.bytes c.copy_from_slice.new.self (sym c.self.invariant.zeros) start (omega arith) c.copy_from_slice.ensures.after room in
    let stop : c.from-start.result + length word ≡ length (text ++ word) = omega (arith, start, length-append text word) in
    rw (all, stop) (take-padded 120 (text ++ word) ∙ ap (λ (front : List ℕ). front ++ word) c.self.view_is)

pub returns-clause-len : goal.returns-clause-len
returns-clause-len c = ap (λ (l : List ℕ). length l) (returns-clause-line c) ∙ length-append c.args.self.now c.args.bytes.now
