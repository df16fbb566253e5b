use Rattle.std.proofs.Common.{◌≡◌, ◌==◌, ◌++◌, not, drop, filter}
use Rattle.mbdc_fit.proofs.list.listed.whole_lines.Given as goal

-- those so far, and those that are left, make the whole
abbrev pub invariant-bytes : goal.invariant-bytes
invariant-bytes l = l.text.items ++ filter (λ byte. not (byte == 13)) (drop l.byte-index l.list) ≡ filter (λ byte. not (byte == 13)) l.list
