use Rattle.std.proofs.Common.{◌≡◌, ℕ, List, ◌-◌, ◌++◌, drop, replicate, arith, rules, ap, sym, ◌∙◌, append_assoc}
use Rattle.std.specs.Prelude.{decimal}
use Rattle.std.proofs.lemmas.Fmt.{length-decimal-le}
use Rattle.dc_units.proofs.Pieces.{last_digits-zeros, whole_text-some}
use Rattle.dc_units.proofs.decimal.put_whole.Goals as goal

pub write_digits-requires : goal.write_digits-requires
write_digits-requires c =
    let short = length-decimal-le 20 c.args.n (omega arith) (omega arith) (omega arith) in
    (omega (arith, short), search rules)

pub returns-clause-start : goal.returns-clause-start
returns-clause-start c =
    let short = length-decimal-le 20 c.args.n (omega arith) (omega arith) (omega arith) in
    (omega (arith, short), omega arith, omega (arith, short))

pub returns-clause-written : goal.returns-clause-written
returns-clause-written c =
    let rest = drop c.args.end c.args.room.now in
    let zeros : drop (c.args.end - c.args.zeros) c.put_digits.new.room ≡ replicate c.args.zeros 48 ++ rest =
    c.put_digits.ensures.written ∙ ap (λ (t : List ℕ). t ++ rest) (last_digits-zeros c.args.zeros) in
    c.write_digits.ensures.written ∙ ap (λ (t : List ℕ). decimal c.args.n ++ t) zeros
    ∙ sym (append_assoc (decimal c.args.n) (replicate c.args.zeros 48) rest)
    ∙ ap (λ (t : List ℕ). t ++ rest) (sym (whole_text-some c.args.n c.args.zeros c.if-n-eq0.false))
