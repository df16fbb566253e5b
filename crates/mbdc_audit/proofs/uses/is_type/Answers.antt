use Rattle.std.proofs.Common.{◌≡◌, ◌⊎◌, arith, refl}
use Rattle.std.proofs.Common.{codes, bytes_eq, not}
use Rattle.mbdc_audit.specs.View.{run_of}
use Rattle.mbdc_audit.proofs.Types.{heat_or_cooling, left_true, named_is, named_of, not_empty, one_of_two, one_or_next, one_word, right_is}
use Rattle.mbdc_audit.proofs.uses.is_type.Goals as goal

pub returns-in-6 : goal.returns-in-6
returns-in-6 c =
    one_of_two c.args.name.now (run_of c.args.run.now) 6 21 c.is_word-in-6.result (bytes_eq c.args.name.now (codes "warm water"))
    c.in-6.is c.is_word-in-6.ensures refl refl

pub returns-in-7 : goal.returns-in-7
returns-in-7 c =
    one_of_two c.args.name.now (run_of c.args.run.now) 7 22 c.is_word-in-7.result (bytes_eq c.args.name.now (codes "cold water"))
    c.in-7.is c.is_word-in-7.ensures refl refl

pub returns-in-10 : goal.returns-in-10
returns-in-10 c =
    let is : (c.args.run.now.identity.kind ≡ 10) ⊎ (c.args.run.now.identity.kind ≡ 11) = one_or_next c.args.run.now.identity.kind 10 (omega arith) (omega arith) in
    one_of_two c.args.name.now (run_of c.args.run.now) 10 11 c.is_word-in-10.result (bytes_eq c.args.name.now (codes "cooling"))
    is c.is_word-in-10.ensures refl refl

pub returns-in-2 : goal.returns-in-2
returns-in-2 c =
    one_word c.args.name.now (run_of c.args.run.now) 2 c.is_word-in-2.result (bytes_eq c.args.name.now (codes "electricity"))
    c.in-2.is c.is_word-in-2.ensures refl

pub returns-in-3 : goal.returns-in-3
returns-in-3 c =
    one_word c.args.name.now (run_of c.args.run.now) 3 c.is_word-in-3.result (bytes_eq c.args.name.now (codes "gas"))
    c.in-3.is c.is_word-in-3.ensures refl

pub returns-then-is_word : goal.returns-then-is_word
returns-then-is_word c =
    heat_or_cooling c.args.name.now (run_of c.args.run.now) c.is_word-in-13.result c.is_word-in-13.result
    (bytes_eq c.args.name.now (codes "cooling")) (named_of c.args.run.now.vib.now) c.in-13.is c.is_word-in-13.ensures refl
    (named_is c.args.run.now.vib.now) (left_true c.is_word-in-13.result _ c.if-is_word.true)

pub returns-then-is_word-2 : goal.returns-then-is_word-2
returns-then-is_word-2 c =
    heat_or_cooling c.args.name.now (run_of c.args.run.now) (not c.is_empty.result) c.is_word-in-13.result c.is_word-else-is_word.result
    (not c.is_empty.result) c.in-13.is c.is_word-in-13.ensures c.is_word-else-is_word.ensures
    (not_empty c.args.run.now.vib.now c.is_empty.result c.is_empty.ensures)
    (right_is c.is_word-in-13.result c.is_word-else-is_word.result (not c.is_empty.result) c.if-is_word.false c.if-is_word-2.true)
