use Rattle.std.proofs.Common.{◌≡◌, ◌+◌, ◌∷◌, ℕ, List, drop, get_or, ap, arith}
use Rattle.std.proofs.lemmas.Grind.{common_steps}
use Rattle.std.specs.Prelude.{flat_map}
use Rattle.mbdc_io.specs.Stream.{PutsFront}
use Rattle.dc_search.specs.Found.{shared_line}
use Rattle.dc_search.proofs.TextFronts.{front_of_all}
use Rattle.dc_search.proofs.found.put_shared.Goals as goal

pub returns-in_err-put_number : goal.returns-in_err-put_number
returns-in_err-put_number g c =
    let i : ℕ = c.loop-number.number-index in
    let numbers : List ℕ = c.args.numbers.now in
    let number : ℕ = get_or numbers i 0 in
    let next : drop i numbers ≡ number ∷ drop (i + 1) numbers = grind (arith, common_steps) in
    let front : PutsFront (g.W.Sink.written c.args.out.now) (g.W.Sink.written c.put_number.new.out) (flat_map shared_line numbers) =
    front_of_all _ _ _ (shared_line number) (flat_map shared_line (drop (i + 1) numbers)) _ _ (ap (flat_map shared_line) next) c.loop-number.invariant.text c.in_err-put_number.ensures.2 in
    grind arith

pub loop-number-preserved : goal.loop-number-preserved
loop-number-preserved g c = grind (arith, common_steps)

pub returns : goal.returns
returns g c = grind (arith, common_steps)
