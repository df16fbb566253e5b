use Rattle.std.proofs.Common.{◌≡◌, ◌∙◌, ℕ, ◌≤◌, ◌++◌, Bool, List, [], ap, refl, rules, arith, sym, subst}
use Rattle.std.proofs.lemmas.Grind.{common_steps}
use Rattle.std.specs.List.{range_with_len}
use Rattle.mbdc_io.specs.Stream.{Puts}
use Rattle.mbdc_io.proofs.Pieces.{puts-both, puts-none}
use Rattle.mbdc_installer.specs.Addresses.{AsksEach, line_of}
use Rattle.mbdc_installer.specs.Course.{one_if}
use Rattle.mbdc_installer.proofs.Addresses.{asks_more}
use Rattle.mbdc_installer.proofs.primary.+scan_primary.Goals as goal

pub returns-then-count-eq0-clause-asked : goal.returns-then-count-eq0-clause-asked
returns-then-count-eq0-clause-asked g t c =
    let none : c.args.count ≡ 0 = search rules in
    let P : ℕ → Type 0 = λ count. AsksEach g.B.Bus.asks_all (range_with_len c.args.first count) c.args.bus.now [] 0 c.args.bus.now in
    ([], subst P (sym none) (refl, refl, refl), puts-none (g.W.Sink.written c.args.out.now))

pub returns-then-not-is_there-clause-asked : goal.returns-then-not-is_there-clause-asked
returns-then-not-is_there-clause-asked g t c =
    let some : 1 ≤ c.args.count = grind (arith, common_steps) in
    let asked = c.ask_address-asked in
    let nobody : line_of c.args.first asked.result.answer asked.result.telegram ≡ [] = search rules in
    let none = subst (λ (line : List ℕ). Puts (g.W.Sink.written c.args.out.now) (g.W.Sink.written c.args.out.now) line) (sym nobody) (puts-none (g.W.Sink.written c.args.out.now)) in
    let rest = c.in_ok-rest.ensures.asked in (
      line_of c.args.first asked.result.answer asked.result.telegram ++ rest.0,
      asks_more g.B.Bus.asks_all c.args.first c.args.count c.args.bus.now asked.new.bus c.scan_primary.new.bus asked.result.answer asked.result.telegram rest.0
          c.one_if.result c.in_ok-rest.rest some asked.ensures (c.one_if.ensures ∙ ap (λ (b : Bool). one_if b c.in_ok-rest.rest) c.judge-is_there.ensures.late) rest.1,
      puts-both (g.W.Sink.written c.args.out.now) (g.W.Sink.written c.args.out.now) (g.W.Sink.written c.scan_primary.new.out) _ rest.0 none rest.2,
    )

pub returns-clause-asked : goal.returns-clause-asked
returns-clause-asked g t c =
    let some : 1 ≤ c.args.count = grind (arith, common_steps) in
    let asked = c.ask_address-asked in
    let line : Puts (g.W.Sink.written c.args.out.now) (g.W.Sink.written c.put_address.new.out) (line_of c.args.first asked.result.answer asked.result.telegram) = search rules in
    let rest = c.in_ok-rest-2.ensures.asked in (
      line_of c.args.first asked.result.answer asked.result.telegram ++ rest.0,
      asks_more g.B.Bus.asks_all c.args.first c.args.count c.args.bus.now asked.new.bus c.scan_primary-2.new.bus asked.result.answer asked.result.telegram rest.0
          c.one_if-2.result c.in_ok-rest-2.rest some asked.ensures (c.one_if-2.ensures ∙ ap (λ (b : Bool). one_if b c.in_ok-rest-2.rest) c.judge-is_there.ensures.late) rest.1,
      puts-both (g.W.Sink.written c.args.out.now) (g.W.Sink.written c.put_address.new.out) (g.W.Sink.written c.scan_primary-2.new.out) _ rest.0 line rest.2,
    )
