use Rattle.std.proofs.Common.{rules, ◌≡◌, ◌∷◌, ◌++◌, [], Some, List, sym, subst, arith}
use Rattle.std.proofs.lemmas.Grind.{common_steps}
use Rattle.dc_sectors.specs.declared.sector.Sector.{Sector}
use Rattle.dc_sectors.specs.Readings.{Reading, IsSampled, given, call_of}
use Rattle.dc_sectors.proofs.Readings.{read_called, sampled_push}
use Rattle.dc_sectors.proofs.snapshot.sample.SampleDisk.read.Goals as goal

pub invariant_of-self-else-is_err : goal.invariant_of-self-else-is_err
invariant_of-self-else-is_err g c = record {
  sampled = λ none.
      let old = c.args.self.now.disk in
      let new = c.read-answer.new.self in
      let n = c.args.n in
      let content : Sector = c.in-Some.content in
      let is : given c.read-answer.result ≡ Some content = search rules in
      let called : new.calls ≡ call_of n content ∷ old.calls = read_called old n c.read-answer.result new.calls content c.read-answer.ensures.made is in
      let items : c.push.new.self.items ≡ c.args.self.now.kept.items ++ (n, content) ∷ [] = search rules in
      subst (λ (kept : List Reading). IsSampled kept new) (sym items)
      (sampled_push c.args.self.now.kept.items old new n content (search rules) (search rules) (search rules) called);
}

pub returns-then-is_err-clause-counts : goal.returns-then-is_err-clause-counts
returns-then-is_err-clause-counts g c = grind (arith, common_steps)

pub returns-else-is_err-clause-counts : goal.returns-else-is_err-clause-counts
returns-else-is_err-clause-counts g c = grind (arith, common_steps)

pub returns-in-None-clause-counts : goal.returns-in-None-clause-counts
returns-in-None-clause-counts g c = grind (arith, common_steps)
