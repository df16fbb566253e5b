use Rattle.std.proofs.Common.{rules, ◌≡◌, ◌<◌, [], ◌∷◌, ◌+◌, ℕ, List, Some, take, drop, length, sym, ap, ◌∙◌, arith}
use Rattle.std.proofs.Math.ListN.{get_or}
use Rattle.dc_sectors.specs.declared.sector.Sector.{Sector}
use Rattle.dc_sectors.specs.declared.sector.Sector.TheVariants.{Bytes}
use Rattle.dc_sectors.specs.FileCalls.{Call}
use Rattle.dc_sectors.specs.Readings.{Reading, call_of, given}
use Rattle.dc_sectors.proofs.Readings.{again_push, read_called, split_reading}
use Rattle.dc_sectors.proofs.snapshot.sample.read_again.Goals as goal

pub returns-then-not-is_same-clause-changed : goal.returns-then-not-is_same-clause-changed
returns-then-not-is_same-clause-changed g c _ =
    let kept : List Reading = c.args.kept.now in
    let i : ℕ = c.readings.i in
    let below : i < length kept = search rules in
    let reading : Reading = get_or kept i (0, Bytes []) in
    let is : Sector = c.in-Some.is' in
    let gave : given c.read.result ≡ Some is = search rules in
    let called : c.read.new.self.calls ≡ call_of reading.0 is ∷ c.readings.disk.calls =
    read_called c.readings.disk reading.0 c.read.result c.read.new.self.calls is c.read.ensures.made gave in
    record {
      same = take i kept;
      n = reading.0;
      was = reading.1;
      is = is;
      later = drop (i + 1) kept;
      kept_is = split_reading kept i below;
      differs = c.is_same.ensures.other c.if-not-is_same.true;
      calls = called ∙ ap (λ (calls : List Call). call_of reading.0 is ∷ calls) c.readings.invariant.calls;
    }

pub readings-preserved : goal.readings-preserved
readings-preserved g c =
    let kept : List Reading = c.args.kept.now in
    let i : ℕ = c.readings.i in
    let below : i < length kept = search rules in
    let reading : Reading = get_or kept i (0, Bytes []) in
    let is : Sector = c.in-Some.is' in
    let gave : given c.read.result ≡ Some is = search rules in
    let called : c.read.new.self.calls ≡ call_of reading.0 is ∷ c.readings.disk.calls =
    read_called c.readings.disk reading.0 c.read.result c.read.new.self.calls is c.read.ensures.made gave in
    let same : reading.1 ≡ is = c.is_same.ensures.same c.if-not-is_same.false in
    record {
      calls = called ∙ ap (λ (content : Sector). call_of reading.0 content ∷ c.readings.disk.calls) (sym same)
          ∙ ap (λ (calls : List Call). call_of reading.0 reading.1 ∷ calls) c.readings.invariant.calls
          ∙ sym (again_push kept i c.args.disk.now.calls below);
      sectors = search rules;
      failures = omega (arith, c.readings.invariant.failures, c.read.ensures.counts.later);
    }
