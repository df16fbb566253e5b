use Rattle.std.proofs.Common.{◌≡◌, ℕ, sym, subst, false, Some}
use Rattle.mbdc_audit.proofs.Checks.{same}
use Rattle.mbdc_audit.specs.View.{end_of}
use Rattle.std.specs.BTreeMap.{get}
use Rattle.std.specs.Ordering.{nat_cmp}
use Rattle.std.specs.BTreeMap.{is_at}
use Rattle.mbdc_audit.proofs.Offsets.{other_key, walks_one}
use Rattle.mbdc_audit.proofs.teller.Teller.check_offset.Goals as goal

pub returns : goal.returns
returns g c =
    let up = c.in_ok-insert.ensures.updates in
    let day : c.from.result ≡ c.args.end.now.day = c.from.ensures in
    walks_one c.args.self.now.counts c.unless.new.self.counts (get nat_cmp c.args.offsets.now) (get nat_cmp c.insert.new.self)
    (end_of c.args.end.now) (record {
      hit = subst (λ (k : ℕ). get nat_cmp c.insert.new.self k ≡ Some c.args.end.now.offset) day up.1;
      miss = λ q apart. up.2 q (subst (λ (k : ℕ). is_at (nat_cmp k) q ≡ false) (sym day) (other_key q c.args.end.now.day apart));
    })
    (same c.in_ok-unless.ensures c.agrees.ensures)
