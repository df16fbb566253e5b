use Rattle.std.proofs.Common.{ap, ◌∙◌, ℕ}
use Rattle.mbdc_audit.specs.House.{Run}
use Rattle.mbdc_audit.proofs.Runs.{amount_is, declared_not, declared_there, same_entry}
use Rattle.mbdc_audit.proofs.house.Value.entry.Goals as goal
use Rattle.mbdc_audit.proofs.house.Value.entry.Goals.{in-Some, in-None}

pub returns : goal.returns
returns c =
    let v = c.args.self.now in
    let rs = c.args.runs.now in
    let amount = c.unwrap_or.ensures ∙ amount_is v.found in
    elim c.match-get.branch [
      | in-Some w ↦ same_entry rs v _ _ _ amount
          (ap (λ (p : ℕ × ℕ). p.0) w.most-is ∙ declared_there (λ (r : Run). r.most) rs v.run w.in-Some.run'.now w.in-Some.ensures.lookup.0 w.in-Some.ensures.lookup.1)
          (ap (λ (p : ℕ × ℕ). p.1) w.most-is ∙ declared_there (λ (r : Run). r.size) rs v.run w.in-Some.run'.now w.in-Some.ensures.lookup.0 w.in-Some.ensures.lookup.1)
      | in-None w ↦ same_entry rs v _ _ _ amount
          (ap (λ (p : ℕ × ℕ). p.0) w.most-is ∙ declared_not (λ (r : Run). r.most) rs v.run w.in-None.ensures.lookup.0)
          (ap (λ (p : ℕ × ℕ). p.1) w.most-is ∙ declared_not (λ (r : Run). r.size) rs v.run w.in-None.ensures.lookup.0)
    ]
