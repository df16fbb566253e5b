use Rattle.std.proofs.Common.{rules, ◌≡◌, ℕ, ℤ, Option, Some, None, sym, ap, ◌∙◌}
use Rattle.std.specs.Prelude.{IfSome}
use denote.Enum.Bare.{same_true}
use Rattle.dc_units.specs.declared.value.Value.TheVariants as value
use Rattle.mbdc_audit.specs.contracts.uses.Counted.{the_type}
use Rattle.mbdc_audit.specs.declared.uses.Counted.{Counted}
use Rattle.mbdc_audit.proofs.Amounts.{only_amount, sound}
use Rattle.mbdc_audit.proofs.evidence.amount_of.Goals as goal

for_some : (o : Option ℕ) (P : ℕ → Type 0) → ((n : ℕ) → o ≡ Some n → P n) → IfSome o P
for_some None P f = tt
for_some (Some n) P f = f n (λ i. Some n)

pub returns-in-Number-clause-ok : goal.returns-in-Number-clause-ok
returns-in-Number-clause-ok c = for_some c.of_decimal.result _ (λ n e.
    let d = c.in-Number.decimal in
    let s = sound d.mantissa d.exponent c.in_ok-found.size n (sym c.of_decimal.ensures.value ∙ e) in
    let same : c.in_ok-found.found ≡ c.args.counted = same_true the_type (search rules) _ _ c.if-found-counted.true in record {
      point = c.in-Point.point;
      seen_as = sym c.in-Point.ensures.exact;
      size = c.in_ok-found.size;
      counted = sym c.in_ok-found.ensures.size ∙ ap (λ (q : Counted). Some (q, c.in_ok-found.size)) same;
      digits = s.0;
      power = d.exponent;
      number = c.in-Number.is ∙ ap (λ (m : ℤ). value.Number (record { mantissa = m; exponent = d.exponent })) s.1;
      scaled = s.2;
      small = s.3;
    })

pub returns-in-Number-clause-only : goal.returns-in-Number-clause-only
returns-in-Number-clause-only c = λ amount a. c.of_decimal.ensures.value
    ∙ only_amount c.args.counted c.in_ok-found.found c.in-Point.point c.in-Number.decimal c.in_ok-found.size _ amount
    c.in-Point.ensures.exact c.in-Number.is (sym c.in_ok-found.ensures.size) c.in_ok-found.ensures.small.0 c.in_ok-found.ensures.small.1
    c.of_decimal.ensures.digits a
