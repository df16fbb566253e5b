use Rattle.std.proofs.Common.{◌≡◌, ℕ, List, Option, Some, None, refl, sym, ap, ◌∙◌, subst}
use Rattle.dc_search.specs.Answer.{answer_of}
use Rattle.mbdc_bus.specs.Windows.{Reads, comes_twice, differs, is_unread}
use Rattle.mbdc_bus.proofs.windows.read_twice.Goals as goal

none_of : {X : Type 0} (o : Option X) → ((x : X) → o ≡ Some x → ⊥) → o ≡ None
none_of None not = refl
none_of (Some x) not = absurd (not x refl)

pub returns-in_default-clause-read : goal.returns-in_default-clause-read
returns-in_default-clause-read g c =
    is_unread c.insist-first.result (ap answer_of (sym c.as_slice.ensures.bytes) ∙ sym c.meter_of.ensures ∙ none_of c.meter_of.result c.in_default.not-Some) c.insist-first.ensures.asked

pub returns-then-is_from-clause-read : goal.returns-then-is_from-clause-read
returns-then-is_from-clause-read g c =
    comes_twice c.insist-first.result c.insist-again.result (ap answer_of (sym c.as_slice.ensures.bytes) ∙ sym c.in-Some.ensures) (c.is_from.ensures.yes c.if-is_from.true)
    c.insist-first.ensures.asked c.insist-again.ensures.asked

pub returns-else-is_from-clause-read : goal.returns-else-is_from-clause-read
returns-else-is_from-clause-read g c =
    subst (λ (bytes : List ℕ). Reads g.B.Bus.asks_all c.args.request.now c.args.bus.now bytes c.insist-again.new.bus) (sym c.bytes_of_noise.ensures)
    (differs c.insist-first.result c.insist-again.result (ap answer_of (sym c.as_slice.ensures.bytes) ∙ sym c.in-Some.ensures) (c.is_from.ensures.no c.if-is_from.false)
    c.insist-first.ensures.asked c.insist-again.ensures.asked)
