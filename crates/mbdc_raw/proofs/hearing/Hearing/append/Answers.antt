use Rattle.std.proofs.Common.{◌≡◌, Bool, true, ℕ, List, ap, sym, subst, ◌∙◌}
use Rattle.std.proofs.lemmas.Bool.{false≢true}
use Rattle.std.proofs.lemmas.Slice.Eq.{bytes_eq-Decides}
use Rattle.mbdc_raw.proofs.Echoes.{echo_came, hearing_of, more_came, more_kept}
use Rattle.mbdc_raw.specs.Heard.{IsKept}
use Rattle.mbdc_raw.proofs.hearing.Hearing.append.Goals as goal

pub invariant_of-self : goal.invariant_of-self
invariant_of-self c =
    more_kept c.args.self.now c.self.inside.request c.self.inside.answer c.args.more.now c.append.new.self c.self.inside.echoed c.self.view_is c.self.invariant c.requires c.append.ensures
    (λ e. absurd (false≢true (sym e ∙ c.if-self.true)))

pub returns-then-self : goal.returns-then-self
returns-then-self c =
    more_came c.args.self.now c.self.inside.request c.self.inside.answer c.args.more.now c.append.new.self c.self.inside.echoed c.self.view_is c.self.invariant c.requires c.append.ensures

pub invariant_of-self-else-eq : goal.invariant_of-self-else-eq
invariant_of-self-else-eq c =
    more_kept c.args.self.now c.self.inside.request c.self.inside.answer c.args.more.now c.append.new.self c.self.inside.echoed c.self.view_is c.self.invariant c.requires c.append.ensures
    (λ _ same. absurd (false≢true (sym c.if-eq.false ∙ c.eq.ensures
    ∙ (bytes_eq-Decides c.as_slice.result.now c.as_slice-2.result.now).1 (c.as_slice.ensures.bytes ∙ same ∙ sym c.as_slice-2.ensures.bytes))))

pub returns-else-eq : goal.returns-else-eq
returns-else-eq c =
    more_came c.args.self.now c.self.inside.request c.self.inside.answer c.args.more.now c.append.new.self c.self.inside.echoed c.self.view_is c.self.invariant c.requires c.append.ensures

pub returns-then-eq : goal.returns-then-eq
returns-then-eq c =
    let same : c.append.new.self ≡ c.self.inside.request = sym c.as_slice.ensures.bytes
    ∙ (bytes_eq-Decides c.as_slice.result.now c.as_slice-2.result.now).0 (sym c.eq.ensures ∙ c.if-eq.true) ∙ c.as_slice-2.ensures.bytes in
    ap (λ (xs : List ℕ). hearing_of c.self.inside.request xs true) c.new-self-inside.ensures
    ∙ echo_came c.args.self.now c.self.inside.request c.self.inside.answer c.args.more.now c.append.new.self
    (subst (λ (b : Bool). hearing_of c.self.inside.request c.self.inside.answer b ≡ c.args.self.now) c.if-self.false c.self.view_is)
    (subst (λ (b : Bool). IsKept c.self.inside.request c.self.inside.answer b) c.if-self.false c.self.invariant) c.requires c.append.ensures same
