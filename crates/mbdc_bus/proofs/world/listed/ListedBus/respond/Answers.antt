use Rattle.std.proofs.Common.{◌≡◌, ◌<◌, ◌≤◌, ℕ, List, [], ◌∷◌, ◌++◌, None, length, take, arith, ap, sym, ◌∙◌, subst}
use Rattle.std.proofs.lemmas.List.{take_all}
use Rattle.dc_address.specs.declared.identity.Identity.{Identity}
use Rattle.dc_search.specs.Answer.{answer_of}
use Rattle.dc_search.proofs.Sweeps.{noise}
use Rattle.mbdc_bus.specs.Limits.{most_answer}
use Rattle.mbdc_bus.specs.Bus.{Respond}
use Rattle.mbdc_bus.specs.Listed.{chosen}
use Rattle.mbdc_bus.proofs.world.listed.ListedBus.respond.Goals as goal

collides : (meters : List Identity) (answer : List ℕ) → 1 < length meters → answer_of answer ≡ None → Respond meters answer
collides [] answer more is = absurd (omega (arith, more))
collides (x ∷ []) answer more is = absurd (omega (arith, more))
collides (x ∷ y ∷ rest) answer more is = is

whole : (none bytes more after : List ℕ) → none ≡ [] → bytes ≡ more → length more ≤ 261 → after ≡ take most_answer (none ++ bytes) → after ≡ more
whole none bytes more after empty is fits kept =
    kept ∙ ap (λ (xs : List ℕ). take most_answer (xs ++ bytes)) empty ∙ ap (take most_answer) is ∙ take_all most_answer more (omega (arith, fits))

pub returns-in-One : goal.returns-in-One
returns-in-One c =
    let is = whole c.new-answer.result c.as_slice.result.now c.telegram_of.result c.append.new.self c.new-answer.ensures c.as_slice.ensures.bytes c.as_slice.ensures.fits c.append.ensures in
    subst (λ (meters : List Identity). Respond meters c.append.new.self) (sym c.in-One.ensures) (ap answer_of is ∙ c.telegram_of.ensures)

pub returns-in-More : goal.returns-in-More
returns-in-More c =
    let is = c.append-in-More.ensures ∙ ap (λ (xs : List ℕ). take most_answer (xs ++ 0 ∷ [])) c.new-answer.ensures in
    collides (chosen c.args.self.now) c.append-in-More.new.self c.in-More.ensures (ap answer_of is ∙ noise)
