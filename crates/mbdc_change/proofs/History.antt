-- Lists of changes, part by part.
use Rattle.std.proofs.Common.{◌≡◌, ℕ, List, [], ◌∷◌, ◌++◌, refl}
use Rattle.mbdc_change.specs.declared.change.Change.{Change}
use Rattle.mbdc_change.specs.State.{State}
use Rattle.mbdc_change.specs.Apply.{applied}
use Rattle.mbdc_change.specs.Accepts.{Accepts}
use Rattle.mbdc_change.specs.History.{after, AcceptsAll}

pub after_of_append : (s : State) (first then : List Change) → after s (first ++ then) ≡ after (after s first) then
after_of_append s [] then = refl
after_of_append s (change ∷ first) then = after_of_append (applied change s) first then

pub after_of_push : (s : State) (changes : List Change) (change : Change) → after s (changes ++ change ∷ []) ≡ applied change (after s changes)
after_of_push s changes change = after_of_append s changes (change ∷ [])

pub accepts_all_of_append : (budget : ℕ) (s : State) (first then : List Change) → AcceptsAll budget s first → AcceptsAll budget (after s first) then → AcceptsAll budget s (first ++ then)
accepts_all_of_append budget s [] then a b = b
accepts_all_of_append budget s (change ∷ first) then a b = (a.0, accepts_all_of_append budget (applied change s) first then a.1 b)

pub accepts_all_parts : (budget : ℕ) (s : State) (first then : List Change) → AcceptsAll budget s (first ++ then) → AcceptsAll budget s first × AcceptsAll budget (after s first) then
accepts_all_parts budget s [] then a = (tt, a)
accepts_all_parts budget s (change ∷ first) then a =
    let rest = accepts_all_parts budget (applied change s) first then a.1 in ((a.0, rest.0), rest.1)

pub accepts_all_of_push : (budget : ℕ) (s : State) (changes : List Change) (change : Change) → AcceptsAll budget s changes → Accepts budget change (after s changes) → AcceptsAll budget s (changes ++ change ∷ [])
accepts_all_of_push budget s changes change so_far accepts = accepts_all_of_append budget s changes (change ∷ []) so_far (accepts, tt)

-- what a list of changes is accepted by, part by part
pub ruleset accepted = (accepts_all_of_append, accepts_all_parts, accepts_all_of_push)
