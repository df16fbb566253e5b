-- One line, and the lines after it.
use Rattle.std.proofs.Common.{◌≡◌, ℕ, ◌+◌, List, [], ◌∷◌, ◌++◌, Option, None, Some, sym, ap, subst, ◌∙◌}
use Rattle.std.proofs.lemmas.List.{append_assoc, append-nil}
use Rattle.mbdc_raw.specs.Reach.{Reaches}

-- peers that follow others, and one more before them
pub one_more : {X : Type 0} (xs added : List X) (x : X) (mid new : List X) → mid ≡ xs ++ x ∷ [] → new ≡ mid ++ added → new ≡ xs ++ x ∷ added
one_more xs added x mid new is follows = follows ∙ ap (λ ys. ys ++ added) is ∙ append_assoc xs (x ∷ []) added

pub all_of_none : {X : Type 0} (xs : List X) → xs ≡ xs ++ []
all_of_none xs = sym (append-nil xs)

module _ {C N P : Type 0} (tries : C → N → Option P → C → Type 0) where
  pub reaches_first : (says : C → ℕ → C → Type 0) (line : ℕ) (link : Option N) (links : List (Option N)) (peer : Option P) (peers : List (Option P)) (old mid new : C) → Reaches tries says line (link ∷ []) (peer ∷ []) old mid → Reaches tries says (line + 1) links peers mid new → Reaches tries says line (link ∷ links) (peer ∷ peers) old new
  reaches_first says line None links None peers old mid new first rest = subst (λ (c : C). Reaches tries says (line + 1) links peers c new) first rest
  reaches_first says line None links (Some peer) peers old mid new first rest = absurd first
  reaches_first says line (Some link) links (Some peer) peers old mid new (came, tried, same) rest = (came, tried, subst (λ (c : C). Reaches tries says (line + 1) links peers c new) same rest)
  reaches_first says line (Some link) links None peers old mid new (missed, said, tried, told, same) rest = (missed, said, tried, told, subst (λ (c : C). Reaches tries says (line + 1) links peers c new) same rest)

-- the lines from one on
pub ruleset all_reached = (reaches_first, all_of_none, one_more)
