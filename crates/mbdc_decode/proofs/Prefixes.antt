-- A text that is written in pieces: what is left after each, and what went out where one of them fails.
use Rattle.std.proofs.Common.{◌≡◌, ℕ, List, [], ◌++◌, Option, true, ap, sym, ◌∙◌, subst}
use Rattle.std.specs.Io.KnownBytes.{append_known}
use Rattle.mbdc_io.specs.Stream.{Puts, begins_with, PutsFront}
use Rattle.mbdc_io.proofs.Pieces.{append_known-more, append_known-nil, puts_front-first}

-- of the first piece of what is left, after what went out of the whole
pub front_of_all : (old between new : Option (List ℕ)) (piece rest left all : List ℕ) → left ≡ piece ++ rest → append_known between left ≡ append_known old all → PutsFront between new piece → PutsFront old new all
front_of_all old between new piece rest left all is same front = record {
  begins = let P : Option (List ℕ) → Type 0 = λ m. begins_with m new ≡ true in subst P (ap (append_known between) (sym is) ∙ same) (puts_front-first rest front).begins;
}

-- what is left once that piece went out too
pub rest_of_all : (old between new : Option (List ℕ)) (piece rest left all : List ℕ) → left ≡ piece ++ rest → append_known between left ≡ append_known old all → Puts between new piece → append_known new rest ≡ append_known old all
rest_of_all old between new piece rest left all is same put =
    ap (λ (m : Option (List ℕ)). append_known m rest) put ∙ append_known-more between piece rest ∙ ap (append_known between) (sym is) ∙ same

-- nothing is left
pub all_went : (old new : Option (List ℕ)) (left all : List ℕ) → left ≡ [] → append_known new left ≡ append_known old all → Puts old new all
all_went old new left all none same = sym (append_known-nil new) ∙ ap (append_known new) (sym none) ∙ same
