-- A prefix of one piece of a text is one of the text: what a writer of several pieces cites where one of them fails.
use Rattle.std.proofs.Common.{◌≡◌, ℕ, List, ◌++◌, Option, true, ap, sym, ◌∙◌, subst}
use Rattle.std.specs.Io.KnownBytes.{append_known}
use Rattle.mbdc_io.specs.Stream.{begins_with, PutsFront}
use Rattle.mbdc_io.proofs.Pieces.{puts_front-first}

-- of the first piece of what is left, after what went out of the whole
pub front_of_all : (old between new : Option (List ℕ)) (piece rest left all : List ℕ) → left ≡ piece ++ rest → append_known between left ≡ append_known old all → PutsFront between new piece → PutsFront old new all
front_of_all old between new piece rest left all is same front = record {
  begins = let P : Option (List ℕ) → Type 0 = λ m. begins_with m new ≡ true in subst P (ap (append_known between) (sym is) ∙ same) (puts_front-first rest front).begins;
}
