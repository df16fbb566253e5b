-- What a failed put leaves.
use Rattle.std.proofs.Common.{◌≡◌, ◌==◌, ℕ, Bool, true, false, List, Option, None, Some, OnErr, Result, Ok, Err, refl, arith, subst, sym}
use Rattle.std.proofs.lemmas.Bool.Decides.{nat_tests}
use Rattle.mbdc_io.specs.Failures.{HasRisen}
use Rattle.mbdc_io.specs.Stream.{PutsFront, begins_with}
use Rattle.mbdc_commands.specs.Bytes.{has_text, text_of}
use Rattle.std.specs.Io.KnownBytes.{append_known}

-- where bytes are held, they begin with nothing; where they aren't known, neither are they then
begins : (is_known is_well : Bool) (old new : Option (List ℕ)) (bytes : List ℕ) → has_text is_known is_well old ≡ true
    → begins_with (append_known (text_of is_known is_well old) bytes) (text_of is_known false new) ≡ true
unfolding begins_with
begins false is_well old new bytes held = refl
begins true false old new bytes held = refl
begins true true None new bytes held = cc
begins true true (Some xs) new bytes held = refl

risen_some : (before now : ℕ) → HasRisen before now → (now == 0) ≡ false
risen_some before now risen = grind (arith, nat_tests)

pub failed_front : (is_known : Bool) (old new : Option (List ℕ)) (before now : ℕ) (bytes : List ℕ) → has_text is_known (before == 0) old ≡ true → HasRisen before now
    → PutsFront (text_of is_known (before == 0) old) (text_of is_known (now == 0) new) bytes
failed_front is_known old new before now bytes held risen =
    record { begins = subst (λ (w : Bool). begins_with (append_known (text_of is_known (before == 0) old) bytes) (text_of is_known w new) ≡ true) (sym (risen_some before now risen)) (begins is_known (before == 0) old new bytes held) }

pub on_err : {X E : Type 0} (result : Result X E) (P Q : Type 0) → OnErr result P → (P → Q) → OnErr result Q
on_err (Ok x) P Q known shows = tt
on_err (Err e) P Q known shows = shows known
