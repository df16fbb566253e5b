-- What a store's proofs need of a counter.
use Rattle.std.proofs.Common.{◌≡◌, ◌<◌, ◌≤◌, ◌+◌, ◌^◌, ℕ, List, [], ◌∷◌, ◌++◌, length, refl, sym, ◌∙◌, arith}
use Rattle.std.proofs.Common.{ap}
use Rattle.std.proofs.lemmas.List.{append-nil}
use Rattle.byteorder.specs.Endian.{little_bytes, little_number}
use Rattle.byteorder.specs.Numbers.{length-bytes_low_first, little_number-reads_back}
use Rattle.mbdc_theorems.specs.Counting.{SpellsNumber, SpellsStep, counted, zeros}

pub one_number : (budget : ℕ) (bytes : List ℕ) (s t : ℕ) → budget < 2 ^ 32 →
    SpellsNumber budget bytes s → SpellsNumber budget bytes t → s ≡ t
one_number budget bytes s t small a b = a.number ∙ sym b.number

pub one_step : (bytes : List ℕ) (cs ds : List ℕ) → SpellsStep bytes cs → SpellsStep bytes ds → cs ≡ ds
one_step bytes cs ds a b = a.number ∙ sym b.number

pub wider_number : (small great : ℕ) (bytes : List ℕ) (s : ℕ) → small ≤ great → SpellsNumber small bytes s → SpellsNumber great bytes s
wider_number small great bytes s le is = record { eight = is.eight; number = is.number; room = (let room = is.room in omega arith) }

pub some_number : (budget : ℕ) (bytes : List ℕ) (s : ℕ) → SpellsNumber budget bytes s → 0 < length bytes
some_number budget bytes s is = let eight = is.eight in omega arith

pub fits_number : (budget : ℕ) (bytes : List ℕ) (s : ℕ) → SpellsNumber budget bytes s → length bytes ≤ budget
fits_number budget bytes s is = let eight = is.eight in let room = is.room in omega arith

pub zero_spelled : SpellsNumber 15616 zeros 0
zero_spelled = record { eight = refl; number = refl; room = omega arith }

pub counted_append : (s : ℕ) (first then : List ℕ) → counted s (first ++ then) ≡ counted (counted s first) then
counted_append s [] then = refl
counted_append s (step ∷ first) then = counted_append (s + step) first then

-- what is written for a number spells it
pub written_number : (budget n : ℕ) → n < 2 ^ 64 → 8 ≤ budget → SpellsNumber budget (little_bytes 8 n) n
written_number budget n small room = record {
  eight = length-bytes_low_first 0 8 n;
  number = sym (ap (little_number 8) (sym (append-nil (little_bytes 8 n))) ∙ little_number-reads_back 8 n [] small);
  room = room;
}
