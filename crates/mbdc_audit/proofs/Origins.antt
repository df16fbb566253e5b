-- The source of a value by its word.
use Rattle.std.proofs.Common.{◌≡◌, ℕ, List}
use Rattle.std.proofs.Common.{refl, Option}
use Rattle.mbdc_audit.specs.House.{Source, current, stored, ended, anew, put, first, last}
use Rattle.mbdc_audit.specs.Kept.{is_anew}
use Rattle.mbdc_audit.specs.Sound.{is_word}
use Rattle.mbdc_audit.specs.View.{of_word}
use Rattle.mbdc_audit.specs.declared.house.Typed.{Typed}
use Rattle.mbdc_audit.specs.declared.line.Word.{Word}
use Rattle.mbdc_audit.specs.declared.line.Word.TheVariants as word
use Rattle.mbdc_audit.specs.declared.moment.DayEnd.{DayEnd}

-- ---- words

pub anew_is : (w : Word) (bodies : List ℕ) (e : Option DayEnd) (t : Option Typed) → (w ≡ word.Read → ⊥) → (w ≡ word.Stored → ⊥)
    → (w ≡ word.Ended → ⊥) → (w ≡ word.Hand → ⊥) → (w ≡ word.Estimated → ⊥) → (w ≡ word.First → ⊥) → (w ≡ word.Last → ⊥)
    → of_word w bodies e t ≡ anew
anew_is word.Read bodies e t r s n h g f l = absurd (r refl)
anew_is word.Stored bodies e t r s n h g f l = absurd (s refl)
anew_is word.Ended bodies e t r s n h g f l = absurd (n refl)
anew_is word.Hand bodies e t r s n h g f l = absurd (h refl)
anew_is word.Estimated bodies e t r s n h g f l = absurd (g refl)
anew_is word.First bodies e t r s n h g f l = absurd (f refl)
anew_is word.Last bodies e t r s n h g f l = absurd (l refl)
anew_is _ bodies e t r s n h g f l = refl

pub of_anew : (s o : Source) → s ≡ anew → is_anew o ≡ is_word s o
of_anew s (current b) e = rw e refl
of_anew s (stored d b) e = rw e refl
of_anew s (ended d b) e = rw e refl
of_anew s anew e = rw e refl
of_anew s (put g t) e = rw e refl
of_anew s (first g t) e = rw e refl
of_anew s (last g t) e = rw e refl
