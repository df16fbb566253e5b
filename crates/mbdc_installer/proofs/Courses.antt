-- The counts of a search's course, exchange by exchange.
use Rattle.std.proofs.Common.{◌≡◌, ℕ, ◌+◌, Bool, true, false, List, [], ◌∷◌, cond, refl, ap, ◌∙◌, zero-add, arith}
use Rattle.std.proofs.lemmas.List.Sums.{sum_by-cons}
use Rattle.std.specs.Prelude.{min, count_by}
use Rattle.mbdc_bus.specs.Bus.{Exchange}
use Rattle.mbdc_installer.specs.Course.{CountsAnswers, after_answer, after_request, course_of, met_collision, met_noise, met_silence, most, new_course, one_if}
use Rattle.mbdc_installer.specs.declared.course.Course.{Course}

capped : (top m n : ℕ) → m ≡ min top n → min top (m + 1) ≡ min top (n + 1)
capped top m n is = omega (arith, is)

one_more : (b : Bool) (m n : ℕ) → m ≡ min most n → one_if b m ≡ min most (n + cond b 1 0)
one_more true m n is = capped most m n is
one_more false m n is = is ∙ ap (min most) (omega arith)

abbrev next : Exchange → Course → Course
next e c = after_answer e.answer (after_request e.request c)

-- a count that each such exchange raises
counted : (p : Exchange → Bool) (field : Course → ℕ) → ((e : Exchange) (c : Course) → field (next e c) ≡ one_if (p e) (field c))
    → (exchanges : List Exchange) (c : Course) (n : ℕ) → field c ≡ min most n → field (course_of c exchanges) ≡ min most (n + count_by p exchanges)
counted p field raises [] c n is = is ∙ ap (min most) (omega arith)
counted p field raises (e ∷ more) c n is =
    let one = raises e c ∙ one_more (p e) (field c) n is in
    let later = counted p field raises more (next e c) (n + cond (p e) 1 0) one in
    let first = sum_by-cons (λ (x : Exchange). cond (p x) 1 0) e more in
    let both : n + cond (p e) 1 0 + count_by p more ≡ n + count_by p (e ∷ more) = omega (arith, first) in
    later ∙ ap (min most) both

pub counts_answers : (exchanges : List Exchange) → CountsAnswers exchanges
counts_answers exchanges = record {
  silent = counted met_silence (λ c. c.silent) (λ e c. refl) exchanges new_course 0 refl ∙ ap (min most) (zero-add (count_by met_silence exchanges));
  unreadable = counted met_noise (λ c. c.unreadable) (λ e c. refl) exchanges new_course 0 refl ∙ ap (min most) (zero-add (count_by met_noise exchanges));
  collided = counted met_collision (λ c. c.collided) (λ e c. refl) exchanges new_course 0 refl ∙ ap (min most) (zero-add (count_by met_collision exchanges));
}
