-- Summaries, field by field.
use Rattle.std.proofs.Common.{◌≡◌, ℕ, Option, ap, ◌∙◌}
use Rattle.mbdc_looks.specs.declared.summary.Summary.{Summary}

abbrev pub sum_of : ℕ → ℕ → ℕ → ℕ → Option ℕ → Option ℕ → ℕ → ℕ → Summary
sum_of s b m r f l c n = record { size = s; budget = b; meters = m; readings = r; first = f; last = l; confirmed = c; command = n }

pub same_sum : {s b m r c n s' b' m' r' c' n' : ℕ} {f l f' l' : Option ℕ} → s ≡ s' → b ≡ b' → m ≡ m' → r ≡ r' → f ≡ f' → l ≡ l' → c ≡ c' → n ≡ n'
    → sum_of s b m r f l c n ≡ sum_of s' b' m' r' f' l' c' n'
same_sum {s} {b} {m} {r} {c} {n} {s'} {b'} {m'} {r'} {c'} {n'} {f} {l} {f'} {l'} ps pb pm pr pf pl pc pn =
    ap (λ x. sum_of x b m r f l c n) ps ∙ ap (λ x. sum_of s' x m r f l c n) pb ∙ ap (λ x. sum_of s' b' x r f l c n) pm
    ∙ ap (λ x. sum_of s' b' m' x f l c n) pr ∙ ap (λ x. sum_of s' b' m' r' x l c n) pf ∙ ap (λ x. sum_of s' b' m' r' f' x c n) pl
    ∙ ap (λ x. sum_of s' b' m' r' f' l' x n) pc ∙ ap (λ x. sum_of s' b' m' r' f' l' c' x) pn
