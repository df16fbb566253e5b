use Rattle.std.proofs.Common.{◌≡◌, ap, ℕ, length, refl, Result, Ok, sym}
use Rattle.std.proofs.lemmas.Option.{slice_get_read}
use Rattle.mbdc_audit.proofs.Judged.{found, only}
use Rattle.mbdc_audit.proofs.readings.judge.Goals as goal

ok_one : (E : Type 0) (n m : ℕ) → ◌≡◌ {A = Result ℕ E} (Ok n) (Ok m) → n ≡ m
ok_one E n m e = cc

ok_same : (E : Type 0) (n m : ℕ) → n ≡ m → ◌≡◌ {A = Result ℕ E} (Ok n) (Ok m)
ok_same E n m e = ap (λ (k : ℕ). Ok k) e

pub returns-in-Ok : goal.returns-in-Ok
returns-in-Ok g c =
    let rs = c.args.runs.now in
    let v = c.args.value.now in
    let look = c.in-Some.ensures.lookup in
    let there = slice_get_read rs (length rs) v.run c.in-Some.run'.now refl look.3.0 look.1 in (
      refl,
      λ n. (
        λ e. found rs c.args.counted v c.in-Some.run'.now c.in-Ok.found n there c.in-Ok.ensures.ok (ok_one _ c.in-Ok.found n e),
        λ h. ok_same _ c.in-Ok.found n (only rs c.args.counted v c.in-Some.run'.now (c.in-Ok.found ≡ n) n there
            (λ rests. sym (c.in-Ok.ensures.one n rests)) h),
      ),
    )

pub returns-in-Err-Refused : goal.returns-in-Err-Refused
returns-in-Err-Refused g c =
    let rs = c.args.runs.now in
    let v = c.args.value.now in
    let look = c.in-Some.ensures.lookup in
    let there = slice_get_read rs (length rs) v.run c.in-Some.run'.now refl look.3.0 look.1 in
    let never = rw c.in-Err-Refused.field-0-is at c.in-Err-Refused.ensures.only in (
      refl,
      λ n. (
        λ e. absurd cc,
        λ h. absurd (only rs c.args.counted v c.in-Some.run'.now ⊥ n there (λ rests. never tt n rests) h),
      ),
    )
