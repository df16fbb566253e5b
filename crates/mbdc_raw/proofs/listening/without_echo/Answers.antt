use Rattle.std.proofs.Common.{◌≡◌, ◌≤◌, true, false, ℕ, Bool, List, ◌++◌, length, take, drop, ap, sym, ◌∙◌, arith, if◌then◌else◌}
use Rattle.std.proofs.lemmas.List.{length-drop, take_all}
use Rattle.mbdc_bus.specs.Limits.{most_answer}
use Rattle.mbdc_raw.specs.Heard.{begins}
use Rattle.mbdc_raw.proofs.listening.without_echo.Goals as goal

pub returns-then-starts_with : goal.returns-then-starts_with
returns-then-starts_with c =
    let all : List ℕ = c.args.all.now in
    let request : List ℕ = c.args.request.now in
    let is : begins request all ≡ true =
    sym (ap (λ (xs : List ℕ). begins c.as_slice.result.now xs) c.as_slice-bytes.ensures.bytes ∙ ap (λ (r : List ℕ). begins r all) c.as_slice.ensures.bytes)
    ∙ sym c.starts_with.ensures.value ∙ c.if-starts_with.true in
    let fits : length (drop (length request) all) ≤ most_answer = omega (arith, c.as_slice-bytes.ensures.fits, length-drop (length request) all) in
    c.append.ensures ∙ ap (λ (xs : List ℕ). take most_answer (xs ++ c.split_at.result.1.now)) c.new-answer.ensures
    ∙ ap (take most_answer) (c.split_at.ensures.back ∙ ap (λ (xs : List ℕ). drop (length c.as_slice-then-starts_with.result.now) xs) c.as_slice-bytes.ensures.bytes
    ∙ ap (λ (r : List ℕ). drop (length r) all) c.as_slice-then-starts_with.ensures.bytes)
    ∙ take_all most_answer (drop (length request) all) fits
    ∙ sym (ap (λ (b : Bool). if b then drop (length request) all else all) is)

pub returns-else-starts_with : goal.returns-else-starts_with
returns-else-starts_with c =
    let all : List ℕ = c.args.all.now in
    let request : List ℕ = c.args.request.now in
    let is : begins request all ≡ false =
    sym (ap (λ (xs : List ℕ). begins c.as_slice.result.now xs) c.as_slice-bytes.ensures.bytes ∙ ap (λ (r : List ℕ). begins r all) c.as_slice.ensures.bytes)
    ∙ sym c.starts_with.ensures.value ∙ c.if-starts_with.false in
    c.append-else-starts_with.ensures ∙ ap (λ (xs : List ℕ). take most_answer (xs ++ c.as_slice-bytes.result.now)) c.new-answer.ensures
    ∙ ap (take most_answer) c.as_slice-bytes.ensures.bytes ∙ take_all most_answer all c.as_slice-bytes.ensures.fits
    ∙ sym (ap (λ (b : Bool). if b then drop (length request) all else all) is)
