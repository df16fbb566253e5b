use Rattle.std.proofs.Common.{◌≡◌, ◌∷◌, [], List, ℕ, true, sym, ap, ◌∙◌, refl, map, Vec}
use Rattle.mbdc_audit.specs.Judged.{IsFine, is_said}
use Rattle.mbdc_audit.specs.Published.{printed}
use Rattle.mbdc_audit.specs.View.{number_of}
use Rattle.mbdc_audit.specs.Walk.{IsHeld, texts_beside}
use Rattle.mbdc_audit.proofs.Judge.{checks_by, judged}
use Rattle.mbdc_audit.proofs.PlacedNumbers.{kept_by}
use Rattle.mbdc_audit.proofs.Said.{text_by}
use Rattle.mbdc_audit.proofs.teller.Teller.judge.Goals as goal

pub returns-clause-right : goal.returns-clause-right
returns-clause-right g c = λ none.
    let n = number_of c.args.number.now in
    let d : ℕ = c.decimals_in-decimals.result in
    let beside : List (List ℕ) = texts_beside c.args.holds.1 in
    let text : n.text ≡ _ = text_by c.args.number.now c.args.number.now.said (record { ref_ptr = (0, 0); now = [] }) refl in
    let same : c.is_held-is_right.result ≡ is_said n (printed d c.args.holds.0 ∷ beside) = c.is_held-is_right.ensures
    ∙ (ap (λ (ts : List (Vec ℕ g.row.A.Denot)). is_said n (map (λ (t : Vec ℕ g.row.A.Denot). t.items) ts)) c.as_slice.ensures.value
    ∙ (ap (λ (ts : List (List ℕ)). is_said n ts) c.in_ok-held.ensures
    ∙ ap (λ (t : List ℕ). is_said n (t ∷ beside)) c.in_ok-text.ensures.text)) in
    let j = judged n c.args.holds.0 beside d c.decimals_in-decimals.ensures.few none
    (λ y e few is. c.decimals_in-decimals.ensures.all y e few (sym text ∙ is)) in
    checks_by c.end_number.result c.args.self.now.counts c.judge_decimals.new.self.counts c.end_number.new.self.counts (IsFine n d c.args.holds.0) (c.is_held-is_right.result ≡ true) (IsHeld n c.args.holds.0 beside) c.in_ok-text.ensures.fine c.end_number.ensures
    (λ both. j.0 (both.0, sym same ∙ both.1), λ held. let r = j.1 held in (r.0, same ∙ r.1))

pub returns-clause-kept : goal.returns-clause-kept
returns-clause-kept g c = kept_by c.end_number.result c.args.self.now.counts c.judge_decimals.new.self.counts c.end_number.new.self.counts
    (c.is_held-is_right.result ≡ true) (λ clean. (c.in_ok-text.ensures.fine.0 clean).0) c.end_number.ensures
