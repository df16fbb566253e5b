-- What telegrams report: the fields, one after the other.
use Rattle.std.proofs.Common.{◌≡◌, ℕ, List, [], ◌∷◌, ◌++◌, codes, ap, sym, ◌∙◌, append-nil}
use Rattle.json.specs.Token as Token
use Rattle.mbdc_reading.specs.Headline.{headline}
use Rattle.mbdc_reading.specs.Sent.{Sent}
use Rattle.mbdc_decode.specs.Object.{Field, fields_tokens}
use Rattle.mbdc_decode.proofs.ObjectTexts.{fields-append, fields-cons}
use Rattle.mbdc_shown.specs.Reported.{received_fields, records_field, reported_fields, told_fields}
use Rattle.mbdc_shown.specs.Stand.{listed}
use Rattle.mbdc_shown.specs.declared.stand.Current.TheVariants.{Values, Also}

three : (a b c : Field) → fields_tokens (a ∷ []) ++ (fields_tokens (b ∷ []) ++ (fields_tokens (c ∷ []) ++ [])) ≡ fields_tokens (a ∷ b ∷ c ∷ [])
three a b c =
    ap (λ (ts : List Token.Token). fields_tokens (a ∷ []) ++ (fields_tokens (b ∷ []) ++ ts)) (append-nil (fields_tokens (c ∷ [])))
    ∙ ap (λ (ts : List Token.Token). fields_tokens (a ∷ []) ++ ts) (sym (fields-cons b (c ∷ [])))
    ∙ sym (fields-cons a (b ∷ c ∷ []))

abbrev told : List Sent → List Sent → List Sent → List Field
told a b c = records_field (codes "headline") a ∷ records_field (codes "values") b ∷ records_field (codes "also") c ∷ []

pub told_as : (kind : ℕ) (ss a b c : List Sent) → a ≡ headline kind ss → b ≡ listed Values ss → c ≡ listed Also ss
    → fields_tokens (records_field (codes "headline") a ∷ []) ++ (fields_tokens (records_field (codes "values") b ∷ []) ++ (fields_tokens (records_field (codes "also") c ∷ []) ++ [])) ≡ fields_tokens (told_fields kind ss)
unfolding told_fields
told_as kind ss a b c first second third =
    three (records_field (codes "headline") a) (records_field (codes "values") b) (records_field (codes "also") c)
    ∙ ap (λ (x : List Sent). fields_tokens (told x b c)) first
    ∙ ap (λ (x : List Sent). fields_tokens (told (headline kind ss) x c)) second
    ∙ ap (λ (x : List Sent). fields_tokens (told (headline kind ss) (listed Values ss) x)) third

pub reported_as : (moment status kind : ℕ) (ss : List Sent)
    → fields_tokens (received_fields moment status) ++ (fields_tokens (told_fields kind ss) ++ []) ≡ fields_tokens (reported_fields moment status kind ss)
unfolding reported_fields
reported_as moment status kind ss =
    ap (λ (ts : List Token.Token). fields_tokens (received_fields moment status) ++ ts) (append-nil (fields_tokens (told_fields kind ss)))
    ∙ sym (fields-append (received_fields moment status) (told_fields kind ss))
