-- What is told of a reading: its fields, one after the other.
use Rattle.std.proofs.Common.{◌≡◌, ℕ, List, [], ◌∷◌, ◌++◌, Option, codes, decimal, ap, sym, ◌∙◌, append-nil, append_assoc}
use Rattle.json.specs.Json.{Json}
use Rattle.json.specs.Token as Token
use Rattle.json.specs.Tree.{json_tokens}
use Rattle.dc_meters.specs.declared.place.Place.{Place}
use Rattle.mbdc_decode.specs.Object.{Field, count, fields_tokens}
use Rattle.mbdc_decode.proofs.ObjectTexts.{fields-append, members_are}
use Rattle.mbdc_shown.specs.Reported.{reported_fields}
use Rattle.mbdc_shown.specs.Stand.{bodies_sent}
use Rattle.mbdc_json.specs.Values.{is_noted, place_fields, reading_json, shown_json, stands_json}
use Rattle.mbdc_json.specs.declared.latest.reading.Shown.{Shown}

pub reading_as : (kind : ℕ) (r : Shown)
    → Token.begin_object ∷ Token.key (codes "serial") ∷ Token.number (decimal r.serial) ∷ (fields_tokens (reported_fields r.moment r.status kind (bodies_sent r.bodies)) ++ (Token.end_object ∷ [])) ≡ json_tokens (reading_json kind r)
unfolding reading_json fields_tokens
reading_as kind r =
    ap (λ (ts : List Token.Token). Token.begin_object ∷ ts)
    (sym (members_are ((codes "serial", count r.serial) ∷ reported_fields r.moment r.status kind (bodies_sent r.bodies))))

-- a registered meter, and its reading
pub stands_as : (place : Place) (shown : Option Shown)
    → Token.begin_object ∷ (fields_tokens (place_fields place (is_noted shown)) ++ (Token.key (codes "reading") ∷ (json_tokens (shown_json place.meter.kind shown) ++ (Token.end_object ∷ [])))) ≡ json_tokens (stands_json place shown)
unfolding stands_json fields_tokens
stands_as place shown =
    let first = place_fields place (is_noted shown) in
    let json : Json = shown_json place.meter.kind shown in
    let last : List Field = (codes "reading", json) ∷ [] in
    ap (λ (ts : List Token.Token). Token.begin_object ∷ (fields_tokens first ++ (Token.key (codes "reading") ∷ (ts ++ (Token.end_object ∷ []))))) (sym (append-nil (json_tokens json)))
    ∙ ap (λ (ts : List Token.Token). Token.begin_object ∷ ts) (sym (append_assoc (fields_tokens first) (fields_tokens last) (Token.end_object ∷ [])))
    ∙ ap (λ (ts : List Token.Token). Token.begin_object ∷ (ts ++ (Token.end_object ∷ []))) (sym (fields-append first last))
    ∙ ap (λ (ts : List Token.Token). Token.begin_object ∷ ts) (sym (members_are (first ++ last)))
