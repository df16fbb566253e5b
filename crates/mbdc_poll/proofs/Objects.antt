-- The fields of events, in pieces.
use Rattle.std.proofs.Common.{◌≡◌, ◌<◌, ◌≤◌, ◌-◌, ℕ, List, [], ◌∷◌, ◌++◌, arith, codes, drop, get_or, length, map, refl, take, ap, sym, ◌∙◌, append-nil}
use Rattle.std.proofs.lemmas.List.{take_all}
use Rattle.json.specs.Json.{Json}
use Rattle.json.specs.Token as Token
use Rattle.json.specs.Tree.{json_tokens}
use Rattle.dc_address.specs.Text.{text_of}
use Rattle.dc_address.specs.declared.identity.Identity.{Identity}
use Rattle.dc_readout.specs.declared.why.Why.{Why}
use Rattle.dc_readout.specs.declared.why.Why.TheVariants.{NoAnswer, WrongFrame, WrongAddress, ApplicationError, Content, Stranger, TooManyParts}
use Rattle.dc_records.specs.declared.fault.BodyFault.{BodyFault}
use Rattle.mbdc_decode.specs.Object.{Field, array_of, fields_tokens, object_of as object_with, values_tokens}
use Rattle.mbdc_decode.proofs.ObjectTexts.{fields-append, first_value, items_are, members_are}
use Rattle.mbdc_poll.specs.Object.{bodies_field, body_fields, event_field, fault_fields, meter_field, text_field}
use Rattle.mbdc_io.specs.Hex.{upper_hex}
use Rattle.mbdc_poll.specs.Read.{hex_json}

-- the event and its meter, and then the others
pub of_meter : (name : List ℕ) (meter : Identity) (text : List ℕ) (tokens : List Token.Token) (rest : List Field) → text ≡ text_of meter → tokens ≡ fields_tokens rest
    → fields_tokens (event_field name ∷ text_field (codes "meter") text ∷ []) ++ tokens ≡ fields_tokens ((event_field name ∷ meter_field meter ∷ []) ++ rest)
of_meter name meter text tokens rest is same =
    ap (λ (t : List ℕ). fields_tokens (event_field name ∷ text_field (codes "meter") t ∷ []) ++ tokens) is
    ∙ ap (λ (ts : List Token.Token). fields_tokens (event_field name ∷ meter_field meter ∷ []) ++ ts) same
    ∙ sym (fields-append (event_field name ∷ meter_field meter ∷ []) rest)

pub four : (a given b c d last : List Field) → given ≡ a → last ≡ d
    → fields_tokens given ++ (fields_tokens b ++ (fields_tokens c ++ fields_tokens last)) ≡ fields_tokens (a ++ (b ++ (c ++ d)))
four a given b c d last is same =
    ap (λ (f : List Field). fields_tokens f ++ (fields_tokens b ++ (fields_tokens c ++ fields_tokens last))) is
    ∙ ap (λ (f : List Field). fields_tokens a ++ (fields_tokens b ++ (fields_tokens c ++ fields_tokens f))) same
    ∙ sym (fields-append a (b ++ (c ++ d)) ∙ ap (λ (ts : List Token.Token). fields_tokens a ++ ts)
    (fields-append b (c ++ d) ∙ ap (λ (ts : List Token.Token). fields_tokens b ++ ts) (fields-append c d)))

pub fault_is : {n m : ℕ} {s t : List ℕ} → n ≡ m → s ≡ t → fault_fields n s ≡ fault_fields m t
fault_is {n} {m} {s} {t} number name = ap (λ (k : ℕ). fault_fields k s) number ∙ ap (λ (x : List ℕ). fault_fields m x) name

-- bodies in hex digits are the first one and the others
pub no_body_left : {X : Type 0} (text : X → List ℕ) (xs : List X) → length xs < 1 → [] ≡ values_tokens (map hex_json (map text xs))
unfolding values_tokens
no_body_left text [] none = refl
no_body_left text (x ∷ xs) none = absurd (omega arith)

pub first_body : {X : Type 0} (text : X → List ℕ) (xs : List X) (d : X) → 1 ≤ length xs
    → (Token.string (upper_hex (text (get_or xs 0 d))) ∷ []) ++ (values_tokens (map hex_json (map text (take (length xs - 1) (drop 1 xs)))) ++ []) ≡ values_tokens (map hex_json (map text xs))
first_body text [] d some = absurd (omega arith)
first_body {X} text (first ∷ rest) d some =
    ap (λ (r : List X). (Token.string (upper_hex (text first)) ∷ []) ++ (values_tokens (map hex_json (map text r)) ++ [])) (take_all (length (first ∷ rest) - 1) rest (omega arith))
    ∙ ap (λ (ts : List Token.Token). (Token.string (upper_hex (text first)) ∷ []) ++ ts) (append-nil (values_tokens (map hex_json (map text rest))))
    ∙ sym (first_value (hex_json (text first)) (map hex_json (map text rest)))

-- the bodies of telegrams after their name
pub bodies_are : {X : Type 0} (text : X → List ℕ) (xs : List X) (bodies : List (List ℕ)) → map text xs ≡ bodies
    → (Token.key (codes "bodies") ∷ []) ++ ((Token.begin_array ∷ []) ++ (values_tokens (map hex_json (map text xs)) ++ (Token.end_array ∷ []))) ≡ fields_tokens (bodies_field bodies ∷ [])
unfolding fields_tokens bodies_field
bodies_are text xs bodies is =
    ap (λ (bs : List (List ℕ)). Token.key (codes "bodies") ∷ Token.begin_array ∷ (values_tokens (map hex_json bs) ++ (Token.end_array ∷ []))) is
    ∙ ap (λ (ts : List Token.Token). Token.key (codes "bodies") ∷ Token.begin_array ∷ ts) (sym (items_are (map hex_json bodies)))
    ∙ ap (λ (ts : List Token.Token). Token.key (codes "bodies") ∷ ts) (sym (append-nil (json_tokens (array_of (map hex_json bodies)))))

-- a value after its name
pub named : (name : List ℕ) (json : Json) → (Token.key name ∷ []) ++ (json_tokens json ++ []) ≡ fields_tokens ((name, json) ∷ [])
unfolding fields_tokens
named name json = refl

-- an object after its name
pub object_is : (name : List ℕ) (fields : List Field) → (Token.key name ∷ []) ++ ((Token.begin_object ∷ []) ++ (fields_tokens fields ++ (Token.end_object ∷ []))) ≡ fields_tokens ((name, object_with fields) ∷ [])
unfolding fields_tokens
object_is name fields =
    ap (λ (ts : List Token.Token). Token.key name ∷ Token.begin_object ∷ ts) (sym (members_are fields))
    ∙ ap (λ (ts : List Token.Token). Token.key name ∷ ts) (sym (append-nil (json_tokens (object_with fields))))

-- what is no fault of content has no fault of the body
pub no_body : (why : Why) → ((fault : BodyFault) → ¬ (why ≡ Content fault)) → [] ≡ fields_tokens (body_fields why)
unfolding fields_tokens body_fields
no_body (Content fault) not = absurd (not fault refl)
no_body NoAnswer not = refl
no_body WrongFrame not = refl
no_body WrongAddress not = refl
no_body ApplicationError not = refl
no_body Stranger not = refl
no_body TooManyParts not = refl
