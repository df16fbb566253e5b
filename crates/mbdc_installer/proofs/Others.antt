-- No meter of CI 72 is behind a wildcard that is closed.
use Rattle.std.proofs.Common.{◌≡◌, ◌≢◌, inl, ◌<◌, ℕ, Bool, true, false, not, ◌&&◌, ◌||◌, List, [], Option, None, Some, refl, ◌∙◌, ap, subst, get_or, if◌then◌else◌, arith}
use Rattle.std.proofs.lemmas.Bool.{eqb-true}
use Rattle.std.proofs.lemmas.Bool.Decides.{nat_tests}
use Rattle.std.specs.Prelude.{bit_and, ◌==◌}
use Rattle.dc_address.specs.Mask.{mask_wire, matches}
use Rattle.dc_address.specs.declared.identity.Identity.{Identity}
use Rattle.dc_linkframe.proofs.Readings.{Spells-frame_of}
use Rattle.dc_linkframe.proofs.Spellings.{frame_of-spelling}
use Rattle.dc_linkframe.specs.Control.{is_rsp_ud, variable_data}
use Rattle.dc_linkframe.specs.Frame.{FrameSeen, ack, short, long, spelling}
use Rattle.dc_linkframe.specs.Reading.{frame_of}
use Rattle.dc_search.specs.Answer.{answer_of, identity_at, identity_in}
use Rattle.mbdc_bus.specs.Windows.{Insists}
use Rattle.mbdc_installer.specs.Confirming.{is_open}
use Rattle.mbdc_installer.specs.Other.{AnswersInStep, HasBitsOf, HidesNone, IsClosedOnce, Looks, can_close, closing, format_in, format_of, if_closing, is_foreign, number_in}
use Rattle.mbdc_installer.specs.declared.other.Format.{Format}

refuted : (b : Bool) → (b ≡ true → ⊥) → b ≡ false
refuted true wrong = absurd (wrong refl)
refuted false wrong = refl

-- what a test let pass
chosen : {X : Type 0} (b : Bool) (x y : X) → (if b then Some x else None) ≡ Some y → (b ≡ true) × (x ≡ y)
chosen true x y e = (refl, cc e)
chosen false x y e = absurd (cc e)

-- the test that let it pass
passed : {X : Type 0} (a b : Bool) (o : Option X) (y : X) → (if a && b then o else None) ≡ Some y → b ≡ true
passed true true o y e = refl
passed true false o y e = absurd (cc e)
passed false b o y e = absurd (cc e)

opened : (foreign open_ : Bool) → (foreign || not open_) ≡ true → open_ ≡ true → foreign ≡ true
opened true open_ e is = refl
opened false true e is = absurd (cc e)
opened false false e is = absurd (cc is)

-- the CI of a long frame is its seventh byte
at_ci : (text : List ℕ) (control address ci : ℕ) (body : List ℕ) → get_or text 1 0 < 256 → frame_of text ≡ Some (long control address ci body)
    → get_or text 6 0 ≡ ci
at_ci text control address ci body fits is = ap (λ bytes. get_or bytes 6 0) (Spells-frame_of text (long control address ci body) fits is).spelled

of_format : (seen : Option FrameSeen) (format : Format) (text : List ℕ) → format_in seen ≡ Some format → get_or text 1 0 < 256 → frame_of text ≡ seen
    → get_or text 6 0 ≡ format.ci
of_format None format text e fits is = absurd (cc e)
of_format (Some ack) format text e fits is = absurd (cc e)
of_format (Some (short control address)) format text e fits is = absurd (cc e)
of_format (Some (long control address ci body)) format text e fits is =
    at_ci text control address ci body fits is
    ∙ ap (λ (f : Format). f.ci) (chosen (is_rsp_ud control && not (ci == variable_data)) (record { ci = ci; number = number_in ci body }) format e).1

of_meter : (seen : Option FrameSeen) (meter : Identity) (text : List ℕ) → identity_in seen ≡ Some meter → get_or text 1 0 < 256 → frame_of text ≡ seen
    → get_or text 6 0 ≡ variable_data
of_meter None meter text e fits is = absurd (cc e)
of_meter (Some ack) meter text e fits is = absurd (cc e)
of_meter (Some (short control address)) meter text e fits is = absurd (cc e)
of_meter (Some (long control address ci body)) meter text e fits is =
    at_ci text control address ci body fits is ∙ eqb-true ci variable_data (passed (is_rsp_ud control) (ci == variable_data) (identity_at body) meter e)

has_frame : (seen : Option FrameSeen) (format : Format) → format_in seen ≡ Some format → (frame : FrameSeen) × (seen ≡ Some frame)
has_frame None format e = absurd (cc e)
has_frame (Some frame) format e = (frame, refl)

closing_parts : (wire : List ℕ) (seen : Option Format) (format : Format) → if_closing wire seen ≡ Some format → (seen ≡ Some format) × (can_close wire format.ci ≡ true)
closing_parts wire None format e = absurd (cc e)
closing_parts wire (Some one) format e =
    let both = chosen (can_close wire one.ci) one format e in
    (ap Some both.1, subst (λ (f : Format). can_close wire f.ci ≡ true) both.1 both.0)

-- a CI with a bit that 72 lacks isn't within 72
not_within : (ci : ℕ) → is_foreign ci ≡ true → bit_and ci variable_data ≡ ci → ⊥
not_within ci foreign within = grind (arith, nat_tests)

apart : (first own : List ℕ) (format : Format) (meter : Identity) → HasBitsOf first own → format_of first ≡ Some format → answer_of own ≡ Some meter
    → is_foreign format.ci ≡ true → ⊥
unfolding format_of answer_of
apart first own format meter bits said sent foreign =
    let heard = of_format (frame_of first) format first said (bits.are_bytes 1) refl in
    let its = of_meter (frame_of own) meter own sent (bits.own_bytes 1) refl in
    not_within format.ci foreign (subst (λ (ci : ℕ). bit_and ci variable_data ≡ ci) heard (subst (λ (byte : ℕ). bit_and (get_or first 6 0) byte ≡ get_or first 6 0) its (bits.bits 6)))

frame_there : (first : List ℕ) (format : Format) → format_of first ≡ Some format → (frame : FrameSeen) × (frame_of first ≡ Some frame)
unfolding format_of
frame_there first format said = has_frame (frame_of first) format said

pub hides_none : {B : Type 0} (asks_all : B → List ℕ → List ℕ → B → Type 0) (meters : List Identity) → AnswersInStep asks_all meters → HidesNone asks_all meters
hides_none asks_all meters line mask format answer old selected_at new asked (Looks.is_kept kept none insisted is) opens m there = absurd (cc is)
hides_none asks_all meters line mask format answer old selected_at new asked (Looks.differs one first again closes other insisted repeated is) opens m there = absurd (cc is)
hides_none asks_all meters line mask format answer old selected_at new asked (Looks.comes_twice {between} one first again closes also insisted repeated is) opens m there =
    refuted (matches mask m) (λ selected.
    let parts = closing_parts (mask_wire mask) (format_of first) one closes in
    let framed = frame_there first one parts.0 in
    let sent = line.telegram old selected_at between mask answer first framed.0 asked insisted framed.1 m there selected in
    apart first sent.0 one m sent.2 parts.0 sent.1 (opened (is_foreign one.ci) (is_open (mask_wire mask) 7) parts.1 opens))

abbrev bare : List ℕ
bare = spelling (long 0x08 0 0x78 [])

bare_closes : (wire : List ℕ) → closing wire bare ≡ Some (record { ci = 0x78; number = None })
unfolding format_of
bare_closes wire = ap (λ (seen : Option FrameSeen). if_closing wire (format_in seen)) (frame_of-spelling (long 0x08 0 0x78 []))

pub closed_once : (wire : List ℕ) → IsClosedOnce wire
closed_once wire =
    let some : bare ≢ [] = λ none. absurd (cc none) in
    Looks.comes_twice {between = 1} (record { ci = 0x78; number = None }) bare bare (bare_closes wire) (bare_closes wire) (Insists.hears bare (inl some) refl)
    (Insists.hears bare (inl some) refl) refl
