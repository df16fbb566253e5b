-- The parts of a text of 18 bytes, and the first fault by its tests.
use Rattle.std.proofs.Common.{◌≡◌, ◌<◌, ◌+◌, ◌/◌, ◌%◌, ℕ, Result, Ok, Err, IfOk, MatchResult, map, List, [], ◌∷◌, ◌++◌, Bool, true, false, not, ◌&&◌, cond, Option, Some, None, take, drop, length, get_or, slice_range, arith, ap, sym, ◌∙◌, refl, subst}
use Rattle.std.specs.Char.{is_ascii_digit}
use Rattle.std.specs.List.{list_all}
use Rattle.std.proofs.lemmas.Bool.{eq-eqb, ne_eqb, and_from, and_parts, le-leb, ltb-true, eqb-true}
use Rattle.std.proofs.lemmas.Bool.Decides.{nat_tests}
use Rattle.dc_address.specs.Digits.{decimal_digits, is_digit}
use Rattle.dc_address.proofs.Decimals.{decimal_digits-are_digits}
use Rattle.dc_address.specs.Maker.{first_letter, is_letter, maker_code, second_letter, third_letter}
use Rattle.dc_address.proofs.Letters.{IsLetter-from_test, first_letter-maker_code, is_letter-of, second_letter-maker_code, third_letter-maker_code}
use Rattle.dc_address.specs.Text.{IsText, decimal_code, hex_code, identity_fault, is_dot, is_hex, stands, text_of}
use Rattle.dc_address.proofs.Texts.{drop-text_of, length-text_of, same_from_text, take-text_of, text_rest}
use Rattle.dc_address.specs.declared.identity.Identity.{Identity}
use Rattle.dc_address.specs.declared.fault.IdentityFault.{IdentityFault}
use Rattle.dc_address.specs.declared.fault.IdentityFault.TheVariants.{Length, Digit, Letter, Hex, Dot}

-- what stands where, after the eight digits
pub record Shape (text rest : List ℕ) : Type 0 where
  pub whole : text ≡ take 8 text ++ (get_or rest 0 0 ∷ get_or rest 1 0 ∷ get_or rest 2 0 ∷ get_or rest 3 0 ∷ get_or rest 4 0 ∷ get_or rest 5 0 ∷ get_or rest 6 0 ∷ get_or rest 7 0 ∷ get_or rest 8 0 ∷ get_or rest 9 0 ∷ [])
  pub letters : slice_range text 9 12 ≡ get_or rest 1 0 ∷ get_or rest 2 0 ∷ get_or rest 3 0 ∷ []
  pub bytes : slice_range text 13 15 ++ slice_range text 16 18 ≡ get_or rest 5 0 ∷ get_or rest 6 0 ∷ get_or rest 8 0 ∷ get_or rest 9 0 ∷ []
  pub dots : get_or text 8 0 ∷ get_or text 12 0 ∷ get_or text 15 0 ∷ [] ≡ get_or rest 0 0 ∷ get_or rest 4 0 ∷ get_or rest 7 0 ∷ []

shape_of : (text : List ℕ) → length text ≡ 18 → Shape text (drop 8 text)
shape_of (a0 ∷ a1 ∷ a2 ∷ a3 ∷ a4 ∷ a5 ∷ a6 ∷ a7 ∷ a8 ∷ a9 ∷ a10 ∷ a11 ∷ a12 ∷ a13 ∷ a14 ∷ a15 ∷ a16 ∷ a17 ∷ []) long = record { whole = refl; letters = refl; bytes = refl; dots = refl }
shape_of (a0 ∷ a1 ∷ a2 ∷ a3 ∷ a4 ∷ a5 ∷ a6 ∷ a7 ∷ a8 ∷ a9 ∷ a10 ∷ a11 ∷ a12 ∷ a13 ∷ a14 ∷ a15 ∷ a16 ∷ a17 ∷ a18 ∷ rest) long = absurd (omega arith)
shape_of (a0 ∷ a1 ∷ a2 ∷ a3 ∷ a4 ∷ a5 ∷ a6 ∷ a7 ∷ a8 ∷ a9 ∷ a10 ∷ a11 ∷ a12 ∷ a13 ∷ a14 ∷ a15 ∷ a16 ∷ []) long = absurd (omega arith)
shape_of (a0 ∷ a1 ∷ a2 ∷ a3 ∷ a4 ∷ a5 ∷ a6 ∷ a7 ∷ a8 ∷ a9 ∷ a10 ∷ a11 ∷ a12 ∷ a13 ∷ a14 ∷ a15 ∷ []) long = absurd (omega arith)
shape_of (a0 ∷ a1 ∷ a2 ∷ a3 ∷ a4 ∷ a5 ∷ a6 ∷ a7 ∷ a8 ∷ a9 ∷ a10 ∷ a11 ∷ a12 ∷ a13 ∷ a14 ∷ []) long = absurd (omega arith)
shape_of (a0 ∷ a1 ∷ a2 ∷ a3 ∷ a4 ∷ a5 ∷ a6 ∷ a7 ∷ a8 ∷ a9 ∷ a10 ∷ a11 ∷ a12 ∷ a13 ∷ []) long = absurd (omega arith)
shape_of (a0 ∷ a1 ∷ a2 ∷ a3 ∷ a4 ∷ a5 ∷ a6 ∷ a7 ∷ a8 ∷ a9 ∷ a10 ∷ a11 ∷ a12 ∷ []) long = absurd (omega arith)
shape_of (a0 ∷ a1 ∷ a2 ∷ a3 ∷ a4 ∷ a5 ∷ a6 ∷ a7 ∷ a8 ∷ a9 ∷ a10 ∷ a11 ∷ []) long = absurd (omega arith)
shape_of (a0 ∷ a1 ∷ a2 ∷ a3 ∷ a4 ∷ a5 ∷ a6 ∷ a7 ∷ a8 ∷ a9 ∷ a10 ∷ []) long = absurd (omega arith)
shape_of (a0 ∷ a1 ∷ a2 ∷ a3 ∷ a4 ∷ a5 ∷ a6 ∷ a7 ∷ a8 ∷ a9 ∷ []) long = absurd (omega arith)
shape_of (a0 ∷ a1 ∷ a2 ∷ a3 ∷ a4 ∷ a5 ∷ a6 ∷ a7 ∷ a8 ∷ []) long = absurd (omega arith)
shape_of (a0 ∷ a1 ∷ a2 ∷ a3 ∷ a4 ∷ a5 ∷ a6 ∷ a7 ∷ []) long = absurd (omega arith)
shape_of (a0 ∷ a1 ∷ a2 ∷ a3 ∷ a4 ∷ a5 ∷ a6 ∷ []) long = absurd (omega arith)
shape_of (a0 ∷ a1 ∷ a2 ∷ a3 ∷ a4 ∷ a5 ∷ []) long = absurd (omega arith)
shape_of (a0 ∷ a1 ∷ a2 ∷ a3 ∷ a4 ∷ []) long = absurd (omega arith)
shape_of (a0 ∷ a1 ∷ a2 ∷ a3 ∷ []) long = absurd (omega arith)
shape_of (a0 ∷ a1 ∷ a2 ∷ []) long = absurd (omega arith)
shape_of (a0 ∷ a1 ∷ []) long = absurd (omega arith)
shape_of (a0 ∷ []) long = absurd (omega arith)
shape_of [] long = absurd (omega arith)

pub shape : (text rest : List ℕ) → rest ≡ drop 8 text → length text ≡ 18 → Shape text rest
shape text rest is long = subst (λ r. Shape text r) (sym is) (shape_of text long)

chosen : (l d t h o : Bool) → Option IdentityFault
chosen l d t h o = cond l (Some Length) (cond d (Some Digit) (cond t (Some Letter) (cond h (Some Hex) (cond o (Some Dot) None))))

by_tests : (text : List ℕ) → identity_fault text ≡ chosen (stands text Length) (stands text Digit) (stands text Letter) (stands text Hex) (stands text Dot)
unfolding identity_fault chosen
by_tests text = refl

by_values : (text : List ℕ) (l d t h o : Bool) → stands text Length ≡ l → stands text Digit ≡ d → stands text Letter ≡ t → stands text Hex ≡ h → stands text Dot ≡ o
    → identity_fault text ≡ chosen l d t h o
by_values text l d t h o a b c e f = by_tests text ∙ ap (λ x. chosen x (stands text Digit) (stands text Letter) (stands text Hex) (stands text Dot)) a
    ∙ ap (λ x. chosen l x (stands text Letter) (stands text Hex) (stands text Dot)) b
    ∙ ap (λ x. chosen l d x (stands text Hex) (stands text Dot)) c
    ∙ ap (λ x. chosen l d t x (stands text Dot)) e
    ∙ ap (λ x. chosen l d t h x) f

is_long : (text : List ℕ) → length text ≡ 18 → stands text Length ≡ false
is_long text long = ap not (eq-eqb _ 18 long)

pub fault_length : (text : List ℕ) → (length text ≡ 18 → ⊥) → identity_fault text ≡ Some Length
unfolding chosen
fault_length text short = by_values text true _ _ _ _ (ap not (ne_eqb _ 18 short)) refl refl refl refl

pub fault_digit : (text : List ℕ) → length text ≡ 18 → list_all is_ascii_digit (take 8 text) ≡ false → identity_fault text ≡ Some Digit
unfolding chosen
fault_digit text long digits = by_values text false true _ _ _ (is_long text long) (ap not digits) refl refl refl

pub fault_letter : (text rest : List ℕ) → Shape text rest → length text ≡ 18 → list_all is_ascii_digit (take 8 text) ≡ true
    → list_all is_letter (get_or rest 1 0 ∷ get_or rest 2 0 ∷ get_or rest 3 0 ∷ []) ≡ false → identity_fault text ≡ Some Letter
unfolding chosen
fault_letter text rest form long digits letters =
    by_values text false false true _ _ (is_long text long) (ap not digits) (ap not (ap (list_all is_letter) form.letters ∙ letters)) refl refl

pub fault_hex : (text rest : List ℕ) → Shape text rest → length text ≡ 18 → list_all is_ascii_digit (take 8 text) ≡ true
    → list_all is_letter (get_or rest 1 0 ∷ get_or rest 2 0 ∷ get_or rest 3 0 ∷ []) ≡ true
    → list_all is_hex (get_or rest 5 0 ∷ get_or rest 6 0 ∷ get_or rest 8 0 ∷ get_or rest 9 0 ∷ []) ≡ false → identity_fault text ≡ Some Hex
unfolding chosen
fault_hex text rest form long digits letters bytes =
    by_values text false false false true _ (is_long text long) (ap not digits) (ap not (ap (list_all is_letter) form.letters ∙ letters))
    (ap not (ap (list_all is_hex) form.bytes ∙ bytes)) refl

fault_dots : (text rest : List ℕ) (dots : Bool) → Shape text rest → length text ≡ 18 → list_all is_ascii_digit (take 8 text) ≡ true
    → list_all is_letter (get_or rest 1 0 ∷ get_or rest 2 0 ∷ get_or rest 3 0 ∷ []) ≡ true
    → list_all is_hex (get_or rest 5 0 ∷ get_or rest 6 0 ∷ get_or rest 8 0 ∷ get_or rest 9 0 ∷ []) ≡ true
    → list_all is_dot (get_or rest 0 0 ∷ get_or rest 4 0 ∷ get_or rest 7 0 ∷ []) ≡ dots → identity_fault text ≡ cond (not dots) (Some Dot) None
unfolding chosen
fault_dots text rest dots form long digits letters bytes are =
    by_values text false false false false (not dots) (is_long text long) (ap not digits) (ap not (ap (list_all is_letter) form.letters ∙ letters))
    (ap not (ap (list_all is_hex) form.bytes ∙ bytes)) (ap not (ap (list_all is_dot) form.dots ∙ are))

pub fault_dot : (text rest : List ℕ) → Shape text rest → length text ≡ 18 → list_all is_ascii_digit (take 8 text) ≡ true
    → list_all is_letter (get_or rest 1 0 ∷ get_or rest 2 0 ∷ get_or rest 3 0 ∷ []) ≡ true
    → list_all is_hex (get_or rest 5 0 ∷ get_or rest 6 0 ∷ get_or rest 8 0 ∷ get_or rest 9 0 ∷ []) ≡ true
    → list_all is_dot (get_or rest 0 0 ∷ get_or rest 4 0 ∷ get_or rest 7 0 ∷ []) ≡ false → identity_fault text ≡ Some Dot
fault_dot text rest = fault_dots text rest false

pub fault_none : (text rest : List ℕ) → Shape text rest → length text ≡ 18 → list_all is_ascii_digit (take 8 text) ≡ true
    → list_all is_letter (get_or rest 1 0 ∷ get_or rest 2 0 ∷ get_or rest 3 0 ∷ []) ≡ true
    → list_all is_hex (get_or rest 5 0 ∷ get_or rest 6 0 ∷ get_or rest 8 0 ∷ get_or rest 9 0 ∷ []) ≡ true
    → list_all is_dot (get_or rest 0 0 ∷ get_or rest 4 0 ∷ get_or rest 7 0 ∷ []) ≡ true → identity_fault text ≡ None
fault_none text rest = fault_dots text rest true

letters_are : (identity : Identity) → list_all is_letter (first_letter identity.maker ∷ second_letter identity.maker ∷ third_letter identity.maker ∷ []) ≡ true
letters_are identity =
    and_from _ _ (is_letter-of _ identity.has_letters.first)
    (and_from _ _ (is_letter-of _ identity.has_letters.second) (and_from _ _ (is_letter-of _ identity.has_letters.third) refl))

is_hex-hex_code : (digit : ℕ) → digit < 16 → is_hex (hex_code digit) ≡ true
is_hex-hex_code digit fits = grind (arith, nat_tests)

is_ascii_digit-decimal_code : (digit : ℕ) → digit < 10 → is_ascii_digit (decimal_code digit) ≡ true
is_ascii_digit-decimal_code digit fits = and_from _ _ (le-leb 48 (48 + digit) (omega arith)) (le-leb (48 + digit) 57 (omega arith))

codes_are : (digits : List ℕ) → list_all is_digit digits ≡ true → list_all is_ascii_digit (map decimal_code digits) ≡ true
codes_are [] are = refl
codes_are (digit ∷ rest) are =
    let parts = and_parts (is_digit digit) (list_all is_digit rest) are in
    and_from _ _ (is_ascii_digit-decimal_code digit (ltb-true digit 10 parts.0)) (codes_are rest parts.1)

-- what an identity is printed as has no fault
pub no_fault : (identity : Identity) → identity.version < 256 → identity.kind < 256 → identity_fault (text_of identity) ≡ None
no_fault identity version kind =
    fault_none (text_of identity) (text_rest identity)
    (shape (text_of identity) (text_rest identity) (sym (drop-text_of identity)) (length-text_of identity))
    (length-text_of identity)
    (ap (list_all is_ascii_digit) (take-text_of identity) ∙ codes_are (decimal_digits 8 identity.number) (decimal_digits-are_digits 8 identity.number))
    (letters_are identity)
    (and_from _ _ (is_hex-hex_code (identity.version / 16) (omega arith))
    (and_from _ _ (is_hex-hex_code (identity.version % 16) (omega arith))
    (and_from _ _ (is_hex-hex_code (identity.kind / 16) (omega arith))
    (and_from _ _ (is_hex-hex_code (identity.kind % 16) (omega arith)) refl))))
    refl

-- the fields that a text spells are those of the identity
pub text_from_parts : (text rest : List ℕ) (identity : Identity) → Shape text rest
    → map decimal_code (decimal_digits 8 identity.number) ≡ take 8 text
    → list_all is_letter (get_or rest 1 0 ∷ get_or rest 2 0 ∷ get_or rest 3 0 ∷ []) ≡ true
    → identity.maker ≡ maker_code (get_or rest 1 0) (get_or rest 2 0) (get_or rest 3 0)
    → hex_code (identity.version / 16) ≡ get_or rest 5 0 → hex_code (identity.version % 16) ≡ get_or rest 6 0
    → hex_code (identity.kind / 16) ≡ get_or rest 8 0 → hex_code (identity.kind % 16) ≡ get_or rest 9 0
    → get_or rest 0 0 ≡ 46 → get_or rest 4 0 ≡ 46 → get_or rest 7 0 ≡ 46
    → IsText text identity
unfolding text_of
text_from_parts text rest identity form digits letters maker vh vl kh kl dot dot_2 dot_3 =
    let one = and_parts (is_letter (get_or rest 1 0)) (list_all is_letter (get_or rest 2 0 ∷ get_or rest 3 0 ∷ [])) letters in
    let two = and_parts (is_letter (get_or rest 2 0)) (list_all is_letter (get_or rest 3 0 ∷ [])) one.1 in
    let three = and_parts (is_letter (get_or rest 3 0)) true two.1 in
    let a = IsLetter-from_test (get_or rest 1 0) one.0 in
    let b = IsLetter-from_test (get_or rest 2 0) two.0 in
    let d = IsLetter-from_test (get_or rest 3 0) three.0 in
    let first : first_letter identity.maker ≡ get_or rest 1 0 = ap first_letter maker ∙ first_letter-maker_code _ _ _ a b d in
    let second : second_letter identity.maker ≡ get_or rest 2 0 = ap second_letter maker ∙ second_letter-maker_code _ _ _ a b d in
    let third : third_letter identity.maker ≡ get_or rest 3 0 = ap third_letter maker ∙ third_letter-maker_code _ _ _ a b d in
    form.whole ∙ cc

-- an answer that spells the text, or names its fault, is the only one
pub only_text : (text : List ℕ) (answer : Result Identity IdentityFault)
    → IfOk answer (λ found. IsText text found × (found.version < 256) × (found.kind < 256))
    → MatchResult answer (λ _. identity_fault text ≡ None) (λ fault. identity_fault text ≡ Some fault)
    → (identity : Identity) → identity.version < 256 → identity.kind < 256 → IsText text identity → answer ≡ Ok identity
only_text text (Ok found) spelled fault identity version kind is = ap Ok (same_from_text text found identity spelled.1 spelled.2 version kind spelled.0 is)
only_text text (Err fault) spelled stands identity version kind is =
    let none : identity_fault text ≡ None = ap identity_fault is ∙ no_fault identity version kind in cc

-- three dots are three times the code of a dot
pub record Dots (a b c : ℕ) : Type 0 where
  pub first : a ≡ 46
  pub second : b ≡ 46
  pub third : c ≡ 46

pub dots_from_test : (a b c : ℕ) → true ≡ list_all is_dot (a ∷ b ∷ c ∷ []) → Dots a b c
dots_from_test a b c are =
    let front = and_parts (is_dot a) (is_dot b && (is_dot c && true)) (sym are) in
    let middle = and_parts (is_dot b) (is_dot c && true) front.1 in
    let last = and_parts (is_dot c) true middle.1 in
    record { first = eqb-true a 46 front.0; second = eqb-true b 46 middle.0; third = eqb-true c 46 last.0 }

-- two pairs of hexadecimal digits, and one of them
pub hex_pairs : (rest : List ℕ) (right : Bool) → true ≡ list_all is_hex (get_or rest 5 0 ∷ get_or rest 6 0 ∷ [])
    → right ≡ list_all is_hex (get_or rest 8 0 ∷ get_or rest 9 0 ∷ [])
    → list_all is_hex (get_or rest 5 0 ∷ get_or rest 6 0 ∷ get_or rest 8 0 ∷ get_or rest 9 0 ∷ []) ≡ right
hex_pairs rest right left is =
    let parts = and_parts (is_hex (get_or rest 5 0)) (is_hex (get_or rest 6 0) && true) (sym left) in
    let more = and_parts (is_hex (get_or rest 6 0)) true parts.1 in
    let high = parts.0 in
    let low = more.0 in
    rw (high, low) (sym is)

front_false : (x y z : Bool) → false ≡ (x && (y && true)) → (x && (y && z)) ≡ false
front_false false y z is = refl
front_false true false z is = refl
front_false true true z is = cc

pub hex_first : (rest : List ℕ) → false ≡ list_all is_hex (get_or rest 5 0 ∷ get_or rest 6 0 ∷ [])
    → list_all is_hex (get_or rest 5 0 ∷ get_or rest 6 0 ∷ get_or rest 8 0 ∷ get_or rest 9 0 ∷ []) ≡ false
hex_first rest is = front_false (is_hex (get_or rest 5 0)) (is_hex (get_or rest 6 0)) (is_hex (get_or rest 8 0) && (is_hex (get_or rest 9 0) && true)) is
