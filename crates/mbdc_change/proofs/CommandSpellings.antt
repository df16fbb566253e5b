-- A command has one line, and is read where it is spelled; no spelling of a change begins another, and changes have one spelling.
use Rattle.std.proofs.Common.{◌≡◌, ℕ, ◌<◌, ◌≤◌, Bool, true, false, cond, List, [], ◌∷◌, ◌++◌, length, Option, Some, None, refl, sym, ap, subst, ◌∙◌, append_assoc, arith, length-append, get_or, eqb-true}
use Rattle.std.specs.Prelude.{◌==◌}
use Rattle.std.proofs.lemmas.Bool.{eqb-true}
use Rattle.std.proofs.lemmas.List.{flat_map_more}
use Rattle.std.proofs.lemmas.List.Elements.{All-push}
use Rattle.dc_address.specs.declared.identity.Identity.{Identity}
use Rattle.dc_address.specs.Identity.{wire_of}
use Rattle.dc_address.proofs.Identities.{length-wire_of}
use Rattle.mbdc_change.specs.declared.change.Change.{Change}
use Rattle.mbdc_change.specs.declared.change.Change.TheVariants.{Telegram, Command as Numbered}
use Rattle.mbdc_change.specs.declared.command.Command.TheVariants.{Fit, Move, Out, Confirm, Swap}
use Rattle.mbdc_change.specs.Body.{BodyRow, IsBody}
use Rattle.mbdc_change.specs.Flat.{IsFlat}
use Rattle.mbdc_change.specs.Valid.{IsChange}
use Rattle.mbdc_change.specs.Fields.{IsNumber, IsBusLine, IsAddress, last_moment, end_of_numbers, address_word}
use Rattle.mbdc_change.specs.Pieces.{long_bytes, byte, counted, address_byte, byte_at}
use Rattle.mbdc_change.specs.Encoding.{part_bytes, change_bytes, longest_change}
use Rattle.mbdc_change.proofs.Lengths.{length-byte, length-long_bytes, length-counted, length-part_bytes}
use Rattle.mbdc_change.specs.Spelled.{SpellsChanges}
use Rattle.mbdc_change.specs.Reading.{telegram_of, telegram_change_at, fields_at, change_at}
use Rattle.mbdc_change.specs.Command.{fit_of, fit_at, move_of, move_at, out_of, out_at, confirm_of, confirm_at, swap_of, swap_at, NamesMeters, arguments_of, command_text, line_of, verb_of, IsCommand}
use Rattle.mbdc_change.proofs.Exact.{IsBytes, Taken, rest_are, Exact, Exact-both, Exact-chosen, bind_some, some_is, one_front, one_list}
use Rattle.mbdc_change.proofs.PieceSpellings.{Exact-byte, Exact-moment, Exact-serial, Exact-number, Exact-line, Exact-flat, Exact-identity, Exact-address, Exact-body}
use Rattle.std.specs.Fmt.{decimal}
use Rattle.std.proofs.lemmas.Fmt.{decimal_injective, length-decimal-le}
use Rattle.mbdc_change.specs.Words.{IsWord}
use Rattle.dc_address.specs.Text.{text_of}
use Rattle.dc_address.proofs.Texts.{length-text_of}
use Rattle.mbdc_change.specs.declared.command.Command.{Command}
use Rattle.mbdc_change.proofs.LineSpellings.{number_len, address_len, number_is_word, line_is_word, address_is_word, meter_is_word, one_word, one_meter, one_address}

-- ---- a line

pub verb_is_word : (command : Command) → IsWord (verb_of command)
verb_is_word (Fit meter line address flat) = refl
verb_is_word (Move meter flat) = refl
verb_is_word (Out meter) = refl
verb_is_word (Confirm serial) = refl
verb_is_word (Swap old new address) = refl

text_len : (command : Command) → IsCommand command → length (command_text command) ≤ 60
text_len (Fit meter line address flat) is =
    simp length-append (omega (arith, length-text_of meter, length-decimal-le 1 line (omega arith) (omega arith) (omega arith), address_len address is.1, is.2.fits))
text_len (Move meter flat) is = simp length-append (omega (arith, length-text_of meter))
text_len (Out meter) is = simp length-append (omega (arith, length-text_of meter))
text_len (Confirm serial) is = omega (arith, number_len serial is)
text_len (Swap old new address) is = simp length-append (omega (arith, length-text_of old, length-text_of new, address_len address is))

pub line_fits : (line : List ℕ) (number : ℕ) (command : Command) → IsNumber number → IsCommand command → line ≡ line_of number command → length line ≤ 120
unfolding line_of
line_fits line number command is_number is_command is =
    omega (arith, ap length is, length-append (decimal number) (32 ∷ command_text command), number_len number is_number.high, text_len command is_command)

pub record IsOneCommand (command other : Command) : Type 0 where
  pub command_is : IsCommand command
  pub other_is : IsCommand other
  pub command_names : NamesMeters command
  pub other_names : NamesMeters other
  pub verbs : verb_of command ≡ verb_of other
  pub arguments : arguments_of command ≡ arguments_of other

-- verbs with other first letters are other words
apart : {verb other : List ℕ} → verb ≡ other → get_or verb 0 0 ≡ get_or other 0 0
apart same = ap (λ (word : List ℕ). get_or word 0 0) same

one_command : (command other : Command) → IsOneCommand command other → command ≡ other
one_command (Fit meter line address flat) (Fit meter_2 line_2 address_2 flat_2) is =
    let first = one_word (text_of meter) (text_of meter_2) _ _ (meter_is_word meter) (meter_is_word meter_2) is.arguments in
    let second = one_word (decimal line) (decimal line_2) _ _ (line_is_word line is.command_is.0) (line_is_word line_2 is.other_is.0) first.1 in
    let third = one_word (address_word address) (address_word address_2) _ _ (address_is_word address is.command_is.1) (address_is_word address_2 is.other_is.1) second.1 in
    let meters = one_meter meter meter_2 is.command_names is.other_names first.0 in
    let lines = decimal_injective line line_2 (omega arith) (omega arith) second.0 in
    let addresses = one_address address address_2 is.command_is.1 is.other_is.1 third.0 in
    cc third.1
one_command (Fit meter line address flat) (Move meter_2 flat_2) is = absurd (omega (arith, apart is.verbs))
one_command (Fit meter line address flat) (Out meter_2) is = absurd (omega (arith, apart is.verbs))
one_command (Fit meter line address flat) (Confirm serial_2) is = absurd (omega (arith, apart is.verbs))
one_command (Fit meter line address flat) (Swap old_2 new_2 address_2) is = absurd (omega (arith, apart is.verbs))
one_command (Move meter flat) (Fit meter_2 line_2 address_2 flat_2) is = absurd (omega (arith, apart is.verbs))
one_command (Move meter flat) (Move meter_2 flat_2) is =
    let first = one_word (text_of meter) (text_of meter_2) _ _ (meter_is_word meter) (meter_is_word meter_2) is.arguments in
    let meters = one_meter meter meter_2 is.command_names is.other_names first.0 in
    cc first.1
one_command (Move meter flat) (Out meter_2) is = absurd (omega (arith, apart is.verbs))
one_command (Move meter flat) (Confirm serial_2) is = absurd (omega (arith, apart is.verbs))
one_command (Move meter flat) (Swap old_2 new_2 address_2) is = absurd (omega (arith, apart is.verbs))
one_command (Out meter) (Fit meter_2 line_2 address_2 flat_2) is = absurd (omega (arith, apart is.verbs))
one_command (Out meter) (Move meter_2 flat_2) is = absurd (omega (arith, apart is.verbs))
one_command (Out meter) (Out meter_2) is =
    let meters = one_meter meter meter_2 is.command_names is.other_names is.arguments in
    cc
one_command (Out meter) (Confirm serial_2) is = absurd (omega (arith, apart is.verbs))
one_command (Out meter) (Swap old_2 new_2 address_2) is = absurd (omega (arith, apart is.verbs))
one_command (Confirm serial) (Fit meter_2 line_2 address_2 flat_2) is = absurd (omega (arith, apart is.verbs))
one_command (Confirm serial) (Move meter_2 flat_2) is = absurd (omega (arith, apart is.verbs))
one_command (Confirm serial) (Out meter_2) is = absurd (omega (arith, apart is.verbs))
one_command (Confirm serial) (Confirm serial_2) is =
    ap Confirm (decimal_injective serial serial_2 (omega arith) (omega arith) is.arguments)
one_command (Confirm serial) (Swap old_2 new_2 address_2) is = absurd (omega (arith, apart is.verbs))
one_command (Swap old new address) (Fit meter_2 line_2 address_2 flat_2) is = absurd (omega (arith, apart is.verbs))
one_command (Swap old new address) (Move meter_2 flat_2) is = absurd (omega (arith, apart is.verbs))
one_command (Swap old new address) (Out meter_2) is = absurd (omega (arith, apart is.verbs))
one_command (Swap old new address) (Confirm serial_2) is = absurd (omega (arith, apart is.verbs))
one_command (Swap old new address) (Swap old_2 new_2 address_2) is =
    let first = one_word (text_of old) (text_of old_2) _ _ (meter_is_word old) (meter_is_word old_2) is.arguments in
    let second = one_word (text_of new) (text_of new_2) _ _ (meter_is_word new) (meter_is_word new_2) first.1 in
    let olds = one_meter old old_2 is.command_names.0 is.other_names.0 first.0 in
    let news = one_meter new new_2 is.command_names.1 is.other_names.1 second.0 in
    let addresses = one_address address address_2 is.command_is is.other_is second.1 in
    cc

-- the word after the number, and what follows it
text_is : (command : Command) → command_text command ≡ verb_of command ++ 32 ∷ arguments_of command
text_is (Fit meter line address flat) = refl
text_is (Move meter flat) = refl
text_is (Out meter) = refl
text_is (Confirm serial) = refl
text_is (Swap old new address) = refl

pub one_line : (m n : ℕ) (a b : Command) → IsNumber m → IsCommand a → NamesMeters a → IsNumber n → IsCommand b → NamesMeters b → line_of m a ≡ line_of n b → (m ≡ n) × (a ≡ b)
unfolding line_of
one_line m n a b is_m is_a names_a is_n is_b names_b same =
    let number = one_word (decimal m) (decimal n) (command_text a) (command_text b) (number_is_word m is_m) (number_is_word n is_n) same in
    let verb = one_word (verb_of a) (verb_of b) (arguments_of a) (arguments_of b) (verb_is_word a) (verb_is_word b) (sym (text_is a) ∙ number.1 ∙ text_is b) in (
      decimal_injective m n (omega (arith, is_m.high)) (omega (arith, is_n.high)) number.0,
      one_command a b (record { command_is = is_a; other_is = is_b; command_names = names_a; other_names = names_b; verbs = verb.0; arguments = verb.1 }),
    )

-- the line of a command is read back
pub ruleset line_read = (number_is_word, line_fits)

-- ---- a tag, and what is after it

abbrev pub tag_of : Change → ℕ
tag_of (Telegram part moment body) = 1
tag_of (Numbered number (Fit meter line address flat)) = 2
tag_of (Numbered number (Move meter flat)) = 3
tag_of (Numbered number (Out meter)) = 4
tag_of (Numbered number (Confirm serial)) = 5
tag_of (Numbered number (Swap old new address)) = 6

abbrev pub fields_bytes : Change → List ℕ
fields_bytes (Telegram part moment body) = byte part ++ (long_bytes moment ++ counted body.bytes)
fields_bytes (Numbered number (Fit meter line address flat)) = (((long_bytes number ++ wire_of meter) ++ byte line) ++ byte (address_byte address)) ++ counted flat
fields_bytes (Numbered number (Move meter flat)) = (long_bytes number ++ wire_of meter) ++ counted flat
fields_bytes (Numbered number (Out meter)) = long_bytes number ++ wire_of meter
fields_bytes (Numbered number (Confirm serial)) = long_bytes number ++ long_bytes serial
fields_bytes (Numbered number (Swap old new address)) = ((long_bytes number ++ wire_of old) ++ wire_of new) ++ byte (address_byte address)

tagged : (change : Change) → byte (tag_of change) ++ fields_bytes change ≡ change_bytes change
unfolding part_bytes
tagged (Telegram part moment body) = simp append_assoc
tagged (Numbered number (Fit meter line address flat)) = simp append_assoc
tagged (Numbered number (Move meter flat)) = simp append_assoc
tagged (Numbered number (Out meter)) = simp append_assoc
tagged (Numbered number (Confirm serial)) = simp append_assoc
tagged (Numbered number (Swap old new address)) = simp append_assoc

-- a change with this tag
pub record IsTagged (tag : ℕ) (change : Change) : Type 0 where
  pub tag_is : tag_of change ≡ tag
  pub is : IsChange change

telegram_stands : (change : Change) → IsTagged 1 change → (x : ℕ × (ℕ × BodyRow)) × ((x.0 < 256) × ((x.1.0 ≤ last_moment) × IsBody x.1.1)) × (Some (telegram_of x) ≡ Some change) × (byte x.0 ++ (long_bytes x.1.0 ++ counted x.1.1.bytes) ≡ fields_bytes change)
telegram_stands (Telegram part moment body) is = ((part, (moment, body)), (omega (arith, is.is.part_fits), (is.is.moment_fits, is.is.body_is)), refl, refl)
telegram_stands (Numbered number (Fit meter line address flat)) is = absurd (omega (arith, is.tag_is))
telegram_stands (Numbered number (Move meter flat)) is = absurd (omega (arith, is.tag_is))
telegram_stands (Numbered number (Out meter)) is = absurd (omega (arith, is.tag_is))
telegram_stands (Numbered number (Confirm serial)) is = absurd (omega (arith, is.tag_is))
telegram_stands (Numbered number (Swap old new address)) is = absurd (omega (arith, is.tag_is))

Exact-telegram : Exact (IsTagged 1) fields_bytes telegram_change_at
unfolding telegram_change_at
Exact-telegram =
    Exact-chosen (λ (x : ℕ × (ℕ × BodyRow)). Some (telegram_of x))
    (λ x change is e.
    subst (λ (c : Change). IsTagged 1 c × (byte x.0 ++ (long_bytes x.1.0 ++ counted x.1.1.bytes) ≡ fields_bytes c)) (some_is (telegram_of x) change e)
    (record { tag_is = refl; is = record { part_fits = omega (arith, is.0); moment_fits = is.1.0; body_is = is.1.1 } }, refl))
    telegram_stands
    (Exact-both Exact-byte (Exact-both Exact-moment Exact-body))

fit_stands : (change : Change) → IsTagged 2 change → (x : (((ℕ × Identity) × ℕ) × Option ℕ) × List ℕ) × ((((IsNumber x.0.0.0.0 × Unit {0}) × IsBusLine x.0.0.1) × IsAddress x.0.1) × IsFlat x.1) × (Some (fit_of x) ≡ Some change) × ((((long_bytes x.0.0.0.0 ++ wire_of x.0.0.0.1) ++ byte x.0.0.1) ++ byte (address_byte x.0.1)) ++ counted x.1 ≡ fields_bytes change)
fit_stands (Telegram part moment body) is = absurd (omega (arith, is.tag_is))
fit_stands (Numbered number (Fit meter line address flat)) is = (((((number, meter), line), address), flat), ((((is.is.0, tt), is.is.1.0), is.is.1.1), is.is.1.2), refl, refl)
fit_stands (Numbered number (Move meter flat)) is = absurd (omega (arith, is.tag_is))
fit_stands (Numbered number (Out meter)) is = absurd (omega (arith, is.tag_is))
fit_stands (Numbered number (Confirm serial)) is = absurd (omega (arith, is.tag_is))
fit_stands (Numbered number (Swap old new address)) is = absurd (omega (arith, is.tag_is))

Exact-fit : Exact (IsTagged 2) fields_bytes fit_at
unfolding fit_at
Exact-fit =
    Exact-chosen (λ (x : (((ℕ × Identity) × ℕ) × Option ℕ) × List ℕ). Some (fit_of x))
    (λ x change is e.
    subst (λ (c : Change). IsTagged 2 c × ((((long_bytes x.0.0.0.0 ++ wire_of x.0.0.0.1) ++ byte x.0.0.1) ++ byte (address_byte x.0.1)) ++ counted x.1 ≡ fields_bytes c)) (some_is (fit_of x) change e)
    (record { tag_is = refl; is = (is.0.0.0.0, (is.0.0.1, is.0.1, is.1)) }, refl))
    fit_stands
    (Exact-both (Exact-both (Exact-both (Exact-both Exact-number Exact-identity) Exact-line) Exact-address) Exact-flat)

move_stands : (change : Change) → IsTagged 3 change → (x : (ℕ × Identity) × List ℕ) × ((IsNumber x.0.0 × Unit {0}) × IsFlat x.1) × (Some (move_of x) ≡ Some change) × ((long_bytes x.0.0 ++ wire_of x.0.1) ++ counted x.1 ≡ fields_bytes change)
move_stands (Telegram part moment body) is = absurd (omega (arith, is.tag_is))
move_stands (Numbered number (Fit meter line address flat)) is = absurd (omega (arith, is.tag_is))
move_stands (Numbered number (Move meter flat)) is = (((number, meter), flat), ((is.is.0, tt), is.is.1), refl, refl)
move_stands (Numbered number (Out meter)) is = absurd (omega (arith, is.tag_is))
move_stands (Numbered number (Confirm serial)) is = absurd (omega (arith, is.tag_is))
move_stands (Numbered number (Swap old new address)) is = absurd (omega (arith, is.tag_is))

Exact-move : Exact (IsTagged 3) fields_bytes move_at
unfolding move_at
Exact-move =
    Exact-chosen (λ (x : (ℕ × Identity) × List ℕ). Some (move_of x))
    (λ x change is e.
    subst (λ (c : Change). IsTagged 3 c × ((long_bytes x.0.0 ++ wire_of x.0.1) ++ counted x.1 ≡ fields_bytes c)) (some_is (move_of x) change e)
    (record { tag_is = refl; is = (is.0.0, is.1) }, refl))
    move_stands
    (Exact-both (Exact-both Exact-number Exact-identity) Exact-flat)

out_stands : (change : Change) → IsTagged 4 change → (x : ℕ × Identity) × (IsNumber x.0 × Unit {0}) × (Some (out_of x) ≡ Some change) × (long_bytes x.0 ++ wire_of x.1 ≡ fields_bytes change)
out_stands (Telegram part moment body) is = absurd (omega (arith, is.tag_is))
out_stands (Numbered number (Fit meter line address flat)) is = absurd (omega (arith, is.tag_is))
out_stands (Numbered number (Move meter flat)) is = absurd (omega (arith, is.tag_is))
out_stands (Numbered number (Out meter)) is = ((number, meter), (is.is.0, tt), refl, refl)
out_stands (Numbered number (Confirm serial)) is = absurd (omega (arith, is.tag_is))
out_stands (Numbered number (Swap old new address)) is = absurd (omega (arith, is.tag_is))

Exact-out : Exact (IsTagged 4) fields_bytes out_at
unfolding out_at
Exact-out =
    Exact-chosen (λ (x : ℕ × Identity). Some (out_of x))
    (λ x change is e.
    subst (λ (c : Change). IsTagged 4 c × (long_bytes x.0 ++ wire_of x.1 ≡ fields_bytes c)) (some_is (out_of x) change e)
    (record { tag_is = refl; is = (is.0, tt) }, refl))
    out_stands
    (Exact-both Exact-number Exact-identity)

confirm_stands : (change : Change) → IsTagged 5 change → (x : ℕ × ℕ) × (IsNumber x.0 × (x.1 < end_of_numbers)) × (Some (confirm_of x) ≡ Some change) × (long_bytes x.0 ++ long_bytes x.1 ≡ fields_bytes change)
confirm_stands (Telegram part moment body) is = absurd (omega (arith, is.tag_is))
confirm_stands (Numbered number (Fit meter line address flat)) is = absurd (omega (arith, is.tag_is))
confirm_stands (Numbered number (Move meter flat)) is = absurd (omega (arith, is.tag_is))
confirm_stands (Numbered number (Out meter)) is = absurd (omega (arith, is.tag_is))
confirm_stands (Numbered number (Confirm serial)) is = ((number, serial), (is.is.0, is.is.1), refl, refl)
confirm_stands (Numbered number (Swap old new address)) is = absurd (omega (arith, is.tag_is))

Exact-confirm : Exact (IsTagged 5) fields_bytes confirm_at
unfolding confirm_at
Exact-confirm =
    Exact-chosen (λ (x : ℕ × ℕ). Some (confirm_of x))
    (λ x change is e.
    subst (λ (c : Change). IsTagged 5 c × (long_bytes x.0 ++ long_bytes x.1 ≡ fields_bytes c)) (some_is (confirm_of x) change e)
    (record { tag_is = refl; is = (is.0, is.1) }, refl))
    confirm_stands
    (Exact-both Exact-number Exact-serial)

swap_stands : (change : Change) → IsTagged 6 change → (x : ((ℕ × Identity) × Identity) × Option ℕ) × (((IsNumber x.0.0.0 × Unit {0}) × Unit {0}) × IsAddress x.1) × (Some (swap_of x) ≡ Some change) × (((long_bytes x.0.0.0 ++ wire_of x.0.0.1) ++ wire_of x.0.1) ++ byte (address_byte x.1) ≡ fields_bytes change)
swap_stands (Telegram part moment body) is = absurd (omega (arith, is.tag_is))
swap_stands (Numbered number (Fit meter line address flat)) is = absurd (omega (arith, is.tag_is))
swap_stands (Numbered number (Move meter flat)) is = absurd (omega (arith, is.tag_is))
swap_stands (Numbered number (Out meter)) is = absurd (omega (arith, is.tag_is))
swap_stands (Numbered number (Confirm serial)) is = absurd (omega (arith, is.tag_is))
swap_stands (Numbered number (Swap old new address)) is = ((((number, old), new), address), (((is.is.0, tt), tt), is.is.1), refl, refl)

Exact-swap : Exact (IsTagged 6) fields_bytes swap_at
unfolding swap_at
Exact-swap =
    Exact-chosen (λ (x : ((ℕ × Identity) × Identity) × Option ℕ). Some (swap_of x))
    (λ x change is e.
    subst (λ (c : Change). IsTagged 6 c × (((long_bytes x.0.0.0 ++ wire_of x.0.0.1) ++ wire_of x.0.1) ++ byte (address_byte x.1) ≡ fields_bytes c)) (some_is (swap_of x) change e)
    (record { tag_is = refl; is = (is.0.0.0, is.1) }, refl))
    swap_stands
    (Exact-both (Exact-both (Exact-both Exact-number Exact-identity) Exact-identity) Exact-address)

-- ---- a change

either : {bytes : List ℕ} {c : Change} {rest : List ℕ} (k tag : ℕ) (first others : Option (Change × List ℕ)) (test : Bool) → (tag == k) ≡ test
    → (first ≡ Some (c, rest) → Taken (IsTagged k) fields_bytes bytes c rest) → (others ≡ Some (c, rest) → Taken (IsTagged tag) fields_bytes bytes c rest)
    → cond test first others ≡ Some (c, rest) → Taken (IsTagged tag) fields_bytes bytes c rest
either {bytes} {c} {rest} k tag first others true same one more e = subst (λ (n : ℕ). Taken (IsTagged n) fields_bytes bytes c rest) (sym (eqb-true tag k same)) (one e)
either {bytes} {c} {rest} k tag first others false same one more e = more e

fields_takes : (tag : ℕ) (bytes : List ℕ) (c : Change) (rest : List ℕ) → IsBytes bytes → fields_at tag bytes ≡ Some (c, rest) → Taken (IsTagged tag) fields_bytes bytes c rest
fields_takes tag bytes c rest are e =
    either 1 tag (telegram_change_at bytes) _ (tag == 1) refl (λ f. Exact-telegram.takes bytes c rest are f)
    (λ e2. either 2 tag (fit_at bytes) _ (tag == 2) refl (λ f. Exact-fit.takes bytes c rest are f)
    (λ e3. either 3 tag (move_at bytes) _ (tag == 3) refl (λ f. Exact-move.takes bytes c rest are f)
    (λ e4. either 4 tag (out_at bytes) _ (tag == 4) refl (λ f. Exact-out.takes bytes c rest are f)
    (λ e5. either 5 tag (confirm_at bytes) _ (tag == 5) refl (λ f. Exact-confirm.takes bytes c rest are f)
    (λ e6. either 6 tag (swap_at bytes) None (tag == 6) refl (λ f. Exact-swap.takes bytes c rest are f) (λ none. absurd cc) e6)
    e5) e4) e3) e2) e

fields_again : (c : Change) (rest : List ℕ) → IsChange c → fields_at (tag_of c) (fields_bytes c ++ rest) ≡ Some (c, rest)
fields_again (Telegram part moment body) rest is = Exact-telegram.again (Telegram part moment body) rest (record { tag_is = refl; is = is })
fields_again (Numbered number (Fit meter line address flat)) rest is = Exact-fit.again (Numbered number (Fit meter line address flat)) rest (record { tag_is = refl; is = is })
fields_again (Numbered number (Move meter flat)) rest is = Exact-move.again (Numbered number (Move meter flat)) rest (record { tag_is = refl; is = is })
fields_again (Numbered number (Out meter)) rest is = Exact-out.again (Numbered number (Out meter)) rest (record { tag_is = refl; is = is })
fields_again (Numbered number (Confirm serial)) rest is = Exact-confirm.again (Numbered number (Confirm serial)) rest (record { tag_is = refl; is = is })
fields_again (Numbered number (Swap old new address)) rest is = Exact-swap.again (Numbered number (Swap old new address)) rest (record { tag_is = refl; is = is })

tag_small : (c : Change) → tag_of c < 256
tag_small (Telegram part moment body) = omega arith
tag_small (Numbered number (Fit meter line address flat)) = omega arith
tag_small (Numbered number (Move meter flat)) = omega arith
tag_small (Numbered number (Out meter)) = omega arith
tag_small (Numbered number (Confirm serial)) = omega arith
tag_small (Numbered number (Swap old new address)) = omega arith

pub Exact-change : Exact IsChange change_bytes change_at
unfolding change_at
Exact-change = record {
  takes = λ bytes c rest are e.
      let s = bind_some (byte_at bytes) (λ tag. fields_at tag.0 tag.1) (c, rest) e in
      let one = Exact-byte.takes bytes s.0.0 s.0.1 are s.1 in
      let two = fields_takes s.0.0 s.0.1 c rest (rest_are one are) s.2 in
      record {
        is = two.is.is;
        spelled = one.spelled ∙ ap (λ (l : List ℕ). byte s.0.0 ++ l) two.spelled ∙ ap (λ (n : ℕ). byte n ++ (fields_bytes c ++ rest)) (sym two.is.tag_is)
            ∙ sym (append_assoc (byte (tag_of c)) (fields_bytes c) rest) ∙ ap (λ (l : List ℕ). l ++ rest) (tagged c);
      };
  again = λ c rest is.
      let grouped : change_bytes c ++ rest ≡ byte (tag_of c) ++ (fields_bytes c ++ rest) =
      ap (λ (l : List ℕ). l ++ rest) (sym (tagged c)) ∙ append_assoc (byte (tag_of c)) (fields_bytes c) rest in
      rw (grouped, Exact-byte.again (tag_of c) (fields_bytes c ++ rest) (tag_small c)) (fields_again c rest is);
}

pub change_some : (c : Change) → IsChange c → 0 < length (change_bytes c)
change_some c is = omega (arith, ap length (sym (tagged c)), length-append (byte (tag_of c)) (fields_bytes c), length-byte (tag_of c))

pub change_len : (c : Change) → IsChange c → length (change_bytes c) ≤ longest_change
change_len (Telegram part moment body) is = let fits = is.body_is.fits in simp (length-append, length-byte, length-part_bytes) (omega arith)
change_len (Numbered number (Fit meter line address flat)) is =
    let is_flat = is.1.2.fits in simp (length-append, length-byte, length-long_bytes, length-counted, length-wire_of) (omega arith)
change_len (Numbered number (Move meter flat)) is =
    let is_flat = is.1.fits in simp (length-append, length-byte, length-long_bytes, length-counted, length-wire_of) (omega arith)
change_len (Numbered number (Out meter)) is = simp (length-append, length-byte, length-long_bytes, length-wire_of) (omega arith)
change_len (Numbered number (Confirm serial)) is = simp (length-append, length-byte, length-long_bytes) (omega arith)
change_len (Numbered number (Swap old new address)) is = simp (length-append, length-byte, length-long_bytes, length-wire_of) (omega arith)

-- no spelling of a change begins another
pub one_change : (a b : Change) (x y : List ℕ) → IsChange a → IsChange b → change_bytes a ++ x ≡ change_bytes b ++ y → (a ≡ b) × (x ≡ y)
one_change a b x y is_a is_b same = one_front Exact-change a b x y is_a is_b same

-- changes have one spelling
pub changes_spelled_once : (bytes : List ℕ) (a b : List Change) → SpellsChanges bytes a → SpellsChanges bytes b → a ≡ b
changes_spelled_once bytes a b of_a of_b = one_list Exact-change change_some a b of_a.are_changes of_b.are_changes (sym of_a.spelled ∙ of_b.spelled)

-- a spelling goes on by one change
pub spells_push : (bytes : List ℕ) (changes : List Change) (change : Change) → SpellsChanges bytes changes → IsChange change → SpellsChanges (bytes ++ change_bytes change) (changes ++ change ∷ [])
spells_push bytes changes change spells is = record {
  spelled = ap (λ (l : List ℕ). l ++ change_bytes change) spells.spelled ∙ flat_map_more change_bytes [] changes change;
  are_changes = All-push IsChange changes change spells.are_changes is;
}

-- how long a change is spelled
pub ruleset change_sized = (change_some, change_len)

-- changes are spelled one way
pub ruleset spelled_apart = (changes_spelled_once, one_change)
