-- Each reading takes exactly its spelling: so nothing has two spellings, and no spelling of a change begins another.
use Rattle.std.proofs.Common.{◌≡◌, ℕ, ◌^◌, ◌<◌, ◌≤◌, Bool, true, false, cond, List, [], ◌∷◌, ◌++◌, length, Option, Some, None, Result, Ok, Err, refl, sym, ap, subst, ◌∙◌, append_assoc, append-nil, arith}
use Rattle.std.specs.Prelude.{nat_le, nat_lt, ◌&&◌, ◌==◌}
use Rattle.std.specs.List.{list_all}
use Rattle.std.proofs.lemmas.Nat.{le_bytes_4, le_bytes_8}
use Rattle.std.proofs.lemmas.Bool.{and_parts, and_from, eqb-true}
use Rattle.std.proofs.lemmas.Bool.Decides.{nat_tests}
use Rattle.byteorder.specs.Endian.{little_number, little_bytes}
use Rattle.byteorder.specs.Numbers.{little_number-reads_back, little_from-lt, length-bytes_low_first}
use Rattle.dc_address.specs.declared.identity.Identity.{Identity}
use Rattle.dc_address.specs.Identity.{IsWire, wire_of, is_identity}
use Rattle.dc_address.proofs.Identities.{spelled_identity, same_from_wire, is_identity-wire_of, length-wire_of}
use Rattle.dc_records.specs.declared.fault.BodyFault.{BodyFault}
use Rattle.dc_records.specs.Telegram.{Parsed, telegram_at}
use Rattle.dc_records.proofs.Spellings.Telegrams.{telegram_takes, telegram_again}
use Rattle.mbdc_change.specs.State.{PartRow}
use Rattle.mbdc_change.specs.Flat.{IsFlat, is_flat_byte}
use Rattle.mbdc_change.specs.Body.{BodyRow, IsBody, body_of}
use Rattle.mbdc_change.specs.Fields.{last_moment, end_of_numbers, IsAddress, IsBusLine, IsNumber}
use Rattle.mbdc_change.specs.Valid.{IsPart, AreParts}
use Rattle.mbdc_change.specs.Pieces.{long_bytes, count_bytes, byte, counted, address_byte}
use Rattle.mbdc_change.specs.Encoding.{part_bytes, parts_bytes}
use Rattle.mbdc_change.specs.Pieces.{Reader, ◌>>=◌, byte_at, split_at, long_at, count_at, counted_at, identity_by, identity_of, identity_at, moment_at, number_at, serial_at, line_at, address_of, address_at, is_flat, flat_at}
use Rattle.mbdc_change.specs.Reading.{body_by, body_row, body_at, part_of, part_at, parts_at}
use Rattle.mbdc_change.proofs.Exact.{IsBytes, IsBytes-front, Taken, Exact, Exact-both, Exact-chosen, Exact-restated, Exact-only, Exact-listed, Exact-split, bind_some, some_is, chosen_if, split_takes, split_again}

-- ---- numbers

byte_takes : (bytes : List ℕ) (x : ℕ) (rest : List ℕ) → IsBytes bytes → byte_at bytes ≡ Some (x, rest) → Taken (λ (n : ℕ). n < 256) byte bytes x rest
unfolding byte byte_at
byte_takes [] x rest are e = absurd cc
byte_takes (b ∷ bytes) x rest are e =
    subst (λ (q : ℕ × List ℕ). Taken (λ (n : ℕ). n < 256) (λ (n : ℕ). n ∷ []) (b ∷ bytes) q.0 q.1) (some_is (b, bytes) (x, rest) e) (record { is = are 0; spelled = refl })

pub Exact-byte : Exact (λ (n : ℕ). n < 256) byte byte_at
unfolding byte byte_at
Exact-byte = record { takes = λ bytes x rest are e. byte_takes bytes x rest are e; again = λ x rest is. refl }

abbrev numbers_at : ℕ → Reader ℕ
numbers_at n bytes = split_at n bytes >>= λ x. Some (little_number n x.0, x.1)

-- numbers of this many bytes, where these are the bytes of their number
Exact-numbers : (n : ℕ) → ((text : List ℕ) → length text ≡ n → IsBytes text → little_bytes n (little_number n text) ≡ text) → Exact (λ (x : ℕ). x < 256 ^ n) (little_bytes n) (numbers_at n)
Exact-numbers n back = record {
  takes = λ bytes x rest are e.
      let s = bind_some (split_at n bytes) (λ x. Some (little_number n x.0, x.1)) (x, rest) e in
      let t = split_takes n bytes s.0.0 s.0.1 s.1 in
      let text_are : IsBytes s.0.0 = IsBytes-front s.0.0 s.0.1 (subst IsBytes t.1 are) in
      subst (λ (q : ℕ × List ℕ). Taken (λ (x : ℕ). x < 256 ^ n) (little_bytes n) bytes q.0 q.1)
      (some_is (little_number n s.0.0, s.0.1) (x, rest) s.2)
      (record { is = little_from-lt 0 n s.0.0 text_are; spelled = t.1 ∙ ap (λ (l : List ℕ). l ++ s.0.1) (sym (back s.0.0 t.0 text_are)) });
  again = λ x rest is.
      let read : little_number n (little_bytes n x) ≡ x = ap (little_number n) (sym (append-nil (little_bytes n x))) ∙ little_number-reads_back n x [] is in
      rw ((Exact-split n).again (little_bytes n x) rest (length-bytes_low_first 0 n x), read) refl;
}

back_8 : (text : List ℕ) → length text ≡ 8 → IsBytes text → little_bytes 8 (little_number 8 text) ≡ text
back_8 text long are = le_bytes_8 text (little_number 8 text) long are (omega arith)

back_4 : (text : List ℕ) → length text ≡ 4 → IsBytes text → little_bytes 4 (little_number 4 text) ≡ text
back_4 text long are = le_bytes_4 text (little_number 4 text) long are (omega arith)

pub Exact-long : Exact (λ (x : ℕ). x < 2 ^ 64) long_bytes long_at
unfolding long_bytes long_at
Exact-long = Exact-numbers 8 back_8

pub Exact-count : Exact (λ (x : ℕ). x < 2 ^ 32) count_bytes count_at
unfolding count_bytes count_at
Exact-count = Exact-numbers 4 back_4

pub Exact-moment : Exact (λ (x : ℕ). x ≤ last_moment) long_bytes moment_at
unfolding moment_at
Exact-moment = Exact-restated (λ x is. let t = is.1 in grind (arith, nat_tests)) (λ x is. (omega arith, grind (arith, nat_tests))) (λ x. refl) (Exact-only (λ n. nat_le n last_moment) Exact-long)

pub Exact-serial : Exact (λ (x : ℕ). x < end_of_numbers) long_bytes serial_at
unfolding serial_at
Exact-serial = Exact-restated (λ x is. let t = is.1 in grind (arith, nat_tests)) (λ x is. (omega arith, grind (arith, nat_tests))) (λ x. refl) (Exact-only (λ n. nat_lt n end_of_numbers) Exact-long)

pub Exact-number : Exact IsNumber long_bytes number_at
unfolding number_at
Exact-number =
    Exact-restated
    (λ x is. let t = and_parts (nat_le 1 x) (nat_lt x end_of_numbers) is.1 in record { low = grind (arith, nat_tests); high = grind (arith, nat_tests) })
    (λ x is. let low = is.low in let high = is.high in (omega arith, and_from (nat_le 1 x) (nat_lt x end_of_numbers) (grind (arith, nat_tests)) (grind (arith, nat_tests))))
    (λ x. refl) (Exact-only (λ n. nat_le 1 n && nat_lt n end_of_numbers) Exact-long)

pub Exact-line : Exact IsBusLine byte line_at
unfolding line_at
Exact-line =
    Exact-restated
    (λ x is. let t = and_parts (nat_le 1 x) (nat_le x 8) is.1 in record { low = grind (arith, nat_tests); high = grind (arith, nat_tests) })
    (λ x is. let low = is.low in let high = is.high in (omega arith, and_from (nat_le 1 x) (nat_le x 8) (grind (arith, nat_tests)) (grind (arith, nat_tests))))
    (λ x. refl) (Exact-only (λ n. nat_le 1 n && nat_le n 8) Exact-byte)

-- ---- texts

counted_takes : (bytes text rest : List ℕ) → IsBytes bytes → counted_at bytes ≡ Some (text, rest) → Taken (λ (text : List ℕ). length text < 256) counted bytes text rest
unfolding counted counted_at
counted_takes bytes text rest are e =
    let s = bind_some (byte_at bytes) (λ n. split_at n.0 n.1) (text, rest) e in
    let one = Exact-byte.takes bytes s.0.0 s.0.1 are s.1 in
    let two = split_takes s.0.0 s.0.1 text rest s.2 in
    record {
      is = let long : s.0.0 < 256 = one.is in omega (arith, two.0);
      spelled = one.spelled ∙ ap (λ (l : List ℕ). byte s.0.0 ++ l) two.1 ∙ sym (append_assoc (byte s.0.0) text rest) ∙ ap (λ (n : ℕ). (byte n ++ text) ++ rest) (sym two.0);
    }

pub Exact-counted : Exact (λ (text : List ℕ). length text < 256) counted counted_at
unfolding counted counted_at
Exact-counted = record {
  takes = λ bytes text rest are e. counted_takes bytes text rest are e;
  again = λ text rest is.
      let grouped : byte_at ((byte (length text) ++ text) ++ rest) ≡ Some (length text, text ++ rest) = ap byte_at (append_assoc (byte (length text)) text rest) ∙ Exact-byte.again (length text) (text ++ rest) is in
      rw grouped (split_again text rest);
}

pub Exact-flat : Exact IsFlat counted flat_at
unfolding flat_at
Exact-flat =
    Exact-restated
    (λ x is.
    let t = and_parts (nat_lt 0 (length x)) (nat_le (length x) 12 && list_all is_flat_byte x) is.1 in
    let u = and_parts (nat_le (length x) 12) (list_all is_flat_byte x) t.1 in
    record { some = grind (arith, nat_tests); fits = grind (arith, nat_tests); bytes_are = u.1 })
    (λ x is.
    let low = is.some in
    let high = is.fits in
    (omega arith, and_from (nat_lt 0 (length x)) _ (grind (arith, nat_tests)) (and_from (nat_le (length x) 12) (list_all is_flat_byte x) (grind (arith, nat_tests)) is.bytes_are)))
    (λ x. refl) (Exact-only is_flat Exact-counted)

-- ---- identities and addresses

identity_by_takes : (wire : List ℕ) (test : Bool) (is : is_identity wire ≡ test) (i : Identity) → identity_by wire test is ≡ Some i → IsWire wire i
identity_by_takes wire true is i e = let found = spelled_identity wire is in subst (λ (j : Identity). IsWire wire j) (some_is found.0 i e) found.1
identity_by_takes wire false is i e = absurd cc

identity_by_again : (wire : List ℕ) (test : Bool) (is : is_identity wire ≡ test) (i : Identity) → IsWire wire i → identity_by wire test is ≡ Some i
identity_by_again wire true is i wired =
    let found = spelled_identity wire is in ap (λ (j : Identity). Some j) (same_from_wire wire found.0 i found.1 wired)
identity_by_again wire false is i wired =
    let yes : is_identity wire ≡ true = ap is_identity wired ∙ is_identity-wire_of i in absurd cc

identity_by_none : (wire : List ℕ) (test : Bool) (is : is_identity wire ≡ test) → test ≡ false → identity_by wire test is ≡ None
identity_by_none wire true is wrong = absurd cc
identity_by_none wire false is wrong = refl

pub identity_takes : (wire : List ℕ) (i : Identity) → identity_of wire ≡ Some i → IsWire wire i
unfolding identity_of
identity_takes wire i e = identity_by_takes wire (is_identity wire) refl i e

pub identity_again : (wire : List ℕ) (i : Identity) → IsWire wire i → identity_of wire ≡ Some i
unfolding identity_of
identity_again wire i wired = identity_by_again wire (is_identity wire) refl i wired

pub identity_none : (wire : List ℕ) → is_identity wire ≡ false → identity_of wire ≡ None
unfolding identity_of
identity_none wire wrong = identity_by_none wire (is_identity wire) refl wrong

pub Exact-identity : Exact (λ (i : Identity). Unit {0}) wire_of identity_at
unfolding identity_at
Exact-identity =
    Exact-chosen identity_of
    (λ wire i is e. (tt, identity_takes wire i e))
    (λ i is. (wire_of i, length-wire_of i, identity_again (wire_of i) i refl, refl))
    (Exact-split 8)

abbrev address_by : Bool → Bool → ℕ → Option (Option ℕ)
address_by none some b = cond none (Some None) (cond some (Some (Some b)) None)

address_by_means : (none some : Bool) (b : ℕ) (a : Option ℕ) → (b == 0) ≡ none → nat_le b 250 ≡ some → address_by none some b ≡ Some a → IsAddress a × (byte b ≡ byte (address_byte a))
address_by_means true some b a zero_is some_is_test e = subst (λ (o : Option ℕ). IsAddress o × (byte b ≡ byte (address_byte o))) (some_is None a e) (tt, ap byte (eqb-true b 0 zero_is))
address_by_means false true b a zero_is some_is_test e =
    subst (λ (o : Option ℕ). IsAddress o × (byte b ≡ byte (address_byte o))) (some_is (Some b) a e) (record { low = grind (arith, nat_tests); high = grind (arith, nat_tests) }, refl)
address_by_means false false b a zero_is some_is_test e = absurd cc

address_stands : (a : Option ℕ) → IsAddress a → address_of (address_byte a) ≡ Some a
address_stands None is = refl
address_stands (Some b) is =
    let low : 1 ≤ b = is.low in
    let high : b ≤ 250 = is.high in
    let above : (b == 0) ≡ false = grind (arith, nat_tests) in
    let within : nat_le b 250 ≡ true = grind (arith, nat_tests) in
    rw (above, within) refl

address_small : (a : Option ℕ) → IsAddress a → address_byte a < 256
address_small None is = omega arith
address_small (Some b) is = omega (arith, is.high)

pub Exact-address : Exact IsAddress (λ (a : Option ℕ). byte (address_byte a)) address_at
unfolding address_at
Exact-address =
    Exact-chosen address_of
    (λ b a is e. address_by_means (b == 0) (nat_le b 250) b a refl refl e)
    (λ a is. (address_byte a, address_small a is, address_stands a is, refl))
    Exact-byte

-- ---- parts

body_by_takes : (bytes : List ℕ) (r : Result Parsed BodyFault) (body : BodyRow) → telegram_at bytes ≡ r → body_by bytes r ≡ Some body → IsBody body × (body.bytes ≡ bytes)
body_by_takes bytes (Ok t) body is e =
    let c = chosen_if (nat_le (length bytes) 252) (body_of t) body e in
    let telegram = telegram_takes bytes t is in
    let short : length bytes ≤ 252 = let test = c.0 in grind (arith, nat_tests) in
    subst (λ (b : BodyRow). IsBody b × (b.bytes ≡ bytes)) c.1
    (record { telegram = t; is_telegram = telegram_takes t.body t (ap telegram_at telegram.body ∙ is); kept = refl; fits = omega (arith, ap length telegram.body) }, telegram.body)
body_by_takes bytes (Err f) body is e = absurd cc

pub body_takes : (bytes : List ℕ) (body : BodyRow) → body_row bytes ≡ Some body → IsBody body × (body.bytes ≡ bytes)
unfolding body_row
body_takes bytes body e = body_by_takes bytes (telegram_at bytes) body refl e

pub body_again : (body : BodyRow) → IsBody body → body_row body.bytes ≡ Some body
unfolding body_row
body_again body is =
    let read : telegram_at body.bytes ≡ Ok is.telegram = telegram_again body.bytes is.telegram is.is_telegram in
    let short : nat_le (length body.bytes) 252 ≡ true = let fits = is.fits in grind (arith, nat_tests) in
    rw (read, short) (ap (λ (b : BodyRow). Some b) (sym is.kept))

pub Exact-body : Exact IsBody (λ (body : BodyRow). counted body.bytes) body_at
unfolding body_at
Exact-body =
    Exact-chosen body_row
    (λ text body is e. let t = body_takes text body e in (t.0, ap counted (sym t.1)))
    (λ body is. (body.bytes, omega (arith, is.fits), body_again body is, refl))
    Exact-counted

pub Exact-part : Exact IsPart part_bytes part_at
unfolding part_bytes part_at
Exact-part =
    Exact-chosen (λ (x : ℕ × BodyRow). Some (part_of x))
    (λ x part is e.
    subst (λ (p : PartRow). IsPart p × (long_bytes x.0 ++ counted x.1.bytes ≡ long_bytes p.moment ++ counted p.body)) (some_is (part_of x) part e)
    (record { moment_fits = is.0; body_is = record { meter = x.1.meter; more = x.1.more; body_is = is.1 } }, refl))
    (λ part is. ((part.moment, record { bytes = part.body; meter = is.body_is.meter; more = is.body_is.more }), (is.moment_fits, is.body_is.body_is), refl, refl))
    (Exact-both Exact-moment Exact-body)

pub Exact-parts : Exact AreParts parts_bytes parts_at
unfolding parts_bytes parts_at
Exact-parts =
    Exact-restated
    (λ parts is. record { count = omega (arith, is.0); each = is.1 })
    (λ parts is. (omega (arith, is.count), is.each))
    (λ parts. refl)
    (Exact-listed Exact-byte Exact-part)

-- ---- as the code meets them

body_by_none : (text : List ℕ) (o : Option BodyRow) → body_row text ≡ o → ((body : BodyRow) → IsBody body → body.bytes ≡ text → ⊥) → o ≡ None
body_by_none text None same none = refl
body_by_none text (Some body) same none = let t = body_takes text body same in absurd (none body t.0 t.1)

-- bytes that are no body
pub body_none : (text : List ℕ) → ((body : BodyRow) → IsBody body → body.bytes ≡ text → ⊥) → body_row text ≡ None
body_none text none = body_by_none text (body_row text) refl none

-- an identity is read where it is spelled, and only there
pub ruleset identity_read = (identity_again, identity_none)

-- a body is read where it is spelled, and only there
pub ruleset body_read = (body_again, body_none)
