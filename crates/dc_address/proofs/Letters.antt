-- A manufacturer is a code of three letters exactly where the test says so, and each code has its own.
use Rattle.std.specs.Prelude.{◌≡◌, ℕ, true, ◌&&◌, nat_le}
use Rattle.std.proofs.Common.{arith}
use Rattle.std.proofs.lemmas.Bool.{and_parts, and_from, leb-true, le-leb}
use Rattle.dc_address.specs.Maker.{maker_code, first_letter, second_letter, third_letter, IsLetter, IsMaker, is_letter, is_maker}

pub IsLetter-from_test : (code : ℕ) → is_letter code ≡ true → IsLetter code
IsLetter-from_test code is =
    let parts = and_parts (nat_le 65 code) (nat_le code 90) is in
    record { low = leb-true 65 code parts.0; high = leb-true code 90 parts.1 }

pub is_letter-of : (code : ℕ) → IsLetter code → is_letter code ≡ true
is_letter-of code is = and_from _ _ (le-leb 65 code is.low) (le-leb code 90 is.high)

pub IsMaker-from_test : (maker : ℕ) → is_maker maker ≡ true → IsMaker maker
IsMaker-from_test maker is =
    let front = and_parts (is_letter (first_letter maker)) (is_letter (second_letter maker) && is_letter (third_letter maker)) is in
    let back = and_parts (is_letter (second_letter maker)) (is_letter (third_letter maker)) front.1 in
    record {
      first = IsLetter-from_test _ front.0;
      second = IsLetter-from_test _ back.0;
      third = IsLetter-from_test _ back.1;
    }

pub is_maker-of : (maker : ℕ) → IsMaker maker → is_maker maker ≡ true
is_maker-of maker is =
    and_from _ _ (is_letter-of _ is.first) (and_from _ _ (is_letter-of _ is.second) (is_letter-of _ is.third))

-- a code is that of its letters
pub maker_code-letters : (maker : ℕ) → maker_code (first_letter maker) (second_letter maker) (third_letter maker) ≡ maker
maker_code-letters maker = omega arith

-- three letters are those of their code
pub first_letter-maker_code : (first second third : ℕ) → IsLetter first → IsLetter second → IsLetter third
    → first_letter (maker_code first second third) ≡ first
first_letter-maker_code first second third a b c = omega arith

pub second_letter-maker_code : (first second third : ℕ) → IsLetter first → IsLetter second → IsLetter third
    → second_letter (maker_code first second third) ≡ second
second_letter-maker_code first second third a b c = omega arith

pub third_letter-maker_code : (first second third : ℕ) → IsLetter first → IsLetter second → IsLetter third
    → third_letter (maker_code first second third) ≡ third
third_letter-maker_code first second third a b c = omega arith
