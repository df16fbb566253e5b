-- What an accepted change says.
use Rattle.std.proofs.Common.{◌≡◌, ℕ, ◌<◌, ◌≤◌, Bool, true, false, cond, Option, Some, None, refl, arith}
use Rattle.std.specs.Prelude.{is_some, IsSome, nat_lt, nat_le, not, ◌||◌, ◌&&◌}
use Rattle.mbdc_change.specs.declared.command.Command.{Command}
use Rattle.mbdc_change.specs.Body.{BodyRow}
use Rattle.mbdc_change.specs.State.{State, row_of}
use Rattle.mbdc_change.specs.Apply.{told}
use Rattle.mbdc_change.specs.Size.{size_of}
use Rattle.mbdc_change.specs.Fields.{end_of_numbers}
use Rattle.mbdc_change.specs.Accepts.{command_refusal, telegram_refusal, continues, is_known, is_unknown, is_address_taken, is_beyond, is_full}
use Rattle.dc_meters.specs.Steps.{CanBeApplied}
use Rattle.std.proofs.lemmas.Bool.Decides.{nat_tests}

none_first : {X : Type 0} (b : Bool) (x : X) (rest : Option X) → cond b (Some x) rest ≡ None → (b ≡ false) × (rest ≡ None)
none_first true x rest e = cc
none_first false x rest e = (refl, e)

pub none_of : {X : Type 0} (o : Option X) → is_some o ≡ false → o ≡ None
none_of None e = refl
none_of (Some x) e = cc

some_of : {X : Type 0} (o : Option X) → not (is_some o) ≡ false → IsSome o
some_of None e = cc
some_of (Some x) e = refl

below : (a b : ℕ) → nat_lt a b ≡ false → b ≤ a
below a b e = grind (arith, nat_tests)

-- what the steps of an accepted command need
pub can_be_applied : (budget : ℕ) (command : Command) (s : State) → command_refusal budget command s ≡ None → CanBeApplied budget command s
can_be_applied budget command s e =
    let known = none_first (is_known command s) _ _ e in
    let unknown = none_first (is_unknown command s) _ _ known.1 in
    let taken = none_first (is_address_taken command s) _ _ unknown.1 in
    let beyond = none_first (is_beyond command s) _ _ taken.1 in
    let full = none_first (is_full budget command s) _ _ beyond.1 in
    record { new = known.0; registered = unknown.0; given = beyond.0; room = full.0 }

pub record CanBeTold (budget part moment : ℕ) (body : BodyRow) (s : State) : Type 0 where
  pub continues_it : continues part (row_of body.meter s) ≡ true
  pub room : size_of (told part moment body s) ≤ budget
  pub serial : body.more ≡ false → s.next_serial < end_of_numbers

yes_from_not : (b : Bool) → not b ≡ false → b ≡ true
yes_from_not true e = refl
yes_from_not false e = cc

neither : (a b : Bool) → (a || b) ≡ false → (a ≡ false) × (b ≡ false)
neither true b e = cc
neither false b e = (refl, e)

second_fails : (more over : Bool) → (not more && over) ≡ false → more ≡ false → over ≡ false
second_fails true over e last = cc
second_fails false over e last = e

pub can_be_told : (budget part moment : ℕ) (body : BodyRow) (s : State) → telegram_refusal budget part moment body s ≡ None → CanBeTold budget part moment body s
can_be_told budget part moment body s e =
    let a = none_first (not (continues part (row_of body.meter s))) _ _ e in
    let d = none_first (nat_lt budget (size_of (told part moment body s)) || (not body.more && nat_le end_of_numbers s.next_serial)) _ _ a.1 in
    let parts = neither (nat_lt budget (size_of (told part moment body s))) (not body.more && nat_le end_of_numbers s.next_serial) d.0 in
    record {
      continues_it = yes_from_not (continues part (row_of body.meter s)) a.0;
      room = below budget _ parts.0;
      serial = λ last. let before = second_fails body.more (nat_le end_of_numbers s.next_serial) parts.1 last in grind (arith, nat_tests, before);
    }
