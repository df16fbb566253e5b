-- Changes that are read one after the other, as a loop does.
use Rattle.std.proofs.Common.{◌≡◌, ℕ, ◌<◌, List, [], ◌∷◌, ◌++◌, length, Option, Some, None, Result, Err, refl, sym, ap, subst, ◌∙◌, append_assoc, append-nil, arith, length-append}
use Rattle.std.specs.Prelude.{All}
use Rattle.std.specs.List.{flat_map}
use Rattle.std.proofs.lemmas.List.Elements.{All-nil, All-push}
use Rattle.std.proofs.lemmas.List.{flat_map_more}
use Rattle.mbdc_change.specs.declared.change.Change.{Change}
use Rattle.mbdc_change.specs.declared.decode_fault.DecodeFault.{DecodeFault}
use Rattle.mbdc_change.specs.declared.decode_fault.DecodeFault.TheVariants.{Bad, NoMemory}
use Rattle.mbdc_change.specs.Valid.{IsChange}
use Rattle.mbdc_change.specs.Encoding.{change_bytes, changes_bytes}
use Rattle.mbdc_change.specs.Spelled.{SpellsChanges}
use Rattle.mbdc_change.specs.Pieces.{Fails}
use Rattle.mbdc_change.specs.Reading.{change_at}
use Rattle.mbdc_change.proofs.Exact.{IsBytes, IsBytes-behind, Next, next_of}
use Rattle.mbdc_change.proofs.CommandSpellings.{Exact-change, change_some}

-- the bytes spell these changes, and the rest follows
pub record IsReadUpTo (bytes : List ℕ) (changes : List Change) (rest : List ℕ) : Type 0 where
  pub spelled : bytes ≡ changes_bytes changes ++ rest
  pub are_changes : All IsChange changes

pub none_read : (bytes : List ℕ) → IsReadUpTo bytes [] bytes
none_read bytes = record { spelled = refl; are_changes = All-nil IsChange }

-- one change more
pub record IsReadOn (bytes : List ℕ) (changes : List Change) (rest : List ℕ) (change : Change) (after : List ℕ) : Type 0 where
  pub up_to : IsReadUpTo bytes (changes ++ change ∷ []) after
  pub is_change : IsChange change
  pub shorter : length after < length rest

pub read_on : (bytes : List ℕ) (changes : List Change) (rest : List ℕ) (change : Change) (after : List ℕ) → IsBytes bytes → IsReadUpTo bytes changes rest → change_at rest ≡ Some (change, after)
    → IsReadOn bytes changes rest change after
read_on bytes changes rest change after are so_far found =
    let rest_are : IsBytes rest = IsBytes-behind (changes_bytes changes) rest (subst IsBytes so_far.spelled are) in
    let taken = Exact-change.takes rest change after rest_are found in
    let longer : changes_bytes (changes ++ change ∷ []) ≡ changes_bytes changes ++ change_bytes change = sym (flat_map_more change_bytes [] changes change) in
    let whole : bytes ≡ changes_bytes (changes ++ change ∷ []) ++ after =
    so_far.spelled ∙ ap (λ (l : List ℕ). changes_bytes changes ++ l) taken.spelled ∙ sym (append_assoc (changes_bytes changes) (change_bytes change) after)
    ∙ ap (λ (l : List ℕ). l ++ after) (sym longer) in
    record {
      up_to = record { spelled = whole; are_changes = All-push IsChange changes change so_far.are_changes taken.is };
      is_change = taken.is;
      shorter = omega (arith, ap length taken.spelled, length-append (change_bytes change) after, change_some change taken.is);
    }

-- where nothing is left, the bytes spell the changes
pub all_read : (bytes : List ℕ) (changes : List Change) → IsReadUpTo bytes changes [] → SpellsChanges bytes changes
all_read bytes changes so_far = record { spelled = so_far.spelled ∙ append-nil (changes_bytes changes); are_changes = so_far.are_changes }

-- the next of the changes that the bytes spell, if they spell any
pub next_spelled : (bytes : List ℕ) (changes all : List Change) (rest : List ℕ) → IsReadUpTo bytes changes rest → 0 < length rest → SpellsChanges bytes all → Next IsChange change_bytes changes all rest
next_spelled bytes changes all rest so_far some spells =
    next_of Exact-change changes all rest so_far.are_changes spells.are_changes (sym so_far.spelled ∙ spells.spelled) some

-- where no change is read, the bytes spell none
pub none_spelled : (bytes : List ℕ) (changes all : List Change) (rest : List ℕ) → IsReadUpTo bytes changes rest → 0 < length rest → change_at rest ≡ None → SpellsChanges bytes all → ⊥
none_spelled bytes changes all rest so_far some missing spells =
    let next = next_spelled bytes changes all rest so_far some spells in
    let again = Exact-change.again next.next (flat_map change_bytes next.others) next.is in
    let found : change_at rest ≡ Some (next.next, flat_map change_bytes next.others) = ap change_at next.spelled ∙ again in
    cc

-- ---- where a reading fails

fails_bad : {Y : Type 0} (fault : DecodeFault) (read : Option Y) → Fails fault read → fault ≡ Bad → read ≡ None
fails_bad Bad read fails same = fails
fails_bad NoMemory read fails same = absurd cc

abbrev failed : (X : Type 0) → DecodeFault → Result X DecodeFault
failed X e = Err e

err_same : {X : Type 0} (d e : DecodeFault) → failed X d ≡ failed X e → d ≡ e
err_same d e same = cc

-- the exit of a `?`: the fault that is answered is the one that was given
pub fault_is : {X : Type 0} (result : Result X DecodeFault) (given fault answered : DecodeFault) → result ≡ Err given → given ≡ fault → result ≡ Err answered → fault ≡ answered
fault_is {X} result given fault answered is same answer = sym same ∙ err_same {X = X} given answered (sym is ∙ answer)

pub is_bad : {X : Type 0} (result : Result X DecodeFault) (given fault : DecodeFault) → result ≡ Err given → given ≡ fault → result ≡ Err Bad → fault ≡ Bad
is_bad result given fault is same bad = fault_is result given fault Bad is same bad

-- so a fault that is answered as Bad says that nothing is read
pub bad_exit : {X Y : Type 0} (result : Result X DecodeFault) (given fault : DecodeFault) (read : Option Y) → result ≡ Err given → given ≡ fault → Fails fault read → result ≡ Err Bad → read ≡ None
bad_exit result given fault read is same fails bad =
    fails_bad fault read fails (is_bad result given fault is same bad)
