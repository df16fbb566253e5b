-- Changes that are read one after the other and applied as they come.
use Rattle.std.proofs.Common.{◌≡◌, ℕ, ◌<◌, List, [], ◌∷◌, ◌++◌, length, Some, None, refl, sym, ap, subst, ◌∙◌}
use Rattle.std.specs.List.{flat_map}
use Rattle.mbdc_change.specs.declared.change.Change.{Change}
use Rattle.mbdc_change.specs.Encoding.{change_bytes, changes_bytes}
use Rattle.mbdc_change.specs.Spelled.{SpellsChanges}
use Rattle.mbdc_change.specs.Reading.{change_at}
use Rattle.mbdc_change.specs.State.{State, Held}
use Rattle.mbdc_change.specs.Apply.{applied}
use Rattle.mbdc_change.specs.Accepts.{Accepts}
use Rattle.mbdc_change.specs.History.{after, AcceptsAll}
use Rattle.mbdc_change.proofs.History.{after_of_push, accepts_all_of_push, accepts_all_parts}
use Rattle.mbdc_change.proofs.Exact.{IsBytes, IsBytes-behind, some_is}
use Rattle.mbdc_change.proofs.CommandSpellings.{Exact-change}
use Rattle.mbdc_change.proofs.Runs.{IsReadUpTo, read_on, next_spelled}
use Rattle.mbdc_change.specs.Valid.{IsChange}
use Rattle.dc_meters.specs.Replay.{BeginsUnaccepted, IsApplied, IsHeldUp}
use Rattle.std.proofs.lemmas.List.Elements.{All-nil}

pub none_applied : (old : Held) (bytes : List ℕ) → IsApplied old old bytes bytes
none_applied old bytes = record { changes = []; spelled = refl; are_changes = All-nil IsChange; accepted = tt; applied = refl }

-- what was read so far
pub up_to : {old new : Held} {bytes rest : List ℕ} (so_far : IsApplied old new bytes rest) → IsReadUpTo bytes so_far.changes rest
up_to so_far = record { spelled = so_far.spelled; are_changes = so_far.are_changes }

pub apply_on : (old mid new : Held) (bytes rest : List ℕ) (change : Change) (then : List ℕ) → IsBytes bytes → (so_far : IsApplied old mid bytes rest) → change_at rest ≡ Some (change, then)
    → Accepts mid.budget change mid.state → new ≡ record mid { state = applied change mid.state } → IsApplied old new bytes then
apply_on old mid new bytes rest change then are so_far found accepts is =
    let more = read_on bytes so_far.changes rest change then are (up_to so_far) found in
    let here : Accepts old.budget change (after old.state so_far.changes) = subst (λ (h : Held). Accepts h.budget change h.state) so_far.applied accepts in
    record {
      changes = so_far.changes ++ change ∷ [];
      spelled = more.up_to.spelled;
      are_changes = more.up_to.are_changes;
      accepted = accepts_all_of_push old.budget old.state so_far.changes change so_far.accepted here;
      applied = is ∙ ap (λ (h : Held). record h { state = applied change h.state }) so_far.applied
          ∙ ap (λ (s : State). record old { state = s }) (sym (after_of_push old.state so_far.changes change));
    }

-- a list of changes that the bytes spell, and that is accepted, has as its next change one that is accepted
pub none_accepted : (old mid : Held) (bytes rest : List ℕ) (change : Change) (then : List ℕ) (all : List Change) → (so_far : IsApplied old mid bytes rest) → 0 < length rest → change_at rest ≡ Some (change, then)
    → (Accepts mid.budget change mid.state → ⊥) → SpellsChanges bytes all → AcceptsAll old.budget old.state all → ⊥
none_accepted old mid bytes rest change then all so_far some found refused spells accepted =
    let next = next_spelled bytes so_far.changes all rest (up_to so_far) some spells in
    let again : change_at rest ≡ Some (next.next, flat_map change_bytes next.others) = ap change_at next.spelled ∙ Exact-change.again next.next (flat_map change_bytes next.others) next.is in
    let same : change ≡ next.next = ap (λ (p : Change × List ℕ). p.0) (some_is (change, then) (next.next, flat_map change_bytes next.others) (sym found ∙ again)) in
    let parts = accepts_all_parts old.budget old.state so_far.changes (next.next ∷ next.others) (subst (AcceptsAll old.budget old.state) next.parts accepted) in
    let here : Accepts old.budget change (after old.state so_far.changes) = subst (λ (c : Change). Accepts old.budget c (after old.state so_far.changes)) (sym same) parts.1.0 in
    refused (subst (λ (h : Held). Accepts h.budget change h.state) (sym so_far.applied) here)

-- a change that is read and accepted, and isn't applied
pub held_up : (old mid : Held) (bytes rest : List ℕ) (change : Change) (then : List ℕ) → IsBytes bytes → IsApplied old mid bytes rest → change_at rest ≡ Some (change, then) → Accepts mid.budget change mid.state → IsHeldUp old mid bytes
held_up old mid bytes rest change then are so_far found accepts =
    let rest_are : IsBytes rest = IsBytes-behind (changes_bytes so_far.changes) rest (subst IsBytes so_far.spelled are) in
    let taken = Exact-change.takes rest change then rest_are found in
    record { next = change; behind = then; so_far = subst (IsApplied old mid bytes) taken.spelled so_far; is_change = taken.is; accepted = accepts }

-- where no change is read, the bytes begin with none
unread_begins : (held : Held) (bytes : List ℕ) → change_at bytes ≡ None → BeginsUnaccepted held bytes
unread_begins held bytes missing next others spelled is accepts =
    let found : change_at bytes ≡ Some (next, others) = ap change_at spelled ∙ Exact-change.again next others is in
    cc

-- where the change that is read isn't accepted, the bytes begin with no other
refused_begins : (held : Held) (bytes : List ℕ) (change : Change) (then : List ℕ) → change_at bytes ≡ Some (change, then) → (Accepts held.budget change held.state → ⊥) → BeginsUnaccepted held bytes
refused_begins held bytes change then found refused next others spelled is accepts =
    let again : change_at bytes ≡ Some (next, others) = ap change_at spelled ∙ Exact-change.again next others is in
    let same : change ≡ next = ap (λ (p : Change × List ℕ). p.0) (some_is (change, then) (next, others) (sym found ∙ again)) in
    refused (subst (λ (c : Change). Accepts held.budget c held.state) (sym same) accepts)

-- a replay ended where no change is read
pub left_unread : (old new : Held) (bytes rest : List ℕ) → IsApplied old new bytes rest → change_at rest ≡ None → (rest : List ℕ) × IsApplied old new bytes rest × BeginsUnaccepted new rest
left_unread old new bytes rest so_far missing = (rest, so_far, unread_begins new rest missing)

-- a replay ended at a change that isn't accepted
pub left_refused : (old new : Held) (bytes rest : List ℕ) (change : Change) (then : List ℕ) → IsApplied old new bytes rest → change_at rest ≡ Some (change, then) → (Accepts new.budget change new.state → ⊥)
    → (rest : List ℕ) × IsApplied old new bytes rest × BeginsUnaccepted new rest
left_refused old new bytes rest change then so_far found refused = (rest, so_far, refused_begins new rest change then found refused)
