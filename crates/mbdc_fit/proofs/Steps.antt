-- The rows of a list, one after the other.
use Rattle.std.proofs.Common.{◌≡◌, ℕ, List, [], ◌∷◌, ◌++◌, Result, Ok, Err, refl, sym, subst, append_assoc, ap, ◌∙◌}
use Rattle.mbdc_io.proofs.Bools.{or_assoc}
use Rattle.mbdc_change.specs.State.{Held, State}
use Rattle.mbdc_change.specs.Apply.{applied}
use Rattle.mbdc_change.specs.Accepts.{Accepts}
use Rattle.mbdc_change.specs.Valid.{IsChange}
use Rattle.mbdc_change.specs.History.{after, AcceptsAll}
use Rattle.mbdc_change.specs.Encoding.{change_bytes, changes_bytes}
use Rattle.std.specs.Prelude.{All}
use Rattle.std.proofs.lemmas.List.Elements.{All-cons, All-nil}
use Rattle.mbdc_change.specs.declared.change.Change.{Change}
use Rattle.mbdc_fit.specs.declared.list.listed.Column.{Column}
use Rattle.mbdc_fit.specs.declared.list.listed.Listed.{Listed}
use Rattle.mbdc_fit.specs.declared.list.verdict.Verdict.TheVariants.{Stands, Refused, Spent, New}
use Rattle.mbdc_fit.specs.declared.list.row.Row.{Row}
use Rattle.mbdc_fit.specs.Rows.{Entry, IsReadAs}
use Rattle.mbdc_fit.specs.declared.list.verdict.Verdict.{Verdict}
use Rattle.mbdc_fit.specs.Plan.{IsStepBy, verdict_on, IsStep, AreSteps, ArePlanned, nothing, Outcome, read_orders, orders, fine_words, wrong_words, texts, refusals, is_wrong, any_wrong, after_read, after_verdict, change_of, changes_by, read_changes, changes, bytes_by, read_bytes, payload, AreOrdered, IsOneGroup}

-- ---- the changes of the rows

-- the state after a row is that after its changes
by_changes : (verdict : Verdict) (row : Row) (s : State) → after s (changes_by verdict row s) ≡ after_verdict verdict row s
by_changes New row s = refl
by_changes Stands row s = refl
by_changes Spent row s = refl
by_changes (Refused fault) row s = refl

read_by_changes : (budget : ℕ) (read : Result Row Column) (s : State) → after s (read_changes budget read s) ≡ after_read budget read s
read_by_changes budget (Err column) s = refl
read_by_changes budget (Ok row) s = by_changes (verdict_on budget row s) row s

ordered_more : (budget : ℕ) (s : State) (first then : List Change) → AreOrdered budget s first → AreOrdered budget (after s first) then → AreOrdered budget s (first ++ then)
ordered_more budget s [] then done more = more
ordered_more budget s (change ∷ first) then done more = (done.0, done.1, ordered_more budget (applied change s) first then done.2 more)

ordered_by : (verdict : Verdict) (row : Row) (budget : ℕ) (s : State) → (verdict ≡ New → IsChange (change_of row s) × Accepts budget (change_of row s) s) → AreOrdered budget s (changes_by verdict row s)
ordered_by New row budget s fine = ((fine refl).0, (fine refl).1, tt)
ordered_by Stands row budget s fine = tt
ordered_by Spent row budget s fine = tt
ordered_by (Refused fault) row budget s fine = tt

-- each is accepted in turn
pub accepted : (budget : ℕ) (s : State) (all : List Change) → AreOrdered budget s all → AcceptsAll budget s all
accepted budget s [] ordered = tt
accepted budget s (change ∷ all) ordered = (ordered.1, accepted budget (applied change s) all ordered.2)

-- they are changes
are_changes : (budget : ℕ) (s : State) (all : List Change) → AreOrdered budget s all → All IsChange all
are_changes budget s [] ordered = All-nil IsChange
are_changes budget s (change ∷ all) ordered = All-cons IsChange change all ordered.0 (are_changes budget (applied change s) all ordered.2)

-- and the payload is their encoding
bytes_spell : (verdict : Verdict) (row : Row) (s : State) (bytes : List ℕ) (all : List Change) → bytes ≡ changes_bytes all → bytes_by verdict row s ++ bytes ≡ changes_bytes (changes_by verdict row s ++ all)
bytes_spell New row s bytes all same = ap (λ (l : List ℕ). change_bytes (change_of row s) ++ l) same
bytes_spell Stands row s bytes all same = same
bytes_spell Spent row s bytes all same = same
bytes_spell (Refused fault) row s bytes all same = same

read_spells : (budget : ℕ) (read : Result Row Column) (s : State) (bytes : List ℕ) (all : List Change) → bytes ≡ changes_bytes all → read_bytes budget read s ++ bytes ≡ changes_bytes (read_changes budget read s ++ all)
read_spells budget (Err column) s bytes all same = same
read_spells budget (Ok row) s bytes all same = bytes_spell (verdict_on budget row s) row s bytes all same

payload_spells : (budget : ℕ) (entries : List Entry) (s : State) → payload budget entries s ≡ changes_bytes (changes budget entries s)
payload_spells budget [] s = refl
payload_spells budget (entry ∷ entries) s =
    let after = after_read budget entry.read s in
    read_spells budget entry.read s (payload budget entries after) (changes budget entries after) (payload_spells budget entries after)

pub one_group : (rows : List Listed) (house : Held) (outcome : Outcome) → ArePlanned rows house outcome → IsOneGroup house outcome
one_group rows house outcome planned =
    let all = changes house.budget planned.entries house.state in
    let bytes : outcome.payload ≡ payload house.budget planned.entries house.state = ap (λ (o : Outcome). o.payload) planned.outcome_is in
    record {
      changes = all;
      spells = record { spelled = bytes ∙ payload_spells house.budget planned.entries house.state; are_changes = are_changes house.budget house.state all planned.ordered };
      accepted = accepted house.budget house.state all planned.ordered;
    }

-- a row, and then rows
pub step_and_steps : (listed : Listed) (rows : List Listed) (read : Result Row Column) (old mid new : Held) (before between outcome : Outcome)
    → IsReadAs listed read → IsStep listed read old mid before between → AreSteps rows mid new between outcome → AreSteps (listed ∷ rows) old new before outcome
step_and_steps listed rows read old mid new before between outcome reads is steps =
    let budget = old.budget in
    let s = old.state in
    record {
      entries = record { listed = listed; read = read } ∷ steps.entries;
      rows_are = (refl, reads, steps.rows_are);
      house_is = rw (steps.house_is, is.house_is) refl;
      ordered = ordered_more budget s (read_changes budget read s) (changes budget steps.entries (after_read budget read s)) is.ordered
          (subst (λ (s : State). AreOrdered budget s (changes budget steps.entries (after_read budget read old.state))) (sym (read_by_changes budget read s))
          (subst (λ (h : Held). AreOrdered h.budget h.state (changes h.budget steps.entries h.state)) is.house_is steps.ordered));
      payload_is = rw (steps.payload_is, is.payload_is, is.house_is) (append_assoc before.payload (read_bytes budget read s) (payload budget steps.entries (after_read budget read s)));
      commands_are = rw (steps.commands_are, is.commands_are, is.house_is) (append_assoc before.commands (read_orders budget read s) (orders budget steps.entries (after_read budget read s)));
      wrong_is = rw (steps.wrong_is, is.wrong_is, is.house_is) (or_assoc before.wrong (is_wrong budget read s) (any_wrong budget steps.entries (after_read budget read s)));
      text_is = rw (steps.text_is, is.text_is, is.house_is) (append_assoc before.text (fine_words budget listed.number read s) (texts budget steps.entries (after_read budget read s)));
      refusals_are = rw (steps.refusals_are, is.refusals_are, is.house_is) (append_assoc before.refusals (wrong_words budget listed read s) (refusals budget steps.entries (after_read budget read s)));
    }

pub step_of_verdict : (verdict : Verdict) (listed : Listed) (row : Row) (old new : Held) (before outcome : Outcome)
    → verdict ≡ verdict_on old.budget row old.state → IsStepBy verdict row listed.number old new before outcome → IsStep listed (Ok row) old new before outcome
step_of_verdict verdict listed row old new before outcome is by =
    let step = subst (λ (v : Verdict). IsStepBy v row listed.number old new before outcome) is by in
    record {
      house_is = step.house_is;
      ordered = ordered_by (verdict_on old.budget row old.state) row old.budget old.state step.fine;
      payload_is = step.payload_is;
      commands_are = step.commands_are;
      wrong_is = step.wrong_is;
      text_is = step.text_is;
      refusals_are = step.refusals_are;
    }

pub planned : (rows : List Listed) (house new : Held) (plan : Outcome) → AreSteps rows house new nothing plan → ArePlanned rows house plan
planned rows house new plan steps = record {
  entries = steps.entries;
  rows_are = steps.rows_are;
  outcome_is = rw (sym steps.commands_are, sym steps.payload_is, sym steps.wrong_is, sym steps.text_is, sym steps.refusals_are) refl;
  ordered = steps.ordered;
}
