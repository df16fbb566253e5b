-- The lines of a journal, one after the other.
use Rattle.std.proofs.Common.{◌≡◌, ◌∙◌, ℕ, Bool, true, false, cond, List, [], ◌∷◌, Option, None, Some, length, ap, refl, arith}
use Rattle.std.specs.BTreeMap.{is_at}
use Rattle.std.specs.Map.{lookup}
use Rattle.std.specs.Prelude.{nat_le}
use Rattle.dc_address.proofs.Order.{same_from_tie}
use Rattle.dc_address.specs.Identity.{identity_cmp}
use Rattle.dc_address.specs.declared.identity.Identity.{Identity}
use Rattle.mbdc_io.specs.Lines.{lines_of}
use Rattle.mbdc_json.specs.Entry.{IsLine}
use Rattle.mbdc_json.specs.Journal.{Adds, Notes, after_entries, after_entry, bodies_after, is_of, moment_of, noted_in, sent_after, sent_by, sent_in}
use Rattle.mbdc_json.specs.Noted.{noted_after}
use Rattle.mbdc_json.specs.declared.journal.entry.Entry.{Entry}
use Rattle.mbdc_json.specs.declared.journal.noted.Noted.{Noted}

pub no_lines : (now : ℕ) (notes : Notes) → Adds now [] notes notes
no_lines now notes = record { entries = []; lines_are = tt; noted = λ meter. refl; sent = λ meter. refl }

-- a line, and then lines
pub line_and_lines : (now : ℕ) (line : List ℕ) (lines : List (List ℕ)) (old mid new : Notes) (entry : Option Entry)
    → IsLine line entry → ((meter : Identity) → noted_in mid.notes meter ≡ after_entry now meter entry (noted_in old.notes meter))
    → ((meter : Identity) → sent_in mid.sent meter ≡ sent_by now meter line entry (sent_in old.sent meter))
    → Adds now lines mid new → Adds now (line ∷ lines) old new
line_and_lines now line lines old mid new entry is step sent adds = record {
  entries = entry ∷ adds.entries;
  lines_are = (is, adds.lines_are);
  noted = λ meter. adds.noted meter ∙ ap (after_entries now meter adds.entries) (step meter);
  sent = λ meter. adds.sent meter ∙ ap (sent_after now meter lines adds.entries) (sent meter);
}

pub no_line : (text : List ℕ) → length text ≡ 0 → lines_of text ≡ []
unfolding lines_of
no_line [] none = refl
no_line (b ∷ text) none = absurd (omega arith)

-- an entry in time that is inserted is what follows of its meter, and nothing of any other
module _ (now : ℕ) (entry : Entry) (old new : List (Identity × Noted)) (in_time : nat_le (moment_of entry.said) now ≡ true)
    (updates : (q : Identity) → lookup (is_at (identity_cmp q)) new
    ≡ cond (is_at (identity_cmp entry.meter) q) (Some (noted_after entry.said (noted_in old entry.meter))) (lookup (is_at (identity_cmp q)) old)) where
  pub entry_taken : (meter : Identity) → noted_in new meter ≡ after_entry now meter (Some entry) (noted_in old meter)
  entry_taken meter = here (is_at (identity_cmp entry.meter) meter) refl
    where
      here : (b : Bool) → is_at (identity_cmp entry.meter) meter ≡ b → noted_in new meter ≡ after_entry now meter (Some entry) (noted_in old meter)
      here true at = rw (updates meter, at, in_time) (ap (λ (m : Identity). noted_after entry.said (noted_in old m)) (same_from_tie entry.meter meter at))
      here false at = rw (updates meter, at) refl

-- what is kept of an entry in time is that of its meter, and of no other
module _ (now : ℕ) (entry : Entry) (bodies : List (List ℕ)) (old new : List (Identity × List (List ℕ))) (in_time : nat_le (moment_of entry.said) now ≡ true)
    (updates : (q : Identity) → lookup (is_at (identity_cmp q)) new
    ≡ cond (is_at (identity_cmp entry.meter) q) (Some bodies) (lookup (is_at (identity_cmp q)) old)) where
  pub bodies_kept : (meter : Identity) → sent_in new meter ≡ bodies_after now meter entry (Some bodies) (sent_in old meter)
  bodies_kept meter = here (is_at (identity_cmp entry.meter) meter) refl
    where
      here : (b : Bool) → is_at (identity_cmp entry.meter) meter ≡ b → sent_in new meter ≡ bodies_after now meter entry (Some bodies) (sent_in old meter)
      here true at = rw (updates meter, at, in_time) refl
      here false at = rw (updates meter, at) refl
