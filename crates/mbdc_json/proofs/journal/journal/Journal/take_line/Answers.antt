use Rattle.std.proofs.Common.{◌≡◌, ◌∙◌, List, ℕ, true, cond, Option, Some, ap, rules, sym}
use Rattle.std.specs.BTreeMap.{is_at}
use Rattle.std.specs.Map.{lookup}
use Rattle.std.specs.Prelude.{nat_le}
use Rattle.dc_address.specs.Identity.{identity_cmp}
use Rattle.mbdc_json.specs.Journal.{Notes, bodies_after, moment_of, noted_in, sent_in}
use Rattle.mbdc_json.specs.Noted.{noted_after}
use Rattle.mbdc_json.specs.declared.journal.noted.Noted.{Noted}
use Rattle.mbdc_json.proofs.Adding.{bodies_kept, entry_taken}
use Rattle.mbdc_json.proofs.journal.journal.Journal.take_line.Goals as goal

pub returns-in_ok-insert-in-Some-clause-noted : goal.returns-in_ok-insert-in-Some-clause-noted
returns-in_ok-insert-in-Some-clause-noted g c =
    let entry = c.args.line.entry in
    let old = c.args.self.now.notes in
    let in_time : nat_le (moment_of entry.said) c.args.now ≡ true = search rules in
    let value : c.after-noted.result ≡ noted_after entry.said (noted_in old entry.meter) = c.after-noted.ensures ∙ ap (noted_after entry.said) c.of.ensures in
    entry_taken c.args.now entry old c.insert.new.self.entries in_time
    (λ q. c.in_ok-insert.ensures.updates.0 q
    ∙ ap (λ (noted : Noted). cond (is_at (identity_cmp entry.meter) q) (Some noted) (lookup (is_at (identity_cmp q)) c.self.inside.notes.entries)) value
    ∙ ap (λ (notes : Notes). cond (is_at (identity_cmp entry.meter) q) (Some (noted_after entry.said (noted_in old entry.meter))) (lookup (is_at (identity_cmp q)) notes.notes)) c.self.view_is)

pub returns-in-None-clause-noted : goal.returns-in-None-clause-noted
returns-in-None-clause-noted g c =
    let entry = c.args.line.entry in
    let old = c.args.self.now.notes in
    let in_time : nat_le (moment_of entry.said) c.args.now ≡ true = search rules in
    let value : c.after-noted.result ≡ noted_after entry.said (noted_in old entry.meter) = c.after-noted.ensures ∙ ap (noted_after entry.said) c.of.ensures in
    entry_taken c.args.now entry old c.insert.new.self.entries in_time
    (λ q. c.in_ok-insert.ensures.updates.0 q
    ∙ ap (λ (noted : Noted). cond (is_at (identity_cmp entry.meter) q) (Some noted) (lookup (is_at (identity_cmp q)) c.self.inside.notes.entries)) value
    ∙ ap (λ (notes : Notes). cond (is_at (identity_cmp entry.meter) q) (Some (noted_after entry.said (noted_in old entry.meter))) (lookup (is_at (identity_cmp q)) notes.notes)) c.self.view_is)

pub returns-in_ok-insert-in-Some-clause-kept : goal.returns-in_ok-insert-in-Some-clause-kept
returns-in_ok-insert-in-Some-clause-kept g c = λ meter.
    let entry = c.args.line.entry in
    let old = c.args.self.now.sent in
    let in_time : nat_le (moment_of entry.said) c.args.now ≡ true = search rules in
    bodies_kept c.args.now entry c.in-Some.kept old c.insert-in-Some.new.self.entries in_time
    (λ q. c.in_ok-insert-in-Some.ensures.updates.0 q
    ∙ ap (λ (notes : Notes). cond (is_at (identity_cmp entry.meter) q) (Some c.in-Some.kept) (lookup (is_at (identity_cmp q)) notes.sent)) c.self.view_is) meter
    ∙ ap (λ (bodies : Option (List (List ℕ))). bodies_after c.args.now meter entry bodies (sent_in old meter)) (sym c.in-Some.is)
