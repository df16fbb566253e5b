-- A body after CI 72 says what the register reads.
use Rattle.std.proofs.Common.{◌≡◌, ◌≢◌, ℕ, Bool, true, false, cond, eqb, List, [], drop, Option, Some, None, Result, Ok, Err, refl, ap, ◌∙◌, arith, inl}
use Rattle.std.proofs.lemmas.Bool.Decides.{nat_tests}
use Rattle.dc_records.specs.declared.fault.BodyFault.{BodyFault}
use Rattle.dc_records.specs.declared.fault.BodyFault.TheVariants.{Encrypted}
use Rattle.dc_records.specs.declared.header.Header.{Header}
use Rattle.dc_records.specs.Record.{Entry}
use Rattle.dc_records.specs.Reading.{◌>>=◌}
use Rattle.dc_records.specs.Body.{Ending, content_at, front_at}
use Rattle.dc_records.specs.Header.{header_at, security_mode}
use Rattle.dc_records.specs.Telegram.{parsed_of, telegram_at}
use Rattle.mbdc_reading.specs.Front.{wide_front_at}
use Rattle.mbdc_reading.specs.Sent.{read_at, sent_at}
use Rattle.mbdc_reading.proofs.Telegrams.{same_records, same_fault}
use Rattle.mbdc_reading.specs.declared.content.content.Structure.TheVariants as structure
use Rattle.mbdc_reading.specs.Content.{Variable, IsAsRead, head_in, meter_in, long_refused, long_header, sents_of, sents_in}

abbrev headed : List ℕ → Result Header BodyFault → Option BodyFault → Variable
headed body r refused = record { structure = structure.LongHeader; meter = meter_in r; head = head_in (drop 8 body); after = drop 12 body; refused = refused }

by_content : (body : List ℕ) (h : Header) (r : Result (List Entry × Ending) BodyFault) → content_at (drop 12 body) ≡ r
    → IsAsRead (r >>= λ x. Ok (parsed_of body h x)) (headed body (Ok h) None)
by_content body h (Ok x) e = let s = same_records (drop 12 body) x e in (refl, s.0, s.1)
by_content body h (Err f) e = same_fault (drop 12 body) f e

by_mode : (body : List ℕ) (h : Header) (plain : Bool)
    → IsAsRead (cond plain (content_at (drop 12 body) >>= λ x. Ok (parsed_of body h x)) (Err Encrypted)) (headed body (Ok h) (cond plain None (Some Encrypted)))
by_mode body h true = by_content body h (content_at (drop 12 body)) refl
by_mode body h false = inl refl

by_header : (body : List ℕ) (r : Result Header BodyFault)
    → IsAsRead (r >>= λ h. cond (eqb (security_mode h) 0) (content_at (drop 12 body) >>= λ x. Ok (parsed_of body h x)) (Err Encrypted)) (headed body r (long_refused r))
by_header body (Ok h) = by_mode body h (eqb (security_mode h) 0)
by_header body (Err f) = inl refl

pub as_read : (body : List ℕ) → IsAsRead (telegram_at body) (long_header body)
unfolding telegram_at
as_read body = by_header body (header_at body)

pub none_encrypted : (body : List ℕ) (h : Header) → header_at body ≡ Ok h → security_mode h ≢ 0 → sents_of (long_header body) ≡ []
none_encrypted body h e not =
    let other : eqb (security_mode h) 0 ≡ false = grind (arith, nat_tests, not) in
    ap (λ (r : Result Header BodyFault). sents_in (drop 12 body) (long_refused r)) e
    ∙ ap (λ (plain : Bool). sents_in (drop 12 body) (cond plain None (Some Encrypted))) other

pub none_sent : sent_at [] ≡ []
unfolding read_at wide_front_at front_at
none_sent = refl
