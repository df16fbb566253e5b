-- What a telegram has after its header is read the same.
use Rattle.std.proofs.Common.{◌≡◌, ℕ, zero, suc, ◌<◌, List, [], ◌∷◌, length, map, Result, Ok, Err, refl, sym, ap, subst, ◌∙◌, arith, ◌⊎◌, inl, inr}
use Rattle.dc_records.specs.declared.fault.BodyFault.{BodyFault}
use Rattle.dc_records.specs.declared.fault.BodyFault.TheVariants as fault
use Rattle.dc_records.specs.Record.{Entry}
use Rattle.dc_records.specs.Body.{Ending, Front, ends, skips, gives, front_at, with_record, turns, after, content_at}
use Rattle.mbdc_reading.specs.Front.{or_text, wide_front_at}
use Rattle.mbdc_reading.specs.Sent.{Sent, Read, entries_of, with_sent, sent_of, sent_turn, sent_turns, read_at, sent_at, end_at}

-- the same records and end, or the same fault, unless it is that of VIF FC
abbrev As : Result (List Entry × Ending) BodyFault → Read → Type 0
As (Ok x) read = (entries_of read.0 ≡ x.0) × (read.1 ≡ Ok x.1)
As (Err f) read = (read.1 ≡ Err f) ⊎ (f ≡ fault.PlainTextExtension)

one_more : (bytes : List ℕ) (e : Entry) (rest : List ℕ) (r : Result (List Entry × Ending) BodyFault) (read : Read) → As r read → As (with_record e r) (with_sent (sent_of bytes e rest) read)
one_more bytes e rest (Ok x) read h = (ap (λ (es : List Entry). e ∷ es) h.0, h.1)
one_more bytes e rest (Err f) read h = h

as_turn : (go : List ℕ → Result (List Entry × Ending) BodyFault) (on : List ℕ → Read) (bytes : List ℕ) → ((rest : List ℕ) → As (go rest) (on rest)) → (r : Result Front BodyFault) → As (after go r) (sent_turn on bytes (or_text bytes r))
as_turn go on bytes same (Ok (ends end)) = (refl, refl)
as_turn go on bytes same (Ok (skips rest)) = same rest
as_turn go on bytes same (Ok (gives e rest)) = one_more bytes e rest (go rest) (on rest) (same rest)
as_turn go on bytes same (Err fault.PlainTextExtension) = inr refl
as_turn go on bytes same (Err fault.Short) = inl refl
as_turn go on bytes same (Err fault.BadIdentity) = inl refl
as_turn go on bytes same (Err fault.Encrypted) = inl refl
as_turn go on bytes same (Err fault.ReservedDif) = inl refl
as_turn go on bytes same (Err fault.TooManyDife) = inl refl
as_turn go on bytes same (Err fault.TooManyVife) = inl refl
as_turn go on bytes same (Err fault.BadLength) = inl refl
as_turn go on bytes same (Err fault.Cut) = inl refl

as_turns : (n : ℕ) (bytes : List ℕ) → As (turns n bytes) (sent_turns n bytes)
unfolding wide_front_at
as_turns zero bytes = inl refl
as_turns (suc n) bytes = as_turn (turns n) (sent_turns n) bytes (λ rest. as_turns n rest) (front_at bytes)

as_read : (bytes : List ℕ) → As (content_at bytes) (read_at bytes)
unfolding content_at read_at
as_read bytes = as_turns (suc (length bytes)) bytes

pub same_records : (bytes : List ℕ) (x : List Entry × Ending) → content_at bytes ≡ Ok x → (entries_of (sent_at bytes) ≡ x.0) × (end_at bytes ≡ Ok x.1)
same_records bytes x e = subst (λ (r : Result (List Entry × Ending) BodyFault). As r (read_at bytes)) e (as_read bytes)

pub same_fault : (bytes : List ℕ) (f : BodyFault) → content_at bytes ≡ Err f → (end_at bytes ≡ Err f) ⊎ (f ≡ fault.PlainTextExtension)
same_fault bytes f e = subst (λ (r : Result (List Entry × Ending) BodyFault). As r (read_at bytes)) e (as_read bytes)
