-- What is sent, by what stands at the front.
use Rattle.std.proofs.Common.{◌≡◌, ℕ, zero, suc, ◌-◌, ◌%◌, ◌<◌, ◌≤◌, List, [], ◌∷◌, ◌++◌, length, take, drop, Result, Ok, Err, refl, sym, ap, subst, ◌∙◌, arith, length-append}
use Rattle.std.specs.Prelude.{MatchResult}
use Rattle.std.proofs.lemmas.List.{length-drop}
use Rattle.dc_records.specs.declared.fault.BodyFault.{BodyFault}
use Rattle.dc_records.specs.declared.fault.BodyFault.TheVariants as fault
use Rattle.dc_records.specs.Body.{Front, ends, skips, gives, front_at}
use Rattle.dc_records.specs.Record.{Entry}
use Rattle.dc_records.specs.Reading.{◌>>=◌, Gives, chain_len, data_at, entry_of}
use Rattle.dc_records.specs.Seen.{front}
use Rattle.dc_records.specs.declared.front.Front as code
use Rattle.dc_records.proofs.Spellings.Fields.{bind_ok, data_takes, ok_is}
use Rattle.dc_records.proofs.Spellings.Turns.{Left, reads_front}
use Rattle.mbdc_reading.specs.Front.{text_vib_len, text_record_at, or_text, wide_front_at}
use Rattle.mbdc_reading.specs.Sent.{Sent, Read, SentBy, with_sent, sent_of, sent_turn, sent_turns, read_at}

-- ---- what is left after the front is shorter

data_shorter : (field : ℕ) (bytes : List ℕ) (x : List ℕ × List ℕ) → data_at field bytes ≡ Ok x → length x.1 ≤ length bytes
data_shorter field bytes x e = let t = data_takes field bytes x e in omega (arith, ap length t.parts, length-append t.sent x.1)

abbrev given : ℕ → List ℕ → ℕ → ℕ → List ℕ × List ℕ → Entry × List ℕ
given dif bytes difes vib c = (entry_of dif (take difes bytes) (take vib (drop difes bytes)) c.0, c.1)

abbrev last_step : ℕ → List ℕ → ℕ → ℕ → List ℕ × List ℕ → Result (Entry × List ℕ) BodyFault
last_step dif bytes difes vib c = Ok (given dif bytes difes vib c)

abbrev data_step : ℕ → List ℕ → ℕ → ℕ → Result (Entry × List ℕ) BodyFault
data_step dif bytes difes vib = data_at (dif % 16) (drop vib (drop difes bytes)) >>= last_step dif bytes difes vib

abbrev vib_step : ℕ → List ℕ → ℕ → Result (Entry × List ℕ) BodyFault
vib_step dif bytes difes = text_vib_len (drop difes bytes) >>= data_step dif bytes difes

text_shorter : (bytes : List ℕ) (x : Entry × List ℕ) → text_record_at bytes ≡ Ok x → length x.1 < length bytes
unfolding text_record_at
text_shorter [] x e = absurd cc
text_shorter (dif ∷ bytes) x e =
    let a = bind_ok (chain_len fault.TooManyDife 10 dif bytes) (vib_step dif bytes) x e in
    let b = bind_ok (text_vib_len (drop a.0 bytes)) (data_step dif bytes a.0) x a.2 in
    let c = bind_ok (data_at (dif % 16) (drop b.0 (drop a.0 bytes))) (last_step dif bytes a.0 b.0) x b.2 in
    let rest : c.0.1 ≡ x.1 = ap (λ (y : Entry × List ℕ). y.1) (ok_is (given dif bytes a.0 b.0 c.0) x c.2) in
    omega (arith, ap length rest, data_shorter (dif % 16) (drop b.0 (drop a.0 bytes)) c.0 c.1, length-drop b.0 (drop a.0 bytes), length-drop a.0 bytes)

left_by : (bytes : List ℕ) (f : Front) → front_at bytes ≡ Ok f → Left (length bytes) f
left_by bytes (ends end) e = tt
left_by bytes (skips rest) e = (reads_front bytes (skips rest) e).1
left_by bytes (gives x rest) e = (reads_front bytes (gives x rest) e).1

text_left : (bytes : List ℕ) (f : Front) → (text_record_at bytes >>= λ x. Ok (gives x.0 x.1)) ≡ Ok f → Left (length bytes) f
text_left bytes f e =
    let x = bind_ok (text_record_at bytes) (λ x. Ok (gives x.0 x.1)) f e in
    subst (Left (length bytes)) (ok_is (gives x.0.0 x.0.1) f x.2) (text_shorter bytes x.0 x.1)

or_left : (bytes : List ℕ) (r : Result Front BodyFault) (f : Front) → front_at bytes ≡ r → or_text bytes r ≡ Ok f → Left (length bytes) f
or_left bytes (Ok found) f e h = subst (Left (length bytes)) (ok_is found f h) (left_by bytes found e)
or_left bytes (Err fault.PlainTextExtension) f e h = text_left bytes f h
or_left bytes (Err fault.Short) f e h = absurd cc
or_left bytes (Err fault.BadIdentity) f e h = absurd cc
or_left bytes (Err fault.Encrypted) f e h = absurd cc
or_left bytes (Err fault.ReservedDif) f e h = absurd cc
or_left bytes (Err fault.TooManyDife) f e h = absurd cc
or_left bytes (Err fault.TooManyVife) f e h = absurd cc
or_left bytes (Err fault.BadLength) f e h = absurd cc
or_left bytes (Err fault.Cut) f e h = absurd cc

wide_left : (bytes : List ℕ) (f : Front) → wide_front_at bytes ≡ Ok f → Left (length bytes) f
unfolding wide_front_at
wide_left bytes f e = or_left bytes (front_at bytes) f refl e

-- ---- turns enough are as good as more

same_turn : (go on : List ℕ → Read) (bytes : List ℕ) → ((rest : List ℕ) → length rest < length bytes → go rest ≡ on rest) → (r : Result Front BodyFault) → wide_front_at bytes ≡ r → sent_turn go bytes r ≡ sent_turn on bytes r
same_turn go on bytes same (Err f) e = refl
same_turn go on bytes same (Ok (ends end)) e = refl
same_turn go on bytes same (Ok (skips rest)) e = same rest (wide_left bytes (skips rest) e)
same_turn go on bytes same (Ok (gives x rest)) e = ap (with_sent (sent_of bytes x rest)) (same rest (wide_left bytes (gives x rest) e))

same_turns : (n m : ℕ) (bytes : List ℕ) → length bytes < n → length bytes < m → sent_turns n bytes ≡ sent_turns m bytes
same_turns zero m bytes h k = absurd (omega arith)
same_turns (suc n) zero bytes h k = absurd (omega arith)
same_turns (suc n) (suc m) bytes h k =
    same_turn (sent_turns n) (sent_turns m) bytes (λ rest s. same_turns n m rest (omega arith) (omega arith)) (wide_front_at bytes) refl

by_front : (bytes : List ℕ) (f : Front) → wide_front_at bytes ≡ Ok f → SentBy bytes f
unfolding read_at
by_front bytes (ends end) e = ap (sent_turn (sent_turns (length bytes)) bytes) e
by_front bytes (skips rest) e =
    let s = wide_left bytes (skips rest) e in
    (ap (sent_turn (sent_turns (length bytes)) bytes) e ∙ same_turns (length bytes) (suc (length rest)) rest s (omega arith), s)
by_front bytes (gives x rest) e =
    let s = wide_left bytes (gives x rest) e in (
      ap (sent_turn (sent_turns (length bytes)) bytes) e
          ∙ ap (with_sent (sent_of bytes x rest)) (same_turns (length bytes) (suc (length rest)) rest s (omega arith)),
      s,
    )

by_fault : (bytes : List ℕ) (f : BodyFault) → wide_front_at bytes ≡ Err f → read_at bytes ≡ ([], Err f)
unfolding read_at
by_fault bytes f e = ap (sent_turn (sent_turns (length bytes)) bytes) e

pub sent_given : (bytes : List ℕ) (r : Result code.Front BodyFault) → Gives front r (wide_front_at bytes) → MatchResult r (λ f. SentBy bytes (front f)) (λ f. read_at bytes ≡ ([], Err f))
sent_given bytes (Ok f) e = by_front bytes (front f) e
sent_given bytes (Err f) e = by_fault bytes f e
