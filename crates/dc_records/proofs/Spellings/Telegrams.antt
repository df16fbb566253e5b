-- The telegram that is read is one, the one that is spelled is read, and so with the faults.
use Rattle.std.proofs.Common.{◌≡◌, ℕ, true, false, cond, eqb, List, [], ◌++◌, drop, Result, Ok, Err, refl, sym, ap, subst, ◌∙◌, arith, ◌⊎◌, inl, inr, append-nil}
use Rattle.std.specs.Prelude.{IfOk, IfErr, IsOkAnd}
use Rattle.std.proofs.lemmas.Bool.{eqb-true, eqb-false, eq-eqb}
use Rattle.std.proofs.lemmas.Bool.Decides.{nat_tests}
use Rattle.dc_records.specs.declared.fault.BodyFault.{BodyFault}
use Rattle.dc_records.specs.declared.fault.BodyFault.TheVariants.{Encrypted}
use Rattle.dc_records.specs.declared.header.Header.{Header}
use Rattle.dc_records.specs.declared.telegram.Telegram.{Telegram}
use Rattle.dc_records.specs.Record.{Entry, Spells}
use Rattle.dc_records.specs.Reading.{◌>>=◌, Gives, record_at}
use Rattle.dc_records.specs.Header.{BeginsWithHeader, security_mode, header_at}
use Rattle.dc_records.specs.Body.{Ending, content_at, end_in, records_in}
use Rattle.dc_records.specs.Telegram.{Parsed, parsed, parsed_of, IsTelegram, HasFault, no_header, encrypted, no_content, telegram_at}
use Rattle.dc_records.proofs.Spellings.Fields.{bind_ok, chosen, ok_is, record_again}
use Rattle.dc_records.proofs.Spellings.Faults.{bind_err, err_is}
use Rattle.dc_records.proofs.Spellings.Headers.{header_takes, header_again, header_fails, header_faults_again}
use Rattle.dc_records.proofs.Spellings.Bodies.{content_takes, content_again, content_fails, fails_again}

-- what is read once the header is
abbrev behind : List ℕ → Header → Result Parsed BodyFault
behind text h = cond (eqb (security_mode h) 0) (content_at (drop 12 text) >>= λ x. Ok (parsed_of text h x)) (Err Encrypted)

pub telegram_takes : (text : List ℕ) (t : Parsed) → telegram_at text ≡ Ok t → IsTelegram text t
unfolding telegram_at
telegram_takes text t e =
    let a = bind_ok (header_at text) (behind text) t e in
    elim (chosen (eqb (security_mode a.0) 0) (content_at (drop 12 text) >>= λ x. Ok (parsed_of text a.0 x)) (Err Encrypted) (Ok t) a.2) [
      | inl p ↦
          let b = bind_ok (content_at (drop 12 text)) (λ x. Ok (parsed_of text a.0 x)) t p.1 in
          subst (IsTelegram text) (ok_is (parsed_of text a.0 b.0) t b.2) (record { header = header_takes text a.0 a.1; unencrypted = eqb-true _ _ p.0; content = content_takes (drop 12 text) b.0 b.1; body = refl })
      | inr p ↦ absurd (let w = p.1 in cc)
    ]

pub telegram_fails : (text : List ℕ) (f : BodyFault) → telegram_at text ≡ Err f → HasFault text f
unfolding telegram_at
telegram_fails text f e =
    elim (bind_err (header_at text) (behind text) f e) [
      | inl a ↦ no_header (header_fails text f a)
      | inr a ↦
          elim (chosen (eqb (security_mode a.0) 0) (content_at (drop 12 text) >>= λ x. Ok (parsed_of text a.0 x)) (Err Encrypted) (Err f) a.2) [
            | inl p ↦
                elim (bind_err (content_at (drop 12 text)) (λ x. Ok (parsed_of text a.0 x)) f p.1) [
                  | inl b ↦ no_content a.0 (header_takes text a.0 a.1) (eqb-true _ _ p.0) (content_fails (drop 12 text) f b)
                  | inr b ↦ absurd (let w = b.2 in cc)
                ]
            | inr p ↦ encrypted (err_is Encrypted f p.1) a.0 (header_takes text a.0 a.1) (eqb-false _ _ p.0)
          ]
    ]

headed : (text : List ℕ) (h : Header) → BeginsWithHeader text h → security_mode h ≡ 0 → telegram_at text ≡ (content_at (drop 12 text) >>= λ x. Ok (parsed_of text h x))
unfolding telegram_at
headed text h begins mode = let yes : eqb (security_mode h) 0 ≡ true = eq-eqb _ _ mode in rw (header_again text h begins, yes) refl

pub telegram_again : (text : List ℕ) (t : Parsed) → IsTelegram text t → telegram_at text ≡ Ok t
telegram_again text t is =
    let made : parsed_of text t.header (t.records, t.ending) ≡ record { body = t.body; header = t.header; records = t.records; ending = t.ending } = cc (is.body) in
    headed text t.header is.header is.unencrypted ∙ rw (content_again (drop 12 text) t.records t.ending is.content) (ap (λ (p : Parsed). Ok p) made)

pub faults_again : (text : List ℕ) (f : BodyFault) → HasFault text f → telegram_at text ≡ Err f
unfolding telegram_at
faults_again text f (no_header h) = rw (header_faults_again text f h) refl
faults_again text f (encrypted fe h begins closed) = let no : eqb (security_mode h) 0 ≡ false = grind (arith, nat_tests, closed) in rw (fe, header_again text h begins, no) refl
faults_again text f (no_content h begins mode fails) = headed text h begins mode ∙ rw (fails_again (drop 12 text) f fails) refl

-- ---- a telegram that is at hand

ended : (r : Result (List Entry × Ending) BodyFault) (end : Ending) → end_in r ≡ Ok end → r ≡ Ok (records_in r, end)
ended (Ok x) end e = ap (λ (n : Ending). Ok (x.0, n)) (ok_is x.1 end e)
ended (Err f) end e = absurd cc

pub parsed_again : (t : Telegram) → telegram_at (parsed t).body ≡ Ok (parsed t)
unfolding parsed
parsed_again t = headed t.body.now t.header t.headed t.unencrypted ∙ rw (ended (content_at (drop 12 t.body.now)) _ t.whole) refl

pub parsed_header : (t : Telegram) → header_at (parsed t).body ≡ Ok (parsed t).header
unfolding parsed
parsed_header t = header_again t.body.now t.header t.headed

-- ---- as the contract says it

pub is_found : (text : List ℕ) (r : Result Telegram BodyFault) → Gives parsed r (telegram_at text) → IfOk r (λ t. IsTelegram text (parsed t))
is_found text (Ok t) e = telegram_takes text (parsed t) e
is_found text (Err f) e = tt

pub is_only : (text : List ℕ) (r : Result Telegram BodyFault) → Gives parsed r (telegram_at text) → (t : Parsed) → IsTelegram text t → IsOkAnd r (λ x. parsed x ≡ t)
is_only text (Ok x) e t is = ok_is (parsed x) t (sym e ∙ telegram_again text t is)
is_only text (Err f) e t is = absurd (let again = telegram_again text t is in cc)

pub is_refused : (text : List ℕ) (r : Result Telegram BodyFault) → Gives parsed r (telegram_at text) → IfErr r (HasFault text)
is_refused text (Ok t) e = tt
is_refused text (Err f) e = telegram_fails text f e

pub is_fault : (text : List ℕ) (r : Result Telegram BodyFault) → Gives parsed r (telegram_at text) → (f : BodyFault) → HasFault text f → r ≡ Err f
is_fault text (Ok t) e f has = absurd (let again = faults_again text f has in cc)
is_fault text (Err g) e f has = ap (λ (x : BodyFault). Err x) (sym (err_is g f (sym e ∙ faults_again text f has)))

-- ---- the laws

some_of : (text : List ℕ) (r : Result Parsed BodyFault) → telegram_at text ≡ r → ((t : Parsed) × IsTelegram text t) ⊎ ((f : BodyFault) × HasFault text f)
some_of text (Ok t) e = inl (t, telegram_takes text t e)
some_of text (Err f) e = inr (f, telegram_fails text f e)

pub some : (text : List ℕ) → ((t : Parsed) × IsTelegram text t) ⊎ ((f : BodyFault) × HasFault text f)
some text = some_of text (telegram_at text) refl

pub one : (text : List ℕ) (s t : Parsed) → IsTelegram text s → IsTelegram text t → s ≡ t
one text s t is_s is_t = ok_is s t (sym (telegram_again text s is_s) ∙ telegram_again text t is_t)

pub one_fault : (text : List ℕ) (f g : BodyFault) → HasFault text f → HasFault text g → f ≡ g
one_fault text f g has_f has_g = err_is g f (sym (faults_again text g has_g) ∙ faults_again text f has_f)

pub apart : (text : List ℕ) (t : Parsed) (f : BodyFault) → IsTelegram text t → HasFault text f → ⊥
apart text t f is has = let good = telegram_again text t is in let bad = faults_again text f has in cc

pub one_record : (text more : List ℕ) (e d : Entry) → Spells text e → Spells (text ++ more) d → (more ≡ []) × (e ≡ d)
one_record text more e d short_one long_one =
    let a : record_at (text ++ more) ≡ Ok (e, more) = record_again text more e short_one in
    let b : record_at ((text ++ more) ++ []) ≡ Ok (d, []) = record_again (text ++ more) [] d long_one in
    let same : (e, more) ≡ (d, []) = ok_is (e, more) (d, []) (sym a ∙ ap record_at (sym (append-nil (text ++ more))) ∙ b) in
    (ap (λ (x : Entry × List ℕ). x.1) same, ap (λ (x : Entry × List ℕ). x.0) same)
