-- What is read is spelled so, and what is spelled so is read, field by field.
use Rattle.std.proofs.Common.{◌≡◌, ◌≢◌, ℕ, suc, ◌+◌, ◌-◌, ◌%◌, ◌<◌, ◌≤◌, Bool, true, false, cond, ltb, eqb, List, [], ◌∷◌, ◌++◌, length, take, drop, Result, Ok, Err, refl, sym, ap, subst, ◌∙◌, append_assoc, add-one, arith, ◌⊎◌, inl, inr}
use Rattle.std.proofs.lemmas.Bool.{ltb-false, le-ltb, eqb-true, eqb-false, ltb-true}
use Rattle.std.proofs.lemmas.Bool.Decides.{nat_tests}
use Rattle.std.proofs.lemmas.List.{take_at, drop_at, take-append-drop, length-append, length-take}
use Rattle.dc_records.specs.declared.fault.BodyFault.{BodyFault}
use Rattle.dc_records.specs.declared.fault.BodyFault.TheVariants.{ReservedDif, TooManyDife, TooManyVife, BadLength, PlainTextExtension, Cut}
use Rattle.dc_records.specs.Record.{Entry, Extends, IsLength, IsCounted, IsVib, IsData, width, Spells}
use Rattle.dc_records.specs.Reading.{◌>>=◌, chain_len, split_at, counted_at, vib_len, data_at, entry_of, record_at}
use Rattle.dc_records.proofs.Spellings.Chain.{chain_ends}

-- the value of a step that did not fail
pub bind_ok : {A B : Type 0} (r : Result A BodyFault) (f : A → Result B BodyFault) (y : B) → (r >>= f) ≡ Ok y → (x : A) × (r ≡ Ok x) × (f x ≡ Ok y)
bind_ok (Ok x) f y e = (x, refl, e)
bind_ok (Err d) f y e = absurd cc

-- which way a test went
pub chosen : {A : Type 0} (b : Bool) (x y z : A) → cond b x y ≡ z → ((b ≡ true) × (x ≡ z)) ⊎ ((b ≡ false) × (y ≡ z))
chosen true x y z e = inl (refl, e)
chosen false x y z e = inr (refl, e)

-- a test that did not fail
pub guard_ok : {A : Type 0} (b : Bool) (d : BodyFault) (r : Result A BodyFault) (y : A) → cond b (Err d) r ≡ Ok y → (b ≡ false) × (r ≡ Ok y)
guard_ok true d r y e = absurd cc
guard_ok false d r y e = (refl, e)

abbrev pub done : {A : Type 0} → A → Result A BodyFault
done x = Ok x

pub ok_is : {A : Type 0} (x y : A) → done x ≡ done y → x ≡ y
ok_is x y e = cc

-- ---- chains

pub record Chain (room last n : ℕ) (bytes : List ℕ) : Type 0 where
  pub extends : Extends last (take n bytes)
  pub room_for : n ≤ room
  pub within : n ≤ length bytes

no_more : (room last : ℕ) (bytes : List ℕ) → last < 128 → Chain room last 0 bytes
no_more room last bytes h = record { extends = h; room_for = omega arith; within = omega arith }

pub chain_takes : (many : BodyFault) (room last n : ℕ) (bytes : List ℕ) → chain_len many room last bytes ≡ Ok n → Chain room last n bytes
chain_takes many room last n [] e =
    elim (chosen (ltb last 128) (Ok 0) (cond (eqb room 0) (Err many) (Err Cut)) (Ok n) e) [
      | inl p ↦ subst (λ (k : ℕ). Chain room last k []) (ok_is 0 n p.1) (no_more room last [] (ltb-true _ _ p.0))
      | inr p ↦ absurd (let q = guard_ok (eqb room 0) many (Err Cut) n p.1 in cc)
    ]
chain_takes many room last n (next ∷ rest) e =
    elim (chosen (ltb last 128) (Ok 0) (cond (eqb room 0) (Err many) (chain_len many (room - 1) next rest >>= λ m. Ok (m + 1))) (Ok n) e) [
      | inl p ↦ subst (λ (k : ℕ). Chain room last k (next ∷ rest)) (ok_is 0 n p.1) (no_more room last (next ∷ rest) (ltb-true _ _ p.0))
      | inr p ↦
          let q = guard_ok (eqb room 0) many (chain_len many (room - 1) next rest >>= λ m. Ok (m + 1)) n p.1 in
          let some : room ≢ 0 = eqb-false _ _ q.0 in
          let b = bind_ok (chain_len many (room - 1) next rest) (λ m. Ok (m + 1)) n q.1 in
          let t = chain_takes many (room - 1) next b.0 rest b.1 in
          let first : 128 ≤ last = ltb-false _ _ p.0 in
          let one : Chain room last (suc b.0) (next ∷ rest) = record { extends = (first, t.extends); room_for = omega (arith, t.room_for); within = omega (arith, t.within) } in
          subst (λ (k : ℕ). Chain room last k (next ∷ rest)) (sym (add-one b.0) ∙ ok_is (b.0 + 1) n b.2) one
    ]

pub chain_again : (many : BodyFault) (room last : ℕ) (chain rest : List ℕ) → Extends last chain → length chain ≤ room → chain_len many room last (chain ++ rest) ≡ Ok (length chain)
chain_again many room last [] rest h le = chain_ends many room last rest h
chain_again many room last (next ∷ chain) rest h le =
    let more : ltb last 128 ≡ false = le-ltb _ _ h.0 in
    let some : eqb room 0 ≡ false = grind (arith, nat_tests) in
    rw (more, some, chain_again many (room - 1) next chain rest h.1 (omega arith)) (ap (λ (k : ℕ). Ok k) (add-one (length chain)))

-- ---- this many bytes

pub record Split (n : ℕ) (bytes front rest : List ℕ) : Type 0 where
  pub parts : bytes ≡ front ++ rest
  pub len : length front ≡ n

pub split_takes : (n : ℕ) (bytes : List ℕ) (x : List ℕ × List ℕ) → split_at n bytes ≡ Ok x → Split n bytes x.0 x.1
split_takes n bytes x e =
    let g = guard_ok (ltb (length bytes) n) Cut (Ok (take n bytes, drop n bytes)) x e in
    let long : n ≤ length bytes = ltb-false _ _ g.0 in
    subst (λ (y : List ℕ × List ℕ). Split n bytes y.0 y.1) (ok_is _ x g.1) (record { parts = sym (take-append-drop n bytes); len = omega (arith, length-take n bytes) })

pub split_again : (n : ℕ) (front rest : List ℕ) → length front ≡ n → split_at n (front ++ rest) ≡ Ok (front, rest)
split_again n front rest len =
    let long : ltb (length (front ++ rest)) n ≡ false = le-ltb _ _ (omega (arith, length-append front rest)) in
    rw (long, take_at front rest n len, drop_at front rest n len) refl

-- ---- a length byte, then that many bytes

pub record Counted (bytes content rest : List ℕ) : Type 0 where
  pub text : List ℕ
  pub parts : bytes ≡ text ++ rest
  pub is : IsCounted text content

counted_by : (byte n : ℕ) (bytes : List ℕ) (x : List ℕ × List ℕ) → IsLength byte n → split_at n bytes ≡ Ok x → Counted (byte ∷ bytes) x.0 x.1
counted_by byte n bytes x h e =
    let s = split_takes n bytes x e in
    record { text = byte ∷ x.0; parts = ap (λ (t : List ℕ). byte ∷ t) s.parts; is = record { byte = byte; parts = refl; length_of = subst (λ (k : ℕ). IsLength byte k) (sym s.len) h } }

pub counted_takes : (bytes : List ℕ) (x : List ℕ × List ℕ) → counted_at bytes ≡ Ok x → Counted bytes x.0 x.1
counted_takes [] x e = absurd cc
counted_takes (byte ∷ bytes) x e =
    elim (chosen (ltb byte 0xC0) (split_at byte bytes) (cond (ltb byte 0xF0) (split_at (byte % 16) bytes) (Err BadLength)) (Ok x) e) [
      | inl p ↦ counted_by byte byte bytes x (inl (ltb-true _ _ p.0, refl)) p.1
      | inr p ↦
          elim (chosen (ltb byte 0xF0) (split_at (byte % 16) bytes) (Err BadLength) (Ok x) p.1) [
            | inl q ↦ counted_by byte (byte % 16) bytes x (inr (ltb-false _ _ p.0, ltb-true _ _ q.0, refl)) q.1
            | inr q ↦ absurd (let w = q.1 in cc)
          ]
    ]

length_again : (byte n : ℕ) (rest : List ℕ) → IsLength byte n → counted_at (byte ∷ rest) ≡ split_at n rest
length_again byte n rest (inl h) = rw (h.1) (grind (arith, nat_tests, h.0))
length_again byte n rest (inr h) = rw (h.2) (grind (arith, nat_tests, h.0, h.1))

pub counted_again : (text content rest : List ℕ) → IsCounted text content → counted_at (text ++ rest) ≡ Ok (content, rest)
counted_again text content rest h =
    ap (λ (t : List ℕ). counted_at (t ++ rest)) h.parts ∙ length_again h.byte (length content) (content ++ rest) h.length_of ∙ split_again (length content) content rest refl

-- ---- the VIB

pub record Vib (n : ℕ) (bytes : List ℕ) : Type 0 where
  pub is : IsVib (take n bytes)
  pub within : n ≤ length bytes

pub vib_takes : (n : ℕ) (bytes : List ℕ) → vib_len bytes ≡ Ok n → Vib n bytes
vib_takes n [] e = absurd cc
vib_takes n (vif ∷ rest) e =
    let other : Result ℕ BodyFault = chain_len TooManyVife 10 vif rest >>= λ m. Ok (m + 1) in
    let texts : Result ℕ BodyFault = counted_at rest >>= λ x. Ok (2 + length x.0) in
    let g = guard_ok (eqb vif 0xFC) PlainTextExtension (cond (eqb vif 0x7C) texts other) n e in
    elim (chosen (eqb vif 0x7C) texts other (Ok n) g.1) [
      | inl p ↦
          let b = bind_ok (counted_at rest) (λ x. Ok (2 + length x.0)) n p.1 in
          let t = counted_takes rest b.0 b.1 in
          let len : length t.text ≡ suc (length b.0.0) = ap length t.is.parts in
          let n-is : suc (length t.text) ≡ n = omega (arith, ok_is (2 + length b.0.0) n b.2) in
          let front : take (suc (length t.text)) (vif ∷ rest) ≡ vif ∷ t.text = ap (λ (l : List ℕ). vif ∷ take (length t.text) l) t.parts ∙ ap (λ (l : List ℕ). vif ∷ l) (take_at t.text b.0.1 (length t.text) refl) in
          let one : Vib (suc (length t.text)) (vif ∷ rest) = record { is = subst IsVib (sym front) (inl (eqb-true _ _ p.0, b.0.0, t.is)); within = omega (arith, ap length t.parts, length-append t.text b.0.1) } in
          subst (λ (k : ℕ). Vib k (vif ∷ rest)) n-is one
      | inr p ↦
          let b = bind_ok (chain_len TooManyVife 10 vif rest) (λ m. Ok (m + 1)) n p.1 in
          let t = chain_takes TooManyVife 10 vif b.0 rest b.1 in
          let one : Vib (suc b.0) (vif ∷ rest) = record { is = inr (eqb-false _ _ p.0, eqb-false _ _ g.0, t.extends, omega (arith, t.room_for, length-take b.0 rest)); within = omega (arith, t.within) } in
          subst (λ (k : ℕ). Vib k (vif ∷ rest)) (sym (add-one b.0) ∙ ok_is (b.0 + 1) n b.2) one
    ]

pub vib_again : (vib rest : List ℕ) → IsVib vib → vib_len (vib ++ rest) ≡ Ok (length vib)
vib_again [] rest h = absurd h
vib_again (vif ∷ others) rest (inl h) =
    let t = counted_again others h.1 rest h.2 in
    let len : length others ≡ suc (length h.1) = ap length h.2.parts in
    let not : eqb vif 0xFC ≡ false = grind (arith, nat_tests, h.0) in
    let plain : eqb vif 0x7C ≡ true = grind (arith, nat_tests, h.0) in
    rw (not, plain, t) (ap (λ (k : ℕ). Ok k) (omega (arith, len)))
vib_again (vif ∷ others) rest (inr h) =
    let not : eqb vif 0xFC ≡ false = grind (arith, nat_tests, h.1) in
    let plain : eqb vif 0x7C ≡ false = grind (arith, nat_tests, h.0) in
    rw (not, plain, chain_again TooManyVife 10 vif others rest h.2 h.3) (ap (λ (k : ℕ). Ok k) (add-one (length others)))

-- ---- the data

pub record Data (field : ℕ) (bytes content rest : List ℕ) : Type 0 where
  pub sent : List ℕ
  pub parts : bytes ≡ sent ++ rest
  pub is : IsData field sent content

pub data_takes : (field : ℕ) (bytes : List ℕ) (x : List ℕ × List ℕ) → data_at field bytes ≡ Ok x → Data field bytes x.0 x.1
data_takes field bytes x e =
    elim (chosen (eqb field 0xD) (counted_at bytes) (split_at (width field) bytes) (Ok x) e) [
      | inl p ↦ let t = counted_takes bytes x p.1 in record { sent = t.text; parts = t.parts; is = inl (eqb-true _ _ p.0, t.is) }
      | inr p ↦ let t = split_takes (width field) bytes x p.1 in record { sent = x.0; parts = t.parts; is = inr (eqb-false _ _ p.0, refl, t.len) }
    ]

pub data_again : (field : ℕ) (sent content rest : List ℕ) → IsData field sent content → data_at field (sent ++ rest) ≡ Ok (content, rest)
data_again field sent content rest (inl h) =
    let yes : eqb field 0xD ≡ true = grind (arith, nat_tests, h.0) in
    rw yes (counted_again sent content rest h.1)
data_again field sent content rest (inr h) =
    let no : eqb field 0xD ≡ false = grind (arith, nat_tests, h.0) in
    rw (no, h.1) (split_again (width field) content rest h.2)

-- ---- the record

pub record Taken (bytes : List ℕ) (e : Entry) (rest : List ℕ) : Type 0 where
  pub text : List ℕ
  pub parts : bytes ≡ text ++ rest
  pub spells : Spells text e

pub record_takes : (bytes : List ℕ) (x : Entry × List ℕ) → record_at bytes ≡ Ok x → Taken bytes x.0 x.1
unfolding record_at
record_takes [] x e = absurd cc
record_takes (dif ∷ bytes) x e =
    let last_step = λ (difes vib : ℕ) (c : List ℕ × List ℕ). done (entry_of dif (take difes bytes) (take vib (drop difes bytes)) c.0, c.1) in
    let g = guard_ok (eqb (dif % 16) 15) ReservedDif (chain_len TooManyDife 10 dif bytes >>= λ difes. vib_len (drop difes bytes) >>= λ vib. data_at (dif % 16) (drop vib (drop difes bytes)) >>= λ c. last_step difes vib c) x e in
    let a = bind_ok (chain_len TooManyDife 10 dif bytes) (λ difes. vib_len (drop difes bytes) >>= λ vib. data_at (dif % 16) (drop vib (drop difes bytes)) >>= λ c. last_step difes vib c) x g.1 in
    let b = bind_ok (vib_len (drop a.0 bytes)) (λ vib. data_at (dif % 16) (drop vib (drop a.0 bytes)) >>= λ c. last_step a.0 vib c) x a.2 in
    let c = bind_ok (data_at (dif % 16) (drop b.0 (drop a.0 bytes))) (λ c. last_step a.0 b.0 c) x b.2 in
    let ta = chain_takes TooManyDife 10 dif a.0 bytes a.1 in
    let tb = vib_takes b.0 (drop a.0 bytes) b.1 in
    let tc = data_takes (dif % 16) (drop b.0 (drop a.0 bytes)) c.0 c.1 in
    let difes = take a.0 bytes in
    let vib = take b.0 (drop a.0 bytes) in
    let at_c : drop a.0 bytes ≡ vib ++ (tc.sent ++ c.0.1) = sym (take-append-drop b.0 (drop a.0 bytes)) ∙ ap (λ (l : List ℕ). vib ++ l) tc.parts in
    let at_b : bytes ≡ difes ++ (vib ++ (tc.sent ++ c.0.1)) = sym (take-append-drop a.0 bytes) ∙ ap (λ (l : List ℕ). difes ++ l) at_c in
    let grouped : dif ∷ bytes ≡ (dif ∷ (difes ++ (vib ++ tc.sent))) ++ c.0.1 = ap (λ (l : List ℕ). dif ∷ l) (at_b ∙ simp append_assoc) in
    let e0 = entry_of dif difes vib c.0.0 in
    let one : Taken (dif ∷ bytes) e0 c.0.1 = record {
      text = dif ∷ (difes ++ (vib ++ tc.sent));
      parts = grouped;
      spells = record { dif = dif; difes = difes; sent = tc.sent; parts = refl; not_special = eqb-false _ _ g.0; extends = ta.extends; at_most_ten = omega (arith, ta.room_for, length-take a.0 bytes); storage = refl; tariff = refl; subunit = refl; function = refl; field = refl; vib = tb.is; data_of = tc.is };
    } in
    subst (λ (y : Entry × List ℕ). Taken (dif ∷ bytes) y.0 y.1) (ok_is _ x c.2) one

pub record_again : (text rest : List ℕ) (e : Entry) → Spells text e → record_at (text ++ rest) ≡ Ok (e, rest)
unfolding record_at
record_again text rest e h =
    let grouped : text ++ rest ≡ h.dif ∷ (h.difes ++ (e.vib ++ (h.sent ++ rest))) = ap (λ (l : List ℕ). l ++ rest) h.parts ∙ ap (λ (l : List ℕ). h.dif ∷ l) (simp append_assoc) in
    let not : eqb (h.dif % 16) 15 ≡ false = grind (arith, nat_tests, h.not_special) in
    let data_is : data_at (h.dif % 16) (h.sent ++ rest) ≡ Ok (e.content, rest) = subst (λ (f : ℕ). data_at f (h.sent ++ rest) ≡ Ok (e.content, rest)) h.field (data_again e.field h.sent e.content rest h.data_of) in
    let made : entry_of h.dif h.difes e.vib e.content ≡ record { storage = e.storage; tariff = e.tariff; subunit = e.subunit; function = e.function; field = e.field; vib = e.vib; content = e.content } = cc (h.storage, h.tariff, h.subunit, h.function, h.field) in
    ap record_at grouped ∙ rw (
      not,
      chain_again TooManyDife 10 h.dif h.difes (e.vib ++ (h.sent ++ rest)) h.extends h.at_most_ten,
      drop_at h.difes (e.vib ++ (h.sent ++ rest)) (length h.difes) refl,
      take_at h.difes (e.vib ++ (h.sent ++ rest)) (length h.difes) refl,
      vib_again e.vib (h.sent ++ rest) h.vib,
      drop_at e.vib (h.sent ++ rest) (length e.vib) refl,
      take_at e.vib (h.sent ++ rest) (length e.vib) refl,
      data_is,
    ) (ap (λ (y : Entry). Ok (y, rest)) made)
