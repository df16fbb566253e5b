-- The fault that is read is where the text stops, and where it stops that fault is read.
use Rattle.std.proofs.Common.{◌≡◌, ◌≢◌, ℕ, ◌+◌, ◌-◌, ◌%◌, ◌<◌, ◌≤◌, Bool, true, false, cond, ltb, eqb, List, [], ◌∷◌, ◌++◌, length, take, drop, Result, Ok, Err, refl, sym, ap, subst, ◌∙◌, append_assoc, arith, ◌⊎◌, inl, inr}
use Rattle.std.specs.Prelude.{replicate}
use Rattle.std.proofs.lemmas.Bool.{ltb-false, le-ltb, eqb-true, eqb-false, ltb-true}
use Rattle.std.proofs.lemmas.Bool.Decides.{nat_tests}
use Rattle.std.proofs.lemmas.List.{drop_at, take-append-drop, length-append, length-take, length-replicate, append-nil}
use Rattle.dc_records.specs.declared.fault.BodyFault.{BodyFault}
use Rattle.dc_records.specs.declared.fault.BodyFault.TheVariants.{ReservedDif, TooManyDife, TooManyVife, BadLength, PlainTextExtension, Cut}
use Rattle.dc_records.specs.Record.{Entry, Extends, IsLength, IsCounted, IsVib, IsData, width, Spells}
use Rattle.dc_records.specs.Reading.{◌>>=◌, chain_len, split_at, counted_at, vib_len, data_at, entry_of, record_at}
use Rattle.dc_records.specs.Body.{front_at, gives}
use Rattle.dc_records.specs.Stops.{GoesOn, IsHead, Stops, reserved, many_difes, many_vifes, extension, text_length, data_length, cut}
use Rattle.dc_records.proofs.Spellings.Chain.{chain_full}
use Rattle.dc_records.proofs.Spellings.Fields.{ok_is, chosen, chain_takes, vib_takes, vib_again, chain_again, record_takes, record_again}

abbrev pub failed : {A : Type 0} → BodyFault → Result A BodyFault
failed f = Err f

pub err_is : {A : Type 0} (a b : BodyFault) → failed {A = A} a ≡ failed b → b ≡ a
err_is a b e = cc

pub bind_err : {A B : Type 0} (r : Result A BodyFault) (g : A → Result B BodyFault) (f : BodyFault) → (r >>= g) ≡ Err f → (r ≡ Err f) ⊎ ((x : A) × (r ≡ Ok x) × (g x ≡ Err f))
bind_err (Ok x) g f e = inr (x, refl, e)
bind_err (Err d) g f e = inl (ap (λ (x : BodyFault). Err x) (sym (err_is d f e)))

-- ---- chains

record Many (room last : ℕ) (bytes : List ℕ) : Type 0 where
  pub ten : List ℕ
  pub more : List ℕ
  pub parts : bytes ≡ ten ++ more
  pub goes : GoesOn last ten
  pub len : length ten ≡ room

record ChainCut (room last : ℕ) (bytes : List ℕ) : Type 0 where
  pub extends : Extends last (bytes ++ 0 ∷ [])
  pub room_for : length bytes < room

chain_err : (many : BodyFault) (room last : ℕ) (bytes : List ℕ) (f : BodyFault) → chain_len many room last bytes ≡ Err f → ((f ≡ many) × Many room last bytes) ⊎ ((f ≡ Cut) × ChainCut room last bytes)
chain_err many room last [] f e =
    elim (chosen (ltb last 128) (Ok 0) (cond (eqb room 0) (Err many) (Err Cut)) (Err f) e) [
      | inl p ↦ absurd (let w = p.1 in cc)
      | inr p ↦
          elim (chosen (eqb room 0) (Err many) (Err Cut) (Err f) p.1) [
            | inl q ↦ inl (err_is many f q.1, record { ten = []; more = []; parts = refl; goes = ltb-false _ _ p.0; len = sym (eqb-true _ _ q.0) })
            | inr q ↦ inr (err_is Cut f q.1, record { extends = (ltb-false _ _ p.0, lit); room_for = omega (arith, eqb-false _ _ q.0) })
          ]
    ]
  where
    lit : 0 < 128
    lit = omega arith
chain_err many room last (next ∷ rest) f e =
    elim (chosen (ltb last 128) (Ok 0) (cond (eqb room 0) (Err many) (chain_len many (room - 1) next rest >>= λ m. Ok (m + 1))) (Err f) e) [
      | inl p ↦ absurd (let w = p.1 in cc)
      | inr p ↦
          elim (chosen (eqb room 0) (Err many) (chain_len many (room - 1) next rest >>= λ m. Ok (m + 1)) (Err f) p.1) [
            | inl q ↦ inl (err_is many f q.1, record { ten = []; more = next ∷ rest; parts = refl; goes = ltb-false _ _ p.0; len = sym (eqb-true _ _ q.0) })
            | inr q ↦
                elim (bind_err (chain_len many (room - 1) next rest) (λ m. Ok (m + 1)) f q.1) [
                  | inl r ↦
                      elim (chain_err many (room - 1) next rest f r) [
                        | inl t ↦ inl (t.0, record { ten = next ∷ t.1.ten; more = t.1.more; parts = ap (λ (l : List ℕ). next ∷ l) t.1.parts; goes = (ltb-false _ _ p.0, t.1.goes); len = omega (arith, t.1.len, eqb-false _ _ q.0) })
                        | inr t ↦ inr (t.0, record { extends = (ltb-false _ _ p.0, t.1.extends); room_for = omega (arith, t.1.room_for) })
                      ]
                  | inr r ↦ absurd (let w = r.2 in cc)
                ]
          ]
    ]

chain_many : (many : BodyFault) (room last : ℕ) (ten more : List ℕ) → GoesOn last ten → length ten ≡ room → chain_len many room last (ten ++ more) ≡ Err many
chain_many many room last [] more goes len = chain_full many room last more goes (sym len)
chain_many many room last (next ∷ ten) more goes len =
    let on : ltb last 128 ≡ false = le-ltb _ _ goes.0 in
    let some : eqb room 0 ≡ false = grind (arith, nat_tests) in
    rw (on, some, chain_many many (room - 1) next ten more goes.1 (omega arith)) refl

-- ---- this many bytes

-- what completes a text
record Completes (P : List ℕ → Type 0) (bytes : List ℕ) : Type 0 where
  pub next : ℕ
  pub more : List ℕ
  pub is : P (bytes ++ next ∷ more)

completed : (n : ℕ) (bytes : List ℕ) → length bytes < n → Completes (λ l. length l ≡ n) bytes
completed n bytes h = record { next = 0; more = replicate (n - length bytes - 1) 0; is = omega (arith, length-append bytes (0 ∷ replicate (n - length bytes - 1) 0), length-replicate {A = ℕ} (n - length bytes - 1) 0) }

split_err : (n : ℕ) (bytes : List ℕ) (f : BodyFault) → split_at n bytes ≡ Err f → (f ≡ Cut) × Completes (λ l. length l ≡ n) bytes
split_err n bytes f e =
    elim (chosen (ltb (length bytes) n) (Err Cut) (Ok (take n bytes, drop n bytes)) (Err f) e) [
      | inl p ↦ (err_is Cut f p.1, completed n bytes (ltb-true _ _ p.0))
      | inr p ↦ absurd (let w = p.1 in cc)
    ]

-- ---- a length byte, then that many bytes

abbrev HasCounted : List ℕ → Type 0
HasCounted text = (content : List ℕ) × IsCounted text content

record BadByte (bytes : List ℕ) : Type 0 where
  pub byte : ℕ
  pub more : List ℕ
  pub parts : bytes ≡ byte ∷ more
  pub bad : 0xF0 ≤ byte

counted_cut : (byte n : ℕ) (rest : List ℕ) → IsLength byte n → Completes (λ l. length l ≡ n) rest → Completes HasCounted (byte ∷ rest)
counted_cut byte n rest h c = record { next = c.next; more = c.more; is = (rest ++ c.next ∷ c.more, record { byte = byte; parts = refl; length_of = subst (λ (k : ℕ). IsLength byte k) (sym c.is) h }) }

counted_err : (bytes : List ℕ) (f : BodyFault) → counted_at bytes ≡ Err f → ((f ≡ BadLength) × BadByte bytes) ⊎ ((f ≡ Cut) × Completes HasCounted bytes)
counted_err [] f e = inr (err_is Cut f e, record { next = 0; more = []; is = ([], record { byte = 0; parts = refl; length_of = inl (omega arith, refl) }) })
counted_err (byte ∷ bytes) f e =
    elim (chosen (ltb byte 0xC0) (split_at byte bytes) (cond (ltb byte 0xF0) (split_at (byte % 16) bytes) (Err BadLength)) (Err f) e) [
      | inl p ↦ let s = split_err byte bytes f p.1 in inr (s.0, counted_cut byte byte bytes (inl (ltb-true _ _ p.0, refl)) s.1)
      | inr p ↦
          elim (chosen (ltb byte 0xF0) (split_at (byte % 16) bytes) (Err BadLength) (Err f) p.1) [
            | inl q ↦ let s = split_err (byte % 16) bytes f q.1 in inr (s.0, counted_cut byte (byte % 16) bytes (inr (ltb-false _ _ p.0, ltb-true _ _ q.0, refl)) s.1)
            | inr q ↦ inl (err_is BadLength f q.1, record { byte = byte; more = bytes; parts = refl; bad = ltb-false _ _ q.0 })
          ]
    ]

counted_bad : (byte : ℕ) (more : List ℕ) → 0xF0 ≤ byte → counted_at (byte ∷ more) ≡ Err BadLength
counted_bad byte more h =
    let a : ltb byte 0xC0 ≡ false = le-ltb _ _ (omega arith) in
    let b : ltb byte 0xF0 ≡ false = le-ltb _ _ h in
    rw (a, b) refl

-- ---- the VIB

data VibFails (bytes : List ℕ) (f : BodyFault) : Type 0 where
  v_extension : f ≡ PlainTextExtension → (more : List ℕ) → bytes ≡ 0xFC ∷ more → VibFails bytes f
  v_many : f ≡ TooManyVife → (vif : ℕ) (ten more : List ℕ) → bytes ≡ vif ∷ (ten ++ more) → vif ≢ 0xFC → GoesOn vif ten → length ten ≡ 10 → VibFails bytes f
  v_length : f ≡ BadLength → (byte : ℕ) (more : List ℕ) → bytes ≡ 0x7C ∷ (byte ∷ more) → 0xF0 ≤ byte → VibFails bytes f
  v_cut : f ≡ Cut → Completes IsVib bytes → VibFails bytes f

pub any_vib : IsVib (0 ∷ [])
any_vib = inr (omega arith, omega arith, omega arith, omega arith)

vib_err : (bytes : List ℕ) (f : BodyFault) → vib_len bytes ≡ Err f → VibFails bytes f
vib_err [] f e = v_cut (err_is Cut f e) (record { next = 0; more = []; is = any_vib })
vib_err (vif ∷ rest) f e =
    let other : Result ℕ BodyFault = chain_len TooManyVife 10 vif rest >>= λ m. Ok (m + 1) in
    let texts : Result ℕ BodyFault = counted_at rest >>= λ x. Ok (2 + length x.0) in
    elim (chosen (eqb vif 0xFC) (Err PlainTextExtension) (cond (eqb vif 0x7C) texts other) (Err f) e) [
      | inl p ↦ v_extension (err_is PlainTextExtension f p.1) rest (ap (λ (v : ℕ). v ∷ rest) (eqb-true _ _ p.0))
      | inr p ↦
          elim (chosen (eqb vif 0x7C) texts other (Err f) p.1) [
            | inl q ↦
                elim (bind_err (counted_at rest) (λ x. Ok (2 + length x.0)) f q.1) [
                  | inl r ↦
                      elim (counted_err rest f r) [
                        | inl t ↦ v_length t.0 t.1.byte t.1.more (ap (λ (v : ℕ). v ∷ rest) (eqb-true _ _ q.0) ∙ ap (λ (l : List ℕ). 0x7C ∷ l) t.1.parts) t.1.bad
                        | inr t ↦ v_cut t.0 (record { next = t.1.next; more = t.1.more; is = inl (eqb-true _ _ q.0, t.1.is.0, t.1.is.1) })
                      ]
                  | inr r ↦ absurd (let w = r.2 in cc)
                ]
            | inr q ↦
                elim (bind_err (chain_len TooManyVife 10 vif rest) (λ m. Ok (m + 1)) f q.1) [
                  | inl r ↦
                      elim (chain_err TooManyVife 10 vif rest f r) [
                        | inl t ↦ v_many t.0 vif t.1.ten t.1.more (ap (λ (l : List ℕ). vif ∷ l) t.1.parts) (eqb-false _ _ p.0) t.1.goes t.1.len
                        | inr t ↦ v_cut t.0 (record { next = 0; more = []; is = inr (eqb-false _ _ q.0, eqb-false _ _ p.0, t.1.extends, omega (arith, t.1.room_for, length-append rest (0 ∷ []))) })
                      ]
                  | inr r ↦ absurd (let w = r.2 in cc)
                ]
          ]
    ]

-- ---- the data

abbrev pub HasData : ℕ → List ℕ → Type 0
HasData field sent = (content : List ℕ) × IsData field sent content

pub any_data : (field : ℕ) → (sent : List ℕ) × HasData field sent
any_data field =
    elim (chosen (eqb field 0xD) true false (eqb field 0xD) (same (eqb field 0xD))) [
      | inl p ↦ (0 ∷ [], ([], inl (eqb-true _ _ p.0, record { byte = 0; parts = refl; length_of = inl (omega arith, refl) })))
      | inr p ↦ (replicate (width field) 0, (replicate (width field) 0, inr (eqb-false _ _ p.0, refl, length-replicate {A = ℕ} (width field) 0)))
    ]
  where
    same : (b : Bool) → cond b true false ≡ b
    same true = refl
    same false = refl

data_err : (field : ℕ) (bytes : List ℕ) (f : BodyFault) → data_at field bytes ≡ Err f → ((f ≡ BadLength) × (field ≡ 0xD) × BadByte bytes) ⊎ ((f ≡ Cut) × Completes (HasData field) bytes)
data_err field bytes f e =
    elim (chosen (eqb field 0xD) (counted_at bytes) (split_at (width field) bytes) (Err f) e) [
      | inl p ↦
          elim (counted_err bytes f p.1) [
            | inl t ↦ inl (t.0, eqb-true _ _ p.0, t.1)
            | inr t ↦ inr (t.0, record { next = t.1.next; more = t.1.more; is = (t.1.is.0, inl (eqb-true _ _ p.0, t.1.is.1)) })
          ]
      | inr p ↦ let t = split_err (width field) bytes f p.1 in inr (t.0, record { next = t.1.next; more = t.1.more; is = (bytes ++ t.1.next ∷ t.1.more, inr (eqb-false _ _ p.0, refl, t.1.is)) })
    ]

-- ---- the record

pub spelled_by : (dif : ℕ) (difes vib sent content text : List ℕ) → text ≡ dif ∷ (difes ++ (vib ++ sent)) → dif % 16 ≢ 15 → Extends dif difes → length difes ≤ 10 → IsVib vib → IsData (dif % 16) sent content → Spells text (entry_of dif difes vib content)
spelled_by dif difes vib sent content text parts special extends few is data_is =
    record { dif = dif; difes = difes; sent = sent; parts = parts; not_special = special; extends = extends; at_most_ten = few; storage = refl; tariff = refl; subunit = refl; function = refl; field = refl; vib = is; data_of = data_is }

at_drop : (n : ℕ) (bytes x : List ℕ) → drop n bytes ≡ x → bytes ≡ take n bytes ++ x
at_drop n bytes x e = sym (take-append-drop n bytes) ∙ ap (λ (l : List ℕ). take n bytes ++ l) e

record_err : (dif : ℕ) (bytes : List ℕ) (f : BodyFault) → dif ≢ 0x0F → dif ≢ 0x1F → dif ≢ 0x2F → record_at (dif ∷ bytes) ≡ Err f → Stops (dif ∷ bytes) f
unfolding record_at
record_err dif bytes f n0 n1 n2 e =
    let last_step = λ (difes vib : ℕ) (c : List ℕ × List ℕ). let r : Result (Entry × List ℕ) BodyFault = Ok (entry_of dif (take difes bytes) (take vib (drop difes bytes)) c.0, c.1) in r in
    let from_vib = λ (difes vib : ℕ). data_at (dif % 16) (drop vib (drop difes bytes)) >>= λ c. last_step difes vib c in
    let from_difes = λ (difes : ℕ). vib_len (drop difes bytes) >>= λ vib. from_vib difes vib in
    let all = chain_len TooManyDife 10 dif bytes >>= λ difes. from_difes difes in
    elim (chosen (eqb (dif % 16) 15) (Err ReservedDif) all (Err f) e) [
      | inl p ↦ reserved (err_is ReservedDif f p.1) dif bytes refl (eqb-true _ _ p.0) n0 n1 n2
      | inr p ↦
          let special : dif % 16 ≢ 15 = eqb-false _ _ p.0 in
          elim (bind_err (chain_len TooManyDife 10 dif bytes) (λ difes. from_difes difes) f p.1) [
            | inl q ↦
                elim (chain_err TooManyDife 10 dif bytes f q) [
                  | inl t ↦ many_difes t.0 dif t.1.ten t.1.more (ap (λ (l : List ℕ). dif ∷ l) t.1.parts) special t.1.goes t.1.len
                  | inr t ↦
                      let d = any_data (dif % 16) in
                      let parts : (dif ∷ bytes) ++ (0 ∷ (0 ∷ d.0)) ≡ dif ∷ ((bytes ++ 0 ∷ []) ++ ((0 ∷ []) ++ d.0)) = ap (λ (l : List ℕ). dif ∷ l) (sym (append_assoc bytes (0 ∷ []) ((0 ∷ []) ++ d.0))) in
                      cut t.0 dif bytes (0 ∷ d.0) (entry_of dif (bytes ++ 0 ∷ []) (0 ∷ []) d.1.0) 0 refl
                      (spelled_by dif (bytes ++ 0 ∷ []) (0 ∷ []) d.0 d.1.0 _ parts special t.1.extends (omega (arith, t.1.room_for, length-append bytes (0 ∷ []))) any_vib d.1.1)
                ]
            | inr q ↦
                let n = q.0 in
                let tc = chain_takes TooManyDife 10 dif n bytes q.1 in
                let few : length (take n bytes) ≤ 10 = omega (arith, tc.room_for, length-take n bytes) in
                let head : IsHead (dif ∷ take n bytes) dif = record { difes = take n bytes; parts = refl; not_special = special; extends = tc.extends; at_most_ten = few } in
                elim (bind_err (vib_len (drop n bytes)) (λ vib. from_vib n vib) f q.2) [
                  | inl r ↦
                      elim (vib_err (drop n bytes) f r) [
                        | v_extension fe more parts ↦ extension fe (dif ∷ take n bytes) dif more (ap (λ (l : List ℕ). dif ∷ l) (at_drop n bytes _ parts)) head
                        | v_many fe vif ten more parts not_fc goes len ↦ many_vifes fe (dif ∷ take n bytes) dif vif ten more (ap (λ (l : List ℕ). dif ∷ l) (at_drop n bytes _ parts)) head not_fc goes len
                        | v_length fe byte more parts bad ↦ text_length fe (dif ∷ take n bytes) dif byte more (ap (λ (l : List ℕ). dif ∷ l) (at_drop n bytes _ parts)) head bad
                        | v_cut fe c ↦
                            let d = any_data (dif % 16) in
                            let vib = drop n bytes ++ c.next ∷ c.more in
                            let parts : (dif ∷ bytes) ++ (c.next ∷ (c.more ++ d.0)) ≡ dif ∷ (take n bytes ++ (vib ++ d.0)) =
                            ap (λ (l : List ℕ). dif ∷ (l ++ (c.next ∷ (c.more ++ d.0)))) (sym (take-append-drop n bytes)) ∙ ap (λ (l : List ℕ). dif ∷ l) (simp append_assoc) in
                            cut fe dif bytes (c.more ++ d.0) (entry_of dif (take n bytes) vib d.1.0) c.next refl
                            (spelled_by dif (take n bytes) vib d.0 d.1.0 _ parts special tc.extends few c.is d.1.1)
                      ]
                  | inr r ↦
                      let m = r.0 in
                      let rest = drop n bytes in
                      let tv = vib_takes m rest r.1 in
                      let whole : bytes ≡ take n bytes ++ (take m rest ++ drop m rest) = at_drop n bytes _ (sym (take-append-drop m rest)) in
                      elim (bind_err (data_at (dif % 16) (drop m rest)) (λ c. last_step n m c) f r.2) [
                        | inl s ↦
                            elim (data_err (dif % 16) (drop m rest) f s) [
                              | inl t ↦ data_length t.0 (dif ∷ take n bytes) dif (take m rest) t.2.byte t.2.more
                                  (ap (λ (l : List ℕ). dif ∷ l) (whole ∙ ap (λ (l : List ℕ). take n bytes ++ (take m rest ++ l)) t.2.parts)) head tv.is t.1 t.2.bad
                              | inr t ↦
                                  let c = t.1 in
                                  let sent = drop m rest ++ c.next ∷ c.more in
                                  let parts : (dif ∷ bytes) ++ (c.next ∷ c.more) ≡ dif ∷ (take n bytes ++ (take m rest ++ sent)) =
                                  ap (λ (l : List ℕ). dif ∷ (l ++ (c.next ∷ c.more))) whole ∙ ap (λ (l : List ℕ). dif ∷ l) (simp append_assoc) in
                                  cut t.0 dif bytes c.more (entry_of dif (take n bytes) (take m rest) c.is.0) c.next refl
                                  (spelled_by dif (take n bytes) (take m rest) sent c.is.0 _ parts special tc.extends few tv.is c.is.1)
                            ]
                        | inr s ↦ absurd (let w = s.2 in cc)
                      ]
                ]
          ]
    ]

-- ---- where it stops, that fault is read

head_vib_err : (head : List ℕ) (dif : ℕ) (x : List ℕ) (f : BodyFault) → IsHead head dif → vib_len x ≡ Err f → record_at (head ++ x) ≡ Err f
unfolding record_at
head_vib_err head dif x f h e =
    let no : eqb (dif % 16) 15 ≡ false = grind (arith, nat_tests, h.not_special) in
    ap (λ (l : List ℕ). record_at (l ++ x)) h.parts ∙ rw (no, chain_again TooManyDife 10 dif h.difes x h.extends h.at_most_ten, drop_at h.difes x (length h.difes) refl, e) refl

head_data_err : (head : List ℕ) (dif : ℕ) (vib x : List ℕ) (f : BodyFault) → IsHead head dif → IsVib vib → data_at (dif % 16) x ≡ Err f → record_at (head ++ (vib ++ x)) ≡ Err f
unfolding record_at
head_data_err head dif vib x f h v e =
    let no : eqb (dif % 16) 15 ≡ false = grind (arith, nat_tests, h.not_special) in
    ap (λ (l : List ℕ). record_at (l ++ (vib ++ x))) h.parts ∙ rw (no, chain_again TooManyDife 10 dif h.difes (vib ++ x) h.extends h.at_most_ten, drop_at h.difes (vib ++ x) (length h.difes) refl, vib_again vib x v, drop_at vib x (length vib) refl, e) refl

-- what isn't special begins a record
front_fault : (dif : ℕ) (rest : List ℕ) (f : BodyFault) → dif ≢ 0x0F → dif ≢ 0x1F → dif ≢ 0x2F → record_at (dif ∷ rest) ≡ Err f → front_at (dif ∷ rest) ≡ Err f
unfolding front_at
front_fault dif rest f n0 n1 n2 e =
    let a : eqb dif 0x0F ≡ false = grind (arith, nat_tests) in
    let b : eqb dif 0x1F ≡ false = grind (arith, nat_tests) in
    let c : eqb dif 0x2F ≡ false = grind (arith, nat_tests) in
    rw (a, b, c, e) refl

front_record : (dif : ℕ) (rest : List ℕ) (x : Entry × List ℕ) → dif % 16 ≢ 15 → record_at (dif ∷ rest) ≡ Ok x → front_at (dif ∷ rest) ≡ Ok (gives x.0 x.1)
unfolding front_at
front_record dif rest x special e =
    let a : eqb dif 0x0F ≡ false = grind (arith, nat_tests, λ (h : dif ≡ 0x0F). special (ap (λ (d : ℕ). d % 16) h)) in
    let b : eqb dif 0x1F ≡ false = grind (arith, nat_tests, λ (h : dif ≡ 0x1F). special (ap (λ (d : ℕ). d % 16) h)) in
    let c : eqb dif 0x2F ≡ false = grind (arith, nat_tests, λ (h : dif ≡ 0x2F). special (ap (λ (d : ℕ). d % 16) h)) in
    rw (a, b, c, e) refl

-- the same, where the text is known by an equation
front_fault_at : (text : List ℕ) (dif : ℕ) (rest : List ℕ) (f : BodyFault) → text ≡ dif ∷ rest → dif % 16 ≢ 15 → record_at text ≡ Err f → front_at text ≡ Err f
front_fault_at text dif rest f is special e =
    let no = λ (n : ℕ) (n_is : n % 16 ≡ 15) (h : dif ≡ n). special (ap (λ (d : ℕ). d % 16) h ∙ n_is) in
    ap front_at is ∙ front_fault dif rest f (no 0x0F refl) (no 0x1F refl) (no 0x2F refl) (sym (ap record_at is) ∙ e)

head_fault : (text head : List ℕ) (dif : ℕ) (x : List ℕ) (f : BodyFault) → text ≡ head ++ x → IsHead head dif → record_at (head ++ x) ≡ Err f → front_at text ≡ Err f
head_fault text head dif x f is h e = front_fault_at text dif (h.difes ++ x) f (is ∙ ap (λ (l : List ℕ). l ++ x) h.parts) h.not_special (ap record_at is ∙ e)

many_difes_err : (dif : ℕ) (ten more : List ℕ) → dif % 16 ≢ 15 → GoesOn dif ten → length ten ≡ 10 → record_at (dif ∷ (ten ++ more)) ≡ Err TooManyDife
unfolding record_at
many_difes_err dif ten more special goes len =
    let no : eqb (dif % 16) 15 ≡ false = grind (arith, nat_tests, special) in
    rw (no, chain_many TooManyDife 10 dif ten more goes len) refl

reserved_err : (dif : ℕ) (more : List ℕ) → dif % 16 ≡ 15 → record_at (dif ∷ more) ≡ Err ReservedDif
unfolding record_at
reserved_err dif more special =
    let yes : eqb (dif % 16) 15 ≡ true = grind (arith, nat_tests, special) in
    rw yes refl

pub goes_high : (vif : ℕ) (ten : List ℕ) → GoesOn vif ten → 128 ≤ vif
goes_high vif [] h = h
goes_high vif (next ∷ ten) h = h.0

many_vifes_err : (vif : ℕ) (ten more : List ℕ) → vif ≢ 0xFC → GoesOn vif ten → length ten ≡ 10 → vib_len (vif ∷ (ten ++ more)) ≡ Err TooManyVife
many_vifes_err vif ten more not_fc goes len =
    let high = goes_high vif ten goes in
    let a : eqb vif 0xFC ≡ false = grind (arith, nat_tests) in
    let b : eqb vif 0x7C ≡ false = grind (arith, nat_tests) in
    rw (a, b, chain_many TooManyVife 10 vif ten more goes len) refl

-- a record that goes on past the text isn't read from it
cut_or : (text : List ℕ) (e : Entry) (next : ℕ) (more : List ℕ) → Spells (text ++ (next ∷ more)) e → (x : Entry × List ℕ) → record_at text ≡ Ok x → ⊥
cut_or text e next more h x read =
    let t = record_takes text x read in
    let longer : text ++ (next ∷ more) ≡ t.text ++ (x.1 ++ (next ∷ more)) = ap (λ (l : List ℕ). l ++ (next ∷ more)) t.parts ∙ append_assoc t.text x.1 (next ∷ more) in
    let one : record_at ((text ++ (next ∷ more)) ++ []) ≡ Ok (e, []) = record_again (text ++ (next ∷ more)) [] e h in
    let two : record_at (t.text ++ (x.1 ++ (next ∷ more))) ≡ Ok (x.0, x.1 ++ (next ∷ more)) = record_again t.text (x.1 ++ (next ∷ more)) x.0 t.spells in
    let joined : (text ++ (next ∷ more)) ++ [] ≡ t.text ++ (x.1 ++ (next ∷ more)) = append-nil (text ++ (next ∷ more)) ∙ longer in
    let same : [] ≡ x.1 ++ (next ∷ more) = ap (λ (y : Entry × List ℕ). y.1) (ok_is (e, []) (x.0, x.1 ++ (next ∷ more)) (sym one ∙ ap record_at joined ∙ two)) in
    omega (arith, ap length same, length-append x.1 (next ∷ more))

-- a record goes on past the text
pub record GoesPast (text : List ℕ) : Type 0 where
  pub first : ℕ
  pub others : List ℕ
  pub is : text ≡ first ∷ others
  pub entry : Entry
  pub next : ℕ
  pub more : List ℕ
  pub spells : Spells (text ++ (next ∷ more)) entry

-- What stops with another fault than Cut stops so however it goes on.
pub stops_on : (text : List ℕ) (f : BodyFault) → Stops text f → (x : List ℕ) → ((f ≡ Cut) × GoesPast text) ⊎ (front_at (text ++ x) ≡ Err f)
stops_on text f (reserved fe dif more is special n0 n1 n2) x =
    inr (subst (λ (g : BodyFault). front_at (text ++ x) ≡ Err g) (sym fe) (ap front_at (ap (λ (l : List ℕ). l ++ x) is) ∙ front_fault dif (more ++ x) ReservedDif n0 n1 n2 (reserved_err dif (more ++ x) special)))
stops_on text f (many_difes fe dif ten more is special goes len) x =
    let whole : text ++ x ≡ dif ∷ (ten ++ (more ++ x)) = ap (λ (l : List ℕ). l ++ x) is ∙ ap (λ (l : List ℕ). dif ∷ l) (append_assoc ten more x) in
    inr (subst (λ (g : BodyFault). front_at (text ++ x) ≡ Err g) (sym fe) (front_fault_at (text ++ x) dif (ten ++ (more ++ x)) TooManyDife whole special (ap record_at whole ∙ many_difes_err dif ten (more ++ x) special goes len)))
stops_on text f (many_vifes fe head dif vif ten more is h not_fc goes len) x =
    let whole : text ++ x ≡ head ++ (vif ∷ (ten ++ (more ++ x))) = ap (λ (l : List ℕ). l ++ x) is ∙ simp append_assoc in
    inr (subst (λ (g : BodyFault). front_at (text ++ x) ≡ Err g) (sym fe) (head_fault (text ++ x) head dif _ TooManyVife whole h (head_vib_err head dif _ TooManyVife h (many_vifes_err vif ten (more ++ x) not_fc goes len))))
stops_on text f (extension fe head dif more is h) x =
    let whole : text ++ x ≡ head ++ (0xFC ∷ (more ++ x)) = ap (λ (l : List ℕ). l ++ x) is ∙ simp append_assoc in
    inr (subst (λ (g : BodyFault). front_at (text ++ x) ≡ Err g) (sym fe) (head_fault (text ++ x) head dif _ PlainTextExtension whole h (head_vib_err head dif (0xFC ∷ (more ++ x)) PlainTextExtension h refl)))
stops_on text f (text_length fe head dif byte more is h bad) x =
    let whole : text ++ x ≡ head ++ (0x7C ∷ (byte ∷ (more ++ x))) = ap (λ (l : List ℕ). l ++ x) is ∙ simp append_assoc in
    let e : vib_len (0x7C ∷ (byte ∷ (more ++ x))) ≡ Err BadLength = ap (λ (r : Result (List ℕ × List ℕ) BodyFault). r >>= λ y. Ok (2 + length y.0)) (counted_bad byte (more ++ x) bad) in
    inr (subst (λ (g : BodyFault). front_at (text ++ x) ≡ Err g) (sym fe) (head_fault (text ++ x) head dif _ BadLength whole h (head_vib_err head dif _ BadLength h e)))
stops_on text f (data_length fe head dif vib byte more is h v fd bad) x =
    let whole : text ++ x ≡ head ++ (vib ++ (byte ∷ (more ++ x))) = ap (λ (l : List ℕ). l ++ x) is ∙ simp append_assoc in
    let yes : eqb (dif % 16) 0xD ≡ true = grind (arith, nat_tests, fd) in
    let e : data_at (dif % 16) (byte ∷ (more ++ x)) ≡ Err BadLength = rw yes (counted_bad byte (more ++ x) bad) in
    inr (subst (λ (g : BodyFault). front_at (text ++ x) ≡ Err g) (sym fe) (head_fault (text ++ x) head dif _ BadLength whole h (head_data_err head dif vib _ BadLength h v e)))
stops_on text f (cut fe b bs more e next is h) x = inl (fe, record { first = b; others = bs; is = is; entry = e; next = next; more = more; spells = h })

pub spells_front : (text rest : List ℕ) (e : Entry) → Spells text e → front_at (text ++ rest) ≡ Ok (gives e rest)
spells_front text rest e h =
    let parts : text ++ rest ≡ h.dif ∷ ((h.difes ++ (e.vib ++ h.sent)) ++ rest) = ap (λ (l : List ℕ). l ++ rest) h.parts in
    ap front_at parts ∙ front_record h.dif ((h.difes ++ (e.vib ++ h.sent)) ++ rest) (e, rest) h.not_special (sym (ap record_at parts) ∙ record_again text rest e h)

-- a text that a record goes on past is cut
cut_front : (b : ℕ) (bs : List ℕ) (e : Entry) (next : ℕ) (more : List ℕ) → Spells ((b ∷ bs) ++ (next ∷ more)) e → (r : Result (Entry × List ℕ) BodyFault) → record_at (b ∷ bs) ≡ r → front_at (b ∷ bs) ≡ Err Cut
cut_front b bs e next more h (Ok x) read = absurd (cut_or (b ∷ bs) e next more h x read)
cut_front b bs e next more h (Err g) read =
    let first : b ≡ h.dif = cc (h.parts) in
    let no = λ (n : ℕ) (n_is : n % 16 ≡ 15) (i : b ≡ n). h.not_special (ap (λ (d : ℕ). d % 16) (sym first ∙ i) ∙ n_is) in
    let stops = record_err b bs g (no 0x0F refl) (no 0x1F refl) (no 0x2F refl) read in
    let here = front_fault b bs g (no 0x0F refl) (no 0x1F refl) (no 0x2F refl) read in
    elim (stops_on (b ∷ bs) g stops (next ∷ more)) [
      | inl p ↦ subst (λ (f : BodyFault). front_at (b ∷ bs) ≡ Err f) p.0 here
      | inr p ↦ absurd (let q = spells_front ((b ∷ bs) ++ (next ∷ more)) [] e h in let w = sym (ap front_at (append-nil ((b ∷ bs) ++ (next ∷ more)))) in cc)
    ]

pub stops_front : (text : List ℕ) (f : BodyFault) → Stops text f → front_at text ≡ Err f
stops_front text f s =
    elim (stops_on text f s []) [
      | inl p ↦
          let c = p.1 in
          subst (λ (g : BodyFault). front_at text ≡ Err g) (sym p.0) (ap front_at c.is ∙ cut_front c.first c.others c.entry c.next c.more (subst (λ (t : List ℕ). Spells (t ++ (c.next ∷ c.more)) c.entry) c.is c.spells) (record_at (c.first ∷ c.others)) refl)
      | inr p ↦ sym (ap front_at (append-nil text)) ∙ p
    ]

pub front_stops : (text : List ℕ) (f : BodyFault) → front_at text ≡ Err f → Stops text f
unfolding front_at
front_stops [] f e = absurd cc
front_stops (b ∷ rest) f e =
    elim (chosen (eqb b 0x0F) _ _ (Err f) e) [
      | inl p ↦ absurd (let w = p.1 in cc)
      | inr p ↦
          elim (chosen (eqb b 0x1F) _ _ (Err f) p.1) [
            | inl q ↦ absurd (let w = q.1 in cc)
            | inr q ↦
                elim (chosen (eqb b 0x2F) _ _ (Err f) q.1) [
                  | inl r ↦ absurd (let w = r.1 in cc)
                  | inr r ↦
                      elim (bind_err (record_at (b ∷ rest)) (λ x. Ok (gives x.0 x.1)) f r.1) [
                        | inl s ↦ record_err b rest f (eqb-false _ _ p.0) (eqb-false _ _ q.0) (eqb-false _ _ r.0) s
                        | inr s ↦ absurd (let w = s.2 in cc)
                      ]
                ]
          ]
    ]
