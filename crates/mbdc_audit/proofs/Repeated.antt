-- Telegrams that came at an earlier moment too are known as estimates.
use Rattle.std.proofs.Common.{arith, ◌≡◌, ◌<◌, ◌&&◌, ◌||◌, ℕ, suc, List, [], ◌∷◌, ◌++◌, length, flat_map, map, Bool, true, false, refl, sym, ap, ◌∙◌}
use Rattle.std.proofs.Common.{Option, Some, None, Ok, if◌then◌else◌}
use Rattle.std.specs.Prelude.{All, nat_lt, ◌==◌}
use Rattle.std.specs.List.{list_any}
use Rattle.std.specs.Str.{bytes_eq}
use Rattle.std.proofs.lemmas.Bool.Decides.{nat_tests}
use Rattle.mbdc_io.specs.Hex.{bytes_of}
use Rattle.dc_records.specs.Telegram.{Parsed}
use Rattle.dc_records.specs.Record.{Entry}
use Rattle.mbdc_audit.specs.Amount.{is_again, read_of}
use Rattle.mbdc_audit.specs.Evidence.{MayBeAt, Tell, bytes_in}
use Rattle.mbdc_audit.specs.Field.{fields_of}
use Rattle.mbdc_audit.specs.House.{Run, Value}
use Rattle.mbdc_audit.specs.Settled.{IsSettled}
use Rattle.mbdc_audit.specs.View.{amount_or_0, as_known, known_of, of_word, seen_value, value_of}
use Rattle.mbdc_audit.specs.Walk.{is_found, is_read, is_repeat}
use Rattle.mbdc_audit.specs.declared.house.Typed.{Typed}
use Rattle.mbdc_audit.specs.declared.house.Value as value_type
use Rattle.mbdc_audit.specs.declared.line.Word.{Word}
use Rattle.mbdc_audit.specs.declared.line.Word.TheVariants as word
use Rattle.mbdc_audit.specs.declared.moment.DayEnd.{DayEnd}
use Rattle.mbdc_audit.specs.declared.uses.Counted.{Counted}
use Rattle.mbdc_audit.proofs.Readouts.{Reads, to_reads}
use Rattle.mbdc_audit.proofs.Rests.{by_read}
use Rattle.mbdc_audit.proofs.Settled.{Each, IsGood, Rest, found_one}

-- ---- a readout has a body

empty_body : length (bytes_in []) < 12
unfolding bytes_of
empty_body = omega arith

no_readout : (r : Run) (ts : List Parsed) → Reads r.identity (bytes_in [] ∷ []) ts → ⊥
no_readout r [] a = absurd a
no_readout r (t ∷ ts) a = let long = a.0.is.header.enough in let short = empty_body in absurd (omega (arith, long, short))

none_read : (r : Run) (q : Counted) (day : Option ℕ) (may : List Entry → Type 0) (n : ℕ) → Tell r q [] day may n → ⊥
unfolding fields_of
none_read r q day may n h = no_readout r h.telegrams (to_reads r.identity (bytes_in [] ∷ []) h.telegrams h.readout)

some_read : (r : Run) (q : Counted) (bodies : List ℕ) (day : Option ℕ) (may : List Entry → Type 0) (n : ℕ) → Tell r q bodies day may n
    → nat_lt 0 (length bodies) ≡ true
some_read r q [] day may n h = absurd (none_read r q day may n h)
some_read r q (b ∷ bodies) day may n h = grind (arith, nat_tests)

read_word : (w : Word) → is_read w ≡ true → w ≡ word.Read
read_word word.Read e = refl
read_word _ e = absurd cc

pub has_body : (rs : List Run) (q : Counted) (v : value_type.Value) (n : ℕ) → Rest rs q v n → is_read v.word ≡ true
    → nat_lt 0 (length v.bodies.now) ≡ true
has_body rs q v n rest e = some_read rest.0 q v.bodies.now None (MayBeAt v.moment) n
    ((by_read rest.0 q v (read_word v.word e)).to n rest.2)

-- ---- a repeat

read_is : (w : Word) (b : List ℕ) (e : Option DayEnd) (t : Option Typed) → read_of (of_word w b e t) ≡ (if is_read w then b else [])
read_is word.Read b e t = refl
read_is word.Stored b e t = refl
read_is word.Ended b e t = refl
read_is word.First b e None = refl
read_is word.First b e (Some t) = refl
read_is word.Last b e None = refl
read_is word.Last b e (Some t) = refl
read_is word.Hand b e None = refl
read_is word.Hand b e (Some t) = refl
read_is word.Estimated b e None = refl
read_is word.Estimated b e (Some t) = refl
read_is _ b e t = refl

bools : (a b r s : Bool) (xs ys : List ℕ) → (r ≡ true → nat_lt 0 (length xs) ≡ true)
    → (a && (b && (nat_lt 0 (length (if r then xs else [])) && bytes_eq (if s then ys else []) (if r then xs else []))))
    ≡ (r && (a && (b && (true && (s && bytes_eq ys xs)))))
bools false b true s xs ys h = refl
bools false b false s xs ys h = refl
bools true false true s xs ys h = refl
bools true false false s xs ys h = refl
bools true true false s xs ys h = refl
bools true true true true xs ys h = ap (λ (x : Bool). x && bytes_eq ys xs) (h refl)
bools true true true false [] ys h = refl
bools true true true false (x ∷ xs) ys h = ap (λ (y : Bool). y && false) (h refl)

-- whether one value is a repeat of another, by their words, as definitions have it
abbrev again_by : Bool → Bool → List ℕ → List ℕ → Bool
again_by a b xs ys = a && (b && (nat_lt 0 (length xs) && bytes_eq ys xs))

by_words : (a b : Bool) (w z : Word) (xs ys : List ℕ) (e f : Option DayEnd) (t u : Option Typed) → (is_read w ≡ true → nat_lt 0 (length xs) ≡ true)
    → again_by a b (read_of (of_word w xs e t)) (read_of (of_word z ys f u))
    ≡ (is_read w && (a && (b && (true && (is_read z && bytes_eq ys xs)))))
by_words a b w z xs ys e f t u h =
    ap (λ (l : List ℕ). again_by a b l (read_of (of_word z ys f u))) (read_is w xs e t)
    ∙ (ap (λ (l : List ℕ). again_by a b (if is_read w then xs else []) l) (read_is z ys f u)
    ∙ bools a b (is_read w) (is_read z) xs ys h)

judged_again : (j k : value_type.Value) → (is_read j.word ≡ true → nat_lt 0 (length j.bodies.now) ≡ true) → is_found k.found ≡ true
    → is_again (value_of 0 j) (value_of 0 k) ≡ (is_read j.word && is_repeat j k)
judged_again j k h f = by_words (k.run == j.run) (nat_lt k.moment j.moment) j.word k.word j.bodies.now k.bodies.now j.end k.end j.typed k.typed h
    ∙ ap (λ (x : Bool). is_read j.word && ((k.run == j.run) && (nat_lt k.moment j.moment && (x && (is_read k.word && bytes_eq k.bodies.now j.bodies.now))))) (sym f)

good_found : (j v : value_type.Value) → IsGood j v → is_found j.found ≡ true
good_found j v g = ap is_found g.found

seen_again : (j v k u : value_type.Value) → IsGood j v → IsGood k u → (is_read j.word ≡ true → nat_lt 0 (length j.bodies.now) ≡ true)
    → is_again (seen_value v) (seen_value u) ≡ (is_read j.word && is_repeat j k)
seen_again j v k u g g' h =
    ap (λ (y : value_type.Value). is_again (value_of 0 y) (value_of 0 u)) g.same
    ∙ (ap (λ (y : value_type.Value). is_again (value_of 0 j) (value_of 0 y)) g'.same ∙ judged_again j k h (good_found k u g'))

none : (r : Bool) → false ≡ (r && false)
none true = refl
none false = refl

either : (r x y : Bool) → ((r && x) || (r && y)) ≡ (r && (x || y))
either true x y = refl
either false x y = refl

any_again : (j v : value_type.Value) → IsGood j v → (is_read j.word ≡ true → nat_lt 0 (length j.bodies.now) ≡ true)
    → (js vs : List value_type.Value) → Each IsGood js vs
    → list_any (is_again (seen_value v)) (map seen_value vs) ≡ (is_read j.word && list_any (is_repeat j) js)
any_again j v g h [] [] a = none (is_read j.word)
any_again j v g h [] (u ∷ us) a = absurd a
any_again j v g h (k ∷ ks) [] a = absurd a
any_again j v g h (k ∷ ks) (u ∷ us) a =
    ap (λ (x : Bool). x || list_any (is_again (seen_value v)) (map seen_value us)) (seen_again j v k u g a.0 h)
    ∙ (ap (λ (x : Bool). (is_read j.word && is_repeat j k) || x) (any_again j v g h ks us a.1)
    ∙ either (is_read j.word) (is_repeat j k) (list_any (is_repeat j) ks))

pub again_is : (js vs : List value_type.Value) → Each IsGood js vs → (j v : value_type.Value) → IsGood j v
    → (is_read j.word ≡ true → nat_lt 0 (length j.bodies.now) ≡ true) → IsSettled js j v
    → v.is_again ≡ list_any (is_again (seen_value v)) (map seen_value vs)
again_is js vs goods j v g h s = s.2
    ∙ (ap (λ (x : Bool). is_read j.word && (x && list_any (is_repeat j) js)) (good_found j v g) ∙ sym (any_again j v g h js vs goods))

-- ---- what is known

abbrev pub IsKnown : List Value → value_type.Value → Type 0
IsKnown seen v = (v.found ≡ Ok (amount_or_0 v.found)) × (v.is_again ≡ list_any (is_again (seen_value v)) seen)

known_one : (seen : List Value) (v : value_type.Value) → IsKnown seen v
    → known_of v ≡ as_known (list_any (is_again (seen_value v)) seen) (seen_value v) ∷ []
known_one seen v k = ap (λ (l : List Value). map (as_known v.is_again) l) (found_one v v.found (amount_or_0 v.found) k.0)
    ∙ ap (λ (b : Bool). as_known b (seen_value v) ∷ []) k.1

pub known_all : (seen : List Value) (vs : List value_type.Value) → All (IsKnown seen) vs
    → flat_map known_of vs ≡ map (λ (x : Value). as_known (list_any (is_again x) seen) x) (map seen_value vs)
known_all seen [] h = refl
known_all seen (v ∷ vs) h = ap (λ (l : List Value). l ++ flat_map known_of vs) (known_one seen v (h 0 v (omega arith)))
    ∙ ap (λ (l : List Value). as_known (list_any (is_again (seen_value v)) seen) (seen_value v) ∷ l)
    (known_all seen vs (λ k d lt. h (suc k) d (omega (arith, lt))))
