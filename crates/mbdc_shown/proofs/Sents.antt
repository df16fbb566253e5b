-- The records of several telegrams: those of a list, and the one that comes next.
use Rattle.std.proofs.Common.{◌≡◌, ◌≢◌, ℕ, zero, suc, ◌+◌, ◌-◌, ◌<◌, ◌≤◌, Bool, true, false, cond, eqb, List, [], ◌∷◌, ◌++◌, length, get_or, drop, Option, Some, None, refl, ap, sym, ◌∙◌, arith, map}
use Rattle.std.proofs.lemmas.List.{drop_all, drop_more}
use Rattle.dc_records.specs.Body.{front_at}
use Rattle.mbdc_reading.specs.Front.{wide_front_at}
use Rattle.mbdc_reading.specs.Sent.{Sent, read_at}
use Rattle.mbdc_reading.specs.declared.content.headline.Main.{Main}
use Rattle.mbdc_reading.specs.declared.content.headline.Key.{Key}
use Rattle.mbdc_reading.specs.Headline.{headline, headline_by, headline_from, key_of, main_of, next_in, taken, with_next}
use Rattle.mbdc_shown.specs.declared.stand.Current.{Current}
use Rattle.mbdc_shown.specs.Stand.{bodies_sent, body_sent, headline_left, is_in, left_after, listed}

-- ---- telegrams

pub no_sent : body_sent [] ≡ []
unfolding read_at wide_front_at front_at
no_sent = refl

-- one telegram more of those that are gone through by index
next_sent : {X : Type 0} (text : X → List ℕ) (xs : List X) (i : ℕ) (d : X) → i < length xs
    → bodies_sent (map text (drop i xs)) ≡ body_sent (text (get_or xs i d)) ++ bodies_sent (map text (drop (i + 1) xs))
next_sent {X} text xs i d within = ap (λ (ys : List X). bodies_sent (map text ys)) (drop_more xs i d within)

-- after the last telegram
last_sent : {X : Type 0} (text : X → List ℕ) (xs : List X) (i : ℕ) → length xs ≤ i → bodies_sent (map text (drop i xs)) ≡ []
last_sent {X} text xs i past = ap (λ (ys : List X). bodies_sent (map text ys)) (drop_all i xs past)

-- ---- lists

listed-append : (list : Current) (xs ys : List Sent) → listed list (xs ++ ys) ≡ listed list xs ++ listed list ys
listed-append list [] ys = refl
listed-append list (x ∷ xs) ys = by_test (is_in list x) (listed-append list xs ys)
  where
    by_test : (test : Bool) → listed list (xs ++ ys) ≡ listed list xs ++ listed list ys
        → cond test (x ∷ listed list (xs ++ ys)) (listed list (xs ++ ys)) ≡ cond test (x ∷ listed list xs) (listed list xs) ++ listed list ys
    by_test true is = ap (λ (ss : List Sent). x ∷ ss) is
    by_test false is = is

-- none of the first telegram
pub listed_none : (list : Current) (xs ys : List Sent) → listed list xs ≡ [] → listed list (xs ++ ys) ≡ listed list ys
listed_none list xs ys is = listed-append list xs ys ∙ ap (λ (ss : List Sent). ss ++ listed list ys) is

-- one of the first telegram
pub listed_one : (list : Current) (s : Sent) (xs others ys : List Sent) → listed list xs ≡ s ∷ listed list others → listed list (xs ++ ys) ≡ s ∷ listed list (others ++ ys)
listed_one list s xs others ys is =
    listed-append list xs ys ∙ ap (λ (ss : List Sent). ss ++ listed list ys) is ∙ ap (λ (ss : List Sent). s ∷ ss) (sym (listed-append list others ys))

-- a record that isn't in the list
pub not_listed : (list : Current) (s : Sent) (xs others : List Sent) → xs ≡ s ∷ others → is_in list s ≡ false → listed list xs ≡ listed list others
not_listed list s xs others is test =
    ap (listed list) is ∙ ap (λ (b : Bool). cond b (s ∷ listed list others) (listed list others)) test

pub is_listed : (list : Current) (s : Sent) (xs others : List Sent) → xs ≡ s ∷ others → is_in list s ≡ true → listed list xs ≡ s ∷ listed list others
is_listed list s xs others is test =
    ap (listed list) is ∙ ap (λ (b : Bool). cond b (s ∷ listed list others) (listed list others)) test

-- ---- the next record of a headline

pub next_append : (main : Main) (last : Option Key) (best : Option Sent) (xs ys : List Sent)
    → next_in main last best (xs ++ ys) ≡ next_in main last (next_in main last best xs) ys
unfolding next_in
next_append main last best [] ys = refl
next_append main last best (x ∷ xs) ys = next_append main last (taken main last best x) xs ys

-- one telegram more of those that are gone through by index
pub next_turn : {X : Type 0} (text : X → List ℕ) (main : Main) (last : Option Key) (best : Option Sent) (xs : List X) (i : ℕ) (d : X) → i < length xs
    → next_in main last best (bodies_sent (map text (drop i xs))) ≡ next_in main last (next_in main last best (body_sent (text (get_or xs i d)))) (bodies_sent (map text (drop (i + 1) xs)))
next_turn text main last best xs i d within =
    ap (next_in main last best) (next_sent text xs i d within)
    ∙ next_append main last best (body_sent (text (get_or xs i d))) (bodies_sent (map text (drop (i + 1) xs)))

-- after the last telegram
pub next_last : {X : Type 0} (text : X → List ℕ) (main : Main) (last : Option Key) (best : Option Sent) (xs : List X) (n : ℕ) → length xs ≤ n
    → next_in main last best (bodies_sent (map text (drop n xs))) ≡ best
unfolding next_in
next_last text main last best xs n is = ap (next_in main last best) (last_sent text xs n is)

-- ---- a headline, record by record

pub all_left : (kind : ℕ) (main : Option Main) (ss : List Sent) → main ≡ main_of kind → headline_left 1048576 main None ss ≡ headline kind ss
unfolding headline
all_left kind main ss is = ap (λ (m : Option Main). headline_left 1048576 m None ss) is ∙ by_main (main_of kind)
  where
    by_main : (m : Option Main) → headline_left 1048576 m None ss ≡ headline_by m ss
    by_main None = refl
    by_main (Some main) = refl

pub none_left : (left : ℕ) (main : Option Main) (last : Option Key) (ss : List Sent) → left ≡ 0 → headline_left left main last ss ≡ []
none_left zero None last ss is = refl
none_left zero (Some main) last ss is = refl
none_left (suc n) main last ss is = absurd cc

pub no_main : (left : ℕ) (main : Option Main) (last : Option Key) (ss : List Sent) → main ≡ None → headline_left left main last ss ≡ []
no_main left main last ss is = ap (λ (m : Option Main). headline_left left m last ss) is

none_from : (left : ℕ) (main : Main) (last : Option Key) (ss : List Sent) → next_in main last None ss ≡ None → headline_from left main last ss ≡ []
none_from zero main last ss is = refl
none_from (suc n) main last ss is = ap (with_next (λ key. headline_from n main (Some key) ss)) is

pub none_next : (left : ℕ) (main : Option Main) (m : Main) (last : Option Key) (ss : List Sent) → main ≡ Some m → next_in m last None ss ≡ None
    → headline_left left main last ss ≡ []
none_next left main m last ss of is = ap (λ (o : Option Main). headline_left left o last ss) of ∙ none_from left m last ss is

others_from : (n : ℕ) (main : Main) (key : Key) (ss : List Sent) (total : Bool)
    → cond total [] (headline_from n main (Some key) ss) ≡ headline_from (cond total 0 n) main (Some key) ss
others_from n main key ss true = refl
others_from n main key ss false = refl

next_from : (left : ℕ) (main : Main) (last : Option Key) (ss : List Sent) (s : Sent) → left ≢ 0 → next_in main last None ss ≡ Some s
    → headline_from left main last ss ≡ s ∷ headline_from (left_after left s.entry.tariff) main (Some (key_of s)) ss
next_from zero main last ss s not is = absurd (not refl)
next_from (suc n) main last ss s not is =
    let less : n ≡ suc n - 1 = omega arith in
    ap (with_next (λ key. headline_from n main (Some key) ss)) is
    ∙ ap (λ (others : List Sent). s ∷ others) (others_from n main (key_of s) ss (eqb s.entry.tariff 0))
    ∙ ap (λ (k : ℕ). s ∷ headline_from (cond (eqb s.entry.tariff 0) 0 k) main (Some (key_of s)) ss) less

pub next_headline : (left : ℕ) (main : Option Main) (m : Main) (last : Option Key) (ss : List Sent) (s : Sent) → left ≢ 0 → main ≡ Some m → next_in m last None ss ≡ Some s
    → headline_left left main last ss ≡ s ∷ headline_left (left_after left s.entry.tariff) main (Some (key_of s)) ss
next_headline left main m last ss s not of is =
    ap (λ (o : Option Main). headline_left left o last ss) of ∙ next_from left m last ss s not is
    ∙ ap (λ (o : Option Main). s ∷ headline_left (left_after left s.entry.tariff) o (Some (key_of s)) ss) (sym of)
