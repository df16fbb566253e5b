-- What is published is what holds, where the code finds it so.
use Rattle.std.proofs.Common.{arith, ◌≡◌, ◌&&◌, ◌||◌, ◌+◌, ◌-◌, ◌≤◌, ℕ, zero, suc, List, [], ◌∷◌, Bool, true, false, map, length, take, drop, get_or, Bor}
use Rattle.std.proofs.Common.{refl, sym, ap, ◌∙◌, subst, eqb-true}
use Rattle.std.specs.Prelude.{◌==◌, All, Contains, codes}
use Rattle.std.specs.Str.{bytes_eq}
use Rattle.std.specs.Cmp.Lexicographic.{bytes_decides}
use Rattle.mbdc_audit.specs.declared.house.Number as number_type
use Rattle.mbdc_audit.specs.House.{Number}
use Rattle.mbdc_audit.specs.Judged.{are_said, is_asked, is_said, is_text_said}
use Rattle.mbdc_audit.specs.View.{beside_count, number_by, number_of}
use Rattle.mbdc_audit.specs.File.{AsksNothing}

-- ---- lists

take_all : {X : Type 0} (n : ℕ) (xs : List X) → n ≡ length xs → take n xs ≡ xs
take_all zero [] e = refl
take_all zero (x ∷ xs) e = absurd (omega (arith, e))
take_all (suc n) [] e = absurd (omega (arith, e))
take_all (suc n) (x ∷ xs) e = ap (λ (l : List _). x ∷ l) (take_all n xs (omega (arith, e)))

map_take : {X Y : Type 0} (f : X → Y) (n : ℕ) (xs : List X) → map f (take n xs) ≡ take n (map f xs)
map_take f zero xs = refl
map_take f (suc n) [] = refl
map_take f (suc n) (x ∷ xs) = ap (λ (l : List _). f x ∷ l) (map_take f n xs)

pub texts_split : {X : Type 0} (f : X → List ℕ) (held : List X) (v : X) → 1 ≤ length held → v ≡ get_or held 0 v
    → map f held ≡ f v ∷ map f (take (length held - 1) (drop 1 held))
texts_split f [] v some e = absurd (omega (arith, some))
texts_split f (x ∷ held) v some e = ap (λ (y : _). f y ∷ map f held) (sym e)
    ∙ ap (λ (l : List _). f v ∷ map f l) (sym (take_all (length (x ∷ held) - 1) held (omega arith)))

-- ---- the fields of a number

front : (count : ℕ) → 1 + count - 1 ≡ count
front count = omega arith

pub text_by : (n : number_type.Number) (fields : List (Bor (List ℕ))) (d : Bor (List ℕ)) → d.now ≡ []
    → (number_by n (map (λ f. f.now) fields)).text ≡ (get_or fields 0 d).now
text_by n [] d e = sym e
text_by n (x ∷ fields) d e = refl

beside_by : (n : number_type.Number) (fields : List (Bor (List ℕ))) (count : ℕ) → count ≡ beside_count n.word
    → (number_by n (map (λ f. f.now) fields)).beside ≡ map (λ f. f.now) (take count (drop 1 fields))
beside_by n [] zero e = refl
beside_by n [] (suc count) e = refl
beside_by n (x ∷ fields) count e = ap (λ (k : ℕ). take k (map (λ f. f.now) fields)) (sym e) ∙ sym (map_take (λ f. f.now) count fields)

by_fields : (n : Number) (said text : List ℕ) (more beside : List (List ℕ)) (texts : List (List ℕ)) → n.text ≡ said → n.beside ≡ more → texts ≡ text ∷ beside
    → (is_text_said said text && are_said more beside) ≡ is_said n texts
by_fields n said text more beside texts e f g =
    ap (λ (s : List ℕ). is_text_said s text && are_said more beside) (sym e)
    ∙ (ap (λ (m : List (List ℕ)). is_text_said n.text text && are_said m beside) (sym f)
    ∙ ap (λ (l : List (List ℕ)). is_said n l) (sym g))

pub said_by : (n : number_type.Number) (count : ℕ) (d : Bor (List ℕ)) (text : List ℕ) (beside texts : List (List ℕ)) (r q : Bool)
    → count ≡ beside_count n.word → d.now ≡ [] → texts ≡ text ∷ beside
    → r ≡ is_text_said (get_or n.said 0 d).now text → q ≡ are_said (map (λ f. f.now) (take (1 + count - 1) (drop 1 n.said))) beside
    → (r && q) ≡ is_said (number_of n) texts
said_by n count d text beside texts r q e f g h i =
    let more : List (List ℕ) = map (λ f. f.now) (take count (drop 1 n.said)) in
    ap (λ (b : Bool). b && q) h ∙ (ap (λ (b : Bool). is_text_said (get_or n.said 0 d).now text && b) i
    ∙ (ap (λ (k : ℕ). is_text_said (get_or n.said 0 d).now text && are_said (map (λ f. f.now) (take k (drop 1 n.said))) beside) (front count)
    ∙ by_fields (number_of n) (get_or n.said 0 d).now text more beside texts (text_by n n.said d f) (beside_by n n.said count e) g))

-- ---- nothing is asked

not_asked_by : (byte : ℕ) (rest : List ℕ) (b : Bool) → (byte == 63) ≡ b → (Contains (byte ∷ rest) 63 → ⊥) → b ≡ false
not_asked_by byte rest true e none = absurd (none (0, omega arith, eqb-true byte 63 e))
not_asked_by byte rest false e none = refl

pub not_asked : (text : List ℕ) → (Contains text 63 → ⊥) → is_asked text ≡ false
not_asked [] none = refl
not_asked (byte ∷ rest) none = not_asked_by byte rest (byte == 63) refl none

pub same_true : (a b : List ℕ) → bytes_eq a b ≡ true → a ≡ b
same_true a b e = (bytes_decides a b).0 e

pub true_same : (a b : List ℕ) → a ≡ b → bytes_eq a b ≡ true
true_same a b e = (bytes_decides a b).1 e

not_mark_by : (field : List ℕ) (b : Bool) → bytes_eq field (codes "?") ≡ b → (Contains field 63 → ⊥) → b ≡ false
not_mark_by field true e none = absurd (subst (λ (f : List ℕ). Contains f 63 → ⊥) (same_true field (codes "?") e) none (0, omega arith, refl))
not_mark_by field false e none = refl

pub not_mark : (field : List ℕ) → (Contains field 63 → ⊥) → bytes_eq field (codes "?") ≡ false
not_mark field none = not_mark_by field (bytes_eq field (codes "?")) refl none

pub both : (a b : Bool) → (a && b) ≡ true → (a ≡ true) × (b ≡ true)
both true b e = (refl, e)
both false b e = absurd cc

are_same : (fields texts : List (List ℕ)) → All (λ text. Contains text 63 → ⊥) fields → are_said fields texts ≡ true → fields ≡ texts
are_same [] [] none e = refl
are_same [] (t ∷ texts) none e = absurd cc
are_same (f ∷ fields) [] none e = absurd cc
are_same (f ∷ fields) (t ∷ texts) none e =
    let two = both (bytes_eq f (codes "?") || bytes_eq f t) (are_said fields texts) e in
    let one : f ≡ t = same_true f t (ap (λ (b : Bool). b || bytes_eq f t) (sym (not_mark f (none 0 f (omega arith)))) ∙ two.0) in
    let more : fields ≡ texts = are_same fields texts (λ k d lt. none (suc k) d (omega (arith, lt))) two.1 in
    ap (λ (x : List ℕ). x ∷ fields) one ∙ ap (λ (l : List (List ℕ)). t ∷ l) more

or_true : (b : Bool) → (b || true) ≡ true
or_true true = refl
or_true false = refl

said_same : (fields : List (List ℕ)) → are_said fields fields ≡ true
said_same [] = refl
said_same (f ∷ fields) = ap (λ (b : Bool). (bytes_eq f (codes "?") || b) && are_said fields fields) (true_same f f refl)
    ∙ (ap (λ (b : Bool). b && are_said fields fields) (or_true (bytes_eq f (codes "?"))) ∙ said_same fields)

-- A NUMBER that asks nothing says what holds exactly if it is the same
pub says : (n : Number) (text : List ℕ) (beside : List (List ℕ)) → AsksNothing n → is_said n (text ∷ beside) ≡ true → (n.text ≡ text) × (n.beside ≡ beside)
says n text beside none e =
    let two = both (is_text_said n.text text) (are_said n.beside beside) e in
    let one : n.text ≡ text = same_true n.text text (ap (λ (b : Bool). b || bytes_eq n.text text) (sym (not_asked n.text (none 0 n.text (omega arith)))) ∙ two.0) in
    (one, are_same n.beside beside (λ k d lt. none (suc k) d (omega (arith, lt))) two.1)

pub is_same : (n : Number) (text : List ℕ) (beside : List (List ℕ)) → n.text ≡ text → n.beside ≡ beside → is_said n (text ∷ beside) ≡ true
is_same n text beside e f =
    ap (λ (b : Bool). (is_asked n.text || b) && are_said n.beside beside) (true_same n.text text e)
    ∙ (ap (λ (b : Bool). b && are_said n.beside beside) (or_true (is_asked n.text))
    ∙ (ap (λ (l : List (List ℕ)). are_said l beside) f ∙ said_same beside))
