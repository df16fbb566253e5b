-- What decides a moment, by the values as the code has them.
use Rattle.std.proofs.Common.{arith, ◌≡◌, ◌-◌, ◌&&◌, ◌||◌, ℕ, zero, suc, List, [], ◌∷◌, ◌++◌, length, Bool, true, false, not, map, filter, eqb-true}
use Rattle.std.proofs.lemmas.Bool.{and_parts}
use Rattle.std.proofs.Common.{refl, sym, ap, ◌∙◌, Result, Ok, Err, drop, take, if◌then◌else◌}
use Rattle.std.specs.Prelude.{All, ◌==◌, nat_le, nat_lt}
use Rattle.std.specs.List.{list_any}
use Rattle.mbdc_audit.specs.Amount.{ahead, counting, deciding, last_of, lies_at, passed, no_text, told, is_put}
use Rattle.mbdc_audit.specs.House.{Source, Value, put}
use Rattle.mbdc_audit.specs.Kept.{are_one, does_count, kept, know, known_source, lasting}
use Rattle.mbdc_audit.specs.View.{amount_or_0, as_known, known_in, known_of, seen_value, source_of, value_by}
use Rattle.mbdc_audit.specs.Walk.{is_found}
use Rattle.mbdc_audit.specs.declared.house.Value as value_type

-- ---- lists

pub any_map : {X Y : Type 0} (p : Y → Bool) (f : X → Y) (xs : List X) → list_any p (map f xs) ≡ list_any (λ x. p (f x)) xs
any_map p f [] = refl
any_map p f (x ∷ xs) = ap (λ (b : Bool). p (f x) || b) (any_map p f xs)

pub filter_map_of : {X Y : Type 0} (p : Y → Bool) (f : X → Y) (xs : List X)
    → filter p (map f xs) ≡ map f (filter (λ x. p (f x)) xs)
filter_map_of p f [] = refl
filter_map_of p f (x ∷ xs) = elim (p (f x)) as (λ (b : Bool). (if b then f x ∷ filter p (map f xs) else filter p (map f xs))
    ≡ map f (if b then x ∷ filter (λ y. p (f y)) xs else filter (λ y. p (f y)) xs))
    [ true ↦ ap (λ l. f x ∷ l) (filter_map_of p f xs) | false ↦ filter_map_of p f xs ]

last_map : {X Y : Type 0} (f : X → Y) (xs : List X) → last_of (map f xs) ≡ map f (last_of xs)
last_map f [] = refl
last_map f (x ∷ []) = refl
last_map {X} {Y} f (x ∷ y ∷ xs) =
    let e : length (f x ∷ f y ∷ map f xs) - 1 ≡ suc (length (f y ∷ map f xs) - 1) = omega arith in
    let e' : length (x ∷ y ∷ xs) - 1 ≡ suc (length (y ∷ xs) - 1) = omega arith in
    ap (λ (n : ℕ). drop n (f x ∷ f y ∷ map f xs)) e
    ∙ (last_map f (y ∷ xs) ∙ sym (ap (λ (n : ℕ). map f (drop n (x ∷ y ∷ xs))) e'))

first_map : {X Y : Type 0} (f : X → Y) (xs : List X) → take 1 (map f xs) ≡ map f (take 1 xs)
first_map f [] = refl
first_map f (x ∷ xs) = refl

-- ---- the last of several

-- what a definition has of a value
abbrev pub shape : (value_type.Value → ℕ) → (value_type.Value → Source) → value_type.Value → Value
shape amount source v = record { run = v.run; moment = v.moment; amount = amount v; source = source v }

pub counting_map : (n : value_type.Value → ℕ) (s : value_type.Value → Source) (xs : List value_type.Value)
    → counting (map (shape n s) xs) ≡ map (shape n s) (lasting xs)
counting_map n s [] = refl
counting_map n s (a ∷ []) = refl
counting_map n s (a ∷ b ∷ rest) =
    elim (are_one a b) as (λ (t : Bool). (if t then counting (shape n s b ∷ map (shape n s) rest)
    else shape n s a ∷ counting (shape n s b ∷ map (shape n s) rest))
    ≡ map (shape n s) (if t then lasting (b ∷ rest) else a ∷ lasting (b ∷ rest))) [
      | true ↦ counting_map n s (b ∷ rest)
      | false ↦ ap (λ (l : List Value). shape n s a ∷ l) (counting_map n s (b ∷ rest))
    ]

record First (b : value_type.Value) (l : List value_type.Value) : Type 0 where
  head : value_type.Value
  tail : List value_type.Value
  is : l ≡ head ∷ tail
  run : head.run ≡ b.run
  moment : head.moment ≡ b.moment

one_run : (a b : value_type.Value) → are_one a b ≡ true → a.run ≡ b.run
one_run a b e = eqb-true a.run b.run (and_parts (a.run == b.run) (a.moment == b.moment) e).0

pub one_moment : (a b : value_type.Value) → are_one a b ≡ true → a.moment ≡ b.moment
one_moment a b e = eqb-true a.moment b.moment (and_parts (a.run == b.run) (a.moment == b.moment) e).1

first_is : (b : value_type.Value) (rest : List value_type.Value) → First b (lasting (b ∷ rest))
first_is b [] = record { head = b; tail = []; is = refl; run = refl; moment = refl }
first_is b (d ∷ rest) =
    elim (are_one b d) as (λ (t : Bool). (t ≡ true → b.run ≡ d.run) → (t ≡ true → b.moment ≡ d.moment)
    → First b (if t then lasting (d ∷ rest) else b ∷ lasting (d ∷ rest))) [
      | true ↦ λ r m. let f = first_is d rest in record {
        head = f.head;
        tail = f.tail;
        is = f.is;
        run = f.run ∙ sym (r refl);
        moment = f.moment ∙ sym (m refl);
      }
      | false ↦ λ r m. record { head = b; tail = lasting (d ∷ rest); is = refl; run = refl; moment = refl }
    ] (one_run b d) (one_moment b d)

again_after : (a b : value_type.Value) (l : List value_type.Value) → First b l → are_one a b ≡ false → lasting l ≡ l
    → lasting (a ∷ l) ≡ a ∷ l
again_after a b l f apart same =
    let other : are_one a f.head ≡ false =
    ap (λ (r : ℕ). (a.run == r) && (a.moment == f.head.moment)) f.run
    ∙ (ap (λ (m : ℕ). (a.run == b.run) && (a.moment == m)) f.moment ∙ apart) in
    ap (λ (x : List value_type.Value). lasting (a ∷ x)) f.is
    ∙ (ap (λ (t : Bool). if t then lasting (f.head ∷ f.tail) else a ∷ lasting (f.head ∷ f.tail)) other
    ∙ (ap (λ (x : List value_type.Value). a ∷ lasting x) (sym f.is) ∙ ap (λ (x : List value_type.Value). a ∷ x) same))

pub lasting_again : (xs : List value_type.Value) → lasting (lasting xs) ≡ lasting xs
lasting_again [] = refl
lasting_again (a ∷ []) = refl
lasting_again (a ∷ b ∷ rest) =
    elim (are_one a b) as (λ (t : Bool). (t ≡ false → are_one a b ≡ false)
    → lasting (if t then lasting (b ∷ rest) else a ∷ lasting (b ∷ rest)) ≡ (if t then lasting (b ∷ rest) else a ∷ lasting (b ∷ rest))) [
      | true ↦ λ e. lasting_again (b ∷ rest)
      | false ↦ λ e. again_after a b (lasting (b ∷ rest)) (first_is b rest) (e refl) (lasting_again (b ∷ rest))
    ] (λ e. e)

-- ---- what has evidence

abbrev pub Found : value_type.Value → Type 0
Found v = is_found v.found ≡ true

known_by : {E : Type 0} (v : value_type.Value) (r : Result ℕ E) (b : Bool) → map (as_known b) (value_by v r)
    ≡ (if is_found r then (record { run = v.run; moment = v.moment; amount = amount_or_0 r; source = if b then put true no_text else source_of v }) ∷ [] else [])
known_by v (Ok n) true = refl
known_by v (Ok n) false = refl
known_by v (Err e) b = refl

pub known_is : (v : value_type.Value) → known_of v ≡ (if is_found v.found then know v ∷ [] else [])
known_is v = known_by v v.found v.is_again

pub known_list : (xs : List value_type.Value) → All Found xs → known_in xs ≡ map know xs
known_list [] h = refl
known_list (v ∷ xs) h =
    let here : is_found v.found ≡ true = h 0 v (omega arith) in
    ap (λ (l : List Value). l ++ known_in xs) (known_is v ∙ ap (λ (b : Bool). if b then know v ∷ [] else []) here)
    ∙ ap (λ (l : List Value). know v ∷ l) (known_list xs (λ k d lt. h (suc k) d (omega (arith, lt))))

filter_not : (p : Value → Bool) (b : Bool) (k : Value) (ys : List Value) → filter p ((if b then k ∷ [] else []) ++ ys)
    ≡ (if b && p k then k ∷ filter p ys else filter p ys)
filter_not p true k ys = refl
filter_not p false k ys = refl

-- the values that count are those that are known and, where that is asked for, weren't put
pub known_kept : (t : Bool) (xs : List value_type.Value)
    → (if t then told (known_in xs) else known_in xs) ≡ map know (filter (does_count t) xs)
known_kept true [] = refl
known_kept false [] = refl
known_kept true (v ∷ xs) =
    ap (λ (l : List Value). told (l ++ known_in xs)) (known_is v)
    ∙ (filter_not (λ (x : Value). not (is_put x.source)) (is_found v.found) (know v) (known_in xs)
    ∙ elim (is_found v.found && not (is_put (known_source v))) as (λ (b : Bool).
    (if b then know v ∷ told (known_in xs) else told (known_in xs))
    ≡ map know (if b then v ∷ filter (does_count true) xs else filter (does_count true) xs)) [
      | true ↦ ap (λ (l : List Value). know v ∷ l) (known_kept true xs)
      | false ↦ known_kept true xs
    ])
known_kept false (v ∷ xs) =
    ap (λ (l : List Value). l ++ known_in xs) (known_is v)
    ∙ elim (is_found v.found) as (λ (b : Bool). ((if b then know v ∷ [] else []) ++ known_in xs)
    ≡ map know (if b && true then v ∷ filter (does_count false) xs else filter (does_count false) xs)) [
      | true ↦ ap (λ (l : List Value). know v ∷ l) (known_kept false xs)
      | false ↦ known_kept false xs
    ]

-- ---- what is kept

all_more : (P : value_type.Value → Type 0) (x : value_type.Value) (xs : List value_type.Value) → P x → All P xs → All P (x ∷ xs)
all_more P x xs h t zero d lt = h
all_more P x xs h t (suc k) d lt = t k d (omega (arith, lt))

counted_found : (t : Bool) (xs : List value_type.Value) → All Found (filter (does_count t) xs)
counted_found t [] = λ k d lt. absurd (omega (arith, lt))
counted_found t (v ∷ xs) = elim (does_count t v) as (λ (b : Bool). (b ≡ true → Found v)
    → All Found (if b then v ∷ filter (does_count t) xs else filter (does_count t) xs)) [
      | true ↦ λ f. all_more Found v (filter (does_count t) xs) (f refl) (counted_found t xs)
      | false ↦ λ f. counted_found t xs
    ] (λ e. (and_parts (is_found v.found) (not (t && is_put (known_source v))) e).0)

rest_all : (P : value_type.Value → Type 0) (x : value_type.Value) (xs : List value_type.Value) → All P (x ∷ xs) → All P xs
rest_all P x xs h k d lt = h (suc k) d (omega (arith, lt))

lasting_all : (P : value_type.Value → Type 0) (xs : List value_type.Value) → All P xs → All P (lasting xs)
lasting_all P [] h = h
lasting_all P (a ∷ []) h = h
lasting_all P (a ∷ b ∷ rest) h = elim (are_one a b) as (λ (t : Bool). All P (if t then lasting (b ∷ rest) else a ∷ lasting (b ∷ rest))) [
  | true ↦ lasting_all P (b ∷ rest) (rest_all P a (b ∷ rest) h)
  | false ↦ all_more P a (lasting (b ∷ rest)) (h 0 a (omega arith)) (lasting_all P (b ∷ rest) (rest_all P a (b ∷ rest) h))
]

pub kept_found : (t : Bool) (xs : List value_type.Value) → All Found (kept t xs)
kept_found t xs = lasting_all Found (filter (does_count t) xs) (counted_found t xs)

pub kept_again : (t : Bool) (xs : List value_type.Value) → lasting (kept t xs) ≡ kept t xs
kept_again t xs = lasting_again (filter (does_count t) xs)

pub kept_known : (t : Bool) (xs : List value_type.Value)
    → known_in (kept t xs) ≡ counting (if t then told (known_in xs) else known_in xs)
kept_known t xs = known_list (kept t xs) (kept_found t xs)
    ∙ (sym (counting_map (λ v. amount_or_0 v.found) known_source (filter (does_count t) xs))
    ∙ ap counting (sym (known_kept t xs)))

found_same : (xs : List value_type.Value) → filter (does_count false) xs ≡ filter (λ v. is_found v.found) xs
found_same [] = refl
found_same (v ∷ xs) = elim (is_found v.found) as (λ (b : Bool).
    (if b && true then v ∷ filter (does_count false) xs else filter (does_count false) xs)
    ≡ (if b then v ∷ filter (λ x. is_found x.found) xs else filter (λ x. is_found x.found) xs)) [
      | true ↦ ap (λ (l : List value_type.Value). v ∷ l) (found_same xs)
      | false ↦ found_same xs
    ]

pub kept_seen : (xs : List value_type.Value)
    → map seen_value (kept false xs) ≡ counting (map seen_value (filter (λ v. is_found v.found) xs))
kept_seen xs = sym (counting_map (λ v. amount_or_0 v.found) source_of (filter (does_count false) xs))
    ∙ ap (λ (l : List value_type.Value). counting (map seen_value l)) (found_same xs)

-- ---- what decides

pub decided : (n : value_type.Value → ℕ) (s : value_type.Value → Source) (t : ℕ) (xs : List value_type.Value)
    (before after : List value_type.Value) → lasting xs ≡ xs → before ≡ last_of (filter (λ v. nat_le v.moment t) xs)
    → after ≡ (if list_any (λ v. v.moment == t) xs then [] else take 1 (filter (λ v. nat_lt t v.moment) xs))
    → deciding t (map (shape n s) xs) ≡ map (shape n s) before ++ map (shape n s) after
decided n s t xs before after same is_before is_after =
    let f = shape n s in
    let counts : counting (map f xs) ≡ map f xs = counting_map n s xs ∙ ap (map f) same in
    let one : last_of (passed t (counting (map f xs))) ≡ map f before =
    ap (λ (l : List Value). last_of (passed t l)) counts
    ∙ (ap last_of (filter_map_of (λ (v : Value). nat_le v.moment t) f xs)
    ∙ (last_map f (filter (λ v. nat_le v.moment t) xs) ∙ sym (ap (map f) is_before))) in
    let two : take 1 (ahead t (counting (map f xs))) ≡ map f (take 1 (filter (λ v. nat_lt t v.moment) xs)) =
    ap (λ (l : List Value). take 1 (ahead t l)) counts
    ∙ (ap (take 1) (filter_map_of (λ (v : Value). nat_lt t v.moment) f xs)
    ∙ first_map f (filter (λ v. nat_lt t v.moment) xs)) in
    let there : list_any (lies_at t) (map f xs) ≡ list_any (λ v. v.moment == t) xs = any_map (lies_at t) f xs in
    let next : (if list_any (lies_at t) (map f xs) then [] else take 1 (ahead t (counting (map f xs)))) ≡ map f after =
    ap (λ (b : Bool). if b then [] else take 1 (ahead t (counting (map f xs)))) there
    ∙ (elim (list_any (λ (v : value_type.Value). v.moment == t) xs) as (λ (b : Bool). (if b then [] else take 1 (ahead t (counting (map f xs))))
    ≡ map f (if b then [] else take 1 (filter (λ v. nat_lt t v.moment) xs))) [ true ↦ refl | false ↦ two ]
    ∙ sym (ap (map f) is_after)) in
    ap (λ (l : List Value). l ++ (if list_any (lies_at t) (map f xs) then [] else take 1 (ahead t (counting (map f xs))))) one
    ∙ ap (λ (l : List Value). map f before ++ l) next

pub decided_known : (t : ℕ) (xs before after : List value_type.Value) → All Found xs → lasting xs ≡ xs
    → before ≡ last_of (filter (λ v. nat_le v.moment t) xs)
    → after ≡ (if list_any (λ v. v.moment == t) xs then [] else take 1 (filter (λ v. nat_lt t v.moment) xs))
    → deciding t (known_in xs) ≡ map know before ++ map know after
decided_known t xs before after found same is_before is_after = ap (deciding t) (known_list xs found)
    ∙ decided (λ v. amount_or_0 v.found) known_source t xs before after same is_before is_after

-- ---- entries

map_twice : {X : Type 0} (f : Value → X) (xs : List value_type.Value) → map f (map know xs) ≡ map (λ v. f (know v)) xs
map_twice f [] = refl
map_twice {X} f (v ∷ xs) = ap (λ (l : List X). f (know v) ∷ l) (map_twice f xs)

pub map_known : {X : Type 0} (f : Value → X) (xs : List value_type.Value) → All Found xs
    → map (λ v. f (know v)) xs ≡ map f (known_in xs)
map_known f xs found = sym (ap (map f) (known_list xs found) ∙ map_twice f xs)
