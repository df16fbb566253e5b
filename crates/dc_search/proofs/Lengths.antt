-- How many selections a walk makes: each level of digits has at most half as many collisions as there are meters.
use Rattle.std.proofs.Common.{◌≡◌, ℕ, zero, suc, ◌+◌, ◌*◌, ◌^◌, ◌<◌, ◌≤◌, Bool, true, false, ◌&&◌, cond, List, [], ◌∷◌, ◌++◌, length, filter, nat_lt, nat_le, arith, ap, sym, ◌∙◌, refl, subst, length-append, add-one}
use Rattle.std.specs.Prelude.{if◌then◌else◌}
use Rattle.std.specs.List.{flat_map}
use Rattle.std.proofs.Math.Nat.{mul-le-mul_left, pow-suc}
use Rattle.std.proofs.lemmas.Bool.{and_from, and_parts, le-leb, leb-true, lt-ltb, ltb-true}
use Rattle.std.proofs.lemmas.Bool.Decides.{nat_tests}
use Rattle.std.proofs.lemmas.List.Elements.{filter_agree}
use Rattle.dc_address.specs.Mask.{matches}
use Rattle.dc_address.specs.declared.identity.Identity.{Identity}
use Rattle.dc_search.specs.Prefix.{mask_of_digits}
use Rattle.dc_search.specs.Walk.{has_collision, ten_digits, visit, walk, walk_of}
use Rattle.dc_search.proofs.Matching.{node_from, node_in}
use Rattle.dc_search.proofs.Prefixes.{Node, node_child, node_root}
use Rattle.dc_search.proofs.Walks.{counting, counted}

-- how many meters have a number of the range
pub in_range : ℕ → ℕ → Identity → Bool
in_range low high meter = nat_le low meter.number && nat_lt meter.number high

pub inside : ℕ → ℕ → List Identity → ℕ
inside low high bus = length (filter (in_range low high) bus)

length-cond : (b : Bool) (x : Identity) (xs : List Identity) → length (cond b (x ∷ xs) xs) ≡ cond b 1 0 + length xs
length-cond true x xs = omega arith
length-cond false x xs = omega arith

split_test : (low middle high n : ℕ) → low ≤ middle → middle ≤ high
    → cond (nat_le low n && nat_lt n middle) 1 0 + cond (nat_le middle n && nat_lt n high) 1 0 ≡ cond (nat_le low n && nat_lt n high) 1 0
split_test low middle high n first second = grind (arith, nat_tests)

inside-split : (low middle high : ℕ) (bus : List Identity) → low ≤ middle → middle ≤ high
    → inside low middle bus + inside middle high bus ≡ inside low high bus
unfolding inside in_range
inside-split low middle high [] first second = refl
inside-split low middle high (x ∷ xs) first second =
    let one = length-cond (in_range low middle x) x (filter (in_range low middle) xs) in
    let two = length-cond (in_range middle high x) x (filter (in_range middle high) xs) in
    let all = length-cond (in_range low high x) x (filter (in_range low high) xs) in
    let head = split_test low middle high x.number first second in
    let tail : inside low middle xs + inside middle high xs ≡ inside low high xs = inside-split low middle high xs first second in
    omega arith

same_tests : (b c : Bool) → (b ≡ true → c ≡ true) → (c ≡ true → b ≡ true) → b ≡ c
same_tests true true there back = refl
same_tests true false there back = sym (there refl)
same_tests false true there back = back refl
same_tests false false there back = refl

inside_node : (digits : List ℕ) (free number : ℕ) (bus : List Identity) → Node digits free number
    → length (filter (matches (mask_of_digits digits)) bus) ≡ inside (number * 10 ^ free) (number * 10 ^ free + 10 ^ free) bus
unfolding inside in_range
inside_node digits free number bus node =
    ap length (filter_agree (matches (mask_of_digits digits)) (in_range (number * 10 ^ free) (number * 10 ^ free + 10 ^ free))
    (λ meter. same_tests (matches (mask_of_digits digits) meter) (in_range (number * 10 ^ free) (number * 10 ^ free + 10 ^ free) meter)
    (λ is. let range = node_in digits free number meter node is in
    and_from _ _ (le-leb (number * 10 ^ free) meter.number range.0) (lt-ltb meter.number (number * 10 ^ free + 10 ^ free) range.1))
    (λ is. let parts = and_parts (nat_le (number * 10 ^ free) meter.number) (nat_lt meter.number (number * 10 ^ free + 10 ^ free)) is in
    node_from digits free number meter node (leb-true _ _ parts.0) (ltb-true _ _ parts.1)))
    bus)

-- ---- the bound

sum_bound : (a b count k i j t : ℕ) → a ≤ 1 + k * i → b ≤ count + k * j → i + j ≡ t → a + b ≤ suc count + k * t
sum_bound a b count k i j t first second whole = subst (λ n. a + b ≤ suc count + k * n) whole (omega arith)

module _ (free : ℕ) (digits : List ℕ) (number : ℕ) (bus : List Identity) where
  children_length : ((digit : ℕ) → digit < 10 → length (walk free (digits ++ digit ∷ []) bus) ≤ 1 + 5 * free * inside ((number * 10 + digit) * 10 ^ free) ((number * 10 + digit) * 10 ^ free + 10 ^ free) bus)
      → (from count : ℕ) → from + count ≡ 10
      → length (flat_map (λ digit. walk free (digits ++ digit ∷ []) bus) (counting from count)) ≤ count + 5 * free * inside ((number * 10 + from) * 10 ^ free) ((number * 10 + 10) * 10 ^ free) bus
  unfolding counting
  children_length each from zero total = omega arith
  children_length each from (suc count) total =
      let power : ℕ = 10 ^ free in
      let low : ℕ = (number * 10 + from) * power in
      let top : ℕ = (number * 10 + 10) * power in
      let seam : low + power ≡ (number * 10 + suc from) * power = omega arith in
      let room : low + power ≤ top = let fewer : number * 10 + suc from ≤ number * 10 + 10 = omega arith in let wide : power * (number * 10 + suc from) ≤ power * (number * 10 + 10) = mul-le-mul_left power fewer in omega arith in
      let first : length (walk free (digits ++ from ∷ []) bus) ≤ 1 + 5 * free * inside low (low + power) bus = each from (omega arith) in
      let rest : length (flat_map (λ digit. walk free (digits ++ digit ∷ []) bus) (counting (suc from) count)) ≤ count + 5 * free * inside (low + power) top bus =
      subst (λ n. length (flat_map (λ digit. walk free (digits ++ digit ∷ []) bus) (counting (suc from) count)) ≤ count + 5 * free * inside n top bus) (sym seam)
      (children_length each (suc from) count (omega arith)) in
      subst (λ n. n ≤ suc count + 5 * free * inside low top bus) (sym (length-append (walk free (digits ++ from ∷ []) bus) (flat_map (λ digit. walk free (digits ++ digit ∷ []) bus) (counting (suc from) count))))
      (sum_bound _ _ count (5 * free) (inside low (low + power) bus) (inside (low + power) top bus) (inside low top bus) first rest
      (inside-split low (low + power) top bus (omega arith) room))

level_bound : (free e t : ℕ) → 1 < e → t ≤ 10 + 5 * free * e → suc t ≤ 1 + 5 * suc free * e
level_bound free e t more below =
    let wide : 5 * suc free * e ≡ 5 * free * e + 5 * e = ap (λ n. 5 * n * e) (sym (add-one free)) ∙ omega arith in omega arith

length_by : (digits : List ℕ) (free number : ℕ) (bus : List Identity) (collides : Bool) → has_collision (visit digits bus) ≡ collides → Node digits (suc free) number
    → ((digit : ℕ) → digit < 10 → length (walk free (digits ++ digit ∷ []) bus) ≤ 1 + 5 * free * inside ((number * 10 + digit) * 10 ^ free) ((number * 10 + digit) * 10 ^ free + 10 ^ free) bus)
    → suc (length (if collides then flat_map (λ digit. walk free (digits ++ digit ∷ []) bus) ten_digits else [])) ≤ 1 + 5 * suc free * inside (number * 10 ^ suc free) (number * 10 ^ suc free + 10 ^ suc free) bus
length_by digits free number bus false is node each = omega arith
length_by digits free number bus true is node each =
    let power : ℕ = 10 ^ free in
    let wide : 10 ^ suc free ≡ power * 10 = pow-suc 10 free in
    let low : (number * 10 + 0) * power ≡ number * 10 ^ suc free = omega (arith, ap (λ n. number * n) wide) in
    let high : (number * 10 + 10) * power ≡ number * 10 ^ suc free + 10 ^ suc free = omega (arith, ap (λ n. number * n) wide) in
    let e : ℕ = inside (number * 10 ^ suc free) (number * 10 ^ suc free + 10 ^ suc free) bus in
    let more : 1 < e = subst (λ n. 1 < n) (inside_node digits (suc free) number bus node) (ltb-true 1 _ is) in
    let children : length (flat_map (λ digit. walk free (digits ++ digit ∷ []) bus) ten_digits) ≤ 10 + 5 * free * e =
    subst (λ n. length (flat_map (λ digit. walk free (digits ++ digit ∷ []) bus) ten_digits) ≤ 10 + 5 * free * inside n (number * 10 ^ suc free + 10 ^ suc free) bus) low
    (subst (λ n. length (flat_map (λ digit. walk free (digits ++ digit ∷ []) bus) ten_digits) ≤ 10 + 5 * free * inside ((number * 10 + 0) * power) n bus) high
    (subst (λ ds. length (flat_map (λ digit. walk free (digits ++ digit ∷ []) bus) ds) ≤ 10 + 5 * free * inside ((number * 10 + 0) * power) ((number * 10 + 10) * power) bus) counted
    (children_length free digits number bus each 0 10 refl))) in
    level_bound free e (length (flat_map (λ digit. walk free (digits ++ digit ∷ []) bus) ten_digits)) more children

pub walk_length : (free : ℕ) (digits : List ℕ) (number : ℕ) (bus : List Identity) → Node digits free number
    → length (walk free digits bus) ≤ 1 + 5 * free * inside (number * 10 ^ free) (number * 10 ^ free + 10 ^ free) bus
unfolding walk
walk_length zero digits number bus node = omega arith
walk_length (suc free) digits number bus node =
    length_by digits free number bus (has_collision (visit digits bus)) refl node
    (λ digit small. walk_length free (digits ++ digit ∷ []) (number * 10 + digit) bus (node_child digits free number digit small node))

cond_bound : (b : Bool) (x : Identity) (xs : List Identity) (n : ℕ) → length xs ≤ n → length (cond b (x ∷ xs) xs) ≤ suc n
cond_bound true x xs n below = omega arith
cond_bound false x xs n below = omega arith

length-filter-le : (p : Identity → Bool) (bus : List Identity) → length (filter p bus) ≤ length bus
length-filter-le p [] = omega arith
length-filter-le p (x ∷ xs) = let e = length-cond (p x) x (filter p xs) in let rest = length-filter-le p xs in cond_bound (p x) x (filter p xs) (length xs) rest

-- at most forty selections a meter, and the first
pub length-walk_of-le : (bus : List Identity) → length (walk_of bus) ≤ 1 + 40 * length bus
unfolding inside
length-walk_of-le bus =
    let bound : length (walk 8 [] bus) ≤ 1 + 40 * inside 0 100000000 bus = walk_length 8 [] 0 bus node_root in
    let fewer : length (filter (in_range 0 100000000) bus) ≤ length bus = length-filter-le (in_range 0 100000000) bus in
    omega arith
