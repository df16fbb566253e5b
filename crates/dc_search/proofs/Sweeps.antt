-- A search on a bus makes the selections of the walk one after the other.
use Rattle.std.proofs.Common.{◌≡◌, ◌≢◌, ℕ, zero, suc, ◌+◌, ◌-◌, ◌<◌, ◌≤◌, Bool, true, false, ◌&&◌, not, List, [], ◌∷◌, ◌++◌, Some, None, length, map, filter, take, drop, min, ◌==◌, nat_lt, nat_le, arith, ap, sym, ◌∙◌, refl, subst, length-append, length-drop, append-nil, inl}
use Rattle.std.proofs.lemmas.List.{take_all}
use Rattle.std.proofs.lemmas.Bool.{eq-eqb, eqb-false, le-leb, lt-leb, lt-ltb, ltb-false, ltb-true, ne_eqb}
use Rattle.std.proofs.lemmas.List.Concat.{flat_map-append}
use Rattle.std.proofs.lemmas.List.Elements.{filter_map-append}
use Rattle.std.specs.Prelude.{if◌then◌else◌}
use Rattle.std.specs.List.{cons_option, flat_map}
use Rattle.std.specs.Int.Digits.{number_from_digits}
use Rattle.dc_address.specs.Mask.{MaskParts, matches}
use Rattle.dc_address.specs.declared.identity.Identity.{Identity}
use Rattle.dc_linkframe.specs.Reading.{frame_of}
use Rattle.dc_search.specs.Answer.{answer_of}
use Rattle.dc_search.specs.Bus.{visited}
use Rattle.dc_search.proofs.Matching.{Has-filter}
use Rattle.dc_search.proofs.Ranges.{Has}
use Rattle.dc_search.specs.Prefix.{mask_of_digits}
use Rattle.dc_search.specs.State.{SearchState, after, after_collision, after_meter, after_one, after_shared, after_split, after_step, children, first_of, new_search, rest_of, step_by, step_of}
use Rattle.dc_search.specs.Walk.{Visit, found_in, found_of, has_collision, shared_in, shared_of, ten_digits, visit, walk, walk_of}
use Rattle.dc_search.specs.declared.step.Step.TheVariants.{Select, Done, Budget}

-- the walk from a mask of first digits
abbrev pub walk_from : List Identity → List ℕ → List Visit
walk_from bus digits = walk (8 - length digits) digits bus

abbrev pub AreShort : List (List ℕ) → Type 0
AreShort [] = Unit {0}
AreShort (digits ∷ rest) = (length digits ≤ 8) × AreShort rest

-- the selections so far are a prefix of the walk, and the masks due are where the rest of it begins
pub record Swept (bus : List Identity) (budget : ℕ) (s : SearchState) : Type 0 where
  pub left : drop s.selections (walk_of bus) ≡ flat_map (walk_from bus) s.due
  pub found_so : s.found ≡ found_of (take s.selections (walk_of bus))
  pub shared_so : s.shared ≡ shared_of (take s.selections (walk_of bus))
  pub calm : s.answered ≡ false
  pub short : AreShort s.due
  pub given : s.budget ≡ budget
  pub within : s.selections ≤ budget
  pub made : s.selections ≤ length (walk_of bus)

pub swept_new : (bus : List Identity) (budget : ℕ) → Swept bus budget (new_search budget)
swept_new bus budget = record {
  left = sym (append-nil (walk 8 [] bus));
  found_so = refl;
  shared_so = refl;
  calm = refl;
  short = (omega arith, tt);
  given = refl;
  within = omega arith;
  made = omega arith;
}

flat_map-map : {X Y Z : Type 0} (f : X → List Y) (g : Z → X) (zs : List Z) → flat_map f (map g zs) ≡ flat_map (λ z. f (g z)) zs
flat_map-map f g [] = refl
flat_map-map f g (z ∷ zs) = ap (λ ys. f (g z) ++ ys) (flat_map-map f g zs)

-- where the walk goes on after a selection
abbrev next_due : List ℕ → Bool → List (List ℕ)
next_due digits collides = if collides && not (length digits == 8) then children digits else []

flat_map-same : (f g : ℕ → List Visit) (ds : List ℕ) → ((d : ℕ) → f d ≡ g d) → flat_map f ds ≡ flat_map g ds
flat_map-same f g [] same = refl
flat_map-same f g (d ∷ ds) same = ap (λ ys. ys ++ flat_map f ds) (same d) ∙ ap (λ ys. g d ++ ys) (flat_map-same f g ds same)

step_leaf : (digits : List ℕ) (bus : List Identity) (collides : Bool) → length digits ≡ 8 → [] ≡ flat_map (walk_from bus) (next_due digits collides)
step_leaf digits bus false eight = refl
step_leaf digits bus true eight =
    sym (ap (λ b. flat_map (walk_from bus) (if true && not b then children digits else [])) (eq-eqb (length digits) 8 eight))

step_inner : (places : ℕ) (digits : List ℕ) (bus : List Identity) (collides : Bool) → length digits + suc places ≡ 8
    → (if collides then flat_map (λ digit. walk places (digits ++ digit ∷ []) bus) ten_digits else []) ≡ flat_map (walk_from bus) (next_due digits collides)
step_inner places digits bus false eight = refl
step_inner places digits bus true eight =
    flat_map-same (λ digit. walk places (digits ++ digit ∷ []) bus) (λ digit. walk_from bus (digits ++ digit ∷ [])) ten_digits
    (λ digit. let free : places ≡ 8 - length (digits ++ digit ∷ []) = omega (arith, length-append digits (digit ∷ [])) in ap (λ n. walk n (digits ++ digit ∷ []) bus) free)
    ∙ sym (flat_map-map (walk_from bus) (λ digit. digits ++ digit ∷ []) ten_digits)
    ∙ sym (ap (λ b. flat_map (walk_from bus) (if true && not b then children digits else [])) (ne_eqb (length digits) 8 (λ e. omega arith)))

-- one selection, and what it leaves
walk_step : (places : ℕ) (digits : List ℕ) (bus : List Identity) → length digits + places ≡ 8
    → walk places digits bus ≡ visit digits bus ∷ flat_map (walk_from bus) (next_due digits (has_collision (visit digits bus)))
unfolding walk
walk_step zero digits bus eight = ap (λ more. visit digits bus ∷ more) (step_leaf digits bus (has_collision (visit digits bus)) (omega arith))
walk_step (suc places) digits bus eight = ap (λ more. visit digits bus ∷ more) (step_inner places digits bus (has_collision (visit digits bus)) eight)

-- the first element of what is left is the next one
taken_more : {X : Type 0} (xs : List X) (n : ℕ) (x : X) (rest : List X) → drop n xs ≡ x ∷ rest
    → (take (n + 1) xs ≡ take n xs ++ x ∷ []) × (drop (n + 1) xs ≡ rest) × (n < length xs)
taken_more [] zero x rest is = cc
taken_more (y ∷ ys) zero x rest is =
    let first : y ≡ x = cc in
    let others : ys ≡ rest = cc in
    (ap (λ z. z ∷ []) first, others, omega arith)
taken_more [] (suc n) x rest is = cc
taken_more (y ∷ ys) (suc n) x rest is =
    let later = taken_more ys n x rest is in
    let next : suc n + 1 ≡ suc (n + 1) = omega arith in
    (ap (λ k. take k (y ∷ ys)) next ∙ ap (λ zs. y ∷ zs) later.0, ap (λ k. drop k (y ∷ ys)) next ∙ later.1, omega (arith, later.2))

short_children : (digits ds : List ℕ) (rest : List (List ℕ)) → length digits < 8 → AreShort rest → AreShort (map (λ digit. digits ++ digit ∷ []) ds ++ rest)
short_children digits [] rest few short = short
short_children digits (d ∷ ds) rest few short = (omega (arith, length-append digits (d ∷ [])), short_children digits ds rest few short)

short_by : (digits : List ℕ) (rest : List (List ℕ)) (collides full : Bool) → (length digits == 8) ≡ full → length digits ≤ 8 → AreShort rest
    → AreShort ((if collides && not full then children digits else []) ++ rest)
short_by digits rest false full is few short = short
short_by digits rest true true is few short = short
short_by digits rest true false is few short =
    let other : length digits ≢ 8 = eqb-false (length digits) 8 is in
    short_children digits ten_digits rest (omega arith) short

-- a state after a selection, by its parts
swept_with : (bus : List Identity) (budget : ℕ) (s next : SearchState) (digits : List ℕ) (rest : List (List ℕ)) (v : Visit)
    → s.due ≡ digits ∷ rest → s.selections < s.budget → v ≡ visit digits bus → Swept bus budget s
    → next.due ≡ next_due digits (has_collision v) ++ rest
    → next.found ≡ s.found ++ found_of (v ∷ []) → next.shared ≡ s.shared ++ shared_of (v ∷ [])
    → next.answered ≡ false → next.selections ≡ s.selections + 1 → next.budget ≡ s.budget
    → Swept bus budget next
swept_with bus budget s next digits rest v due room is so next_is found shared calm made given =
    let w : List Visit = walk_of bus in
    let short : AreShort (digits ∷ rest) = subst AreShort due so.short in
    let ahead : drop s.selections w ≡ v ∷ flat_map (walk_from bus) (next_due digits (has_collision v) ++ rest) =
    so.left ∙ ap (flat_map (walk_from bus)) due
    ∙ ap (λ vs. vs ++ flat_map (walk_from bus) rest) (walk_step (8 - length digits) digits bus (omega (arith, short.0)))
    ∙ ap (λ u. (u ∷ flat_map (walk_from bus) (next_due digits (has_collision u))) ++ flat_map (walk_from bus) rest) (sym is)
    ∙ ap (λ vs. v ∷ vs) (sym (flat_map-append (walk_from bus) (next_due digits (has_collision v)) rest)) in
    let parts = taken_more w s.selections v (flat_map (walk_from bus) (next_due digits (has_collision v) ++ rest)) ahead in
    record {
      left = ap (λ n. drop n w) made ∙ parts.1 ∙ ap (flat_map (walk_from bus)) (sym next_is);
      found_so = found ∙ ap (λ xs. xs ++ found_of (v ∷ [])) so.found_so ∙ sym (filter_map-append found_in (take s.selections w) (v ∷ []))
          ∙ ap found_of (sym parts.0) ∙ ap (λ n. found_of (take n w)) (sym made);
      shared_so = shared ∙ ap (λ xs. xs ++ shared_of (v ∷ [])) so.shared_so ∙ sym (filter_map-append shared_in (take s.selections w) (v ∷ []))
          ∙ ap shared_of (sym parts.0) ∙ ap (λ n. shared_of (take n w)) (sym made);
      calm = calm;
      short = subst AreShort (sym next_is) (short_by digits rest (has_collision v) (length digits == 8) refl short.0 short.1);
      given = given ∙ so.given;
      within = omega (arith, made, so.given);
      made = omega (arith, made, parts.2);
    }

visit_of : List ℕ → List Identity → Visit
visit_of digits matching = record { digits = digits; matching = matching }

-- a selection was answered
abbrev pub counted : SearchState → SearchState
counted s = record s { answered = true; selections = s.selections + 1 }

-- the answers of more than one meter
swept_collided : (bus : List Identity) (budget : ℕ) (s : SearchState) (digits : List ℕ) (rest : List (List ℕ)) (x y : Identity) (more : List Identity) (full : Bool)
    → (length digits == 8) ≡ full → s.due ≡ digits ∷ rest → s.selections < s.budget → visit_of digits (x ∷ y ∷ more) ≡ visit digits bus
    → Swept bus budget s → Swept bus budget (if full then after_shared (counted s) else after_split (counted s))
unfolding visit_of
swept_collided bus budget s digits rest x y more true is due room same so =
    let v : Visit = visit_of digits (x ∷ y ∷ more) in
    let collides : has_collision v ≡ true = lt-ltb 1 (length (x ∷ y ∷ more)) (omega arith) in
    let nothing : next_due digits (has_collision v) ≡ [] =
    ap (λ c. if c && not (length digits == 8) then children digits else []) collides
    ∙ ap (λ f. if true && not f then children digits else []) is in
    let number : shared_in v ≡ Some (number_from_digits 10 digits) =
    ap (λ c. if c && length digits == 8 then Some (number_from_digits 10 digits) else None) collides
    ∙ ap (λ f. if true && f then Some (number_from_digits 10 digits) else None) is in
    swept_with bus budget s (after_shared (counted s)) digits rest v due room same so
    (ap rest_of due ∙ ap (λ ds. ds ++ rest) (sym nothing)) (sym (append-nil s.found))
    (ap (λ ds. s.shared ++ number_from_digits 10 (first_of ds) ∷ []) due ∙ ap (λ o. s.shared ++ cons_option o []) (sym number))
    refl refl refl
swept_collided bus budget s digits rest x y more false is due room same so =
    let v : Visit = visit_of digits (x ∷ y ∷ more) in
    let collides : has_collision v ≡ true = lt-ltb 1 (length (x ∷ y ∷ more)) (omega arith) in
    let ten : next_due digits (has_collision v) ≡ children digits =
    ap (λ c. if c && not (length digits == 8) then children digits else []) collides
    ∙ ap (λ f. if true && not f then children digits else []) is in
    let unshared : shared_in v ≡ None =
    ap (λ c. if c && length digits == 8 then Some (number_from_digits 10 digits) else None) collides
    ∙ ap (λ f. if true && f then Some (number_from_digits 10 digits) else None) is in
    swept_with bus budget s (after_split (counted s)) digits rest v due room same so
    (ap (λ ds. children (first_of ds) ++ rest_of ds) due ∙ ap (λ ds. ds ++ rest) (sym ten)) (sym (append-nil s.found))
    (sym (ap (λ o. s.shared ++ cons_option o []) unshared ∙ append-nil s.shared))
    refl refl refl

pub swept_more : (bus : List Identity) (budget : ℕ) (s : SearchState) (digits : List ℕ) (rest : List (List ℕ)) (matching : List Identity)
    → s.due ≡ digits ∷ rest → s.selections < s.budget → matching ≡ filter (matches (mask_of_digits digits)) bus
    → Swept bus budget s → Swept bus budget (visited matching s)
unfolding visit_of
swept_more bus budget s digits rest [] due room are so =
    swept_with bus budget s (visited [] s) digits rest (visit_of digits []) due room (ap (visit_of digits) are) so
    (ap rest_of due) (sym (append-nil s.found)) (sym (append-nil s.shared)) refl refl refl
swept_more bus budget s digits rest (x ∷ []) due room are so =
    swept_with bus budget s (visited (x ∷ []) s) digits rest (visit_of digits (x ∷ [])) due room (ap (visit_of digits) are) so
    (ap rest_of due) refl (sym (append-nil s.shared)) refl refl refl
swept_more bus budget s digits rest (x ∷ y ∷ more) due room are so =
    subst (λ ds. Swept bus budget (if length ds == 8 then after_shared (counted s) else after_split (counted s))) (sym (ap first_of due))
    (swept_collided bus budget s digits rest x y more (length digits == 8) refl due room (ap (visit_of digits) are) so)

-- a selection is due where the step is one
due_by : (due : List (List ℕ)) (answered left : Bool) (mask : MaskParts) → step_by due answered left ≡ Select mask
    → (digits : List ℕ) × (rest : List (List ℕ)) × (due ≡ digits ∷ rest) × (left ≡ true) × (mask ≡ mask_of_digits digits)
due_by [] answered left mask is = cc
due_by (digits ∷ rest) true left mask is = cc
due_by (digits ∷ rest) false false mask is = cc
due_by (digits ∷ rest) false true mask is = let same : mask ≡ mask_of_digits digits = cc in (digits, rest, refl, refl, same)

pub due_select : (s : SearchState) (mask : MaskParts) → step_of s ≡ Select mask
    → (digits : List ℕ) × (rest : List (List ℕ)) × (s.due ≡ digits ∷ rest) × (s.selections < s.budget) × (mask ≡ mask_of_digits digits)
due_select s mask is =
    let by = due_by s.due s.answered (nat_lt s.selections s.budget) mask is in
    (by.0, by.1, by.2, ltb-true s.selections s.budget by.3, by.4)

-- the end of a sweep
pub record SweptOut (bus : List Identity) (budget : ℕ) (s : SearchState) : Type 0 where
  pub found_so : s.found ≡ found_of (take budget (walk_of bus))
  pub shared_so : s.shared ≡ shared_of (take budget (walk_of bus))
  pub made : s.selections ≡ min budget (length (walk_of bus))
  pub stands : step_of s ≡ (if nat_le (length (walk_of bus)) budget then Done else Budget)

-- every selection of the walk was made
out_done : (bus : List Identity) (budget : ℕ) (s : SearchState) → s.due ≡ [] → Swept bus budget s → SweptOut bus budget s
out_done bus budget s due so =
    let w : List Visit = walk_of bus in
    let none : drop s.selections w ≡ [] = so.left ∙ ap (flat_map (walk_from bus)) due in
    let all : s.selections ≡ length w = omega (arith, sym (length-drop s.selections w) ∙ ap length none, so.made) in
    let fits : length w ≤ budget = omega (arith, so.within) in
    let whole : take budget w ≡ take s.selections w = take_all budget w fits ∙ sym (take_all s.selections w (omega arith)) in
    record {
      found_so = so.found_so ∙ ap found_of (sym whole);
      shared_so = so.shared_so ∙ ap shared_of (sym whole);
      made = omega arith;
      stands = ap (λ ds. step_by ds s.answered (nat_lt s.selections s.budget)) due ∙ ap (λ b. if b then Done else Budget) (sym (le-leb (length w) budget fits));
    }

-- the budget ran out
out_spent : (bus : List Identity) (budget : ℕ) (s : SearchState) (digits : List ℕ) (rest : List (List ℕ)) → s.due ≡ digits ∷ rest → nat_lt s.selections s.budget ≡ false
    → Swept bus budget s → SweptOut bus budget s
out_spent bus budget s digits rest due spent so =
    let w : List Visit = walk_of bus in
    let last : s.budget ≤ s.selections = ltb-false s.selections s.budget spent in
    let all : s.selections ≡ budget = omega (arith, so.within, so.given) in
    let short : AreShort (digits ∷ rest) = subst AreShort due so.short in
    let ahead : drop s.selections w ≡ visit digits bus ∷ (flat_map (walk_from bus) (next_due digits (has_collision (visit digits bus))) ++ flat_map (walk_from bus) rest) =
    so.left ∙ ap (flat_map (walk_from bus)) due
    ∙ ap (λ vs. vs ++ flat_map (walk_from bus) rest) (walk_step (8 - length digits) digits bus (omega (arith, short.0))) in
    let more : s.selections < length w = (taken_more w s.selections (visit digits bus) _ ahead).2 in
    let long : nat_le (length w) budget ≡ false = lt-leb (length w) budget (omega arith) in
    record {
      found_so = so.found_so ∙ ap (λ n. found_of (take n w)) all;
      shared_so = so.shared_so ∙ ap (λ n. shared_of (take n w)) all;
      made = omega arith;
      stands = ap (λ ds. step_by ds s.answered (nat_lt s.selections s.budget)) due
          ∙ ap (λ a. step_by (digits ∷ rest) a (nat_lt s.selections s.budget)) so.calm
          ∙ ap (λ l. step_by (digits ∷ rest) false l) spent
          ∙ ap (λ b. if b then Done else Budget) (sym long);
    }

out_by : (bus : List Identity) (budget : ℕ) (s : SearchState) (due : List (List ℕ)) (left : Bool) → s.due ≡ due → nat_lt s.selections s.budget ≡ left
    → ((mask : MaskParts) → step_of s ≡ Select mask → ⊥) → Swept bus budget s → SweptOut bus budget s
out_by bus budget s [] left due is ended so = out_done bus budget s due so
out_by bus budget s (digits ∷ rest) false due is ended so = out_spent bus budget s digits rest due is so
out_by bus budget s (digits ∷ rest) true due is ended so =
    absurd (ended (mask_of_digits digits)
    (ap (λ ds. step_by ds s.answered (nat_lt s.selections s.budget)) due
    ∙ ap (λ a. step_by (digits ∷ rest) a (nat_lt s.selections s.budget)) so.calm
    ∙ ap (λ l. step_by (digits ∷ rest) false l) is))

pub swept_out : (bus : List Identity) (budget : ℕ) (s : SearchState) → ((mask : MaskParts) → step_of s ≡ Select mask → ⊥) → Swept bus budget s → SweptOut bus budget s
swept_out bus budget s ended so = out_by bus budget s s.due (nat_lt s.selections s.budget) refl refl ended so

-- ---- what is received on a bus

pub heard_byte : (s : SearchState) (mask : MaskParts) (byte : ℕ) → step_of s ≡ Select mask → after (byte ∷ []) s ≡ counted s
heard_byte s mask byte is = ap (λ step. after_step step (byte ∷ []) s) is

requested : (s : SearchState) (mask : MaskParts) (bytes : List ℕ) → step_of s ≡ Select mask → after bytes (counted s) ≡ after_meter (answer_of bytes) (counted s)
requested s mask bytes is =
    let due = due_select s mask is in
    ap (λ step. after_step step bytes (counted s)) (ap (λ ds. step_by ds true (nat_lt (s.selections + 1) s.budget)) due.2)

pub heard_one : (s : SearchState) (mask : MaskParts) (bus : List Identity) (meter : Identity) (bytes : List ℕ) → step_of s ≡ Select mask
    → filter (matches mask) bus ≡ meter ∷ [] → answer_of bytes ≡ Some meter → after bytes (counted s) ≡ visited (filter (matches mask) bus) s
heard_one s mask bus meter bytes is only answer =
    let due = due_select s mask is in
    let own : mask_of_digits (first_of s.due) ≡ mask = ap mask_of_digits (ap first_of due.2) ∙ sym due.4 in
    let fits : matches mask meter ≡ true = Has-filter (matches mask) bus meter (subst (λ ms. Has ms meter) (sym only) (inl refl)) in
    requested s mask bytes is
    ∙ ap (λ o. after_meter o (counted s)) answer
    ∙ ap (λ m. if matches m meter then after_one meter (counted s) else after_collision (counted s)) own
    ∙ ap (λ b. if b then after_one meter (counted s) else after_collision (counted s)) fits
    ∙ ap (λ ms. visited ms s) (sym only)

collided : (s : SearchState) (meters : List Identity) → 1 < length meters → after_collision (counted s) ≡ visited meters s
collided s [] more = absurd (omega arith)
collided s (x ∷ []) more = absurd (omega arith)
collided s (x ∷ y ∷ rest) more = refl

pub heard_more : (s : SearchState) (mask : MaskParts) (meters : List Identity) (bytes : List ℕ) → step_of s ≡ Select mask
    → 1 < length meters → answer_of bytes ≡ None → after bytes (counted s) ≡ visited meters s
heard_more s mask meters bytes is more answer =
    requested s mask bytes is ∙ ap (λ o. after_meter o (counted s)) answer ∙ collided s meters more

-- one byte 00 is no frame
pub noise : answer_of (0 ∷ []) ≡ None
unfolding answer_of frame_of
noise = refl
