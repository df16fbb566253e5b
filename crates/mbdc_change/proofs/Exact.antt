-- Readings that take exactly what is spelled: what they take is spelled so, and what is spelled so they take,
-- whatever follows.
use Rattle.std.proofs.Common.{◌≡◌, ℕ, zero, suc, ◌<◌, ◌≤◌, Bool, true, false, cond, ltb, List, [], ◌∷◌, ◌++◌, length, take, drop, get_or, Option, Some, None, refl, sym, ap, subst, ◌∙◌, append_assoc, arith, length-append}
use Rattle.std.specs.Prelude.{All, Result, Ok, Err, IfOk}
use Rattle.std.specs.List.{flat_map}
use Rattle.std.proofs.lemmas.Bool.{ltb-false, le-ltb}
use Rattle.std.proofs.lemmas.List.{take_at, drop_at, take-append-drop, length-take}
use Rattle.std.proofs.lemmas.List.Elements.{All-nil, All-cons, All-head, All-tail}
use Rattle.std.proofs.lemmas.List.Concat.{flat_map-cons}
use Rattle.mbdc_change.specs.declared.decode_fault.DecodeFault.{DecodeFault}
use Rattle.mbdc_change.specs.Pieces.{Reader, Gives, ◌>>=◌, both, chosen, only, many, listed, split_at}

-- ---- bytes

abbrev pub IsBytes : List ℕ → Type 0
IsBytes bytes = (i : ℕ) → get_or bytes i 0 < 256

pub IsBytes-behind : (front rest : List ℕ) → IsBytes (front ++ rest) → IsBytes rest
IsBytes-behind [] rest are i = are i
IsBytes-behind (b ∷ front) rest are i = IsBytes-behind front rest (λ k. are (suc k)) i

pub IsBytes-front : (front rest : List ℕ) → IsBytes (front ++ rest) → IsBytes front
IsBytes-front [] rest are i = omega arith
IsBytes-front (b ∷ front) rest are zero = are zero
IsBytes-front (b ∷ front) rest are (suc i) = IsBytes-front front rest (λ k. are (suc k)) i

-- ---- what was taken

pub record Taken {X : Type 0} (Is : X → Type 0) (spelling : X → List ℕ) (bytes : List ℕ) (x : X) (rest : List ℕ) : Type 0 where
  pub is : Is x
  pub spelled : bytes ≡ spelling x ++ rest

pub rest_are : {X : Type 0} {Is : X → Type 0} {spelling : X → List ℕ} {bytes : List ℕ} {x : X} {rest : List ℕ} → Taken Is spelling bytes x rest → IsBytes bytes → IsBytes rest
rest_are {Is = Is} {spelling = spelling} {bytes = bytes} {x = x} {rest = rest} taken are = IsBytes-behind (spelling x) rest (subst IsBytes taken.spelled are)

pub record Exact {X : Type 0} (Is : X → Type 0) (spelling : X → List ℕ) (at : Reader X) : Type 0 where
  pub takes : (bytes : List ℕ) (x : X) (rest : List ℕ) → IsBytes bytes → at bytes ≡ Some (x, rest) → Taken Is spelling bytes x rest
  pub again : (x : X) (rest : List ℕ) → Is x → at (spelling x ++ rest) ≡ Some (x, rest)

-- the value of a step that was taken
pub bind_some : {A B : Type 0} (o : Option A) (f : A → Option B) (y : B) → (o >>= f) ≡ Some y → (x : A) × (o ≡ Some x) × (f x ≡ Some y)
bind_some (Some x) f y e = (x, refl, e)
bind_some None f y e = absurd cc

abbrev one : {A : Type 0} → A → Option A
one x = Some x

pub some_is : {A : Type 0} (x y : A) → one x ≡ one y → x ≡ y
some_is x y e = cc

pub chosen_if : {X : Type 0} (b : Bool) (x y : X) → cond b (Some x) None ≡ Some y → (b ≡ true) × (x ≡ y)
chosen_if true x y e = (refl, cc)
chosen_if false x y e = absurd cc

-- ---- ways to read

module _ {X Y : Type 0} {IsX : X → Type 0} {IsY : Y → Type 0} {f : X → List ℕ} {g : Y → List ℕ} where
  pub Exact-both : {first : Reader X} {second : Reader Y} → Exact IsX f first → Exact IsY g second
      → Exact (λ (p : X × Y). IsX p.0 × IsY p.1) (λ (p : X × Y). f p.0 ++ g p.1) (both first second)
  Exact-both {first} {second} a b = record {
    takes = λ bytes p rest are e.
        let s = bind_some (first bytes) (λ x. second x.1 >>= λ y. Some ((x.0, y.0), y.1)) (p, rest) e in
        let t = bind_some (second s.0.1) (λ y. Some ((s.0.0, y.0), y.1)) (p, rest) s.2 in
        let one = a.takes bytes s.0.0 s.0.1 are s.1 in
        let two = b.takes s.0.1 t.0.0 t.0.1 (rest_are one are) t.1 in
        let whole : bytes ≡ (f s.0.0 ++ g t.0.0) ++ t.0.1 = one.spelled ∙ ap (λ (l : List ℕ). f s.0.0 ++ l) two.spelled ∙ sym (append_assoc (f s.0.0) (g t.0.0) t.0.1) in
        subst (λ (q : (X × Y) × List ℕ). Taken (λ (p : X × Y). IsX p.0 × IsY p.1) (λ (p : X × Y). f p.0 ++ g p.1) bytes q.0 q.1)
        (some_is ((s.0.0, t.0.0), t.0.1) (p, rest) t.2) (record { is = (one.is, two.is); spelled = whole });
    again = λ p rest is.
        ap (both first second) (append_assoc (f p.0) (g p.1) rest) ∙ rw (a.again p.0 (g p.1 ++ rest) is.0, b.again p.1 rest is.1) refl;
  }

  -- what a value stands for, if each that is allowed is spelled as what stands for it
  pub Exact-chosen : {at : Reader X} (meaning : X → Option Y) → ((x : X) (y : Y) → IsX x → meaning x ≡ Some y → IsY y × (f x ≡ g y))
      → ((y : Y) → IsY y → (x : X) × IsX x × (meaning x ≡ Some y) × (f x ≡ g y)) → Exact IsX f at → Exact IsY g (chosen meaning at)
  Exact-chosen {at} meaning means stands a = record {
    takes = λ bytes y rest are e.
        let s = bind_some (at bytes) (λ x. meaning x.0 >>= λ y. Some (y, x.1)) (y, rest) e in
        let t = bind_some (meaning s.0.0) (λ y. Some (y, s.0.1)) (y, rest) s.2 in
        let one = a.takes bytes s.0.0 s.0.1 are s.1 in
        let two = means s.0.0 t.0 one.is t.1 in
        subst (λ (q : Y × List ℕ). Taken IsY g bytes q.0 q.1)
        (some_is (t.0, s.0.1) (y, rest) t.2) (record { is = two.0; spelled = one.spelled ∙ ap (λ (l : List ℕ). l ++ s.0.1) two.1 });
    again = λ y rest is.
        let s = stands y is in
        ap (λ (l : List ℕ). chosen meaning at (l ++ rest)) (sym s.3) ∙ rw (a.again s.0 rest s.1, s.2) refl;
  }

-- the next of a list whose spelling goes on where that of a beginning ends
pub record Next {X : Type 0} (Is : X → Type 0) (f : X → List ℕ) (xs ys : List X) (rest : List ℕ) : Type 0 where
  pub next : X
  pub others : List X
  pub parts : ys ≡ xs ++ next ∷ others
  pub spelled : rest ≡ f next ++ flat_map f others
  pub is : Is next

nothing_left : (front rest : List ℕ) → 0 < length rest → front ++ rest ≡ [] → ⊥
nothing_left front rest some e = omega (arith, length-append front rest, ap length e)

module _ {X : Type 0} {Is : X → Type 0} {f : X → List ℕ} {at : Reader X} where
  -- the same by other words
  pub Exact-restated : {Is' : X → Type 0} {g : X → List ℕ} → ((x : X) → Is x → Is' x) → ((x : X) → Is' x → Is x) → ((x : X) → f x ≡ g x) → Exact Is f at → Exact Is' g at
  Exact-restated {Is' = Is'} {g = g} to from same a = record {
    takes = λ bytes x rest are e.
        let one = a.takes bytes x rest are e in
        record { is = to x one.is; spelled = one.spelled ∙ ap (λ (l : List ℕ). l ++ rest) (same x) };
    again = λ x rest is. ap (λ (l : List ℕ). at (l ++ rest)) (sym (same x)) ∙ a.again x rest (from x is);
  }

  -- values that pass a test
  pub Exact-only : (test : X → Bool) → Exact Is f at → Exact (λ x. Is x × (test x ≡ true)) f (chosen (only test) at)
  Exact-only test a =
      Exact-chosen (only test)
      (λ x y is e. let c = chosen_if (test x) x y e in subst (λ (z : X). (Is z × (test z ≡ true)) × (f x ≡ f z)) c.1 ((is, c.0), refl))
      (λ y is. (y, is.0, rw is.1 refl, refl))
      a

  pub many_takes : Exact Is f at → (n : ℕ) (bytes : List ℕ) (xs : List X) (rest : List ℕ) → IsBytes bytes → many at n bytes ≡ Some (xs, rest)
      → Taken (λ (xs : List X). (length xs ≡ n) × All Is xs) (flat_map f) bytes xs rest
  many_takes a zero bytes xs rest are e =
      subst (λ (q : List X × List ℕ). Taken (λ (xs : List X). (length xs ≡ 0) × All Is xs) (flat_map f) bytes q.0 q.1)
      (some_is ([], bytes) (xs, rest) e) (record { is = (refl, All-nil Is); spelled = refl })
  many_takes a (suc n) bytes xs rest are e =
      let s = bind_some (at bytes) (λ x. many at n x.1 >>= λ xs. Some (x.0 ∷ xs.0, xs.1)) (xs, rest) e in
      let t = bind_some (many at n s.0.1) (λ xs. Some (s.0.0 ∷ xs.0, xs.1)) (xs, rest) s.2 in
      let first = a.takes bytes s.0.0 s.0.1 are s.1 in
      let others = many_takes a n s.0.1 t.0.0 t.0.1 (rest_are first are) t.1 in
      let whole : bytes ≡ flat_map f (s.0.0 ∷ t.0.0) ++ t.0.1 =
      first.spelled ∙ ap (λ (l : List ℕ). f s.0.0 ++ l) others.spelled
      ∙ sym (append_assoc (f s.0.0) (flat_map f t.0.0) t.0.1) ∙ ap (λ (l : List ℕ). l ++ t.0.1) (sym (flat_map-cons f s.0.0 t.0.0)) in
      subst (λ (q : List X × List ℕ). Taken (λ (xs : List X). (length xs ≡ suc n) × All Is xs) (flat_map f) bytes q.0 q.1)
      (some_is (s.0.0 ∷ t.0.0, t.0.1) (xs, rest) t.2) (record { is = (ap suc others.is.0, All-cons Is s.0.0 t.0.0 first.is others.is.1); spelled = whole })

  pub many_again : Exact Is f at → (xs : List X) (rest : List ℕ) → All Is xs → many at (length xs) (flat_map f xs ++ rest) ≡ Some (xs, rest)
  many_again a [] rest all = refl
  many_again a (x ∷ xs) rest all =
      ap (many at (suc (length xs))) (ap (λ (l : List ℕ). l ++ rest) (flat_map-cons f x xs) ∙ append_assoc (f x) (flat_map f xs) rest)
      ∙ rw (a.again x (flat_map f xs ++ rest) (All-head Is x xs all), many_again a xs rest (All-tail Is x xs all)) refl

  pub Exact-listed : {IsN : ℕ → Type 0} {h : ℕ → List ℕ} {count : Reader ℕ} → Exact IsN h count → Exact Is f at
      → Exact (λ (xs : List X). IsN (length xs) × All Is xs) (λ (xs : List X). h (length xs) ++ flat_map f xs) (listed count at)
  Exact-listed {IsN} {h} {count} c a = record {
    takes = λ bytes xs rest are e.
        let s = bind_some (count bytes) (λ n. many at n.0 n.1) (xs, rest) e in
        let one = c.takes bytes s.0.0 s.0.1 are s.1 in
        let two = many_takes a s.0.0 s.0.1 xs rest (rest_are one are) s.2 in
        let long : h s.0.0 ≡ h (length xs) = ap h (sym two.is.0) in
        record {
          is = (subst IsN (sym two.is.0) one.is, two.is.1);
          spelled = one.spelled ∙ ap (λ (l : List ℕ). l ++ s.0.1) long ∙ ap (λ (l : List ℕ). h (length xs) ++ l) two.spelled ∙ sym (append_assoc (h (length xs)) (flat_map f xs) rest);
        };
    again = λ xs rest is.
        ap (listed count at) (append_assoc (h (length xs)) (flat_map f xs) rest) ∙ rw (c.again (length xs) (flat_map f xs ++ rest) is.0) (many_again a xs rest is.1);
  }

  -- one spelling is the beginning of no other
  pub one_front : Exact Is f at → (x y : X) (a b : List ℕ) → Is x → Is y → f x ++ a ≡ f y ++ b → (x ≡ y) × (a ≡ b)
  one_front e x y a b is_x is_y same =
      let both_are : (x, a) ≡ (y, b) = some_is (x, a) (y, b) (sym (e.again x a is_x) ∙ ap at same ∙ e.again y b is_y) in
      (ap (λ (p : X × List ℕ). p.0) both_are, ap (λ (p : X × List ℕ). p.1) both_are)

  pub next_of : Exact Is f at → (xs ys : List X) (rest : List ℕ) → All Is xs → All Is ys → flat_map f xs ++ rest ≡ flat_map f ys → 0 < length rest → Next Is f xs ys rest
  next_of a [] [] rest all_x all_y e some = absurd (nothing_left [] rest some e)
  next_of a (x ∷ xs) [] rest all_x all_y e some = absurd (nothing_left (flat_map f (x ∷ xs)) rest some e)
  next_of a [] (y ∷ ys) rest all_x all_y e some = record { next = y; others = ys; parts = refl; spelled = e ∙ flat_map-cons f y ys; is = All-head Is y ys all_y }
  next_of a (x ∷ xs) (y ∷ ys) rest all_x all_y e some =
      let grouped : f x ++ (flat_map f xs ++ rest) ≡ f y ++ flat_map f ys =
      sym (append_assoc (f x) (flat_map f xs) rest) ∙ ap (λ (l : List ℕ). l ++ rest) (sym (flat_map-cons f x xs)) ∙ e ∙ flat_map-cons f y ys in
      let first = one_front a x y (flat_map f xs ++ rest) (flat_map f ys) (All-head Is x xs all_x) (All-head Is y ys all_y) grouped in
      let more = next_of a xs ys rest (All-tail Is x xs all_x) (All-tail Is y ys all_y) first.1 some in
      record {
        next = more.next;
        others = more.others;
        parts = ap (λ (z : X). z ∷ ys) (sym first.0) ∙ ap (λ (zs : List X). x ∷ zs) more.parts;
        spelled = more.spelled;
        is = more.is;
      }

  -- spellings that aren't empty, one after the other, are of one list
  pub one_list : Exact Is f at → ((x : X) → Is x → 0 < length (f x)) → (xs ys : List X) → All Is xs → All Is ys → flat_map f xs ≡ flat_map f ys → xs ≡ ys
  one_list a some [] [] all_x all_y e = refl
  one_list a some (x ∷ xs) [] all_x all_y e =
      absurd (omega (arith, some x (All-head Is x xs all_x), length-append (f x) (flat_map f xs), ap length (sym (flat_map-cons f x xs) ∙ e)))
  one_list a some [] (y ∷ ys) all_x all_y e =
      absurd (omega (arith, some y (All-head Is y ys all_y), length-append (f y) (flat_map f ys), ap length (sym (flat_map-cons f y ys) ∙ sym e)))
  one_list a some (x ∷ xs) (y ∷ ys) all_x all_y e =
      let grouped : f x ++ flat_map f xs ≡ f y ++ flat_map f ys = sym (flat_map-cons f x xs) ∙ e ∙ flat_map-cons f y ys in
      let first = one_front a x y (flat_map f xs) (flat_map f ys) (All-head Is x xs all_x) (All-head Is y ys all_y) grouped in
      ap (λ (z : X). z ∷ xs) first.0 ∙ ap (λ (zs : List X). y ∷ zs) (one_list a some xs ys (All-tail Is x xs all_x) (All-tail Is y ys all_y) first.1)

-- ---- this many bytes

abbrev cut : Bool → List ℕ → List ℕ → Option (List ℕ × List ℕ)
cut short text rest = cond short None (Some (text, rest))

split_by : (n : ℕ) (bytes text rest : List ℕ) (short : Bool) → ltb (length bytes) n ≡ short → cut short (take n bytes) (drop n bytes) ≡ Some (text, rest) → (length text ≡ n) × (bytes ≡ text ++ rest)
split_by n bytes text rest true short e = absurd cc
split_by n bytes text rest false short e =
    let enough : n ≤ length bytes = ltb-false _ _ short in
    let long : length (take n bytes) ≡ n = omega (arith, length-take n bytes) in
    subst (λ (p : List ℕ × List ℕ). (length p.0 ≡ n) × (bytes ≡ p.0 ++ p.1))
    (some_is (take n bytes, drop n bytes) (text, rest) e) (long, sym (take-append-drop n bytes))

pub split_takes : (n : ℕ) (bytes text rest : List ℕ) → split_at n bytes ≡ Some (text, rest) → (length text ≡ n) × (bytes ≡ text ++ rest)
split_takes n bytes text rest e = split_by n bytes text rest (ltb (length bytes) n) refl e

pub split_again : (text rest : List ℕ) → split_at (length text) (text ++ rest) ≡ Some (text, rest)
split_again text rest =
    let long : ltb (length (text ++ rest)) (length text) ≡ false = le-ltb _ _ (omega (arith, length-append text rest)) in
    rw (long, take_at text rest (length text) refl, drop_at text rest (length text) refl) refl

pub Exact-split : (n : ℕ) → Exact (λ (text : List ℕ). length text ≡ n) (λ (text : List ℕ). text) (split_at n)
Exact-split n = record {
  takes = λ bytes text rest are e. let s = split_takes n bytes text rest e in record { is = s.0; spelled = s.1 };
  again = λ text rest is. ap (λ (k : ℕ). split_at k (text ++ rest)) (sym is) ∙ split_again text rest;
}

-- what a function answered is as the reading takes it
pub as_taken : {Y Z : Type 0} {Is : Y → Type 0} {spelling : Y → List ℕ} {at : Reader Y} (view : Z → Y × List ℕ) (result : Result Z DecodeFault) (bytes : List ℕ) → Exact Is spelling at → IsBytes bytes
    → Gives view result (at bytes) → IfOk result (λ z. Is (view z).0)
as_taken view (Ok z) bytes exact are gives = (exact.takes bytes (view z).0 (view z).1 are gives).is
as_taken view (Err e) bytes exact are gives = tt
