-- What is left of a readout.
use Rattle.std.proofs.Common.{◌≡◌, ℕ, zero, suc, ◌+◌, Bool, true, false, List, [], ◌∷◌, drop, Option, Some, None, cond, arith, refl, sym, ◌∙◌, ap}
use Rattle.std.specs.Prelude.{slice_get, option_map}
use Rattle.std.proofs.lemmas.Bool.{false≢true, true≢false}
use Rattle.dc_readout.specs.World.{more_after, whole_readout}

-- the first of what is left, and what is left after it
record First (body : List ℕ) (bodies left : List (List ℕ)) : Type 0 where
  rest : List (List ℕ)
  left_is : left ≡ body ∷ rest
  goes : more_after body ≡ true → whole_readout bodies ≡ Some rest
  ends : more_after body ≡ false → rest ≡ []

first_left : (body : List ℕ) (bodies left : List (List ℕ)) → whole_readout (body ∷ bodies) ≡ Some left → First body bodies left
first_left body bodies left e = go (more_after body) refl (whole_readout bodies) refl e
  where
    go : (more : Bool) → more_after body ≡ more → (o : Option (List (List ℕ))) → whole_readout bodies ≡ o
        → cond more (option_map (λ rest. body ∷ rest) o) (Some (body ∷ [])) ≡ Some left → First body bodies left
    go true is None whole e = absurd cc
    go true is (Some rest) whole e =
        let same : body ∷ rest ≡ left = cc in
        record { rest = rest; left_is = sym same; goes = λ more. whole; ends = λ last. absurd (true≢false (sym is ∙ last)) }
    go false is o whole e =
        let same : body ∷ [] ≡ left = cc in
        record { rest = []; left_is = sym same; goes = λ more. absurd (false≢true (sym is ∙ more)); ends = λ last. refl }

-- the body of this place is the first of what is left
pub record Next (bodies : List (List ℕ)) (n : ℕ) (left : List (List ℕ)) : Type 0 where
  pub body : List ℕ
  pub rest : List (List ℕ)
  pub left_is : left ≡ body ∷ rest
  pub stands : slice_get bodies n ≡ Some body
  pub goes : more_after body ≡ true → whole_readout (drop (n + 1) bodies) ≡ Some rest
  pub ends : more_after body ≡ false → rest ≡ []

suc_plus : (n : ℕ) → suc n + 1 ≡ suc (n + 1)
suc_plus n = omega arith

pub next_of : (bodies : List (List ℕ)) (n : ℕ) (left : List (List ℕ)) → whole_readout (drop n bodies) ≡ Some left → Next bodies n left
next_of [] zero left e = absurd cc
next_of [] (suc n) left e = absurd cc
next_of (body ∷ bodies) zero left e =
    let f = first_left body bodies left e in
    record { body = body; rest = f.rest; left_is = f.left_is; stands = refl; goes = f.goes; ends = f.ends }
next_of (body ∷ bodies) (suc n) left e =
    let next = next_of bodies n left e in
    record {
      body = next.body;
      rest = next.rest;
      left_is = next.left_is;
      stands = next.stands;
      goes = λ more. ap (λ k. whole_readout (drop k (body ∷ bodies))) (suc_plus n) ∙ next.goes more;
      ends = next.ends;
    }

-- ---- what is left after one more

drop_none : {X : Type 0} (k : ℕ) (x : X) (rest : List X) → drop k [] ≡ x ∷ rest → ⊥
drop_none zero x rest e = cc
drop_none (suc k) x rest e = cc

drop_suc : {X : Type 0} (n : ℕ) (xs : List X) (x : X) (rest : List X) → drop n xs ≡ x ∷ rest → drop (suc n) xs ≡ rest
drop_suc n [] x rest e = absurd (drop_none n x rest e)
drop_suc zero (y ∷ ys) x rest e = cc
drop_suc (suc n) (y ∷ ys) x rest e = drop_suc n ys x rest e

pub drop_next : {X : Type 0} (n : ℕ) (xs : List X) (x : X) (rest : List X) → drop n xs ≡ x ∷ rest → drop (n + 1) xs ≡ rest
drop_next n xs x rest e = let more : n + 1 ≡ suc n = omega arith in ap (λ (k : ℕ). drop k xs) more ∙ drop_suc n xs x rest e
