-- What a commit keeps of a world.
use Rattle.std.proofs.Common.{◌≡◌, ℕ, zero, suc, ◌+◌, ◌≤◌, ◌<◌, inl, Bool, true, false, List, [], ◌∷◌, ◌++◌, length, take, Option, Some, None, ◌==◌, arith, refl, sym, ◌∙◌, ap, subst}
use Rattle.std.specs.Prelude.{slice_get, slice_set, unwrap_or, option_map}
use Rattle.std.specs.List.{AllByRecursion}
use Rattle.std.proofs.lemmas.Bool.{ne_eqb}
use Rattle.std.proofs.lemmas.Option.{slice_get_within}
use Rattle.dc_readout.specs.declared.stage.Stage.{Stage}
use Rattle.dc_readout.specs.declared.stage.Stage.TheVariants.{Resets, Selects, Requests, Pending, Ended}
use Rattle.dc_readout.specs.Summary.{settled_by, stage_settled}
use Rattle.dc_readout.specs.Meter.{Meter, Position}
use Rattle.dc_readout.specs.World.{World, Running, joined, kept, committed, committed_body, IsWhole, more_after, whole_readout}
use Rattle.dc_readout.specs.InStep.{bit_before, HasGoneOn, HasNotGoneOn, IsInStep, IsAlone, IsNextBody, Agrees, IsRegularWorld}

-- ---- lists

pub suc_is : (n : ℕ) → suc n ≡ n + 1
suc_is n = omega arith

pub take_one_more : {X : Type 0} (n : ℕ) (bodies : List X) (body : X) → slice_get bodies n ≡ Some body → take (suc n) bodies ≡ take n bodies ++ body ∷ []
take_one_more n [] body at = absurd cc
take_one_more zero (x ∷ xs) body at = let same : x ≡ body = cc in ap (λ b. b ∷ []) same
take_one_more (suc n) (x ∷ xs) body at = ap (λ rest. x ∷ rest) (take_one_more n xs body at)

module _ (P : List ℕ → Type 0) where
  all_one_more : (n : ℕ) (bodies : List (List ℕ)) (body : List ℕ) → slice_get bodies n ≡ Some body → AllByRecursion P (take n bodies) → P body → AllByRecursion P (take (suc n) bodies)
  all_one_more n [] body at all one = absurd cc
  all_one_more zero (x ∷ xs) body at all one = let same : x ≡ body = cc in (subst P (sym same) one, tt)
  all_one_more (suc n) (x ∷ xs) body at all one = (all.0, all_one_more n xs body at all.1 one)

pub all_with : {X : Type 0} (P : X → Type 0) (xs : List X) (x : X) → AllByRecursion P xs → P x → AllByRecursion P (xs ++ x ∷ [])
all_with P [] x all one = (one, tt)
all_with P (first ∷ xs) x all one = (all.0, all_with P xs x all.1 one)

length-slice_set : {X : Type 0} (xs : List X) (i : ℕ) (x : X) → length (slice_set xs i x) ≡ length xs
length-slice_set [] i x = refl
length-slice_set (first ∷ xs) zero x = refl
length-slice_set (first ∷ xs) (suc i) x = let rest = length-slice_set xs i x in omega arith

slice_get-set : {X : Type 0} (xs : List X) (i : ℕ) (x : X) → i < length xs → slice_get (slice_set xs i x) i ≡ Some x
slice_get-set [] i x within = absurd (omega arith)
slice_get-set (first ∷ xs) zero x within = refl
slice_get-set (first ∷ xs) (suc i) x within = slice_get-set xs i x (omega arith)

-- ---- readouts

abbrev More : List ℕ → Type 0
More body = more_after body ≡ true

whole_when : (n : ℕ) (bodies : List (List ℕ)) (body : List ℕ) → slice_get bodies n ≡ Some body → AllByRecursion More (take n bodies) → more_after body ≡ false
    → Some (take (suc n) bodies) ≡ whole_readout bodies
whole_when n [] body at all last = absurd cc
whole_when zero (x ∷ xs) body at all last =
    let same : x ≡ body = cc in
    let ends : more_after x ≡ false = ap more_after same ∙ last in
    rw ends refl
whole_when (suc n) (x ∷ xs) body at all last =
    let rest = whole_when n xs body at all.1 last in
    rw (all.0) (ap (option_map (λ bodies. x ∷ bodies)) rest)

joined_is : (n : ℕ) (bodies : List (List ℕ)) (body : List ℕ) (parts : Option (List (List ℕ))) → slice_get bodies n ≡ Some body → (1 ≤ n → parts ≡ Some (take n bodies))
    → joined (n + 1) body (unwrap_or parts []) ≡ take (suc n) bodies
joined_is zero bodies body parts at so_far = sym (take_one_more zero bodies body at)
joined_is (suc k) bodies body parts at so_far =
    let other : (suc k + 1 == 1) ≡ false = ne_eqb (suc k + 1) 1 (λ e. omega arith) in
    rw (other, so_far (omega arith)) (sym (take_one_more (suc k) bodies body at))

-- ---- a commit

pub record Pends (stage : Stage) (n : ℕ) (body : List ℕ) (bodies : List (List ℕ)) : Type 0 where
  pub stage_is : stage ≡ Pending (more_after body)
  pub is_next : slice_get bodies n ≡ Some body

pub pends : (stage : Stage) (n : ℕ) (body : List ℕ) (bodies : List (List ℕ)) → IsNextBody stage n (Some body) bodies → Pends stage n body bodies
pends Resets n body bodies waits = absurd cc
pends Selects n body bodies waits = absurd cc
pends Requests n body bodies waits = absurd cc
pends (Pending more) n body bodies waits = record { stage_is = ap Pending (sym waits.1); is_next = waits.0 }
pends Ended n body bodies waits = absurd cc

pub next_step : (n : ℕ) (p : Position) → HasGoneOn n p → HasNotGoneOn (n + 1) p
next_step n p gone = (gone.0, gone.1 ∙ ap bit_before (suc_is n))

alone_requests : (address : Option ℕ) (i : ℕ) (positions : List Position) → IsAlone (Pending true) address i positions → IsAlone Requests address i positions
alone_requests None i positions alone = alone
alone_requests (Some a) i positions alone = tt

module _ (meters : List Meter) (w : World) (r : Running) (is : IsRegularWorld meters w) (a : Agrees meters w r) (body : List ℕ) (p : Pends r.session.stage r.session.settled body a.meter.bodies) where
  abbrev n : ℕ
  n = r.session.settled

  abbrev parts : List (List ℕ)
  parts = joined (n + 1) body (unwrap_or (slice_get w.parts_open r.meter) [])

  parts_are : parts ≡ take (suc n) a.meter.bodies
  parts_are = joined_is n a.meter.bodies body (slice_get w.parts_open r.meter) p.is_next a.kept

  within : r.meter < length w.parts_open
  within = let i = slice_get_within meters r.meter a.meter a.stands.0 in omega (arith, i, is.counted.1)

  gone : HasGoneOn n a.position
  gone = subst (λ s. IsInStep s n a.position) p.stage_is a.step

  abbrev settled : Running
  settled = record r { session = settled_by r.session; waiting = None }

  settled_agrees : more_after body ≡ true → Agrees meters (kept true parts r w) settled
  settled_agrees more =
      let stage : r.session.stage ≡ Pending true = p.stage_is ∙ ap Pending more in
      let stage' : stage_settled r.session.stage ≡ Requests = ap stage_settled stage in
      record {
        meter = a.meter;
        position = a.position;
        stands = a.stands;
        whom = a.whom;
        step = subst (λ s. IsInStep s (n + 1) a.position) (sym stage') (inl (next_step n a.position gone));
        came = let i = slice_get_within a.meter.bodies n body p.is_next in omega (arith, i);
        follow = subst (λ k. AllByRecursion More (take k a.meter.bodies)) (suc_is n) (all_one_more More n a.meter.bodies body p.is_next a.follow more);
        kept = λ some. slice_get-set w.parts_open r.meter parts within ∙ ap Some (parts_are ∙ ap (λ k. take k a.meter.bodies) (suc_is n));
        waits = subst (λ s. IsNextBody s (n + 1) None a.meter.bodies) (sym stage') refl;
        alone = subst (λ s. IsAlone s r.session.address r.meter w.positions) (sym stage')
            (alone_requests r.session.address r.meter w.positions (subst (λ s. IsAlone s r.session.address r.meter w.positions) stage a.alone));
      }

  held_whole : more_after body ≡ false → IsWhole meters (record { meter = r.meter; parts = parts })
  held_whole last =
      (a.meter, a.stands.0, sym (ap Some parts_are ∙ whole_when n a.meter.bodies body p.is_next a.follow last))

  kept_keeps : (more : Bool) → more_after body ≡ more → IsRegularWorld meters (kept more parts r w)
  kept_keeps true e = record {
    counted = (is.counted.0, length-slice_set w.parts_open r.meter parts ∙ is.counted.1);
    whole = is.whole;
    agrees = λ r' runs. let same : settled ≡ r' = cc in subst (Agrees meters (kept true parts r w)) same (settled_agrees e);
  }
  kept_keeps false e = record {
    counted = (is.counted.0, length-slice_set w.parts_open r.meter [] ∙ is.counted.1);
    whole = all_with (IsWhole meters) w.held _ is.whole (held_whole e);
    agrees = λ r' runs. absurd cc;
  }

body_keeps : (meters : List Meter) (w : World) (r : Running) (waiting : Option (List ℕ)) → IsRegularWorld meters w → Agrees meters w r → r.waiting ≡ waiting
    → IsRegularWorld meters (committed_body waiting r w)
body_keeps meters w r None is a e = is
body_keeps meters w r (Some body) is a e =
    let next = subst (λ o. IsNextBody r.session.stage r.session.settled o a.meter.bodies) e a.waits in
    let p = pends r.session.stage r.session.settled body a.meter.bodies next in
    kept_keeps meters w r is a body p (more_after body) refl

pub commit_keeps : (meters : List Meter) (w : World) (running : Option Running) → IsRegularWorld meters w → w.running ≡ running → IsRegularWorld meters (committed running w)
commit_keeps meters w None is runs = is
commit_keeps meters w (Some r) is runs = body_keeps meters w r r.waiting is (is.agrees r runs) refl
