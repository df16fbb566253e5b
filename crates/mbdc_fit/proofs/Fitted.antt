-- What `fit` does to a disk, by what it does to the store that is open on it.
use Rattle.std.proofs.Common.{◌≡◌, ◌∙◌, ◌⊎◌, inl, inr, ⊎_elim, ℕ, Bool, true, false, Result, Ok, Err, List, [], length, ◌∷◌, refl, sym, ap, subst, arith}
use Rattle.std.specs.Prelude.{IfErr, IfOk, if◌then◌else◌}
use Rattle.std.proofs.lemmas.List.Elements.{All-nil}
use Rattle.mbdc_change.specs.State.{State, Held}
use Rattle.mbdc_change.specs.History.{after, AcceptsAll}
use Rattle.mbdc_change.specs.Spelled.{SpellsChanges}
use Rattle.mbdc_change.specs.Valid.{IsChange}
use Rattle.mbdc_change.specs.declared.change.Change.{Change}
use Rattle.dc_sectors.proofs.Moments.{followed, weakened}
use Rattle.dc_sectors.specs.Disk.{Image, settled}
use Rattle.dc_sectors.specs.Runs.{LeavesOnly}
use Rattle.dc_sectors.specs.declared.device.Disk.{Ghosts}
use Rattle.mbdc_fit.proofs.Copies.{same_held}
use Rattle.mbdc_fit.specs.declared.fault.FitFault.{FitFault}
use Rattle.mbdc_fit.specs.declared.fault.FitFault.TheVariants.{Open, NoMemory, Disk}
use Rattle.mbdc_fit.specs.Fit.{Fits, FitsAll, IfDisk, IsBefore, IsListed, Lists, ListsAll, fitted}
use Rattle.mbdc_fit.specs.Plan.{IsOneGroup, Outcome}
use Rattle.mbdc_fit.specs.Wish.{IsMetBy}
use Rattle.mbdc_fit.specs.declared.list.wish.Wish.{Wish}
use Rattle.mbdc_log.specs.Halves.{budget_of, half_len_of, half_of}
use Rattle.mbdc_log.specs.Store.{Opened}
use Rattle.dc_core.specs.PendingImages.{Keeps, Reads, Stands, StandsForEither, StandsForOne}
use Rattle.dc_meters.specs.Language.{one_history}

-- where a row is wrong the register stays as it is, and else it has the changes
stays : (plan : Outcome) (changes : List Change) (s : State) → plan.wrong ≡ true → fitted plan changes s ≡ s
stays plan changes s is = ap (λ (b : Bool). if b then s else after s changes) is

gains : (plan : Outcome) (changes : List Change) (s : State) → plan.wrong ≡ false → fitted plan changes s ≡ after s changes
gains plan changes s is = ap (λ (b : Bool). if b then s else after s changes) is

-- no bytes spell no changes
no_bytes : (bytes : List ℕ) → length bytes ≡ 0 → bytes ≡ []
no_bytes [] none = refl
no_bytes (b ∷ bytes) none = absurd (omega (arith, none))

none_spelled : (bytes : List ℕ) (changes : List Change) → length bytes ≡ 0 → SpellsChanges bytes changes → changes ≡ []
none_spelled bytes changes none spells = one_history bytes changes [] spells (record { spelled = no_bytes bytes none; are_changes = All-nil IsChange })

module _ {D : Type 0} (g : Ghosts D) (wish : Wish) (house : Held) (plan : Outcome) (planned : IsMetBy wish house plan) where
  -- a row is wrong: nothing is done
  pub all_wrong : IsOneGroup house plan → plan.wrong ≡ true → (old : Opened D) → ListsAll g wish house plan old old
  all_wrong group is old = record {
    lists = record { plan = plan; changes = group.changes; listed = record { planned = planned; spells = group.spells; accepted = group.accepted }; did = inl refl };
    plan_is = refl;
    kept = λ keeps. subst (Keeps g old) (sym (stays plan group.changes house.state is)) keeps;
  }

  -- each row stands already
  pub all_standing : IsOneGroup house plan → plan.wrong ≡ false → length plan.payload ≡ 0 → (old : Opened D) → ListsAll g wish house plan old old
  all_standing group is none old = record {
    lists = record { plan = plan; changes = group.changes; listed = record { planned = planned; spells = group.spells; accepted = group.accepted }; did = inl refl };
    plan_is = refl;
    kept = λ keeps. subst (Keeps g old)
        (sym (gains plan group.changes house.state is ∙ ap (after house.state) (none_spelled plan.payload group.changes none group.spells))) keeps;
  }

  module _ (changes : List Change) (spells : SpellsChanges plan.payload changes) (accepted : AcceptsAll house.budget house.state changes)
      (is : plan.wrong ≡ false) (old new : Opened D) where
    -- the changes were written, or a failure of the disk ended it
    pub some_written : (Keeps g old house.state → LeavesOnly g old.disk new.disk (StandsForEither (half_of g old.disk) house.state (after house.state changes)))
        → Lists g wish house old new
    some_written leaves = record {
      plan = plan;
      changes = changes;
      listed = record { planned = planned; spells = spells; accepted = accepted };
      did = inr (λ keeps. subst (λ (s : State). LeavesOnly g old.disk new.disk (StandsForEither (half_of g old.disk) house.state s)) (sym (gains plan changes house.state is)) (leaves keeps));
    }

    pub all_written : (Keeps g old house.state → LeavesOnly g old.disk new.disk (StandsForEither (half_of g old.disk) house.state (after house.state changes)))
        → (Keeps g old house.state → Keeps g new (after house.state changes)) → ListsAll g wish house plan old new
    unfolding some_written
    all_written leaves kept = record {
      lists = some_written leaves;
      plan_is = refl;
      kept = λ keeps. subst (Keeps g new) (sym (gains plan changes house.state is)) (kept keeps);
    }

-- ---- from the disk to the disk

module _ {D : Type 0} (g : Ghosts D) (wish : Wish) (house : Held) (disk left : D) (old new : Opened D) (same : left ≡ new.disk) (count : g.sectors old.disk ≡ g.sectors disk) (still : g.sectors new.disk ≡ g.sectors old.disk)
    (budget : house.budget ≡ budget_of (half_of g disk)) (back : g.keeps new.disk → g.keeps old.disk)
    (reads : g.keeps old.disk → Reads (half_of g disk) house.state (g.reads disk)) (kept : g.keeps old.disk → Keeps g old house.state)
    (opens : g.keeps old.disk → LeavesOnly g disk old.disk (StandsForOne (half_of g disk) (g.choices disk))) where
  half_is : half_of g old.disk ≡ half_of g disk
  half_is = ap half_len_of count

  pub fits : Lists g wish house old new → Fits g wish disk left
  fits l =
      let S = fitted l.plan l.changes house.state in
      let One : Image → Type 0 = StandsForOne (half_of g disk) (g.choices disk) in
      let Either : Image → Type 0 = StandsForEither (half_of g disk) house.state S in
      record {
        state = house.state;
        plan = l.plan;
        changes = l.changes;
        reads_as = λ h. reads (back (subst g.keeps same h));
        listed = subst (λ (held : Held). IsListed wish held l.plan l.changes) (same_held house (record { state = house.state; budget = budget_of (half_of g disk) }) refl budget) l.listed;
        at_once = λ h.
            let h_old = back (subst g.keeps same h) in
            subst (λ (d : D). LeavesOnly g disk d (λ image. One image ⊎ Either image)) (sym same)
            (⊎_elim
            (λ is. subst (λ (o : Opened D). LeavesOnly g disk o.disk (λ image. One image ⊎ Either image)) (sym is)
            (weakened g disk old.disk One (λ image. One image ⊎ Either image) (opens h_old) (λ image p. inl p)))
            (λ does. followed g disk old.disk new.disk One (StandsForEither (half_of g old.disk) house.state S) (λ image. One image ⊎ Either image) (opens h_old) (does (kept h_old))
            (λ image p. inl p) (λ image p. inr (subst (λ (n : ℕ). StandsForEither n house.state S image) half_is p)))
            l.did);
      }

  pub fits_all : (done : Outcome) → ListsAll g wish house done old new → FitsAll g wish done disk left
  unfolding fits
  fits_all done a =
      let l = a.lists in
      let S = fitted l.plan l.changes house.state in
      let ends : g.keeps left → Keeps g new S = λ h. a.kept (kept (back (subst g.keeps same h))) in
      let half : half_of g new.disk ≡ half_of g disk = ap half_len_of (still ∙ count) in
      record {
        fits = fits l;
        plan_is = a.plan_is;
        stands = λ h.
            let k = ends h in
            subst (λ (d : D). Stands (half_of g disk) S (g.reads d)) (sym same)
            (subst (λ (n : ℕ). Stands n S (g.reads new.disk)) half (record { root = new.root; m = k.m; place = new.place; by = k.ready.stands }));
        durable = λ h. let k = ends h in subst (λ (d : D). g.choices d ≡ settled (g.reads d)) (sym same) k.is_settled;
      }

  pub fits_ok : (result : Result Outcome FitFault) → IfOk result (λ done. ListsAll g wish house done old new) → IfOk result (λ done. FitsAll g wish done disk left)
  fits_ok (Ok done) all = fits_all done all
  fits_ok (Err fault) all = tt

  pub fits_err : (result : Result Outcome FitFault) → IfErr result (λ fault. IfDisk fault (λ e. Lists g wish house old new)) → IfErr result (λ fault. IfDisk fault (λ e. Fits g wish disk left))
  fits_err (Ok done) some = tt
  fits_err (Err (Open e)) some = tt
  fits_err (Err NoMemory) some = tt
  fits_err (Err (Disk e)) some = fits some

  pub before_err : (result : Result Outcome FitFault) → IfErr result (λ fault. IsBefore fault → new ≡ old)
      → IfErr result (λ fault. IsBefore fault → g.keeps left → LeavesOnly g disk left (StandsForOne (half_of g disk) (g.choices disk)))
  before_err (Ok done) some = tt
  before_err (Err fault) some = λ is h.
      subst (λ (d : D). LeavesOnly g disk d (StandsForOne (half_of g disk) (g.choices disk))) (sym (same ∙ ap (λ (o : Opened D). o.disk) (some is))) (opens (back (subst g.keeps same h)))
