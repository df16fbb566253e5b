-- For the crates above: what a chain of puts does to a group, from what each put does (this product).
use Rattle.std.proofs.Common.{⊎_elim, ◌≡◌, ◌<◌, ◌≤◌, ℕ, List, [], ◌∷◌, ◌++◌, length, refl, ap, sym, subst, ◌∙◌, arith, append_assoc, length-append}
use Rattle.std.proofs.lemmas.Bool.{cases_lt}
use Rattle.std.proofs.lemmas.List.{append-nil}
use Rattle.mbdc_io.specs.Failures.{HasRisen}
use Rattle.mbdc_io.specs.Chain.{IsRun, IsChain, IsBroken, joined}
use Rattle.dc_sectors.specs.declared.device.Disk.{Ghosts}
use Rattle.dc_sectors.specs.Runs.{LeavesOnly}
use Rattle.dc_sectors.proofs.Moments.{counted_on}
use Rattle.dc_pages.specs.Draft.{Draft}
use Rattle.dc_pages.specs.PagesWriting.{SameOutside, IsPartOf, IsGoing}
use Rattle.dc_pages.specs.Streaming.{GoesInto, BreaksOff}

-- what each put keeps of its sink is kept
pub run_keeps : {S X : Type 0} (of : S → X) (puts : S → List ℕ → S → Type 0) → ((old new : S) (bytes : List ℕ) → puts old bytes new → of new ≡ of old)
    → (old new : S) (pieces : List (List ℕ)) → IsRun puts old pieces new → of new ≡ of old
run_keeps of puts each old new [] same = ap of same
run_keeps of puts each old new (piece ∷ pieces) run = run_keeps of puts each run.0 new pieces run.2 ∙ each old run.0 piece run.1

module _ {D : Type 0} (g : Ghosts D) where
  same_outside-both : (old mid new : D) (was between : Draft) → between ≡ record was { pages = between.pages; buffer = between.buffer }
      → SameOutside was.site (g.reads old) (g.reads mid) → SameOutside between.site (g.reads mid) (g.reads new) → SameOutside was.site (g.reads old) (g.reads new)
  same_outside-both old mid new was between same first second m out =
      subst (λ (d : Draft). SameOutside d.site (g.reads mid) (g.reads new)) same second m out ∙ first m out

  -- no piece
  pub goes_into-none : (disk : D) (draft : Draft) → GoesInto g disk disk draft draft []
  goes_into-none disk draft = record {
    length_is = omega arith;
    some = λ some. absurd (omega arith);
    still_some = λ some. some;
    same = refl;
    going = λ start payload is. subst (λ (l : List ℕ). IsGoing g start disk draft l) (sym (append-nil payload)) is;
    elsewhere = λ m out. refl;
    before = λ kept. kept;
    counts = record { count = refl; later = omega arith; passed = λ _. refl; failed = λ is. absurd is };
  }

  -- one piece, and then another
  pub goes_into-both : (old mid new : D) (was between is : Draft) (a b : List ℕ) → GoesInto g old mid was between a → GoesInto g mid new between is b → GoesInto g old new was is (a ++ b)
  goes_into-both old mid new was between is a b first second =
      let both = length-append a b in
      let first_long = first.length_is in
      let second_long = second.length_is in
      record {
        length_is = omega arith;
        some = λ some. ⊎_elim (λ (here : 0 < length b). second.some here) (λ (nothing : length b ≤ 0). second.still_some (first.some (omega arith))) (cases_lt 0 (length b));
        still_some = λ some. second.still_some (first.still_some some);
        same = second.same ∙ ap (λ (d : Draft). record d { pages = is.pages; buffer = is.buffer }) first.same;
        going = λ start payload going. subst (λ (l : List ℕ). IsGoing g start new is l) (append_assoc payload a b) (second.going start (payload ++ a) (first.going start payload going));
        elsewhere = same_outside-both old mid new was between first.same first.elsewhere second.elsewhere;
        before = λ kept. first.before (second.before kept);
        counts = counted_on g old mid new ⊥ ⊥ ⊥ first.counts (λ is. is) second.counts (λ is. is) (λ is. is);
      }

  -- pieces that went in, and one that didn't: what is said of all that was to go
  pub breaks_off-behind : (old mid new : D) (was between : Draft) (front piece rest : List ℕ) → GoesInto g old mid was between front → BreaksOff g mid new between piece → BreaksOff g old new was (front ++ (piece ++ rest))
  breaks_off-behind old mid new was between front piece rest first broken = record {
    failed = λ room within.
        let same = ap (λ (d : Draft). d.site.limit) first.same in
        let place = ap (λ (d : Draft). d.site.first) first.same in
        let long = first.length_is in
        let all = length-append front (piece ++ rest) in
        let behind = length-append piece rest in
        let count = first.counts.count in
        let later = first.counts.later in
        let risen : HasRisen (g.failures mid) (g.failures new) = broken.failed (omega arith) (omega arith) in
        omega arith;
    any_moment = λ start payload going.
        let P : Draft → Type 0 = λ d. LeavesOnly g start new (IsPartOf d.site d.session (g.reads start)) in
        subst P first.same (broken.any_moment start (payload ++ front) (first.going start payload going));
    elsewhere = same_outside-both old mid new was between first.same first.elsewhere broken.elsewhere;
    before = λ kept. first.before (broken.before kept);
    count = broken.count ∙ first.counts.count;
    later = omega (arith, first.counts.later, broken.later);
  }

module _ {D : Type 0} (g : Ghosts D)
    {S : Type 0} (disk_of : S → D) (draft_of : S → Draft) (puts breaks : S → List ℕ → S → Type 0)
    (goes : (old new : S) (bytes : List ℕ) → puts old bytes new → GoesInto g (disk_of old) (disk_of new) (draft_of old) (draft_of new) bytes)
    (breaks_off : (old new : S) (bytes : List ℕ) → breaks old bytes new → BreaksOff g (disk_of old) (disk_of new) (draft_of old) bytes) where
  abbrev goes_into : S → S → List ℕ → Type 0
  goes_into old new bytes = GoesInto g (disk_of old) (disk_of new) (draft_of old) (draft_of new) bytes

  run_goes_into : (old new : S) (pieces : List (List ℕ)) → IsRun puts old pieces new → goes_into old new (joined pieces)
  run_goes_into old new [] same = subst (λ (s : S). goes_into old s []) (sym same) (goes_into-none g (disk_of old) (draft_of old))
  run_goes_into old new (piece ∷ pieces) run =
      goes_into-both g (disk_of old) (disk_of run.0) (disk_of new) (draft_of old) (draft_of run.0) (draft_of new) piece (joined pieces)
      (goes old run.0 piece run.1) (run_goes_into run.0 new pieces run.2)

  -- a chain of puts that succeeded is one
  pub chain_goes_into : (old new : S) (bytes : List ℕ) → IsChain puts old new bytes → goes_into old new bytes
  chain_goes_into old new bytes chain = subst (λ (l : List ℕ). goes_into old new l) (sym chain.parts) (run_goes_into old new chain.pieces chain.run)

  -- and one that broke broke off
  pub chain_breaks_off : (old new : S) (bytes : List ℕ) → IsBroken puts breaks old new bytes → BreaksOff g (disk_of old) (disk_of new) (draft_of old) bytes
  chain_breaks_off old new bytes broken =
      subst (λ (l : List ℕ). BreaksOff g (disk_of old) (disk_of new) (draft_of old) l) (sym broken.parts)
      (breaks_off-behind g (disk_of old) (disk_of broken.between) (disk_of new) (draft_of old) (draft_of broken.between) broken.front broken.piece broken.rest
      (chain_goes_into old broken.between broken.front broken.chain) (breaks_off broken.between new broken.piece broken.broken))
