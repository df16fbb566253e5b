-- Lemmas for callers: what a run of calls leaves at any moment, from what each call leaves. No disk is
-- looked into: g are the ghosts of a bound `D: Disk`.
use Rattle.std.proofs.Common.{◌≡◌, ◌∙◌, ◌≤◌, inl, inr, ⊎_elim, ℕ, Result, Ok, Err, ap, arith, subst, sym}
use Rattle.std.specs.Prelude.{IsErrOf}
use Rattle.dc_sectors.specs.declared.device.Disk.{Ghosts}
use Rattle.dc_sectors.specs.Disk.{Image, Choices, IsImage}
use Rattle.dc_sectors.specs.Runs.{Passes, LeavesOnly, OnlyLooked, Counts}

module _ {D : Type 0} (g : Ghosts D) where
  -- before the first call
  pub started : (old : D) (P : Image → Type 0) → ((image : Image) → g.images_since old (g.moment old) image → P image) → LeavesOnly g old old P
  started old P here = record { later = omega arith; each = here; before = λ t image le left. inl left }

  -- one call more, within which a stop leaves what has P
  pub goes_on : (old mid new : D) (P images : Image → Type 0) → LeavesOnly g old mid P → Passes g mid new images
      → ((image : Image) → images image → P image) → LeavesOnly g old new P
  goes_on old mid new P images so_far time here = record {
    later = omega (arith, so_far.later, time.later);
    each = λ image left. ⊎_elim (so_far.each image) (here image) (time.nothing_else (g.moment old) image so_far.later left);
    before = λ t image le left. ⊎_elim (so_far.before t image le) (λ now. inr (here image now)) (time.nothing_else t image (omega (arith, le, so_far.later)) left);
  }

  -- one run and then another
  pub followed : (old mid new : D) (P Q R : Image → Type 0) → LeavesOnly g old mid P → LeavesOnly g mid new Q
      → ((image : Image) → P image → R image) → ((image : Image) → Q image → R image) → LeavesOnly g old new R
  followed old mid new P Q R first second p q = record {
    later = omega (arith, first.later, second.later);
    each = λ image left. ⊎_elim (λ was. p image (first.each image was)) (q image) (second.before (g.moment old) image first.later left);
    before = λ t image le left. ⊎_elim (λ was. ⊎_elim (λ past. inl past) (λ now. inr (p image now)) (first.before t image le was)) (λ now. inr (q image now)) (second.before t image (omega (arith, le, first.later)) left);
  }

  -- what follows from P
  pub weakened : (old new : D) (P Q : Image → Type 0) → LeavesOnly g old new P → ((image : Image) → P image → Q image) → LeavesOnly g old new Q
  weakened old new P Q run q = record {
    later = run.later;
    each = λ image left. q image (run.each image left);
    before = λ t image le left. ⊎_elim (λ past. inl past) (λ now. inr (q image now)) (run.before t image le left);
  }

  -- a call that leaves the disk as it was
  pub rested : (old new : D) (P : Image → Type 0) → new ≡ old → ((image : Image) → g.images_since old (g.moment old) image → P image) → LeavesOnly g old new P
  rested old new P same here = subst (λ (d : D). LeavesOnly g old d P) (sym same) (started old P here)

  -- an image of this moment has P too, whatever the last call answered; the premise is the trait's counts_now
  pub at_end : (old new : D) (P images : Image → Type 0) → LeavesOnly g old new P
      → ((t : ℕ) (image : Image) → t ≤ g.moment new → images image → g.images_since new t image) → (image : Image) → images image → P image
  at_end old new P images run counts image is = run.each image (counts (g.moment old) image run.later is)

  -- A stop after the last call, whatever that answered, leaves what has P; the premise is the trait's counts_now.
  pub stopped_after : (old new : D) (P : Image → Type 0) → LeavesOnly g old new P
      → ((t : ℕ) (image : Image) → t ≤ g.moment new → IsImage (g.choices new) image → g.images_since new t image) → (image : Image) → IsImage (g.choices new) image → P image
  stopped_after old new P run counts = at_end old new P (IsImage (g.choices new)) run counts

  -- a call in which nothing failed, and then one more
  pub counted_on : (old mid new : D) (F G H : Type 0) → Counts g old mid F → (F → ⊥) → Counts g mid new G → (G → H) → (H → G) → Counts g old new H
  counted_on old mid new F G H first none second there back = let same = first.passed none in record {
    count = second.count ∙ first.count;
    later = omega (arith, first.later, second.later);
    passed = λ other. second.passed (λ is. other (there is)) ∙ same;
    failed = λ is. omega (arith, same, second.failed (back is));
  }

  -- a call in which nothing failed
  pub all_passed : (old new : D) (F : Type 0) → Counts g old new F → (F → ⊥) → Counts g old new ⊥
  all_passed old new F counts none = record { count = counts.count; later = counts.later; passed = λ _. counts.passed none; failed = λ is. absurd is }

  -- calls in which nothing failed, and then one whose error is passed on
  pub counts_pass : {T U E : Type 0} (old mid new : D) (r : Result U E) (fault device : E) → Counts g old mid ⊥
      → Counts g mid new (IsErrOf {T = T} (Err fault) device) → r ≡ Err fault → Counts g old new (IsErrOf r device)
  counts_pass old mid new r fault device first second same =
      counted_on old mid new ⊥ _ _ first (λ is. is) second
      (λ is. let e : fault ≡ device = cc is in same ∙ ap Err e) (λ is. let e : fault ≡ device = cc (is, same) in ap Err e)

  -- calls in which nothing failed, and then one more, where what is returned says so
  pub counts_none : (old mid new : D) (F H : Type 0) → Counts g old mid ⊥ → Counts g mid new F → (F → ⊥) → (H → ⊥) → Counts g old new H
  counts_none old mid new F H first second none other =
      counted_on old mid new ⊥ ⊥ H first (λ is. is) (all_passed mid new F second none) (λ is. absurd is) other

  -- calls that only looked, and then one more, whatever it answered
  pub looked_next : (old mid new : D) → OnlyLooked g old mid → g.reads new ≡ g.reads mid → g.choices new ≡ g.choices mid
      → Passes g mid new (IsImage (g.choices mid)) → (g.keeps new → g.keeps mid) → OnlyLooked g old new
  looked_next old mid new first reads choices time before = record {
    reads_same = reads ∙ first.reads_same;
    choices_same = choices ∙ first.choices_same;
    any_moment = goes_on old mid new (IsImage (g.choices old)) (IsImage (g.choices mid)) first.any_moment time
        (λ image is. subst (λ (c : Choices). IsImage c image) first.choices_same is);
    before = λ kept. first.before (before kept);
  }
