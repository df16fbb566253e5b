-- The sweep makes the selections of the walk in turn, and a whole walk finds every meter.
use Rattle.std.proofs.Common.{◌≡◌, ℕ, ◌≤◌, Bool, false, List, Result, Ok, Err, filter, take, length, ap, sym, ◌∙◌, subst, arith}
use Rattle.std.specs.Result.{OnOk, is_err}
use Rattle.std.proofs.lemmas.List.{take_all}
use Rattle.std.proofs.lemmas.Grind.{common_steps}
use Rattle.dc_address.specs.Mask.{MaskParts, matches}
use Rattle.dc_address.specs.declared.identity.Identity.{Identity}
use Rattle.dc_search.specs.Bus.{visited}
use Rattle.dc_search.specs.State.{SearchState, step_of}
use Rattle.dc_search.specs.Walk.{FindsAll, found_of, shared_of, walk_of}
use Rattle.dc_search.specs.declared.step.Step.TheVariants.{Select}
use Rattle.dc_search.proofs.Lengths.{length-walk_of-le}
use Rattle.dc_search.proofs.Sweeps.{Swept, due_select, swept_more, swept_out}
use Rattle.dc_search.proofs.Walks.{walk_finds_all}
use Rattle.dc_search.proofs.bus.sweep.Goals as goal

unless_err : {T E P : Type 0} (r : Result T E) (b : Bool) → b ≡ is_err r → b ≡ false → OnOk r P → P
unless_err (Ok x) b is not p = p
unless_err (Err e) b is not p = cc

selected : (bus : List Identity) (budget : ℕ) (s next : SearchState) (mask : MaskParts) → step_of s ≡ Select mask → Swept bus budget s
    → next ≡ visited (filter (matches mask) bus) s → Swept bus budget next
selected bus budget s next mask is so by =
    let due = due_select s mask is in
    subst (Swept bus budget) (sym by)
    (swept_more bus budget s due.0 due.1 (filter (matches mask) bus) due.2 due.3 (ap (λ m. filter (matches m) bus) due.4) so)

whole_walk : (bus found : List Identity) (shared : List ℕ) (budget : ℕ) → found ≡ found_of (take budget (walk_of bus)) → shared ≡ shared_of (take budget (walk_of bus))
    → length (walk_of bus) ≤ budget → FindsAll bus found shared
whole_walk bus found shared budget is_found is_shared fits =
    let all : take budget (walk_of bus) ≡ walk_of bus = take_all budget (walk_of bus) fits in
    subst (λ f. FindsAll bus f shared) (sym (is_found ∙ ap found_of all))
    (subst (λ n. FindsAll bus (found_of (walk_of bus)) n) (sym (is_shared ∙ ap shared_of all)) (walk_finds_all bus))

pub returns-then-is_err-clause-bound : goal.returns-then-is_err-clause-bound
returns-then-is_err-clause-bound g c = length-walk_of-le c.args.bus.now

pub loop-mask-preserved : goal.loop-mask-preserved
loop-mask-preserved g c =
    selected c.args.bus.now c.args.budget c.loop-mask.search c.select.new.search c.in-Select.mask (sym c.in-Select.ensures) c.loop-mask.invariant
    (unless_err c.select.result c.is_err.result c.is_err.ensures.value c.if-is_err.false c.select.ensures)

pub returns : goal.returns
returns g c =
    let s = c.loop-mask.search in
    let out = swept_out c.args.bus.now c.args.budget s (λ mask is. c.in_default.not-Select mask (c.next.ensures ∙ is)) c.loop-mask.invariant in
    record {
      found = out.found_so;
      shared = out.shared_so;
      selections = out.made;
      step = out.stands;
      whole = whole_walk c.args.bus.now s.found s.shared c.args.budget out.found_so out.shared_so;
      bound = length-walk_of-le c.args.bus.now;
    }

pub loop-mask-smaller : goal.loop-mask-smaller
loop-mask-smaller g c = grind (arith, common_steps)
