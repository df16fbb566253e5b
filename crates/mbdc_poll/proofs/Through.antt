-- Where a filter lets each answer through, the talk is one on the bus itself.
use Rattle.std.proofs.Common.{◌≡◌, ℕ, true, false, List, sym, subst, ◌∙◌}
use Rattle.std.specs.Prelude.{Option, None, Some}
use Rattle.mbdc_poll.specs.Bus.{Bus}
use Rattle.mbdc_poll.specs.Filtered.{EachAnswer, Filter, Gives, IfGiven, LetsThrough, Sends, filtered_over, goes_out, of_bus, of_lost, of_none, on_bus, on_lost, stays}
use Rattle.mbdc_poll.specs.Happening.{Happening}
use Rattle.mbdc_poll.specs.Talking.{Talk, Talks, rests, begins, has_none, sends_it, waits_it, takes_it, hears_it, stands_by, tells_it, loses_it}
use Rattle.mbdc_poll.specs.declared.filtered.Filtered.{Filtered}

-- each request goes out as it is, and each answer of which this holds is heard as it is
pub record Passes {F : Type 0} (f : Filter F) (Keeps : F → Type 0) (said : F → List ℕ → Type 0) : Type 0 where
  pub asks : (old : F) (request : List ℕ) (out : Option (List ℕ)) (new : F) → Keeps old → f.asks old request out new → (out ≡ Some request) × Keeps new
  pub hears : (old : F) (given answer : List ℕ) (new : F) → Keeps old → said old given → f.hears old given answer new → (answer ≡ given) × Keeps new

module _ {B F : Type 0} (g : Bus B) (f : Filter F) (Keeps : F → Type 0) (said : F → List ℕ → Type 0) (passes : Passes f Keeps said) where
  abbrev Clear : Filtered B F → Type 0
  Clear bus = Keeps bus.filter × (bus.withholds ≡ false)

  is_sent : {old new : Filtered B F} {request : List ℕ} → Sends g f old request new → Clear old → g.sends old.bus request new.bus × Clear new
  is_sent {old = old} (on_lost lost sends same) clear = (sends, subst Clear (sym same) clear)
  is_sent {old = old} {new = new} {request = request} (goes_out out there asks sends goes) clear =
      let passed : (Some out ≡ Some request) × Keeps new.filter = passes.asks old.filter request (Some out) new.filter clear.0 asks in
      let same : out ≡ request = (let e = passed.0 in cc) in
      (subst (λ (bytes : List ℕ). g.sends old.bus bytes new.bus) same sends, (passed.1, goes))
  is_sent {old = old} {new = new} {request = request} (stays there asks same held) clear =
      absurd (let none : None ≡ Some request = (passes.asks old.filter request None new.filter clear.0 asks).0 in cc)

  is_given : {old new : Filtered B F} {answer : List ℕ} (gives : Gives g f old answer new) → Clear old → IfGiven said gives → g.gives old.bus answer new.bus × Clear new
  is_given (of_lost sent lost gives same) clear is_so = (gives, subst Clear (sym same) clear)
  is_given {old = old} {new = new} {answer = answer} (of_bus given sent there gives heard sends) clear is_so =
      let passed : (answer ≡ given) × Keeps new.filter = passes.hears old.filter given answer new.filter clear.0 is_so heard in
      (subst (λ (bytes : List ℕ). g.gives old.bus bytes new.bus) (sym passed.0) gives, (passed.1, sends))
  is_given {old = old} (of_none held silent same) clear is_so = absurd (let none : false ≡ true = sym clear.1 ∙ held in cc)

  on_it : {line : ℕ} {first last : Talk (Filtered B F)} {happened : List Happening} → (talk : Talks (filtered_over g f) line first happened last) → Clear first.bus → EachAnswer said talk → Talks g line (on_bus first) happened (on_bus last)
  on_it rests clear all = rests
  on_it (begins more) clear all = begins (on_it more clear all)
  on_it (has_none more) clear all = has_none (on_it more clear all)
  on_it (sends_it sends more) clear all =
      let sent = is_sent sends clear in
      sends_it sent.0 (on_it more sent.1 all)
  on_it (waits_it waited more) clear all = waits_it waited.0 (on_it more (subst Clear (sym waited.1) clear) all)
  on_it (takes_it gives more) clear all =
      let given = is_given gives clear all.0 in
      takes_it given.0 (on_it more given.1 all.1)
  on_it (hears_it more) clear all = hears_it (on_it more clear all)
  on_it (stands_by more) clear all = stands_by (on_it more clear all)
  on_it (tells_it other more) clear all = tells_it other (on_it more clear all)
  on_it (loses_it is_lost more) clear all = loses_it is_lost (on_it more clear all)

  pub lets_through : LetsThrough g f Keeps said
  lets_through line first last happened talk keeps sends all = on_it talk (keeps, sends) all
