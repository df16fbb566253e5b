-- A file whose lines all followed is read as its house.
use Rattle.std.proofs.Common.{arith, ◌≡◌, ℕ, ◌<◌, ◌≤◌, List, [], ◌∷◌, length, Bool, false, true, Some, refl, ap, sym, subst, ◌∙◌, ◌==◌}
use Rattle.std.specs.Prelude.{All, AllPairs, slice_get, ◌≢◌}
use Rattle.std.proofs.lemmas.Bool.Decides.{nat_tests}
use Rattle.mbdc_io.specs.Lines.{lines_of}
use Rattle.mbdc_audit.specs.File.{IsFed, IsWithin, Steps, bare_house, empty}
use Rattle.mbdc_audit.specs.Line.{IsAsked}
use Rattle.mbdc_audit.specs.House.{Allowed, House, Number, Place, Run, Span, Use, User}
use Rattle.mbdc_audit.specs.declared.house.Declared.{Declared}
use Rattle.mbdc_audit.specs.Reader.{IsRead}
use Rattle.mbdc_audit.specs.Sound.{AreOne, IsAt, IsBuilt, IsDeclared}
use Rattle.mbdc_audit.proofs.BareHouse.{steps_bare}
use Rattle.mbdc_audit.proofs.Grown.{all_none, steps_within}
use Rattle.mbdc_audit.proofs.Linked.{IsOne, Linked, LinkedAt, LinkedIn, all_map, declared_of, pairs_none, steps_linked}
use Rattle.mbdc_audit.proofs.Stages.{HasRuns, Staged, asked_opened, staged_empty, steps_staged}

empty_bytes : (bytes : List ℕ) → (length bytes == 0) ≡ true → bytes ≡ []
empty_bytes [] is = refl
empty_bytes (b ∷ bytes) is = absurd (grind (arith, nat_tests))

pub none_left : (bytes : List ℕ) {b : Bool} → b ≡ (length bytes == 0) → b ≡ true → bytes ≡ []
none_left bytes is test = empty_bytes bytes (sym is ∙ test)

within_empty : IsWithin empty
within_empty = record {
  spans = omega arith;
  uses = omega arith;
  users = omega arith;
  places = omega arith;
  meters = all_none (λ p. length p.runs ≤ 16);
  values = all_none (λ p. All (λ w. length w.values ≤ 2048) p.windows);
  parts = all_none (λ p. All (λ w. length w.parts ≤ 64) p.windows);
}

linked_empty : Linked empty
linked_empty = record {
  uses = pairs_none (λ (a b : Use). a.name ≢ b.name);
  allowed = pairs_none (λ (a b : Allowed). a.used ≡ b.used → a.kind ≡ b.kind → ⊥);
  facts = pairs_none (λ (a b : Declared). AreOne a b → ⊥);
  users = pairs_none (λ (a b : User). a.number < b.number);
  places = all_none (LinkedIn empty);
}

built_of : (h : House) → Linked h → All HasRuns h.places → IsBuilt h
built_of h l runs = record {
  uses = l.uses;
  allowed = l.allowed;
  facts = l.facts;
  users = l.users;
  runs = runs;
  used = all_map (LinkedIn h) (λ p. p.used < length h.uses) h.places (λ p m. m.used) l.places;
  rising = all_map (LinkedIn h) (λ p. AllPairs (λ w x. w.span < x.span) p.windows) h.places (λ p m. m.rising) l.places;
  spans = all_map (LinkedIn h) (λ p. All (λ w. w.span < length h.spans) p.windows) h.places
      (λ p m. all_map (LinkedAt h p.runs) (λ w. w.span < length h.spans) p.windows (λ w k. k.span) m.windows) l.places;
  values = all_map (LinkedIn h) (λ p. All (λ w. All (λ v. (r : Run) × (slice_get p.runs v.run ≡ Some r) × IsAt r v v.source) w.values) p.windows)
      h.places (λ p m. all_map (LinkedAt h p.runs)
      (λ w. All (λ v. (r : Run) × (slice_get p.runs v.run ≡ Some r) × IsAt r v v.source) w.values) p.windows (λ w k. k.values) m.windows) l.places;
  struck = all_map (LinkedIn h) (λ p. All (λ w. All (λ x. x.run < length p.runs) w.struck) p.windows) h.places
      (λ p m. all_map (LinkedAt h p.runs) (λ w. All (λ x. x.run < length p.runs) w.struck) p.windows (λ w k. k.struck) m.windows) l.places;
  parts = all_map (LinkedIn h) (λ p. All (λ w. All (λ x. IsDeclared h x.user) w.parts) p.windows) h.places
      (λ p m. all_map (LinkedAt h p.runs) (λ w. All (λ x. IsDeclared h x.user) w.parts) p.windows
      (λ w k. all_map (λ x. IsOne h.users x.user) (λ x. IsDeclared h x.user) w.parts (λ x is. declared_of h x.user is) k.parts) m.windows) l.places;
}

ended_apart : (s : ℕ) → s ≡ 12 → s ≢ 3
ended_apart s is = λ e. absurd (omega arith)

pub read_as : (asks : Bool) (input : List ℕ) (s : ℕ) (h : House) → IsFed input → s ≡ 12 → Steps 0 empty (lines_of input) s h
    → (asks ≡ false → All (λ line. IsAsked line → ⊥) (lines_of input)) → IsRead asks input h
read_as asks input s h fed ends steps plain =
    let st : Staged s h = steps_staged 0 empty (lines_of input) s h steps staged_empty in
    record {
      spells = record {
        fed = fed;
        plain = plain;
        steps = subst (λ (n : ℕ). Steps 0 empty (lines_of input) n (bare_house h)) ends (steps_bare 0 empty (lines_of input) s h steps);
      };
      within = steps_within 0 empty (lines_of input) s h steps within_empty;
      built = built_of h (steps_linked 0 empty (lines_of input) s h steps linked_empty) (st.runs (ended_apart s ends));
      of_places = asked_opened s h st;
      of_house = st.of_house;
    }

pub no_lines : lines_of [] ≡ []
unfolding lines_of
no_lines = refl

-- the house before the first line
pub begun : (us : List Use) (al : List Allowed) (ss : List Span) (fs : List Declared) (rs : List User) (ps : List Place) (ns : List Number)
    → us ≡ [] → al ≡ [] → ss ≡ [] → fs ≡ [] → rs ≡ [] → ps ≡ [] → ns ≡ []
    → record { label = []; uses = us; allowed = al; spans = ss; facts = fs; users = rs; places = ps; numbers = ns } ≡ empty
begun us al ss fs rs ps ns u a s f r p n =
    ap (λ (xs : List Use). record { label = []; uses = xs; allowed = al; spans = ss; facts = fs; users = rs; places = ps; numbers = ns }) u
    ∙ (ap (λ (xs : List Allowed). record { label = []; uses = []; allowed = xs; spans = ss; facts = fs; users = rs; places = ps; numbers = ns }) a
    ∙ (ap (λ (xs : List Span). record { label = []; uses = []; allowed = []; spans = xs; facts = fs; users = rs; places = ps; numbers = ns }) s
    ∙ (ap (λ (xs : List Declared). record { label = []; uses = []; allowed = []; spans = []; facts = xs; users = rs; places = ps; numbers = ns }) f
    ∙ (ap (λ (xs : List User). record { label = []; uses = []; allowed = []; spans = []; facts = []; users = xs; places = ps; numbers = ns }) r
    ∙ (ap (λ (xs : List Place). record { label = []; uses = []; allowed = []; spans = []; facts = []; users = []; places = xs; numbers = ns }) p
    ∙ ap (λ (xs : List Number). record { label = []; uses = []; allowed = []; spans = []; facts = []; users = []; places = []; numbers = xs }) n)))))
