-- What holds of a house at each stage of its file: places have runs, and numbers are of what is declared.
use Rattle.std.proofs.Common.{arith, ◌≡◌, ◌⊎◌, inl, inr, ℕ, ◌<◌, List, [], ◌∷◌, ◌++◌, length, Bool, true, false, Some, if◌then◌else◌, refl, ap, sym, subst, ◌∙◌, ◌==◌, get_or, map, flat_map}
use Rattle.std.specs.Prelude.{All, Any, slice_get, ◌≢◌}
use Rattle.std.proofs.lemmas.List.{length_push}
use Rattle.std.specs.List.{list_all}
use Rattle.std.proofs.lemmas.Bool.Decides.{nat_tests}
use Rattle.std.proofs.lemmas.List.Sums.{AllPass-from_list_all}
use Rattle.mbdc_audit.specs.Amount.{last_of}
use Rattle.mbdc_audit.specs.declared.house.Fact.{Fact}
use Rattle.mbdc_audit.specs.declared.house.Fact.TheVariants.{Factor, Emissions, Degrees, Price, Average}
use Rattle.mbdc_audit.specs.declared.line.Line.{Line}
use Rattle.mbdc_audit.specs.declared.line.Word.{Word}
use Rattle.mbdc_audit.specs.declared.line.Word.TheVariants as word
use Rattle.mbdc_audit.specs.File.{AskedOf, Follows, InWindow, IsFact, IsSaid, IsSource, MayBeNext, Names, Said, Steps, all_opened, empty, in_last, in_place, is_of_place, opened, with_number, with_said}
use Rattle.mbdc_audit.specs.File.{allows, asks, begins, closes, counts, declares, lives, opens, parts, reads, spans, stands, strikes, totals, uses}
use Rattle.mbdc_audit.specs.House.{House, Key, Number, Place, Run, Source, Value, Window, current, stored, ended, anew, put, first, last}
use Rattle.mbdc_audit.specs.Line.{IsLine, Rule, may_follow, rules}
use Rattle.mbdc_audit.specs.Published.{HasFacts, HasOther, IsWho, MayAsk, MayAskOf, Open}
use Rattle.mbdc_audit.specs.Sound.{IsAt}
use Rattle.mbdc_audit.proofs.Bodies.{all_cons, all_front, all_rest}
use Rattle.mbdc_audit.proofs.Grown.{all_empty, all_in_last, all_none, all_push}

-- ---- the stage of a word

abbrev pub stage_of : Word → ℕ
stage_of word.Audit = 1
stage_of word.Place = 3
stage_of word.Meter = 4
stage_of word.Window = 5
stage_of word.Read = 6
stage_of word.Stored = 6
stage_of word.Ended = 6
stage_of word.Zero = 6
stage_of word.Hand = 6
stage_of word.Estimated = 6
stage_of word.First = 6
stage_of word.Last = 6
stage_of word.Struck = 7
stage_of word.Part = 8
stage_of word.Shown = 9
stage_of word.Value = 9
stage_of word.Totals = 10
stage_of word.OfUser = 11
stage_of word.OfFlat = 11
stage_of word.OfHouse = 11
stage_of word.Mean = 11
stage_of word.Change = 11
stage_of word.Weather = 11
stage_of word.Carbon = 11
stage_of word.Cost = 11
stage_of word.End = 12
stage_of _ = 2

stages_are : list_all (λ r. r.stage == stage_of r.is) rules ≡ true
unfolding rules
stages_are = refl

same_numbers : (m n : ℕ) → (m == n) ≡ true → m ≡ n
same_numbers m n is = grind (arith, nat_tests)

pub stage_is : (text : List ℕ) (l : Line) → IsLine text l → l.stage ≡ stage_of l.word
stage_is text l is =
    let r : Rule = is.row.1 in
    let fits : (r.stage == stage_of r.is) ≡ true =
    subst (λ (x : Rule). (x.stage == stage_of x.is) ≡ true) is.row.3
    (AllPass-from_list_all (λ x. x.stage == stage_of x.is) rules stages_are is.row.0 r is.row.2) in
    sym is.row.4.2 ∙ (same_numbers r.stage (stage_of r.is) fits ∙ ap stage_of is.row.4.1)

abbrev pub said_stage : Said → ℕ
said_stage (begins label) = 1
said_stage (uses u) = 2
said_stage (allows a) = 2
said_stage (spans n s) = 2
said_stage (declares d) = 2
said_stage (lives u) = 2
said_stage (stands n p) = 3
said_stage (counts n r) = 4
said_stage (opens n) = 5
said_stage (reads v) = 6
said_stage (strikes x) = 7
said_stage (parts n x) = 8
said_stage (asks n) = if is_of_place n.key.word then 9 else 11
said_stage totals = 10
said_stage closes = 12

of_fact : (h : House) (f : Fact) (l : Line) → IsFact h f l → stage_of l.word ≡ 2
of_fact h (Factor used) l is = ap stage_of is.0
of_fact h (Emissions used) l is = ap stage_of is.0
of_fact h (Price used unit) l is = ap stage_of is.0
of_fact h (Average used unit) l is = ap stage_of is.0
of_fact h Degrees l is = ap stage_of is

of_source : (v : Value) (s : Source) (l : Line) → IsSource v s l → stage_of l.word ≡ 6
of_source v (current bodies) l is = ap stage_of is.0
of_source v (stored e bodies) l is = ap stage_of is.0
of_source v (ended e bodies) l is = ap stage_of is.0
of_source v anew l is = ap stage_of is
of_source v (put true t) l is = ap stage_of is.0
of_source v (put false t) l is = ap stage_of is.0
of_source v (first guess t) l is = ap stage_of is.0
of_source v (last guess t) l is = ap stage_of is.0

of_name : (w : Word) (h : House) (k : Key) (l : Line) → Names w h k l → stage_of w ≡ (if is_of_place w then 9 else 11)
of_name word.Shown h k l is = refl
of_name word.Value h k l is = refl
of_name word.OfUser h k l is = refl
of_name word.OfFlat h k l is = refl
of_name word.OfHouse h k l is = refl
of_name word.Mean h k l is = refl
of_name word.Change h k l is = refl
of_name word.Weather h k l is = refl
of_name word.Carbon h k l is = refl
of_name word.Cost h k l is = refl
of_name _ h k l is = absurd is

pub stage_said : (h : House) (x : Said) (l : Line) → IsSaid h x l → stage_of l.word ≡ said_stage x
stage_said h (begins label) l is = ap stage_of is.0
stage_said h (uses u) l is = ap stage_of is.0
stage_said h (allows a) l is = ap stage_of is.0
stage_said h (spans n s) l is = ap stage_of is.0
stage_said h (declares d) l is = of_fact h d.fact l is.0
stage_said h (lives u) l is = ap stage_of is.0
stage_said h (stands n p) l is = ap stage_of is.0
stage_said h (counts n r) l is = ap stage_of is.0
stage_said h (opens n) l is = ap stage_of is.0
stage_said h (reads v) l is = of_source v v.source l is.1
stage_said h (strikes x) l is = ap stage_of is.0
stage_said h (parts n x) l is = ap stage_of is.0
stage_said h (asks n) l is =
    of_name l.word h n.key l is.named ∙ ap (λ (w : Word). if is_of_place w then 9 else 11) is.word_is
stage_said h totals l is = ap stage_of is
stage_said h closes l is = ap stage_of is

-- ---- which stage comes after which

after_0 : (s : ℕ) → may_follow 1 s ≡ true → s < 3
after_0 s may = grind (arith, nat_tests)

after_2 : (s : ℕ) → may_follow 2 s ≡ true → s < 3
after_2 s may = grind (arith, nat_tests)

at_3 : (s : ℕ) → may_follow 3 s ≡ true → (s ≢ 3) × (s < 11)
at_3 s may = grind (arith, nat_tests)

at_4 : (s : ℕ) → may_follow 4 s ≡ true → ((s ≡ 3) ⊎ (s ≢ 3)) × (s < 11)
at_4 s may = grind (arith, nat_tests)

at_5 : (s : ℕ) → may_follow 5 s ≡ true → (s ≢ 3) × (s < 11)
at_5 s may = grind (arith, nat_tests)

at_6 : (s : ℕ) → may_follow 6 s ≡ true → (s ≢ 3) × (s < 11)
at_6 s may = grind (arith, nat_tests)

at_7 : (s : ℕ) → may_follow 7 s ≡ true → (s ≢ 3) × (s < 11)
at_7 s may = grind (arith, nat_tests)

at_8 : (s : ℕ) → may_follow 8 s ≡ true → (s ≢ 3) × (s < 11)
at_8 s may = grind (arith, nat_tests)

at_9 : (s : ℕ) → may_follow 9 s ≡ true → (s ≢ 3) × (s < 11)
at_9 s may = grind (arith, nat_tests)

at_10 : (s : ℕ) → may_follow 10 s ≡ true → (s ≢ 3) × (s < 11)
at_10 s may = grind (arith, nat_tests)

at_11 : (s : ℕ) → may_follow 11 s ≡ true → s ≢ 3
at_11 s may = grind (arith, nat_tests)

at_12 : (s : ℕ) → may_follow 12 s ≡ true → s ≢ 3
at_12 s may = grind (arith, nat_tests)

-- ---- what holds at a stage

abbrev pub Asked : House → ℕ → ℕ → Key → Type 0
Asked h used span k = (k.span ≡ span) × (k.used ≡ used) × HasFacts k.word h k

abbrev pub AskedIn : House → ℕ → Window → Type 0
AskedIn h used w = All (λ n. Asked h used w.span n.key) w.numbers

abbrev pub AskedAt : House → Place → Type 0
AskedAt h p = All (AskedIn h p.used) p.windows

abbrev pub HasRuns : Place → Type 0
HasRuns p = 0 < length p.runs

abbrev pub MayAsks : House → Number → Type 0
MayAsks h n = MayAsk h n.key

abbrev with_run : Run → Place → Place
with_run r p = record p { runs = p.runs ++ r ∷ [] }

-- a place has a run but where its line was the last one; declarations come before places, and these before numbers of the house
pub record Staged (s : ℕ) (h : House) : Type 0 where
  pub runs : s ≢ 3 → All HasRuns h.places
  pub soon : s ≡ 3 → (r : Run) → All HasRuns (in_last (with_run r) h.places)
  pub none : s < 3 → h.places ≡ []
  pub no_numbers : s < 11 → h.numbers ≡ []
  pub of_places : All (AskedAt h) h.places
  pub of_house : All (MayAsks h) h.numbers

early : (u : ℕ) (h : House) → u < 3 → h.places ≡ [] → h.numbers ≡ [] → Staged u h
early u h lt no_places no_numbers = record {
  runs = λ apart. all_empty HasRuns h.places no_places;
  soon = λ is. absurd (omega arith);
  none = λ lt. no_places;
  no_numbers = λ lt. no_numbers;
  of_places = all_empty (AskedAt h) h.places no_places;
  of_house = all_empty (MayAsks h) h.numbers no_numbers;
}

pub staged_empty : Staged 0 empty
staged_empty = early 0 empty (omega arith) refl refl

each : {X : Type 0} (P Q : X → Type 0) (xs : List X) → ((x : X) → P x → Q x) → All P xs → All Q xs
each P Q xs more all = λ k d lt. more (get_or xs k d) (all k d lt)

-- with other places or numbers
facts_kept : (w : Word) (h : House) (k : Key) (ps : List Place) (ns : List Number) → HasFacts w h k
    → HasFacts w (record h { places = ps; numbers = ns }) k
facts_kept word.Value h k ps ns is = tt
facts_kept _ h k ps ns is = (is.0, record { there = is.1.there; facts = is.1.facts })

at_kept : (h : House) (ps : List Place) (ns : List Number) (p : Place) → AskedAt h p → AskedAt (record h { places = ps; numbers = ns }) p
at_kept h ps ns p all = each (AskedIn h p.used) (AskedIn (record h { places = ps; numbers = ns }) p.used) p.windows
    (λ w more. each (λ n. Asked h p.used w.span n.key) (λ n. Asked (record h { places = ps; numbers = ns }) p.used w.span n.key) w.numbers
    (λ n is. (is.0, is.1, facts_kept n.key.word h n.key ps ns is.2)) more) all

all_at : (h : House) (ps : List Place) (ns : List Number) (xs : List Place) → All (AskedAt h) xs → All (AskedAt (record h { places = ps; numbers = ns })) xs
all_at h ps ns xs all = each (AskedAt h) (AskedAt (record h { places = ps; numbers = ns })) xs (at_kept h ps ns) all

push_last : {X : Type 0} (P : X → Type 0) (f : X → X) (xs : List X) (x : X) → All P xs → P (f x) → All P (in_last f (xs ++ x ∷ []))
push_last P f [] x all here = all_cons P (f x) [] here (all_none P)
push_last P f (a ∷ []) x all here = all_cons P a (f x ∷ []) (all_front P a [] all) (all_cons P (f x) [] here (all_none P))
push_last P f (a ∷ b ∷ rest) x all here = all_cons P a (in_last f ((b ∷ rest) ++ x ∷ [])) (all_front P a (b ∷ rest) all)
    (push_last P f (b ∷ rest) x (all_rest P a (b ∷ rest) all) here)

-- the open place changed
changed : (u s : ℕ) (h : House) (Q : Place → Type 0) (f : Place → Place) → u ≢ 3 → (s ≢ 3) × (s < 11) → 3 < u → Any Q (last_of h.places)
    → ((p : Place) → HasRuns p → HasRuns (f p)) → ((p : Place) → Q p → AskedAt h p → AskedAt h (f p)) → Staged s h → Staged u (in_place f h)
changed u s h Q f apart stage later any runs asked st = record {
  runs = λ e. all_in_last HasRuns Q f (λ p q has. runs p has) h.places any (st.runs stage.0);
  soon = λ e. absurd (apart e);
  none = λ lt. absurd (omega arith);
  no_numbers = λ lt. st.no_numbers stage.1;
  of_places = all_at h (in_last f h.places) h.numbers (in_last f h.places) (all_in_last (AskedAt h) Q f asked h.places any st.of_places);
  of_house = all_empty (MayAsks (in_place f h)) h.numbers (st.no_numbers stage.1);
}

-- the open window changed
changed_in : (u s : ℕ) (h : House) (Q : Place → Window → Type 0) (g : Window → Window) → u ≢ 3 → (s ≢ 3) × (s < 11) → 3 < u → InWindow Q h
    → ((p : Place) (w : Window) → Q p w → AskedIn h p.used w → AskedIn h p.used (g w)) → Staged s h
    → Staged u (in_place (λ p. record p { windows = in_last g p.windows }) h)
changed_in u s h Q g apart stage later any asked st =
    changed u s h (λ p. Any (Q p) (last_of p.windows)) (λ p. record p { windows = in_last g p.windows }) apart stage later any
    (λ p has. has) (λ p q all. all_in_last (AskedIn h p.used) (Q p) g (asked p) p.windows q all) st

asked_of : (b : Bool) (s : ℕ) (h : House) (n : Number) → AskedOf b h n → may_follow (if b then 9 else 11) s ≡ true → Staged s h
    → Staged (if b then 9 else 11) (with_number b n h)
asked_of true s h n may follows st = changed_in 9 s h (λ p w. MayAskOf h p w n.key) (λ w. record w { numbers = w.numbers ++ n ∷ [] })
    (λ e. absurd (omega arith)) (at_9 s follows) (omega arith) may
    (λ p w q all. all_push (λ m. Asked h p.used w.span m.key) w.numbers n all (q.span, q.used, q.facts)) st
asked_of false s h n may follows st = record {
  runs = λ e. st.runs (at_11 s follows);
  soon = λ e. absurd (omega arith);
  none = λ lt. absurd (omega arith);
  no_numbers = λ lt. absurd (omega arith);
  of_places = all_at h h.places (h.numbers ++ n ∷ []) h.places st.of_places;
  of_house = each (MayAsks h) (MayAsks (record h { numbers = h.numbers ++ n ∷ [] })) (h.numbers ++ n ∷ [])
      (λ m is. house_kept h (h.numbers ++ n ∷ []) m.key is) (all_push (MayAsks h) h.numbers n st.of_house may.0);
} where
  who_kept : (w : Word) (h : House) (ns : List Number) (k : Key) → IsWho w h k → IsWho w (record h { numbers = ns }) k
  who_kept word.OfFlat h ns k is = is
  who_kept _ h ns k is = is

  other_kept : (w : Word) (h : House) (ns : List Number) (k : Key) → HasOther w h k → HasOther w (record h { numbers = ns }) k
  other_kept word.Change h ns k is = record { there = is.there; facts = is.facts }
  other_kept word.Weather h ns k is = record { there = is.there; facts = is.facts }
  other_kept _ h ns k is = tt

  house_kept : (h : House) (ns : List Number) (k : Key) → MayAsk h k → MayAsk (record h { numbers = ns }) k
  house_kept h ns k is = record {
    who = who_kept k.word h ns k is.who;
    unit = is.unit;
    span = record { there = is.span.there; facts = is.span.facts };
    other = other_kept k.word h ns k is.other;
  }

pub next_staged : (s : ℕ) (h : House) (x : Said) → MayBeNext h x → may_follow (said_stage x) s ≡ true → Staged s h
    → Staged (said_stage x) (with_said x h)
next_staged s h (begins label) may follows st =
    early 1 (record h { label = label }) (omega arith) (st.none (after_0 s follows)) (st.no_numbers (let lt = after_0 s follows in omega arith))
next_staged s h (uses u) may follows st =
    early 2 (record h { uses = h.uses ++ u ∷ [] }) (omega arith) (st.none (after_2 s follows)) (st.no_numbers (let lt = after_2 s follows in omega arith))
next_staged s h (allows a) may follows st =
    early 2 (record h { allowed = h.allowed ++ a ∷ [] }) (omega arith) (st.none (after_2 s follows)) (st.no_numbers (let lt = after_2 s follows in omega arith))
next_staged s h (spans n x) may follows st =
    early 2 (record h { spans = h.spans ++ x ∷ [] }) (omega arith) (st.none (after_2 s follows)) (st.no_numbers (let lt = after_2 s follows in omega arith))
next_staged s h (declares d) may follows st =
    early 2 (record h { facts = h.facts ++ d ∷ [] }) (omega arith) (st.none (after_2 s follows)) (st.no_numbers (let lt = after_2 s follows in omega arith))
next_staged s h (lives u) may follows st =
    early 2 (record h { users = h.users ++ u ∷ [] }) (omega arith) (st.none (after_2 s follows)) (st.no_numbers (let lt = after_2 s follows in omega arith))
next_staged s h (stands n p) may follows st = record {
  runs = λ e. absurd (e refl);
  soon = λ e r. push_last HasRuns (with_run r) h.places p (st.runs (at_3 s follows).0) (let long = length_push p.runs r in omega arith);
  none = λ lt. absurd (omega arith);
  no_numbers = λ lt. st.no_numbers (at_3 s follows).1;
  of_places = all_at h (h.places ++ p ∷ []) h.numbers (h.places ++ p ∷ [])
      (all_push (AskedAt h) h.places p st.of_places (all_empty (AskedIn h p.used) p.windows may.3));
  of_house = all_empty (MayAsks (record h { places = h.places ++ p ∷ [] })) h.numbers (st.no_numbers (at_3 s follows).1);
}
next_staged s h (counts n r) may follows st = record {
  runs = λ e. elim (at_4 s follows).0 [
    | inl is ↦ st.soon is r
    | inr apart ↦ all_in_last HasRuns (λ p. (n ≡ length p.runs) × (n < 16)) (with_run r)
        (λ p q has. let long = length_push p.runs r in omega arith) h.places may (st.runs apart)
  ];
  soon = λ e. absurd (omega arith);
  none = λ lt. absurd (omega arith);
  no_numbers = λ lt. st.no_numbers (at_4 s follows).1;
  of_places = all_at h (in_last (with_run r) h.places) h.numbers (in_last (with_run r) h.places)
      (all_in_last (AskedAt h) (λ p. (n ≡ length p.runs) × (n < 16)) (with_run r) (λ p q all. all) h.places may st.of_places);
  of_house = all_empty (MayAsks (in_place (with_run r) h)) h.numbers (st.no_numbers (at_4 s follows).1);
}
next_staged s h (opens n) may follows st =
    changed 5 s h (λ p. All (λ w. w.span < n) (last_of p.windows)) (λ p. record p { windows = p.windows ++ opened n ∷ [] })
    (λ e. absurd (omega arith)) (at_5 s follows) (omega arith) may.0 (λ p has. has)
    (λ p q all. all_push (AskedIn h p.used) p.windows (opened n) all (all_none (λ m. Asked h p.used n m.key))) st
next_staged s h (reads v) may follows st =
    changed_in 6 s h (λ p w. (length w.values < 2048) × ((r : Run) × (slice_get p.runs v.run ≡ Some r) × IsAt r v v.source))
    (λ w. record w { values = w.values ++ v ∷ [] }) (λ e. absurd (omega arith)) (at_6 s follows) (omega arith) may.0 (λ p w q all. all) st
next_staged s h (strikes x) may follows st =
    changed_in 7 s h (λ p w. x.run < length p.runs)
    (λ w. record w { struck = w.struck ++ x ∷ [] }) (λ e. absurd (omega arith)) (at_7 s follows) (omega arith) may (λ p w q all. all) st
next_staged s h (parts n x) may follows st =
    changed_in 8 s h (λ p w. (n ≡ w.span) × (length w.parts < 64))
    (λ w. record w { parts = w.parts ++ x ∷ [] }) (λ e. absurd (omega arith)) (at_8 s follows) (omega arith) may.0 (λ p w q all. all) st
next_staged s h (asks n) may follows st = asked_of (is_of_place n.key.word) s h n may follows st
next_staged s h totals may follows st = record {
  runs = λ e. st.runs (at_10 s follows).0;
  soon = λ e. absurd (omega arith);
  none = λ lt. absurd (omega arith);
  no_numbers = λ lt. st.no_numbers (at_10 s follows).1;
  of_places = st.of_places;
  of_house = st.of_house;
}
next_staged s h closes may follows st = record {
  runs = λ e. st.runs (at_12 s follows);
  soon = λ e. absurd (omega arith);
  none = λ lt. absurd (omega arith);
  no_numbers = λ lt. absurd (omega arith);
  of_places = st.of_places;
  of_house = st.of_house;
}

-- a line that follows
line_staged : (s : ℕ) (text : List ℕ) (h : House) (u : ℕ) (i : House) → Follows s text h u i → Staged s h → Staged u i
line_staged s text h u i f st =
    let x : Said = f.adds.said in
    let is : f.line.stage ≡ said_stage x = stage_is text f.line f.is ∙ stage_said i x f.line f.adds.says in
    let next = next_staged s h x f.adds.may (subst (λ (n : ℕ). may_follow n s ≡ true) is f.follows) st in
    subst (λ (n : ℕ). Staged n i) (sym (f.stage_is ∙ is)) (subst (λ (g : House). Staged (said_stage x) g) (sym f.adds.with_it) next)

pub steps_staged : (s : ℕ) (h : House) (lines : List (List ℕ)) (t : ℕ) (g : House) → Steps s h lines t g → Staged s h → Staged t g
steps_staged s h [] t g steps st = subst (λ (n : ℕ). Staged n g) (sym steps.0) (subst (λ (x : House). Staged s x) (sym steps.1) st)
steps_staged s h (line ∷ lines) t g steps st =
    steps_staged steps.0 steps.1 lines t g steps.3 (line_staged s line h steps.0 steps.1 steps.2 st)

-- ---- each number of a place

all_both : {X : Type 0} (P : X → Type 0) (xs ys : List X) → All P xs → All P ys → All P (xs ++ ys)
all_both P [] ys all more = more
all_both P (x ∷ xs) ys all more = all_cons P x (xs ++ ys) (all_front P x xs all) (all_both P xs ys (all_rest P x xs all) more)

all_map : {X Y : Type 0} (f : X → Y) (P : X → Type 0) (Q : Y → Type 0) (xs : List X) → ((x : X) → P x → Q (f x)) → All P xs → All Q (map f xs)
all_map f P Q [] more all = all_none Q
all_map f P Q (x ∷ xs) more all = all_cons Q (f x) (map f xs) (more x (all_front P x xs all)) (all_map f P Q xs more (all_rest P x xs all))

abbrev MayAskIn : House → Open → Type 0
MayAskIn h o = All (λ n. MayAskOf h o.place o.window n.key) o.window.numbers

opened_in : (h : House) (ps : List Place) → All (AskedAt h) ps
    → All (MayAskIn h) (flat_map (λ p. map (λ w. record { place = p; window = w }) p.windows) ps)
opened_in h [] all = all_none (MayAskIn h)
opened_in h (p ∷ ps) all = all_both (MayAskIn h) (map (λ w. record { place = p; window = w }) p.windows)
    (flat_map (λ p. map (λ w. record { place = p; window = w }) p.windows) ps)
    (all_map (λ w. record { place = p; window = w }) (AskedIn h p.used) (MayAskIn h) p.windows
    (λ w more. each (λ n. Asked h p.used w.span n.key) (λ n. MayAskOf h p w n.key) w.numbers
    (λ n is. record { span = is.0; used = is.1; facts = is.2 }) more) (all_front (AskedAt h) p ps all))
    (opened_in h ps (all_rest (AskedAt h) p ps all))

pub asked_opened : (s : ℕ) (h : House) → Staged s h → All (MayAskIn h) (all_opened h)
asked_opened s h st = opened_in h h.places st.of_places
