-- The spans of a house.
use Rattle.std.proofs.Common.{◌≡◌, ◌↔◌, ◌<◌, ◌≤◌, ◌+◌, ℕ, List, length, take, map, get_or, sym, subst, All, AllPairs, Any}
use Rattle.mbdc_audit.specs.declared.house.Span as span_type
use Rattle.mbdc_audit.specs.House.{House, Span, at}
use Rattle.mbdc_audit.specs.Sound.{AreSpans, IsLabel}
use Rattle.mbdc_audit.specs.View.{span_of}
use Rattle.mbdc_audit.proofs.Checks.{all_at, all_map, all_of, any_map, back, pairs_at, pairs_map, pairs_of, through}

abbrev pub HasTime : span_type.Span → Type 0
HasTime s = at (span_of s).from < at (span_of s).to

abbrev pub AreOther : span_type.Span → span_type.Span → Type 0
AreOther a b = (at (span_of a).from ≡ at (span_of b).from) × (at (span_of a).to ≡ at (span_of b).to) → ⊥

-- a span that ends last, and whose first month is the label
abbrev pub IsMonth : List ℕ → List span_type.Span → span_type.Span → Type 0
IsMonth label spans s = All (λ x. at (span_of x).to ≤ at (span_of s).to) spans × IsLabel label (span_of s).from.day

pub spans_at : (spans : List span_type.Span) (i : ℕ) (d : span_type.Span) → i < length spans
    → ((All HasTime (take i spans) × AllPairs AreOther (take i spans))
    × (HasTime (get_or spans i d) × All (λ a. AreOther a (get_or spans i d)) (take i spans)))
    ↔ (All HasTime (take (i + 1) spans) × AllPairs AreOther (take (i + 1) spans))
spans_at spans i d below =
    let time = all_at HasTime spans i d below in
    let other = pairs_at AreOther spans i d below in (
      λ r. (time.1 (r.0.0, r.1.0), other.1 (r.0.1, r.1.1)),
      λ q. let a = time.0 q.0 in let b = other.0 q.1 in ((a.0, b.0), (a.1, b.1)),
    )

any_each : {X : Type 0} (P Q : X → Type 0) (xs : List X) → ((x : X) → P x → Q x) → Any P xs → Any Q xs
any_each P Q xs each a = (a.0, a.1, a.2, a.3, each a.1 a.4)

pub are_spans : (h : House) (spans : List span_type.Span) → h.spans ≡ map span_of spans
    → ((All HasTime spans × AllPairs AreOther spans) × Any (IsMonth h.label spans) spans) ↔ AreSpans h
are_spans h spans is =
    let times = through (back (all_map (λ s. at s.from < at s.to) span_of spans)) (all_of (λ s. at s.from < at s.to) (sym is)) in
    let once = through (back (pairs_map (λ a b. (at a.from ≡ at b.from) × (at a.to ≡ at b.to) → ⊥) span_of spans))
    (pairs_of (λ a b. (at a.from ≡ at b.from) × (at a.to ≡ at b.to) → ⊥) (sym is)) in (
      λ r. record {
        times = times.0 r.0.0;
        once = once.0 r.0.1;
        labelled = subst (λ (ss : List Span). Any (λ s. All (λ x. at x.to ≤ at s.to) ss × IsLabel h.label s.from.day) ss) (sym is)
            ((any_map (λ s. All (λ x. at x.to ≤ at s.to) (map span_of spans) × IsLabel h.label s.from.day) span_of spans).1
            (any_each (IsMonth h.label spans) (λ s. All (λ x. at x.to ≤ at (span_of s).to) (map span_of spans) × IsLabel h.label (span_of s).from.day) spans
            (λ s m. ((all_map (λ x. at x.to ≤ at (span_of s).to) span_of spans).1 m.0, m.1)) r.1));
      },
      λ q. (
        (times.1 q.times, once.1 q.once),
        any_each (λ s. All (λ x. at x.to ≤ at (span_of s).to) (map span_of spans) × IsLabel h.label (span_of s).from.day) (IsMonth h.label spans) spans
            (λ s m. ((all_map (λ x. at x.to ≤ at (span_of s).to) span_of spans).0 m.0, m.1))
            ((any_map (λ s. All (λ x. at x.to ≤ at s.to) (map span_of spans) × IsLabel h.label s.from.day) span_of spans).0
            (subst (λ (ss : List Span). Any (λ s. All (λ x. at x.to ≤ at s.to) ss × IsLabel h.label s.from.day) ss) is q.labelled)),
      ),
    )
