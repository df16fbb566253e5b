-- A sound house, of what was checked of its parts.
use Rattle.std.proofs.Common.{◌≡◌, ◌↔◌, ◌<◌, ℕ, List, [], length, map, sym, All, AllPairs}
use Rattle.mbdc_audit.specs.declared.house.User as user_type
use Rattle.mbdc_audit.specs.House.{House}
use Rattle.mbdc_audit.specs.Sound.{Agree, AreSpans, IsBuilt, IsHouse, IsOnce, IsOneCurve, IsOneTenancy, IsPlace, IsReadPlace, all_ends, fitted, lived}
use Rattle.mbdc_audit.specs.View.{user_of}
use Rattle.mbdc_audit.proofs.Checks.{back, pairs_map, pairs_of, through}

abbrev pub IsAsked : House → ℕ → Type 0
IsAsked h count = (0 < length h.places) × (0 < count)

pub house_is : (h : House) (users : List user_type.User) (count : ℕ) → h.users ≡ map user_of users → IsBuilt h → All (IsReadPlace h) h.places
    → ((((AreSpans h × AllPairs (λ a b. a.flat.now ≡ b.flat.now → a.area ≡ b.area) users)
    × (All (λ p. IsPlace h p × IsOneCurve h p) h.places × AllPairs IsOnce (fitted h) × AllPairs IsOneTenancy (lived h))) × IsAsked h count)
    × Agree [] (all_ends h)) ↔ (IsHouse h × (0 < count))
house_is h users count of_users built read =
    let areas = through (back (pairs_map (λ a b. a.flat ≡ b.flat → a.area ≡ b.area) user_of users))
    (pairs_of (λ a b. a.flat ≡ b.flat → a.area ≡ b.area) (sym of_users)) in (
      λ r. (
        record {
          built = built;
          spans = r.0.0.0.0;
          offsets = r.1;
          areas = areas.0 r.0.0.0.1;
          places = λ k d lt. (r.0.0.1.0 k d lt).0;
          read = read;
          one_curve = λ k d lt. (r.0.0.1.0 k d lt).1;
          one_place = r.0.0.1.1;
          one_tenancy = r.0.0.1.2;
          there = r.0.1.0;
        },
        r.0.1.1,
      ),
      λ q. (
        (
          ((q.0.spans, areas.1 q.0.areas), (λ k d lt. (q.0.places k d lt, q.0.one_curve k d lt), q.0.one_place, q.0.one_tenancy)),
          (q.0.there, q.1),
        ),
        q.0.offsets,
      ),
    )
