-- One step of reading an image, and why it stops.
use Rattle.std.proofs.Common.{◌≡◌, inl, inr, ℕ, zero, suc, ◌+◌, List, arith, ap, subst}
use Rattle.dc_sectors.specs.Disk.{Image}
use Rattle.dc_roots.specs.declared.root.Root.{Root}
use Rattle.dc_pages.specs.declared.site.Site.{Site}
use Rattle.dc_pages.specs.Group.{IsGroup, IsComplete}
use Rattle.dc_pages.specs.Reading.{IsCutAt}
use Rattle.mbdc_log.specs.Halves.{budget_of}
use Rattle.mbdc_log.specs.Sites.{base_site, change_site}
use Rattle.mbdc_log.specs.Stands.{IsSequence, IsFresh, IsFirst, IsCurrent, IsReached, IsRead, StandsBy}
use Rattle.mbdc_log.specs.Behind.{IsBehind}
use Rattle.mbdc_log.specs.Refusal.{IsDamagedAt}
use Rattle.mbdc_io.specs.declared.kept.kept.Language.{Ghosts as Language}

module _ {K : Type 0} (lang : Language K) where
  -- the group of a site was read, in this many sectors
  abbrev IsThere : Site → List ℕ → ℕ → Image → Type 0
  IsThere site payload sectors image = (session : ℕ) × (pages : ℕ) × IsGroup site session payload pages image × (sectors ≡ pages + 1)

  module _ (half_len : ℕ) (root : Root) (image : Image) (current : IsCurrent half_len root image) where
    -- the base group that was read spells a state
    pub base_reached : (site : Site) (sectors : ℕ) (payload : List ℕ) (state : lang.State) → site ≡ base_site half_len root → IsThere site payload sectors image
        → lang.SpellsState (budget_of half_len) payload state → IsReached lang half_len root (site.first + sectors) root.base_sequence state image
    base_reached site sectors payload state at_site read spells =
        let first = ap (λ (s : Site). s.first) at_site in
        let count = read.3 in
        record {
          current = current;
          m = zero;
          holds = record {
            session = read.0;
            payload = payload;
            pages = read.1;
            group = subst (λ (s : Site). IsGroup s read.0 payload read.1 image) at_site read.2;
            spells = spells;
            end = omega (arith, first, count);
          };
          last_is = omega arith;
        }

    -- no base group is there
    pub base_cut : (site : Site) (n : ℕ) → site ≡ base_site half_len root → IsCutAt site n image → IsDamagedAt lang half_len n image
    base_cut site n at_site cut = inl (inl (inr (record { root = root; current = current; cut = subst (λ (s : Site). IsCutAt s n image) at_site cut })))

    -- the base group spells no state
    pub base_bad : (site : Site) (sectors : ℕ) (payload : List ℕ) → site ≡ base_site half_len root → IsThere site payload sectors image
        → ((state : lang.State) → lang.SpellsState (budget_of half_len) payload state → ⊥) → IsDamagedAt lang half_len site.first image
    base_bad site sectors payload at_site read none =
        inl (inr (record {
          root = root;
          current = current;
          session = read.0;
          pages = read.1;
          payload = payload;
          group = subst (λ (s : Site). IsGroup s read.0 payload read.1 image) at_site read.2;
          no_state = none;
          at = ap (λ (s : Site). s.first) at_site;
        }))

  -- one group of changes more
  pub group_reached : (half_len : ℕ) (root : Root) (place last : ℕ) (site : Site) (sectors : ℕ) (payload : List ℕ) (was state : lang.State) (changes : List lang.Change) (image : Image)
      → IsReached lang half_len root place last was image → site ≡ change_site half_len root (last + 1) place → IsSequence (last + 1) → IsThere site payload sectors image
      → lang.SpellsChanges payload changes → lang.Accepts (budget_of half_len) was changes → state ≡ lang.after was changes → IsReached lang half_len root (place + sectors) (last + 1) state image
  group_reached half_len root place last site sectors payload was state changes image reached at_site small read spells accepted is =
      let last_is = reached.last_is in
      let e : last + 1 ≡ root.base_sequence + suc reached.m = omega (arith, last_is) in
      let group = subst (λ (s : Site). IsGroup s read.0 payload read.1 image) at_site read.2 in
      let count = read.3 in
      record {
        current = reached.current;
        m = suc reached.m;
        holds = record {
          from = place;
          was = was;
          before = reached.holds;
          session = read.0;
          payload = payload;
          pages = read.1;
          is_sequence = subst IsSequence e small;
          group = subst (λ (q : ℕ). IsGroup (change_site half_len root q place) read.0 payload read.1 image) e group;
          changes = changes;
          spells = spells;
          accepted = accepted;
          state_is = is;
          end = omega (arith, count);
        };
        last_is = e;
      }

  -- a complete group whose changes aren't accepted in turn
  pub group_bad : (half_len : ℕ) (root : Root) (place last : ℕ) (site : Site) (sectors : ℕ) (payload : List ℕ) (was : lang.State) (image : Image)
      → IsReached lang half_len root place last was image → site ≡ change_site half_len root (last + 1) place → IsSequence (last + 1) → IsThere site payload sectors image
      → ((changes : List lang.Change) → lang.SpellsChanges payload changes → lang.Accepts (budget_of half_len) was changes → ⊥) → IsDamagedAt lang half_len place image
  group_bad half_len root place last site sectors payload was image reached at_site small read none =
      let last_is = reached.last_is in
      let e : last + 1 ≡ root.base_sequence + suc reached.m = omega (arith, last_is) in
      let group = subst (λ (s : Site). IsGroup s read.0 payload read.1 image) at_site read.2 in
      inr (record {
        root = root;
        current = reached.current;
        m = reached.m;
        state = was;
        before = reached.holds;
        is_sequence = subst IsSequence e small;
        session = read.0;
        pages = read.1;
        payload = payload;
        group = subst (λ (q : ℕ). IsGroup (change_site half_len root q place) read.0 payload read.1 image) e group;
        no_changes = none;
      })

  -- after the last complete group the image is read
  pub all_read : (half_len : ℕ) (root : Root) (place last : ℕ) (state : lang.State) (image : Image) → IsReached lang half_len root place last state image
      → ((sequence : ℕ) → sequence ≡ last + 1 → IsSequence sequence → IsComplete (change_site half_len root sequence place) image → ⊥) → IsRead lang half_len root place last state image
  all_read half_len root place last state image reached none =
      let last_is = reached.last_is in
      let e : root.base_sequence + suc reached.m ≡ last + 1 = omega (arith, last_is) in
      record {
        m = reached.m;
        by = record {
          chosen = reached.current.chosen;
          version = reached.current.version;
          length_is = reached.current.length_is;
          holds = reached.holds;
          no_more = λ small complete. none (root.base_sequence + suc reached.m) e small complete;
        };
        last_is = last_is;
      }

  -- a sector is ahead of what is read
  pub read_behind : (half_len : ℕ) (root : Root) (place last n : ℕ) (state : lang.State) (image : Image) → IsRead lang half_len root place last state image
      → IsFirst half_len root.session (last + 1) n image → IsBehind lang half_len n image
  read_behind half_len root place last n state image read first =
      let last_is = read.last_is in
      let e : last + 1 ≡ root.base_sequence + suc read.m = omega (arith, last_is) in
      record {
        root = root;
        m = read.m;
        place = place;
        state = state;
        by = read.by;
        first = subst (λ (q : ℕ). IsFirst half_len root.session q n image) e first;
      }

  -- and where none is, the image stands for the state
  pub read_fresh : (half_len : ℕ) (root : Root) (place last : ℕ) (state : lang.State) (image : Image) → (read : IsRead lang half_len root place last state image)
      → IsFresh half_len root.session (last + 1) image → StandsBy lang half_len root read.m place state image
  read_fresh half_len root place last state image read fresh =
      let last_is = read.last_is in
      let e : last + 1 ≡ root.base_sequence + suc read.m = omega (arith, last_is) in
      record { reads = read.by; fresh = subst (λ (q : ℕ). IsFresh half_len root.session q image) e fresh }
