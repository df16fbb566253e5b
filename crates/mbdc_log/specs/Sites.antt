-- Where the groups of an image lie: this product's image format.
use Rattle.std.specs.Prelude.{ℕ}
use Rattle.dc_roots.specs.declared.root.Root.{Root}
use Rattle.dc_pages.specs.declared.site.Site.{Site}
use Rattle.dc_pages.specs.Group.{base_kind, change_kind}
use Rattle.mbdc_log.specs.Halves.{half_start, half_end}

-- the site of a root's base group: its half begins with it
abbrev pub base_site : ℕ → Root → Site
base_site half_len root = record {
  kind = base_kind;
  version = root.version;
  sequence = root.base_sequence;
  first = half_start half_len root.half;
  limit = half_end half_len root.half;
}

-- the site of a group of changes of that sequence, from a place in the root's half on
abbrev pub change_site : ℕ → Root → ℕ → ℕ → Site
change_site half_len root sequence place = record {
  kind = change_kind;
  version = root.version;
  sequence = sequence;
  first = place;
  limit = half_end half_len root.half;
}
