-- The page in a group writer's buffer (this product's image format).
use Rattle.std.specs.Prelude.{◌≡◌, ℕ, ◌-◌, ◌≤◌, List, ◌++◌, length, take, drop, replicate}
use Rattle.dc_pages.specs.Group.{page_payload, head_len}

-- this many bytes after the head are used, and those after them are zero
pub record IsBuffer (used : ℕ) (page : List ℕ) : Type 0 where
  pub small : used ≤ page_payload
  pub long : length page ≡ 512
  pub clean : drop head_len page ≡ take used (drop head_len page)
      ++ replicate (page_payload - used) 0
