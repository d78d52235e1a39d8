-- The lists of a case, and what loading one says and leaves.
use Rattle.std.specs.Prelude.{◌≡◌, Bool, ◌&&◌, List, ℕ, ◌+◌, ◌*◌, leb, length, drop, Option, Some, None}
use Rattle.areas.specs.Stretch.{put}
use Rattle.answers.specs.Calls.{pick}
use Rattle.link_form.specs.Bytes.{field, fields}
use Rattle.replay_cases.specs.declared.lists.ListHead.{ListHead}

-- count numbers of width bytes from p on, if all of them are there
abbrev pub whole_list : ℕ → ℕ → ℕ → ℕ → Option ListHead
whole_list width count p end =
    pick (leb width 8 && leb (p + count * width) end) (Some (record { width = width; count = count; at = p })) None

-- the list at `at`: a byte for the width, two for the count, then the numbers
unfoldable pub head_at : ℕ → List ℕ → Option ListHead
head_at at bytes =
    pick (leb (at + 3) (length bytes)) (whole_list (field 1 at bytes) (field 2 (at + 1) bytes) (at + 3) (length bytes)) None

-- the list can be loaded to n cells of `widest` bytes each
abbrev pub loads : ℕ → ℕ → ListHead → Bool
loads widest n head = leb head.count n && leb head.width widest

-- the list that is loaded, if one was found
abbrev pub loadable : ℕ → ℕ → Option ListHead → Option ListHead
loadable widest n None = None
loadable widest n (Some head) = pick (loads widest n head) (Some head) None

abbrev pub count_of : Option ListHead → Option ℕ
count_of None = None
count_of (Some head) = Some head.count

-- where the next list begins: where it was, if none is loaded
abbrev pub next_of : ℕ → Option ListHead → ℕ
next_of at None = at
next_of at (Some head) = head.at + head.count * head.width

-- the numbers at the front of the cells, or the cells as they were
abbrev pub cells_of : Option ListHead → List ℕ → List ℕ → List ℕ
cells_of None bytes out = out
cells_of (Some head) bytes out = put 0 (fields head.width head.count (drop head.at bytes)) out

-- what loading the list at `at` says and leaves
pub record Loads (widest at : ℕ) (bytes before : List ℕ) (said : Option ℕ) (next : ℕ) (out : List ℕ) : Type 0 where
  pub count : said ≡ count_of (loadable widest (length before) (head_at at bytes))
  pub place : next ≡ next_of at (loadable widest (length before) (head_at at bytes))
  pub cells : out ≡ cells_of (loadable widest (length before) (head_at at bytes)) bytes before
