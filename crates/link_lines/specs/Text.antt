-- Text that is written piece by piece: each piece behind what stands already.
use Rattle.std.specs.Prelude.{◌≡◌, List, ℕ, ◌+◌, ◌≤◌, length}
use Rattle.areas.specs.Stretch.{put}
use Rattle.link_lines.specs.declared.text.Text.{Text}

-- the text has become longer by these bytes, in the same lent bytes, and nothing else is changed
pub record Adds (bytes : List ℕ) (old new : Text) : Type 0 where
  pub same : new.out.ghost_name ≡ old.out.ghost_name
  pub end : new.end ≡ old.end + length bytes
  pub out : new.out.now ≡ put old.end bytes old.out.now
  pub room : new.end ≤ length new.out.now
  pub long : length new.out.now ≡ length old.out.now
