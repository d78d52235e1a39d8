-- What the definitions over the parts of a work area say of the structs that lend it.
use Rattle.std.specs.Prelude.{◌≡◌, List}
use Rattle.dense_rows.specs.Bits.{Row}
use Rattle.dense_rows.specs.Rows.{held, Became}
use Rattle.dense_rows.specs.declared.area.Area.{Area}
use Rattle.dense_rows.specs.declared.view.View.{View}

-- the rows that the area holds
abbrev pub rows_in : Area → List Row
rows_in a = held a.m a.w a.words.now

-- the rows that are seen in words lent shared
abbrev pub rows_seen : View → List Row
rows_seen v = held v.m v.w v.words.now

-- the area's sizes and words, as they are read
pub record Views (a : Area) (v : View) : Type 0 where
  pub same_m : v.m ≡ a.m
  pub same_w : v.w ≡ a.w
  pub same_words : v.words.now ≡ a.words.now

-- the same area with the same rows and words, whatever they hold
pub record SameArea (before after : Area) : Type 0 where
  pub same_m : after.m ≡ before.m
  pub same_w : after.w ≡ before.w
  pub same_reference : after.words.ghost_name ≡ before.words.ghost_name

-- the same area came to hold these rows
pub record Holds (before : Area) (rows : List Row) (after : Area) : Type 0 where
  pub same : SameArea before after
  pub became : Became before.m before.w before.words.now rows after.words.now
