-- Steps on one work area: the rows that it holds, how they are seen, and one step after another.
use mathlib.Core.Path.{◌≡◌, refl, ap, ap₂, ◌∙◌, subst}
use mathlib.Core.List.{List}
use Prim.Native.Nat.{ℕ, ◌*◌}
use lib.ListN.{length, drop}
use Rattle.dense_rows.specs.Bits.{Row}
use Rattle.dense_rows.specs.Rows.{held}
use Rattle.dense_rows.specs.Areas.{rows_in, rows_seen, Views, SameArea, Holds}
use Rattle.dense_rows.specs.declared.area.Area.{Area}
use Rattle.dense_rows.specs.declared.view.View.{View}
use Rattle.dense_rows.proofs.HeldLaws.{rows_length}

pub rows_count : (a : Area) → length (rows_in a) ≡ a.m
rows_count a = rows_length a.m a.w 0 a.words.now (drop (a.m * a.w) a.words.now)

pub seen_count : (v : View) → length (rows_seen v) ≡ v.m
seen_count v = rows_length v.m v.w 0 v.words.now (drop (v.m * v.w) v.words.now)

-- what is seen of an area are its rows
pub seen_rows : {a : Area} {v : View} → Views a v → rows_seen v ≡ rows_in a
seen_rows {a} {v} s = rw (s.same_m, s.same_w, s.same_words) refl

pub same_area : {a : Area} → SameArea a a
same_area = record { same_m = refl; same_w = refl; same_reference = refl }

pub same_then : {a b c : Area} → SameArea a b → SameArea b c → SameArea a c
same_then p q = record { same_m = q.same_m ∙ p.same_m; same_w = q.same_w ∙ p.same_w; same_reference = q.same_reference ∙ p.same_reference }

-- the rows of the same area, by the sizes that it was lent with
pub same_rows : {a b : Area} → SameArea a b → rows_in b ≡ held a.m a.w b.words.now
same_rows {a} {b} s = ap₂ (λ (m w : ℕ). held m w b.words.now) s.same_m s.same_w

-- one step after another
pub holds_then : {a b c : Area} {rows : List Row} (f : List Row → List Row) → Holds a rows b → Holds b (f (rows_in b)) c → Holds a (f rows) c
holds_then {a} {b} {c} {rows} f p q = record {
  same = same_then p.same q.same;
  became = let r = rw (p.same.same_m, p.same.same_w) at q.became in record { long = r.long ∙ p.became.long; holds = r.holds ∙ ap f p.became.holds; past = r.past ∙ p.became.past };
}

pub holds_in : {a b : Area} {rows : List Row} → Holds a rows b → rows_in b ≡ rows
holds_in p = same_rows p.same ∙ p.became.holds

-- the same rows, otherwise written
pub holds_as : {a b : Area} {rows rows' : List Row} → rows ≡ rows' → Holds a rows b → Holds a rows' b
holds_as {a} {b} e h = subst (λ (rows : List Row). Holds a rows b) e h

-- no step
pub holds_same : {a : Area} {rows : List Row} → rows_in a ≡ rows → Holds a rows a
holds_same e = record { same = same_area; became = record { long = refl; holds = e; past = refl } }
