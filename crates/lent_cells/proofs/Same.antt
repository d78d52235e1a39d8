-- Cells that are the same, as a test and as an equation.
use Rattle.std.proofs.Common.{◌≡◌, refl, ◌∙◌, ℕ, ◌+◌, ◌<◌, true, eqb, List, [], ◌∷◌, map, length, get_or, replicate, arith}
use Rattle.std.proofs.lemmas.List.{length-append, length-drop, length-replicate, length-map, length-take-le, get_or-take}
use Rattle.std.proofs.lemmas.List.FromFn.{fill_by_all}
use Rattle.std.proofs.lemmas.List.{places}
use Rattle.std.proofs.lemmas.Bool.Decides.{nat_tests}
use Rattle.std.proofs.lemmas.Slice.Eq.{bytes_eq-Decides}
use Rattle.std.specs.List.{range_with_len, enumerate_from, list_all}
use Rattle.areas.specs.Stretch.{cleared}
use Rattle.lent_cells.specs.Cells.{mark, left_at, same_cells, leaves, left_cells}

-- yes only where both are one list
pub same_yes : (a b : List ℕ) → same_cells a b ≡ true → a ≡ b
same_yes a b = (bytes_eq-Decides a b).0

-- and always there
pub same_self : (a : List ℕ) → same_cells a a ≡ true
same_self a = (bytes_eq-Decides a a).1 refl

-- ---- what is left of marked cells

pub length_leaves : (room n : ℕ) → length (leaves room n) ≡ n
unfolding cleared
length_leaves room n = length-take-le n (cleared room (replicate n mark)) (simp (length-append, length-replicate, length-drop) (omega arith))

pub leaves_at : (room n k : ℕ) → k < n → get_or (leaves room n) k 0 ≡ left_at room k
unfolding cleared
leaves_at room n k h = get_or-take n (cleared room (replicate n mark)) k 0 h ∙ grind (arith, nat_tests, places)

-- cell by cell, whichever number a cell holds
pub left_by : {X : Type 0} (wide : X → ℕ) (room : ℕ) (cells : List X)
    → list_all (λ p. eqb (wide p.1) (left_at room p.0)) (enumerate_from 0 cells) ≡ left_cells room (map wide cells)
left_by {X} wide room cells = rw (length-map, fill_by_all (left_at room) (leaves room n) n 0 (length_leaves room n) (leaves_at room n)) (from 0 cells)
  where
    n : ℕ
    n = length cells

    from : (i : ℕ) (xs : List X) → list_all (λ p. eqb (wide p.1) (left_at room p.0)) (enumerate_from i xs) ≡ same_cells (map wide xs) (map (left_at room) (range_with_len i (length xs)))
    from i [] = refl
    from i (x ∷ xs) = rw (from (i + 1) xs)
