-- What is written to the numbers that show a state, part by part: they show the next state.
use mathlib.Core.Path.{◌≡◌, refl, sym, ap, ap₂, ◌∙◌}
use mathlib.Core.List.{List, [], ◌∷◌, ◌++◌, map, map-append, reverse}
use mathlib.Core.Bool.{false}
use Prim.Native.Nat.{ℕ, ◌+◌, ◌≤◌, ◌<◌}
use native.Mathlib.Nat.{add-zero}
use native.Mathlib.Omega.{arith}
use lib.ListN.{length, get_or, set, length-set, length-map, length-reverse, length-append}
use Rattle.gf2.specs.Equation.{Equation}
use Rattle.areas.specs.Segments.{joined, offset}
use Rattle.areas.specs.Stretch.{put}
use Rattle.areas.specs.Rows.{padded}
use Rattle.areas.proofs.Stretch.{put_all}
use Rattle.areas.proofs.Segments.{offset_set}
use Rattle.rows.proofs.Put.{map-set}
use Rattle.lazy.specs.Lazy.{State, Solved, lowered, pushed, skip, pass_over}
use Rattle.lazy.proofs.Priorities.{length_lowered}
use Rattle.lazy_setup.specs.declared.Layout.{Layout}
use Rattle.lazy_setup.specs.Area.{mark, segments, numbers_of}
use Rattle.lazy_setup.specs.Layout.{Sized}
use Rattle.lazy_pops.specs.Laid.{Laid, listed}
use Rattle.lazy_pops.specs.Writes.{activated, lower, weightless, recorded}
use Rattle.lazy_pops.proofs.Segmented.{Segmented, write_cell, write_part}
use Rattle.lazy_pops.proofs.Places.{segmented}
use Rattle.lazy_pops.proofs.Padding.{push_padded, pop_padded, over_padded}
use Rattle.lazy_pops.proofs.Reading.{size, weight_place, variables_place, idle_place, priority_place, equations_place, solved_place, pivots_place}
use Rattle.lazy_pops.proofs.Stacks.{pushed_longer}

module _ {n m : ℕ} {layout : Layout} {sys : List Equation} {s : State} {numbers : List ℕ} (d : Laid n m layout sys s numbers) where
  -- the segments of another state of the same system
  pub relaid : {numbers' : List ℕ} {segs' : List (List ℕ)} (s' : State) → Segmented n m (listed n sys) segs' numbers' → segs' ≡ segments n sys s' → Sized n sys s'
      → Laid n m layout sys s' numbers'
  unfolding numbers_of
  relaid s' g e z = record { many = d.many; placed = d.placed; sized = z; shown = g.shown ∙ ap joined e }

  pub write_active : (v : ℕ) → v < n → Laid n m layout sys (activated v s) (set numbers (layout.idle + v) 0)
  unfolding segments activated
  write_active v h =
      let z = d.sized in
      relaid (activated v s) (write_cell (segmented d) 6 layout.idle (idle_place d) v 0 (rw (size d 6) h))
      (ap (λ (l : List ℕ). set (segments n sys s) 6 l) (sym (map-set mark s.idle v false)))
      (record {
        rows = z.rows;
        narrow = z.narrow;
        weight = z.weight;
        variables = z.variables;
        idle = length-set s.idle v false ∙ z.idle;
        priority = z.priority;
        equations = z.equations;
        solved = z.solved;
        dense = z.dense;
        dense_narrow = z.dense_narrow;
      })

  pub write_weight : (v : ℕ) → v < n → Laid n m layout sys (weightless v s) (set numbers (layout.weight + v) 0)
  unfolding segments weightless
  write_weight v h =
      let z = d.sized in
      relaid (weightless v s) (write_cell (segmented d) 4 layout.weight (weight_place d) v 0 (rw (size d 4) h)) refl
      (record {
        rows = z.rows;
        narrow = z.narrow;
        weight = length-set s.weight v 0 ∙ z.weight;
        variables = z.variables;
        idle = z.idle;
        priority = z.priority;
        equations = z.equations;
        solved = z.solved;
        dense = z.dense;
        dense_narrow = z.dense_narrow;
      })

  -- the popped cell is zero
  pub pop_variable_lem : (v : ℕ) (vs : List ℕ) → s.variables ≡ v ∷ vs → Laid n m layout sys (skip vs s) (set numbers (layout.variables + length vs) 0)
  unfolding segments skip
  pop_variable_lem v vs q =
      let z = d.sized in let l = z.variables in let q' = ap (λ (l : List ℕ). length l) q in
      relaid (skip vs s) (write_cell (segmented d) 5 layout.variables (variables_place d) (length vs) 0 (rw (size d 5) (omega arith)))
      (ap (λ (l : List ℕ). set (segments n sys s) 5 l)
      (ap (λ (l : List ℕ). set (padded n (reverse l)) (length vs) 0) q ∙ pop_padded n v vs (omega arith)))
      (record {
        rows = z.rows;
        narrow = z.narrow;
        weight = z.weight;
        variables = omega arith;
        idle = z.idle;
        priority = z.priority;
        equations = z.equations;
        solved = z.solved;
        dense = z.dense;
        dense_narrow = z.dense_narrow;
      })

  pub pop_equation_lem : (e : ℕ) (es : List ℕ) → s.equations ≡ e ∷ es → Laid n m layout sys (pass_over es s) (set numbers (layout.equations + length es) 0)
  unfolding segments pass_over
  pop_equation_lem e es q =
      let z = d.sized in let l = z.equations in let q' = ap (λ (l : List ℕ). length l) q in
      relaid (pass_over es s) (write_cell (segmented d) 9 layout.equations (equations_place d) (length es) 0 (rw (size d 9) (omega (arith, d.many))))
      (ap (λ (l : List ℕ). set (segments n sys s) 9 l)
      (ap (λ (l : List ℕ). set (padded (length sys) (reverse l)) (length es) 0) q ∙ pop_padded (length sys) e es (omega arith)))
      (record {
        rows = z.rows;
        narrow = z.narrow;
        weight = z.weight;
        variables = z.variables;
        idle = z.idle;
        priority = z.priority;
        equations = omega arith;
        solved = z.solved;
        dense = z.dense;
        dense_narrow = z.dense_narrow;
      })

  pub write_lowered : (es : List ℕ) → length (pushed es s.priority s.equations) ≤ m
      → Laid n m layout sys (lower es s) (put layout.priority (lowered es s.priority) (put layout.equations (reverse (pushed es s.priority s.equations)) numbers))
  unfolding segments lower offset
  write_lowered es room =
      let z = d.sized in
      let top : List ℕ = pushed es s.priority s.equations in
      let r = length-reverse top in let r' = length-reverse s.equations in
      let p = length_lowered es s.priority in
      let more = pushed_longer es s.priority s.equations in
      let one = write_part (segmented d) 9 layout.equations (equations_place d) 0 (reverse top) (rw (size d 9) (omega arith)) in
      let two = write_part one 8 layout.priority (priority_place d) 0 (lowered es s.priority) (omega arith) in
      rw (add-zero, add-zero) at
      (relaid (lower es s) two
      (ap₂ (λ (x y : List ℕ). set (set (segments n sys s) 9 x) 8 y)
      (over_padded (length sys) (reverse top) (reverse s.equations) (omega arith) (omega (arith, d.many))) (put_all (lowered es s.priority) s.priority p))
      (record {
        rows = z.rows;
        narrow = z.narrow;
        weight = z.weight;
        variables = z.variables;
        idle = z.idle;
        priority = p ∙ z.priority;
        equations = rw (← d.many) room;
        solved = z.solved;
        dense = z.dense;
        dense_narrow = z.dense_narrow;
      }))

  pub write_solved : (e v : ℕ) → length s.solved < m
      → Laid n m layout sys (recorded e v s) (set (set numbers (layout.solved + length s.solved) e) (layout.pivots + length s.solved) v)
  unfolding segments recorded
  write_solved e v h =
      let z = d.sized in
      let k : ℕ = length s.solved in
      let le = length-map s.solved (λ (x : Solved). x.equation) in
      let lp = length-map s.solved (λ (x : Solved). x.pivot) in
      let one = write_cell (segmented d) 10 layout.solved (solved_place d) k e (rw (size d 10) h) in
      let two = write_cell one 11 layout.pivots (pivots_place_after e k) k v (rw (size d 11) h) in
      relaid (recorded e v s) two
      (ap₂ (λ (x y : List ℕ). set (set (segments n sys s) 10 x) 11 y)
      (more (λ (x : Solved). x.equation) e refl) (more (λ (x : Solved). x.pivot) v refl))
      (record {
        rows = z.rows;
        narrow = z.narrow;
        weight = z.weight;
        variables = z.variables;
        idle = z.idle;
        priority = z.priority;
        equations = z.equations;
        solved = rw (length-append s.solved (record { equation = e; pivot = v } ∷ [])) (omega (arith, d.many));
        dense = z.dense;
        dense_narrow = z.dense_narrow;
      })
    where
      pivots_place_after : (e k : ℕ) → offset 11 (set (segments n sys s) 10 (set (get_or (segments n sys s) 10 []) k e)) ≡ layout.pivots
      pivots_place_after e k = offset_set 11 10 (set (get_or (segments n sys s) 10 []) k e) (segments n sys s) (length-set (get_or (segments n sys s) 10 []) k e) ∙ pivots_place d

      more : (f : Solved → ℕ) (x : ℕ) → f (record { equation = e; pivot = v }) ≡ x
          → set (padded (length sys) (map f s.solved)) (length s.solved) x ≡ padded (length sys) (map f (s.solved ++ (record { equation = e; pivot = v } ∷ [])))
      more f x q =
          let l = length-map s.solved f in
          rw (map-append f s.solved (record { equation = e; pivot = v } ∷ []), q, ← l) (push_padded (length sys) (map f s.solved) x (omega (arith, d.many)))
