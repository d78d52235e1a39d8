-- What counting comes to: the degree of a vertex, and the lowest crowd.
use Rattle.std.proofs.Common.{◌≡◌, refl, ap, List, [], ◌∷◌, Bool, true, false, cond, ℕ, zero, suc, ◌+◌, leb, length, filter, arith, Option, Some, unwrap_or, take, replicate, ◌≤◌, add-one, zero-add, add-zero}
use Rattle.std.specs.List.{count_by, zip, find, range_with_len}
use Rattle.std.proofs.lemmas.List.{take-replicate}
use Rattle.std.proofs.lemmas.Iterator.Adapters.{option_map_id}
use Rattle.std.specs.Option.{option_map}
use Rattle.std.proofs.lemmas.List.Sums.{length-filter}
use Rattle.peeling.specs.declared.numbers.Edge.{Edge}
use Rattle.peel_rules.specs.Edges.{touches, bump, degree}
use Rattle.peel_rules.specs.Core.{pick}
use Rattle.peel_rules.specs.Peel.{crowd, crowded_from, crowded_vertex}
use Rattle.bench_cores.proofs.Living.{pick_all}

pub alive_filters : (v : ℕ) (bs : List Bool) (es : List Edge) → length (filter (λ p. touches v p.0) (filter (λ p. p.1) (zip es bs))) ≡ degree v (pick bs es)
unfolding pick degree
alive_filters v [] [] = refl
alive_filters v (b ∷ bs) [] = refl
alive_filters v [] (e ∷ es) = refl
alive_filters v (false ∷ bs) (e ∷ es) = alive_filters v bs es
alive_filters v (true ∷ bs) (e ∷ es) = go (touches v e) (alive_filters v bs es)
  where
    rest : List (Edge × Bool)
    rest = filter (λ p. touches v p.0) (filter (λ p. p.1) (zip es bs))

    go : (t : Bool) → length rest ≡ degree v (pick bs es) → length (cond t ((e, true) ∷ rest) rest) ≡ bump t (degree v (pick bs es))
    go true ih = ap suc ih
    go false ih = ih

pub degree_counts : (v : ℕ) (bs : List Bool) (es : List Edge) → count_by (λ p. touches v p.0) (filter (λ p. p.1) (zip es bs)) ≡ degree v (pick bs es)
degree_counts v bs es = rw (← length-filter) (alive_filters v bs es)

-- ---- crowds

abbrev pub crowds : List Edge → ℕ → Bool
crowds es v = leb crowd (degree v es)

found_from : (es : List Edge) (v k : ℕ) → unwrap_or (find (crowds es) (range_with_len v k)) (v + k) ≡ crowded_from v k es
unfolding crowded_from
found_from es v zero = add-zero v
found_from es v (suc k) = go (crowds es v) (found_from es (v + 1) k)
  where
    later : Option ℕ
    later = find (crowds es) (range_with_len (v + 1) k)

    go : (t : Bool) → unwrap_or later (v + 1 + k) ≡ crowded_from (v + 1) k es → unwrap_or (cond t (Some v) later) (v + suc k) ≡ cond t v (crowded_from (suc v) k es)
    go true ih = refl
    go false ih = let past : v + suc k ≡ v + 1 + k = omega arith in rw (past, ← add-one v) ih

-- every edge of a list is alive
pub all_alive : (es : List Edge) → length es ≤ 256 → take (length es) (replicate 256 true) ≡ replicate (length es) true
all_alive es h = take-replicate (length es) 256 true h

-- the first crowd that is found, where every edge is alive
pub crowd_found : (n : ℕ) (es : List Edge) (r : Option ℕ) → length es ≤ 256
    → option_map (λ v. v) r ≡ find (crowds (pick (take (length es) (replicate 256 true)) es)) (range_with_len 0 n) → unwrap_or r n ≡ crowded_vertex n es
unfolding crowded_vertex
crowd_found n es r h e =
    let found = rw (option_map_id, all_alive es h, pick_all es) at e in
    rw found (rw zero-add at (found_from es 0 n))
