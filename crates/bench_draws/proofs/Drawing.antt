-- What is drawn one more time comes last.
use Rattle.std.proofs.Common.{◌≡◌, refl, ap, ℕ, zero, suc, ◌+◌, ◌-◌, ◌*◌, ◌/◌, ◌^◌, [], ◌∷◌, ◌++◌, add-one, arith}
use Rattle.std.proofs.lemmas.List.{take_more_set}
use Rattle.bench_draws.specs.Draws.{next, after, values_of, edge_of, edges_of}

pub after_more : (k seed : ℕ) → after (k + 1) seed ≡ next (after k seed)
unfolding after
after_more zero seed = refl
after_more (suc k) seed = rw (add-one, ← add-one k) (after_more k (next seed))

pub values_more : (bits k seed : ℕ) → values_of bits (k + 1) seed ≡ values_of bits k seed ++ (next (after k seed) / 2 ^ (64 - bits)) ∷ []
unfolding after values_of
values_more bits zero seed = refl
values_more bits (suc k) seed = rw add-one (ap (λ l. next seed / 2 ^ (64 - bits) ∷ l) (rw add-one at (values_more bits k (next seed))))

pub after_edge : (k seed : ℕ) → after (4 * (k + 1)) seed ≡ after 4 (after (4 * k) seed)
unfolding after
after_edge k seed = let four : 4 * (k + 1) ≡ 4 * k + 1 + 1 + 1 + 1 = omega arith in rw four (simp after_more)

pub edges_more : (n hubs k seed : ℕ) → edges_of n hubs (k + 1) seed ≡ edges_of n hubs k seed ++ edge_of n hubs (after (4 * k) seed) ∷ []
unfolding after edges_of
edges_more n hubs zero seed = refl
edges_more n hubs (suc k) seed =
    let four : 4 * suc k ≡ suc (suc (suc (suc (4 * k)))) = omega arith in
    rw (add-one, four) (ap (λ l. edge_of n hubs seed ∷ l) (rw add-one at (edges_more n hubs k (after 4 seed))))

pub ruleset one_more = (take_more_set, after_more, values_more, after_edge, edges_more)
