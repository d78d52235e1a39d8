-- The turns of `pass_rows`: a row that begins above row i stays, and one that begins below changes places with it.
use mathlib.Core.Path.{◌≡◌, refl, sym, ap, ◌∙◌}
use mathlib.Core.Logic.{◌≢◌}
use mathlib.Core.List.{List, []}
use Prim.Native.Nat.{ℕ, ◌+◌, ◌-◌, ◌*◌, ◌≤◌, ◌<◌}
use native.Mathlib.Omega.{arith}
use lib.ListN.{length, get_or, set, drop}
use lib.Seq.{get_or-set_same, get_or-set_other}
use Rattle.gf2.specs.Equation.{Equation, eqn}
use Rattle.answers.specs.Sizes.{row_numbers, row_words}
use Rattle.rows.specs.Picture.{Held, Became, rows_of, row_at, swapped}
use Rattle.rows.proofs.Holding.{row_narrow, row_first, held}
use Rattle.sparse_rules.specs.Eliminate.{meeting}
use Rattle.sparse_rows.specs.Loop.{meet_loop, StandsAt}
use Rattle.sparse_rows.specs.Counts.{ahead}
use Rattle.sparse_rows.specs.Reduce.{Alike, Passes, MeetsRows}
use Rattle.sparse_rows.specs.declared.echelon.Met.TheVariants.{Both}
use Rattle.sparse_rows.proofs.Forward.{full, row_in, meet_pass, meet_swap}
use Rattle.sparse_rows.proofs.Rounds.{stands_turn, stands_filled}
use Rattle.sparse_rows.proofs.Ahead.{apart_cost, ahead_turn}

-- u is what row i begins with; row i has met the rows from j up to k, without a sum, and where k is j, nothing was written
pub record Passing (n m d i j : ℕ) (numbers₀ words₀ numbers words : List ℕ) (u k : ℕ) : Type 0 where
  pub stands : StandsAt n m d i (meet_loop (d - j) i j (rows_of n m numbers₀ words₀)) (drop (row_numbers n m) numbers₀) (drop (row_words m) words₀) numbers words k
  pub first : u ≡ get_or numbers (i * n) 0
  pub from : j ≤ k
  pub still : k ≡ j → numbers ≡ numbers₀
  pub counts : ahead n m d i numbers words k ≡ ahead n m d i numbers₀ words₀ j

pub passing_begin : {n m d i j : ℕ} {numbers words : List ℕ} → Held n m numbers words → i < j → j ≤ d → d ≤ m → get_or numbers (m * n + n + i) 0 ≢ 0
    → Passing n m d i j numbers words numbers words (get_or numbers (i * n) 0) j
passing_begin {n} {m} {i = i} {numbers = numbers} {words} k h g l f =
    record {
      stands = record { rows = rows_of n m numbers words; drawn = k; i_below = h; j_in = g; d_in = l; filled = full k i (omega arith) f; future = refl };
      first = refl;
      from = omega arith;
      still = λ _. refl;
      counts = refl;
    }

module _ {n m d i j : ℕ} {numbers₀ words₀ numbers words : List ℕ} {u k : ℕ} (s : Passing n m d i j numbers₀ words₀ numbers words u k) where
  pub passing_held : Held n m numbers words
  passing_held = held s.stands.drawn

  passing_stop : (k < d → Alike n m i k numbers) → Passes n m d i j numbers₀ words₀ numbers words k
  passing_stop a = record { from = s.from; still = s.still; alike = a; stands = s.stands }

  pub passing_end : d ≤ k → Passes n m d i j numbers₀ words₀ numbers words k
  passing_end h = passing_stop (λ l. absurd (omega arith))

  module _ (h : k < d) where
    pub k_in : k < m
    k_in = omega (arith, s.stands.d_in)

    i_in : i < m
    i_in = omega (arith, s.stands.i_below, k_in)

    -- where row k begins
    pub passing_in : k * n < length numbers
    passing_in = row_in passing_held k k_in

    -- a meeting of rows that begin apart cancels nothing
    onward : {numbers' words' : List ℕ} → get_or numbers (i * n) 0 ≢ get_or numbers (k * n) 0 → MeetsRows meeting n m i k numbers words numbers' words' Both
        → ahead n m d i numbers' words' (k + 1) ≡ ahead n m d i numbers₀ words₀ j
    onward {numbers'} {words'} ne q =
        let a = ahead_turn passing_held s.stands.i_below h s.stands.d_in q refl in
        let b = apart_cost passing_held i k s.stands.i_below k_in (stands_filled s.stands) ne in
        omega (arith, s.counts)

    pub passing_above : u < get_or numbers (k * n) 0 → Passing n m d i j numbers₀ words₀ numbers words u (k + 1)
    passing_above l =
        record {
          stands = stands_turn s.stands h (meet_pass passing_held i k s.stands.i_below k_in (stands_filled s.stands) (omega (arith, s.first))) refl;
          first = s.first;
          from = omega (arith, s.from);
          still = λ e. absurd (omega (arith, s.from));
          counts = onward (omega (arith, s.first)) (meet_pass passing_held i k s.stands.i_below k_in (stands_filled s.stands) (omega (arith, s.first)));
        }

    module _ (l : get_or numbers (k * n) 0 < u) (f : get_or numbers (m * n + n + k) 0 ≢ 0) where
      wide : 0 < n
      wide = let g = full passing_held k k_in f in omega (arith, row_narrow passing_held k k_in)

      pub passing_swap : {numbers' words' : List ℕ} → Became n m numbers words (swapped i k (rows_of n m numbers words)) numbers' words'
          → Passing n m d i j numbers₀ words₀ numbers' words' (get_or numbers (k * n) 0) (k + 1)
      passing_swap {numbers'} {words'} b =
          record {
            stands = stands_turn s.stands h (meet_swap passing_held i k s.stands.i_below k_in f (stands_filled s.stands) (omega (arith, s.first)) numbers' words' b) refl;
            first = row_first passing_held k k_in wide ∙ sym (row_first b i i_in wide ∙ ap (λ (e : Equation). get_or e.vars 0 0) now_i);
            from = omega (arith, s.from);
            still = λ e. absurd (omega (arith, s.from));
            counts = onward (omega (arith, s.first)) (meet_swap passing_held i k s.stands.i_below k_in f (stands_filled s.stands) (omega (arith, s.first)) numbers' words' b);
          }
        where
          now_i : row_at (swapped i k (rows_of n m numbers words)) i ≡ row_at (rows_of n m numbers words) k
          now_i =
              let ne : i ≢ k = omega (arith, s.stands.i_below) in
              get_or-set_other (set (rows_of n m numbers words) i (row_at (rows_of n m numbers words) k)) k i (row_at (rows_of n m numbers words) i) (eqn [] 0) ne
              ∙ get_or-set_same (rows_of n m numbers words) i (row_at (rows_of n m numbers words) k) (eqn [] 0) (omega (arith, i_in, passing_held.count))

    -- row k begins as row i does, or has no variables
    pub passing_same : get_or numbers (k * n) 0 ≡ u → Passes n m d i j numbers₀ words₀ numbers words k
    passing_same e = passing_stop (λ _. record { filled = stands_filled s.stands; same = λ _. sym s.first ∙ sym e })

    pub passing_empty : get_or numbers (m * n + n + k) 0 ≡ 0 → Passes n m d i j numbers₀ words₀ numbers words k
    passing_empty e = passing_stop (λ _. record { filled = stands_filled s.stands; same = λ f. absurd (f e) })
