-- What sparse elimination answers: a solution, the canonical one, or a contradiction, and never one for the other.
use mathlib.Core.Path.{◌≡◌, refl, sym, ◌∙◌, subst}
use mathlib.Core.Logic.{◌⊎◌, inl, inr, ◌↔◌}
use mathlib.Core.List.{List}
use mathlib.Core.Bool.{Bool, true, false}
use Prim.Native.Nat.{ℕ, ◌<◌, ◌^◌}
use lib.ListN.{length, get_or, replicate, length-replicate}
use Rattle.gf2.specs.Equation.{Equation, Each, Sorted, Below, MeetsAll}
use Rattle.gf2.specs.Span.{Cancels, InSpan}
use Rattle.gf2.specs.Canonical.{Lead, HasLead, Canonical}
use Rattle.gf2.specs.Ours.{Apart, our_part}
use Rattle.gf2.specs.Result.{Result, unsolvable, ok}
use Rattle.gf2.proofs.Each.{each_mem}
use Rattle.gf2.proofs.OneValue.{zeros_at}
use Rattle.gf2.proofs.Spans.{span_each, span_sum, solved_not_cancels}
use Rattle.gf2.proofs.Sums.{Refuted, refuted_cancels}
use Rattle.gf2.proofs.Results.{unsolvable≢ok, ok_same, Case, refused, gave, which}
use Rattle.gf2.proofs.Isolation.{isolated}
use Rattle.gf2.proofs.Width.{canonical_lt}
use Rattle.sparse_rules.specs.Eliminate.{contradicted, back_sub, echelon_form, finish, gaussian_elimination}
use Rattle.sparse_rules.proofs.OuterRow.{Like, Triangular, FormMet, form_clash, form_met, echelon_form_met}
use Rattle.sparse_rules.proofs.BackSub.{Sound, Leader, contradicted_clash, not_contradicted, length-back_sub, back_sub_meets, back_sub_lead}

-- ---- how a run ends

-- a contradiction, or rows in order from which back substitution has the answer
data Ran (n : ℕ) (es : List Equation) : Result (List ℕ) → Type 1 where
  ran_refuted : Refuted es → Ran n es unsolvable
  ran_solved : (rows : List Equation) → Like es rows → Triangular rows → Each Sound rows → Ran n es (ok (back_sub rows (replicate n 0)))

finish_ran : (n : ℕ) (es rows : List Equation) → Like es rows → Triangular rows → Ran n es (finish n rows)
unfolding finish
finish_ran n es rows l t = go (contradicted rows) refl
  where
    go : (b : Bool) → contradicted rows ≡ b → Ran n es (elim b [ true ↦ unsolvable | false ↦ ok (back_sub rows (replicate n 0)) ])
    go true e = ran_refuted (λ Q cl h. contradicted_clash rows e Q cl (l.closed Q cl h))
    go false e = ran_solved rows l t (not_contradicted rows e)

ran : (n : ℕ) (es : List Equation) → Sorted es → Ran n es (gaussian_elimination n es)
unfolding gaussian_elimination
ran n es s = go (echelon_form es) (echelon_form_met es s)
  where
    go : (res : Result (List Equation)) → FormMet es res → Ran n es (elim res [ unsolvable ↦ unsolvable | ok rows ↦ finish n rows ])
    go res (form_clash r) = ran_refuted r
    go res (form_met rows l t) = finish_ran n es rows l t

-- ---- the rows answer for the system

rows_canonical : (n : ℕ) (es rows : List Equation) → Sorted es → Below n es → Like es rows → Triangular rows → Each Sound rows
    → Canonical n es (back_sub rows (replicate n 0))
rows_canonical n es rows s b l t c = record {
  size = length-back_sub rows (replicate n 0) ∙ length-replicate {A = ℕ} n 0;
  meets = l.back x (back_sub_meets rows (replicate n 0) t (l.rising s) c inside (zeros_at n));
  zero_or_lead = λ v h. lead v (back_sub_lead rows (replicate n 0) v);
}
  where
    x : List ℕ
    x = back_sub rows (replicate n 0)

    inside : Each (λ r. Each (λ v. v < length {A = ℕ} (replicate n 0)) r.vars) rows
    inside = rw (length-replicate {A = ℕ} n 0) (l.support (λ v. v < n) b)

    spanned : Each (InSpan es) rows
    spanned = l.closed (InSpan es) (span_sum es) (span_each es s)

    lead : (v : ℕ) → (get_or x v 0 ≡ get_or (replicate n 0) v 0) ⊎ Leader rows v → (get_or x v 0 ≡ 0) ⊎ HasLead v es
    lead v (inl e) = inl (e ∙ zeros_at n v)
    lead v (inr d) = inr (record { row = d.row; spanned = each_mem (InSpan es) d.member spanned; lead = subst (Lead v) (sym d.vars_are) refl })

-- ---- the theorems, about a system whose variables are strictly increasing and below n

module _ (n : ℕ) (es : List Equation) (s : Sorted es) (b : Below n es) where
  -- A solution is the canonical one.
  pub sparse_canonical : (x : List ℕ) → gaussian_elimination n es ≡ ok x → Canonical n es x
  sparse_canonical x e = go (ran n es s) e
    where
      go : {res : Result (List ℕ)} → Ran n es res → res ≡ ok x → Canonical n es x
      go (ran_refuted r) e = absurd (unsolvable≢ok e)
      go (ran_solved rows l t c) e = subst (Canonical n es) (ok_same e) (rows_canonical n es rows s b l t c)

  -- What is handed back has n values and meets every equation.
  pub sparse_solves : (x : List ℕ) → gaussian_elimination n es ≡ ok x → (length x ≡ n) × MeetsAll x es
  sparse_solves x e = let c = sparse_canonical x e in (c.size, c.meets)

  -- A refused system has a set of equations that cancels.
  pub sparse_refuses : gaussian_elimination n es ≡ unsolvable → (mask : List Bool) × Cancels mask es
  sparse_refuses e = go (ran n es s) e
    where
      go : {res : Result (List ℕ)} → Ran n es res → res ≡ unsolvable → (mask : List Bool) × Cancels mask es
      go (ran_refuted r) e = refuted_cancels es es (span_each es s) r
      go (ran_solved rows l t c) e = absurd (unsolvable≢ok (sym e))

  -- It is refused exactly if there is one.
  pub sparse_exact : (gaussian_elimination n es ≡ unsolvable) ↔ ((mask : List Bool) × Cancels mask es)
  sparse_exact = (sparse_refuses, λ c. go c (which (gaussian_elimination n es)))
    where
      go : (mask : List Bool) × Cancels mask es → Case (gaussian_elimination n es) → gaussian_elimination n es ≡ unsolvable
      go c (refused e) = e
      go c (gave x e) = absurd (solved_not_cancels es x c.0 s (sparse_solves x e).1 c.1)

  -- Constants of k digits give values of k digits.
  pub sparse_narrow : (k : ℕ) (x : List ℕ) → Each (λ e. e.c < 2 ^ k) es → gaussian_elimination n es ≡ ok x → (v : ℕ) → get_or x v 0 < 2 ^ k
  sparse_narrow k x h e = canonical_lt k n es x s h (sparse_canonical x e)

-- Two systems over the same cells have the same equations on our cells, which P marks, and no equation has one of ours
-- beside one that is not. Where both are solved, our cells have the same values, whatever the other equations are.
pub sparse_isolated : (P : ℕ → Bool) (n : ℕ) (A B : List Equation) → Sorted A → Below n A → Sorted B → Below n B
    → Apart P A → Apart P B → our_part P A ≡ our_part P B
    → (x y : List ℕ) → gaussian_elimination n A ≡ ok x → gaussian_elimination n B ≡ ok y
    → (v : ℕ) → P v ≡ true → get_or x v 0 ≡ get_or y v 0
sparse_isolated P n A B sA bA sB bB aA aB h x y ex ey =
    isolated P n n A B x y sA sB aA aB h (sparse_canonical n A sA bA x ex) (sparse_canonical n B sB bB y ey)
