-- A row meets each later row, and one outer row after the other: the rows keep their solutions, variables and number, and get into order.
use mathlib.Core.Path.{◌≡◌, refl, sym, ap, ◌∙◌, subst}
use mathlib.Core.Logic.{◌⊎◌, inl, inr}
use mathlib.Core.List.{List, [], ◌∷◌}
use Prim.Native.Nat.{ℕ, zero, suc, pred, ◌+◌, ◌≤◌, ◌<◌}
use native.Mathlib.Omega.{arith}
use lib.ListN.{length}
use Rattle.gf2.specs.Equation.{Equation, Each, Above, Increasing, Rising, Sorted, MeetsAll}
use Rattle.gf2.specs.Result.{Result, unsolvable, ok}
use Rattle.gf2.proofs.Sums.{Closed, Refuted}
use Rattle.gf2.proofs.Results.{unsolvable≢ok, ok_same}
use Rattle.gf2.proofs.Order.{rising_sorted, rising_belows, rising_both}
use Rattle.sparse_rules.specs.Eliminate.{Pass, behind, Meeting, clash, identity, both, meeting, meet_row, outer_row, outer_rows, echelon_form}
use Rattle.sparse_rules.proofs.Meetings.{Fits, fits_same, fits_swap, Leads, Met, met_clash, met_identity, met_both, meeting_met}

-- ---- row i meets each later row

above_le : (v u : ℕ) (us : List ℕ) → v ≤ u → Above u us → Above v us
above_le v u [] h k = tt
above_le v u (w ∷ ws) h k = (let a = k.0 in omega arith, above_le v u ws h k.1)

-- b has the solutions that a has, and no other variables
pub record Like (a b : List Equation) : Type 1 where
  pub closed : (Q : Equation → Type 0) → Closed Q → Each Q a → Each Q b
  pub forth : (x : List ℕ) → MeetsAll x a → MeetsAll x b
  pub back : (x : List ℕ) → MeetsAll x b → MeetsAll x a
  pub support : (P : ℕ → Type 0) → Each (λ r. Each P r.vars) a → Each (λ r. Each P r.vars) b
  pub rising : Sorted a → Sorted b
  pub size : length b ≡ length a

pub like_same : (a : List Equation) → Like a a
like_same a = record { closed = λ Q cl h. h; forth = λ x h. h; back = λ x h. h; support = λ P h. h; rising = λ h. h; size = refl }

pub like_then : (a b c : List Equation) → Like a b → Like b c → Like a c
like_then a b c p q =
    record {
      closed = λ Q cl h. q.closed Q cl (p.closed Q cl h);
      forth = λ x h. q.forth x (p.forth x h);
      back = λ x h. p.back x (q.back x h);
      support = λ P h. q.support P (p.support P h);
      rising = λ h. q.rising (p.rising h);
      size = q.size ∙ p.size;
    }

pub like_cons : (i : Equation) (a b : List Equation) → Like a b → Like (i ∷ a) (i ∷ b)
like_cons i a b p =
    record {
      closed = λ Q cl h. (h.0, p.closed Q cl h.1);
      forth = λ x h. (h.0, p.forth x h.1);
      back = λ x h. (h.0, p.back x h.1);
      support = λ P h. (h.0, p.support P h.1);
      rising = λ h. (h.0, p.rising h.1);
      size = ap suc p.size;
    }

-- the first two rows meet
like_fits : (i j i' j' : Equation) (rest : List Equation) → Fits i j i' j' → Like (i ∷ j ∷ rest) (i' ∷ j' ∷ rest)
like_fits i j i' j' rest f =
    record {
      closed = λ Q cl h. let p = f.closed Q cl h.0 h.1.0 in (p.0, (p.1, h.1.1));
      forth = λ x h. let p = f.forth x h.0 h.1.0 in (p.0, (p.1, h.1.1));
      back = λ x h. let p = f.back x h.0 h.1.0 in (p.0, (p.1, h.1.1));
      support = λ P h. let p = f.support P h.0 h.1.0 in (p.0, (p.1, h.1.1));
      rising = λ h. let p = f.rising h.0 h.1.0 in (p.0, (p.1, h.1.1));
      size = refl;
    }

like_swap : (i j : Equation) (rest : List Equation) → Like (i ∷ j ∷ rest) (j ∷ i ∷ rest)
like_swap i j rest = like_fits i j j i rest (fits_swap i j i j (fits_same i j))

pub data RowMet (i : Equation) (rest : List Equation) (u : ℕ) : Result Pass → Type 1 where
  row_clash : Refuted (i ∷ rest) → RowMet i rest u unsolvable
  row_met : (p : Pass) → Like (i ∷ rest) (p.row ∷ p.later) → (p.row.vars ≡ []) ⊎ Leads u p.row p.later → RowMet i rest u (ok p)

pub meet_row_met : (rest : List Equation) (i : Equation) (u : ℕ) (us : List ℕ) → i.vars ≡ u ∷ us → Increasing i.vars → Sorted rest → RowMet i rest u (meet_row i rest)
unfolding meet_row
meet_row_met [] i u us iv ii si =
    row_met (record { row = i; later = [] }) (like_same (i ∷ [])) (inr (record { first = u; others = us; vars_are = iv; not_above = omega arith; lower = tt }))
meet_row_met (j ∷ rest) i u us iv ii si =
    go (meeting i j) (meeting_met i j u us iv ii si.0) (λ i' u' us' iv' ii'. meet_row_met rest i' u' us' iv' ii' si.1)
  where
    after : (i' j' : Equation) → Fits i j i' j' → (l : Leads u i' (j' ∷ [])) → (res : Result Pass) → RowMet i' rest l.first res
        → RowMet i (j ∷ rest) u (behind j' res)
    after i' j' f l res (row_clash c) = row_clash (λ Q cl h. let p = f.closed Q cl h.0 h.1.0 in c Q cl (p.0, h.1.1))
    after i' j' f l res (row_met p like lead) =
        row_met (record { row = p.row; later = j' ∷ p.later })
        (like_then (i ∷ j ∷ rest) (i' ∷ j' ∷ rest) (p.row ∷ j' ∷ p.later) (like_fits i j i' j' rest f)
        (like_then (i' ∷ j' ∷ rest) (j' ∷ i' ∷ rest) (p.row ∷ j' ∷ p.later) (like_swap i' j' rest)
        (like_then (j' ∷ i' ∷ rest) (j' ∷ p.row ∷ p.later) (p.row ∷ j' ∷ p.later) (like_cons j' (i' ∷ rest) (p.row ∷ p.later) like) (like_swap j' p.row p.later))))
        (leads lead)
      where
        leads : (p.row.vars ≡ []) ⊎ Leads l.first p.row p.later → (p.row.vars ≡ []) ⊎ Leads u p.row (j' ∷ p.later)
        leads (inl e) = inl e
        leads (inr k) =
            inr (record {
              first = k.first;
              others = k.others;
              vars_are = k.vars_are;
              not_above = (let a = k.not_above in let b = l.not_above in omega arith);
              lower = (above_le k.first l.first j'.vars k.not_above l.lower.0, k.lower);
            })

    go : (m : Meeting) → Met i j u m
        → ((i' : Equation) (u' : ℕ) (us' : List ℕ) → i'.vars ≡ u' ∷ us' → Increasing i'.vars → RowMet i' rest u' (meet_row i' rest))
        → RowMet i (j ∷ rest) u (elim m [ clash ↦ unsolvable | identity i' ↦ ok (record { row = i'; later = j ∷ rest }) | both i' j' ↦ behind j' (meet_row i' rest) ])
    go m (met_clash c) rec = row_clash (λ Q cl h. c Q cl (h.0, (h.1.0, tt)))
    go m (met_identity i' p q f) rec = row_met (record { row = i'; later = j ∷ rest }) (like_fits i j i' j rest f) (inl p)
    go m (met_both i' j' f l) rec = after i' j' f l (meet_row i' rest) (rec i' l.first l.others l.vars_are (f.rising ii si.0).0)

-- ---- one outer row

-- the first variable of a row is below all variables of the rows after it
abbrev pub Ahead : List ℕ → List Equation → Type 0
Ahead [] later = Unit {0}
Ahead (v ∷ vs) later = Each (λ r. Above v r.vars) later

-- .. of each of the first k rows
abbrev pub Echelon : ℕ → List Equation → Type 0
Echelon k [] = Unit {0}
Echelon zero (i ∷ rest) = Unit {0}
Echelon (suc k) (i ∷ rest) = Ahead i.vars rest × Echelon k rest

-- .. of each row
abbrev pub Triangular : List Equation → Type 0
Triangular [] = Unit {0}
Triangular (i ∷ rest) = Ahead i.vars rest × Triangular rest

-- the first k + 1 rows are in order if the first k were
pub data RoundMet (k : ℕ) (rows : List Equation) : Result (List Equation) → Type 1 where
  round_clash : Refuted rows → RoundMet k rows unsolvable
  round_met : (rows' : List Equation) → Like rows rows' → (Echelon k rows → Echelon (suc k) rows') → RoundMet k rows (ok rows')

pub echelon_zero : (l : List Equation) → Echelon zero l
echelon_zero [] = tt
echelon_zero (r ∷ l) = tt

ahead_like : (vs : List ℕ) (a b : List Equation) → Like a b → Ahead vs a → Ahead vs b
ahead_like [] a b l h = tt
ahead_like (v ∷ vs) a b l h = l.support (λ u. v < u) h

leads_ahead : (u : ℕ) (r : Equation) (later : List Equation) → (r.vars ≡ []) ⊎ Leads u r later → Ahead r.vars later
leads_ahead u r later (inl e) = subst (λ vs. Ahead vs later) (sym e) tt
leads_ahead u r later (inr l) = subst (λ vs. Ahead vs later) (sym l.vars_are) l.lower

pub outer_row_met : (rows : List Equation) (k : ℕ) → Sorted rows → RoundMet k rows (outer_row k rows)
unfolding outer_row
outer_row_met [] k s = round_met [] (like_same []) (λ e. tt)
outer_row_met (i ∷ rest) zero s = by_vars i.vars refl
  where
    by_c : i.vars ≡ [] → (k : ℕ) → i.c ≡ k → RoundMet zero (i ∷ rest) (elim k [ zero ↦ ok (i ∷ rest) | suc _ ↦ unsolvable ])
    by_c p zero q = round_met (i ∷ rest) (like_same (i ∷ rest)) (λ e. (subst (λ vs. Ahead vs rest) (sym p) tt, echelon_zero rest))
    by_c p (suc k) q = round_clash (λ Q cl h. (i, h.0, p, λ z. omega arith))

    by_meeting : (u : ℕ) (res : Result Pass) → RowMet i rest u res → RoundMet zero (i ∷ rest) (elim res [ unsolvable ↦ unsolvable | ok p ↦ ok (p.row ∷ p.later) ])
    by_meeting u res (row_clash c) = round_clash c
    by_meeting u res (row_met p like lead) =
        round_met (p.row ∷ p.later) like (λ e. (leads_ahead u p.row p.later lead, echelon_zero p.later))

    by_vars : (vs : List ℕ) → i.vars ≡ vs
        → RoundMet zero (i ∷ rest) (elim vs [
          | [] ↦ elim i.c [ zero ↦ ok (i ∷ rest) | suc _ ↦ unsolvable ]
          | _ ∷ _ ↦ elim (meet_row i rest) [ unsolvable ↦ unsolvable | ok p ↦ ok (p.row ∷ p.later) ]
        ])
    by_vars [] p = by_c p i.c refl
    by_vars (v ∷ vs) p = by_meeting v (meet_row i rest) (meet_row_met rest i v vs p s.0 s.1)
outer_row_met (i ∷ rest) (suc k) s = go (outer_row k rest) (outer_row_met rest k s.1)
  where
    go : (res : Result (List Equation)) → RoundMet k rest res → RoundMet (suc k) (i ∷ rest) (elim res [ unsolvable ↦ unsolvable | ok rows ↦ ok (i ∷ rows) ])
    go res (round_clash c) = round_clash (λ Q cl h. c Q cl h.1)
    go res (round_met rows l f) = round_met (i ∷ rows) (like_cons i rest rows l) (λ e. (ahead_like i.vars rest rows l e.0, f e.1))

-- ---- what an outer row keeps

round_like : (k : ℕ) (rows : List Equation) {res : Result (List Equation)} → RoundMet k rows res → (rows' : List Equation) → res ≡ ok rows' → Like rows rows'
round_like k rows (round_clash c) rows' e = absurd (unsolvable≢ok e)
round_like k rows (round_met a l f) rows' e = subst (Like rows) (ok_same e) l

pub outer_row_like : (k : ℕ) (rows rows' : List Equation) → Sorted rows → outer_row k rows ≡ ok rows' → Like rows rows'
outer_row_like k rows rows' s = round_like k rows (outer_row_met rows k s) rows'

-- the number of rows
pub outer_row-length : (k : ℕ) (rows rows' : List Equation) → Sorted rows → outer_row k rows ≡ ok rows' → length rows' ≡ length rows
outer_row-length k rows rows' s e = (outer_row_like k rows rows' s e).size

-- their variables strictly increasing and below n
pub outer_row_rising : (n k : ℕ) (rows rows' : List Equation) → Each (λ r. Rising 0 n r.vars) rows → outer_row k rows ≡ ok rows'
    → Each (λ r. Rising 0 n r.vars) rows'
outer_row_rising n k rows rows' h e = rising_both n rows' (l.rising s) (l.support (λ u. u < n) (rising_belows n rows h))
  where
    s : Sorted rows
    s = rising_sorted n rows h

    l : Like rows rows'
    l = outer_row_like k rows rows' s e

-- ---- every row but the last

-- all rows but the last are done
pub echelon_triangular : (rows : List Equation) (k : ℕ) → length rows ≤ suc k → Echelon k rows → Triangular rows
echelon_triangular [] k h e = tt
echelon_triangular (i ∷ []) zero h e = (alone i.vars, tt)
  where
    alone : (vs : List ℕ) → Ahead vs []
    alone [] = tt
    alone (v ∷ vs) = tt
echelon_triangular (i ∷ j ∷ rest) zero h e = absurd (omega arith)
echelon_triangular (i ∷ rest) (suc k) h e = (e.0, echelon_triangular rest k (omega arith) e.1)

-- count outer rows from k on, up to c
pub data RowsMet (k c : ℕ) (rows : List Equation) : Result (List Equation) → Type 1 where
  rows_clash : Refuted rows → RowsMet k c rows unsolvable
  rows_met : (rows' : List Equation) → Like rows rows' → (Echelon k rows → Echelon c rows') → RowsMet k c rows (ok rows')

pub outer_rows_met : (count k c : ℕ) (rows : List Equation) → count + k ≡ c → Sorted rows → RowsMet k c rows (outer_rows count k rows)
unfolding outer_rows
outer_rows_met zero k c rows q s = rows_met rows (like_same rows) (λ e. subst (λ j. Echelon j rows) (omega arith) e)
outer_rows_met (suc count) k c rows q s = go (outer_row k rows) (outer_row_met rows k s) (λ a sa. outer_rows_met count (suc k) c a (omega arith) sa)
  where
    onward : (a : List Equation) → Like rows a → (Echelon k rows → Echelon (suc k) a) → {res : Result (List Equation)} → RowsMet (suc k) c a res → RowsMet k c rows res
    onward a l f (rows_clash r) = rows_clash (λ Q cl h. r Q cl (l.closed Q cl h))
    onward a l f (rows_met b l' g) = rows_met b (like_then rows a b l l') (λ e. g (f e))

    go : (res : Result (List Equation)) → RoundMet k rows res → ((a : List Equation) → Sorted a → RowsMet (suc k) c a (outer_rows count (suc k) a))
        → RowsMet k c rows (elim res [ unsolvable ↦ unsolvable | ok rows' ↦ outer_rows count (suc k) rows' ])
    go res (round_clash r) rec = rows_clash r
    go res (round_met a l f) rec = onward a l f (rec a (l.rising s))

-- the rows in order, or a contradiction
pub data FormMet (rows : List Equation) : Result (List Equation) → Type 1 where
  form_clash : Refuted rows → FormMet rows unsolvable
  form_met : (rows' : List Equation) → Like rows rows' → Triangular rows' → FormMet rows (ok rows')

pub echelon_form_met : (rows : List Equation) → Sorted rows → FormMet rows (echelon_form rows)
unfolding echelon_form
echelon_form_met rows s = go (outer_rows_met (pred (length rows)) 0 (pred (length rows)) rows (omega arith) s)
  where
    go : {res : Result (List Equation)} → RowsMet 0 (pred (length rows)) rows res → FormMet rows res
    go (rows_clash r) = form_clash r
    go (rows_met a l f) = form_met a l (echelon_triangular a (pred (length rows)) (let z = l.size in omega arith) (f (echelon_zero rows)))

pub echelon_form_like : (rows rows' : List Equation) → Sorted rows → echelon_form rows ≡ ok rows' → Like rows rows' × Triangular rows'
echelon_form_like rows rows' s e = go (echelon_form_met rows s) e
  where
    go : {res : Result (List Equation)} → FormMet rows res → res ≡ ok rows' → Like rows rows' × Triangular rows'
    go (form_clash r) q = absurd (unsolvable≢ok q)
    go (form_met a l f) q = subst (λ (b : List Equation). Like rows b × Triangular b) (ok_same q) (l, f)
