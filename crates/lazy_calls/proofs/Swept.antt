-- The numbers become zero, one stretch behind the other.
use mathlib.Core.Path.{◌≡◌, sym, ap, ◌∙◌, subst}
use mathlib.Core.List.{List}
use Prim.Native.Nat.{ℕ, ◌+◌, ◌-◌, ◌*◌, ◌≤◌}
use native.Mathlib.Nat.{add_assoc}
use native.Mathlib.Omega.{arith}
use lib.ListN.{length, drop, replicate, length-replicate, replicate-append-replicate}
use Rattle.areas.specs.Stretch.{put, zeroed}
use Rattle.areas.proofs.Stretch.{length-put, put_all, put_then, drop-put_after}
use Rattle.rows.specs.Padding.{PaddedRows}
use Rattle.rows.proofs.Padding.{padded_past}
use Rattle.lazy_setup.specs.declared.Layout.{Layout}
use Rattle.lazy_units.specs.Tidy.{Tidy}

-- the first k numbers are zero, the others as they were
pub record Swept (d : List ℕ) (k : ℕ) (out : List ℕ) : Type 0 where
  pub within : k ≤ length d
  pub so_far : out ≡ zeroed 0 k d

zeros_long : (d : List ℕ) (k : ℕ) → length (replicate {A = ℕ} (k - 0) 0) ≡ k
zeros_long d k = length-replicate (k - 0) 0 ∙ omega arith

pub swept_long : {d : List ℕ} {k : ℕ} {out : List ℕ} → Swept d k out → length out ≡ length d
swept_long {d} {k} w = let z = zeros_long d k in let h = w.within in ap (λ (l : List ℕ). length l) w.so_far ∙ length-put 0 (replicate (k - 0) 0) d (omega arith)

pub swept_more : {d : List ℕ} {k : ℕ} {out : List ℕ} (e : ℕ) → Swept d k out → k ≤ e → e ≤ length d → Swept d e (zeroed k e out)
swept_more {d} {k} e w h g =
    let z = zeros_long d k in
    let p : k ≡ 0 + length (replicate {A = ℕ} (k - 0) 0) = omega arith in
    let s : (k - 0) + (e - k) ≡ e - 0 = omega arith in
    record {
      within = g;
      so_far =
          ap (put k (replicate (e - k) 0)) w.so_far ∙ ap (λ (j : ℕ). put j (replicate (e - k) 0) (zeroed 0 k d)) p
          ∙ put_then 0 (replicate (k - 0) 0) (replicate (e - k) 0) d (omega arith)
          ∙ ap (λ (l : List ℕ). put 0 l d) (replicate-append-replicate (k - 0) (e - k) 0 ∙ ap (λ (j : ℕ). replicate j 0) s);
    }

pub swept_end : {d : List ℕ} {k : ℕ} {out : List ℕ} → Swept d k out → k ≡ length d → out ≡ replicate (length d) 0
swept_end {d} {k} w h =
    let e : k - 0 ≡ length d = omega arith in
    w.so_far ∙ ap (λ (j : ℕ). put 0 (replicate j 0) d) e ∙ put_all (replicate (length d) 0) d (length-replicate (length d) 0)

module _ {n m : ℕ} {layout : Layout} {d : List ℕ} (t : Tidy n m layout d) where
  module _ {a : List ℕ} (e : a ≡ zeroed 0 (0 + m * n) d) where
    -- the equations' rows
    pub swept_rows : Swept d layout.lengths a
    swept_rows =
        let p = t.place in let b = t.before in let i = t.inside in
        let s : 0 + m * n ≡ layout.lengths = omega arith in record { within = omega arith; so_far = rw s at e }

    module _ {b : List ℕ} (f : b ≡ zeroed layout.lengths layout.dense a) where
      -- what lies between
      pub swept_between : Swept d layout.dense b
      swept_between = let i = t.inside in subst (λ (l : List ℕ). Swept d layout.dense l) (sym f) (swept_more layout.dense swept_rows t.before (omega arith))

      -- the dense part is as it was
      pub dense_here : PaddedRows layout.dense (layout.dense + m * n + n) n m b
      dense_here =
          let i = t.inside in
          let l = swept_long swept_between in
          let z = zeros_long d layout.dense in
          let same : drop layout.dense b ≡ drop layout.dense d =
          ap (drop layout.dense) swept_between.so_far ∙ drop-put_after layout.dense 0 (replicate (layout.dense - 0) 0) d (omega arith) (omega arith) in
          rw (add_assoc layout.dense (m * n) n) (padded_past layout.dense (m * n + n) n m b (omega arith) (rw same t.dense))

      module _ {c : List ℕ} (g : c ≡ zeroed layout.dense (layout.dense + m * n) b) where
        pub swept_dense : Swept d (layout.dense + m * n) c
        swept_dense = subst (λ (l : List ℕ). Swept d (layout.dense + m * n) l) (sym g) (swept_more (layout.dense + m * n) swept_between (omega arith) t.inside)

        pub swept_all : {o : List ℕ} → o ≡ zeroed (layout.dense + m * n) (length c) c → o ≡ replicate (length d) 0
        swept_all h =
            let l = swept_long swept_dense in
            h ∙ swept_end (swept_more (length c) swept_dense (let i = t.inside in omega arith) (omega arith)) l
