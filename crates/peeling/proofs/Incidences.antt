-- What each vertex holds after any adds and removals, and when the flag is set.
use mathlib.Core.Path.{◌≡◌, refl, sym, ap, subst, ◌∙◌}
use mathlib.Core.List.{List, [], ◌∷◌, ◌++◌}
use mathlib.Core.Bool.{Bool, true, false, cond, ◌&&◌, ◌||◌, true≢false}
use mathlib.Core.Logic.{◌≢◌}
use Prim.Native.Nat.{ℕ, suc, ◌+◌, ◌-◌, ◌*◌, ◌%◌, ◌<◌}
use native.Mathlib.Omega.{arith}
use lib.ListN.{get_or-eq_default, length, get_or, length-set, length-replicate}
use lib.Seq.{get_or-set_same, get_or-set_other}
use lib.Bits.{bit_xor, xor_comm, xor_lt}
use lib.Dec.{eqb, leb, ltb}
use borrow.Author.Tests.{eqb-true, eqb-false, eq-eqb, lt-ltb, le-leb, lt-leb, ltb-true, ltb-false}
use Rattle.gf2.specs.Equation.{Each}
use Rattle.gf2.proofs.OneValue.{zeros_at}
use Rattle.gf2.proofs.XorLaws.{xor_twice, xor_left_comm}
use Rattle.answers.specs.Calls.{pick}
use Rattle.answers.specs.Answers.{Solved, OutsideDomain}
use Rattle.peeling.specs.Graph.{Graph, holds_vertex, add, overflows, remove}
use Rattle.peeling.specs.GraphCalls.{AddCall, GraphCall, add_call, remove_call}
use Rattle.peeling.specs.Incidences.{Incidence, incidence, degree_in, xor_in, Changed, fresh, added, removed, VertexHolds}
use Rattle.peeling.proofs.Bytes.{byte_rises, byte_falls}

-- ---- one incidence among others counts as if it came last

degree_mid : (v : ℕ) (before after : List Incidence) (x : Incidence) → degree_in v (before ++ x ∷ after) ≡ degree_in v (x ∷ (before ++ after))
unfolding degree_in
degree_mid v [] after x = refl
degree_mid v (j ∷ before) after x = go (eqb v j.vertex) (eqb v x.vertex) (degree_mid v before after x)
  where
    k : ℕ
    k = degree_in v (before ++ after)

    go : (p q : Bool) → degree_in v (before ++ x ∷ after) ≡ cond q (suc k) k → cond p (suc (degree_in v (before ++ x ∷ after))) (degree_in v (before ++ x ∷ after)) ≡ cond q (suc (cond p (suc k) k)) (cond p (suc k) k)
    go true true ih = ap suc ih
    go true false ih = ap suc ih
    go false true ih = ih
    go false false ih = ih

xor_mid : (f : Incidence → ℕ) (v : ℕ) (before after : List Incidence) (x : Incidence) → xor_in f v (before ++ x ∷ after) ≡ xor_in f v (x ∷ (before ++ after))
unfolding xor_in
xor_mid f v [] after x = refl
xor_mid f v (j ∷ before) after x = go (eqb v j.vertex) (eqb v x.vertex) (xor_mid f v before after x)
  where
    k : ℕ
    k = xor_in f v (before ++ after)

    go : (p q : Bool) → xor_in f v (before ++ x ∷ after) ≡ cond q (bit_xor (f x) k) k
        → cond p (bit_xor (f j) (xor_in f v (before ++ x ∷ after))) (xor_in f v (before ++ x ∷ after)) ≡ cond q (bit_xor (f x) (cond p (bit_xor (f j) k) k)) (cond p (bit_xor (f j) k) k)
    go true true ih = ap (bit_xor (f j)) ih ∙ xor_left_comm (f j) (f x) k
    go true false ih = ap (bit_xor (f j)) ih
    go false true ih = ih
    go false false ih = ih

each_mid : (P : Incidence → Type 0) (before after : List Incidence) (x : Incidence) → Each P (before ++ x ∷ after) → P x × Each P (before ++ after)
each_mid P [] after x h = (h.0, h.1)
each_mid P (j ∷ before) after x h = let k = each_mid P before after x h.1 in (k.0, (h.0, k.1))

-- the cases of the first incidence
degree_here : (v i t : ℕ) (js : List Incidence) → degree_in v (incidence v i t ∷ js) ≡ suc (degree_in v js)
unfolding degree_in
degree_here v i t js = rw (eq-eqb v v refl)

xor_here : (f : Incidence → ℕ) (v i t : ℕ) (js : List Incidence) → xor_in f v (incidence v i t ∷ js) ≡ bit_xor (f (incidence v i t)) (xor_in f v js)
unfolding xor_in
xor_here f v i t js = rw (eq-eqb v v refl)

degree_there : (w v i t : ℕ) (js : List Incidence) → eqb w v ≡ false → degree_in w (incidence v i t ∷ js) ≡ degree_in w js
unfolding degree_in
degree_there w v i t js h = rw h

xor_there : (f : Incidence → ℕ) (w v i t : ℕ) (js : List Incidence) → eqb w v ≡ false → xor_in f w (incidence v i t ∷ js) ≡ xor_in f w js
unfolding xor_in
xor_there f w v i t js h = rw h

abbrev the_side : Incidence → ℕ
the_side j = j.side

abbrev the_edge : Incidence → ℕ
the_edge j = j.edge

-- sides are below 4, and so is their XOR
side_lt : (v : ℕ) (js : List Incidence) → Each (λ j. j.side < 3) js → xor_in the_side v js < 4
unfolding xor_in
side_lt v [] h = omega arith
side_lt v (j ∷ js) h = go (eqb v j.vertex) (side_lt v js h.1)
  where
    go : (b : Bool) → xor_in the_side v js < 4 → cond b (bit_xor j.side (xor_in the_side v js)) (xor_in the_side v js) < 4
    go true k = let s = h.0 in xor_lt 2 j.side (xor_in the_side v js) (omega arith) k
    go false k = k

-- ---- what holds after each change

record Standing (n : ℕ) (js : List Incidence) (g : Graph) (flag crowd : Bool) : Type 0 where
  x : length g.edges ≡ n
  d : length g.degrees ≡ n
  sides : Each (λ j. j.side < 3) js
  flag_is : flag ≡ crowd
  few : crowd ≡ false → (v : ℕ) → degree_in v js < 64
  holds : crowd ≡ false → (v : ℕ) → VertexHolds js g v

-- an addition to a vertex that holds what it should
module _ (js : List Incidence) (g : Graph) (v i t : ℕ) (v_x : v < length g.edges) (v_d : v < length g.degrees) (t< : t < 3)
    (sides : Each (λ j. j.side < 3) js) (few : (w : ℕ) → degree_in w js < 64) (holds : (w : ℕ) → VertexHolds js g w) where
  full : overflows g v ≡ eqb (degree_in v js) 63
  full = go (eqb (degree_in v js) 63) refl
    where
      go : (b : Bool) → eqb (degree_in v js) 63 ≡ b → overflows g v ≡ b
      go true q = le-leb 252 (get_or g.degrees v 0) (omega (arith, (holds v).byte, eqb-true (degree_in v js) 63 q))
      go false q =
          let ne : degree_in v js ≢ 63 = eqb-false (degree_in v js) 63 q in
          lt-leb 252 (get_or g.degrees v 0) (omega (arith, (holds v).byte, few v, side_lt v js sides))

  module _ (room : eqb (degree_in v js) 63 ≡ false) where
    below : suc (degree_in v js) < 64
    below = let ne : degree_in v js ≢ 63 = eqb-false (degree_in v js) 63 room in omega (arith, few v)

    few_after : (w : ℕ) → degree_in w (incidence v i t ∷ js) < 64
    few_after w = go (eqb w v) refl
      where
        go : (b : Bool) → eqb w v ≡ b → degree_in w (incidence v i t ∷ js) < 64
        go true q = rw (eqb-true w v q) (rw (degree_here v i t js) below)
        go false q = rw (degree_there w v i t js q) (few w)

    byte_after : get_or (add g v i t).degrees v 0 ≡ degree_in v (incidence v i t ∷ js) * 4 + xor_in the_side v (incidence v i t ∷ js)
    byte_after =
        let k = degree_in v js in
        let s = xor_in the_side v js in
        let a : k % 64 ≡ k = omega (arith, few v) in
        let b : suc k % 64 ≡ suc k = omega (arith, below) in
        get_or-set_same g.degrees v (bit_xor ((get_or g.degrees v 0 + 4) % 256) t) 0 v_d
        ∙ ap (λ (z : ℕ). bit_xor ((z + 4) % 256) t) (holds v).byte
        ∙ ap (λ (z : ℕ). bit_xor ((z * 4 + s + 4) % 256) t) (sym a)
        ∙ byte_rises k s t (side_lt v js sides) (omega arith)
        ∙ ap (λ (z : ℕ). z * 4 + bit_xor t s) b
        ∙ rw (degree_here v i t js, xor_here the_side v i t js) refl

    edge_after : get_or (add g v i t).edges v 0 ≡ xor_in the_edge v (incidence v i t ∷ js)
    edge_after =
        get_or-set_same g.edges v (bit_xor (get_or g.edges v 0) i) 0 v_x
        ∙ ap (λ (z : ℕ). bit_xor z i) (holds v).edge
        ∙ xor_comm (xor_in the_edge v js) i
        ∙ sym (xor_here the_edge v i t js)

    holds_after : (w : ℕ) → VertexHolds (incidence v i t ∷ js) (add g v i t) w
    holds_after w = go (eqb w v) refl
      where
        go : (b : Bool) → eqb w v ≡ b → VertexHolds (incidence v i t ∷ js) (add g v i t) w
        go true q = rw (eqb-true w v q) (record { edge = edge_after; byte = byte_after })
        go false q =
            let ne : w ≢ v = eqb-false w v q in
            record {
              edge = get_or-set_other g.edges v w (bit_xor (get_or g.edges v 0) i) 0 ne ∙ (holds w).edge ∙ sym (xor_there the_edge w v i t js q);
              byte = get_or-set_other g.degrees v w (bit_xor ((get_or g.degrees v 0 + 4) % 256) t) 0 ne ∙ (holds w).byte
                  ∙ rw (degree_there w v i t js q, xor_there the_side w v i t js q) refl;
            }

add_standing : {n : ℕ} {js : List Incidence} {g : Graph} {flag : Bool} (crowd : Bool) (v i t : ℕ) → v < n → t < 3 → Standing n js g flag crowd
    → Standing n (incidence v i t ∷ js) (add g v i t) (flag || overflows g v) (crowd || eqb (degree_in v js) 63)
add_standing {n} {js} {g} {flag} true v i t h k s = record {
  x = simp length-set s.x;
  d = simp length-set s.d;
  sides = (k, s.sides);
  flag_is = rw s.flag_is refl;
  few = λ e. absurd (true≢false e);
  holds = λ e. absurd (true≢false e);
}
add_standing {n} {js} {g} {flag} false v i t h k s = record {
  x = simp length-set s.x;
  d = simp length-set s.d;
  sides = (k, s.sides);
  flag_is = rw s.flag_is (full js g v i t v_x v_d k s.sides (s.few refl) (s.holds refl));
  few = λ e. few_after js g v i t v_x v_d k s.sides (s.few refl) (s.holds refl) e;
  holds = λ e. holds_after js g v i t v_x v_d k s.sides (s.few refl) (s.holds refl) e;
}
  where
    v_x : v < length g.edges
    v_x = omega (arith, s.x)

    v_d : v < length g.degrees
    v_d = omega (arith, s.d)

-- a removal of an incidence that is there
module _ (before after : List Incidence) (g : Graph) (v i t n : ℕ) (x : length g.edges ≡ n) (d : length g.degrees ≡ n)
    (sides : Each (λ j. j.side < 3) (before ++ incidence v i t ∷ after)) (holds : (w : ℕ) → VertexHolds (before ++ incidence v i t ∷ after) g w) where
  abbrev js : List Incidence
  js = before ++ after

  k : ℕ
  k = degree_in v js

  s : ℕ
  s = xor_in the_side v js

  t< : t < 3
  t< = (each_mid (λ j. j.side < 3) before after (incidence v i t) sides).0

  s< : s < 4
  unfolding s
  s< = side_lt v js (each_mid (λ j. j.side < 3) before after (incidence v i t) sides).1

  byte_was : get_or g.degrees v 0 ≡ suc k * 4 + bit_xor t s
  unfolding k s
  byte_was = (holds v).byte ∙ rw (degree_mid v before after (incidence v i t), xor_mid the_side v before after (incidence v i t), degree_here v i t js, xor_here the_side v i t js) refl

  v< : v < n
  v< = go (ltb v n) refl
    where
      go : (b : Bool) → ltb v n ≡ b → v < n
      go true q = ltb-true v n q
      go false q = absurd (omega (arith, byte_was, get_or-eq_default g.degrees 0 {n = v} (omega (arith, d, ltb-false v n q))))

  served : remove_call g v i t ≡ record { answer = Solved; graph = remove g v i t }
  served = rw (
    lt-ltb v (length g.edges) (omega (arith, x, v<)),
    lt-ltb v (length g.degrees) (omega (arith, d, v<)),
    lt-ltb t 3 t<,
    le-leb 4 (get_or g.degrees v 0) (omega (arith, byte_was)),
  )

  byte_left : get_or (remove g v i t).degrees v 0 ≡ k * 4 + s
  byte_left =
      get_or-set_same g.degrees v (bit_xor (get_or g.degrees v 0 - 4) t) 0 (omega (arith, d, v<))
      ∙ ap (λ (z : ℕ). bit_xor (z - 4) t) byte_was
      ∙ byte_falls k (bit_xor t s) t (xor_lt 2 t s (omega (arith, t<)) s<) (omega (arith, t<))
      ∙ ap (λ (z : ℕ). k * 4 + z) (xor_comm (bit_xor t s) t ∙ xor_twice t s)

  edge_left : get_or (remove g v i t).edges v 0 ≡ xor_in the_edge v js
  edge_left =
      get_or-set_same g.edges v (bit_xor (get_or g.edges v 0) i) 0 (omega (arith, x, v<))
      ∙ ap (λ (z : ℕ). bit_xor z i) ((holds v).edge ∙ xor_mid the_edge v before after (incidence v i t) ∙ xor_here the_edge v i t js)
      ∙ xor_comm (bit_xor i (xor_in the_edge v js)) i
      ∙ xor_twice i (xor_in the_edge v js)

  holds_left : (w : ℕ) → VertexHolds js (remove g v i t) w
  unfolding k s
  holds_left w = go (eqb w v) refl
    where
      go : (b : Bool) → eqb w v ≡ b → VertexHolds js (remove g v i t) w
      go true q = rw (eqb-true w v q) (record { edge = edge_left; byte = byte_left })
      go false q =
          let ne : w ≢ v = eqb-false w v q in
          record {
            edge = get_or-set_other g.edges v w (bit_xor (get_or g.edges v 0) i) 0 ne ∙ (holds w).edge
                ∙ xor_mid the_edge w before after (incidence v i t) ∙ xor_there the_edge w v i t js q;
            byte = get_or-set_other g.degrees v w (bit_xor (get_or g.degrees v 0 - 4) t) 0 ne ∙ (holds w).byte
                ∙ rw (degree_mid w before after (incidence v i t), xor_mid the_side w before after (incidence v i t), degree_there w v i t js q, xor_there the_side w v i t js q) refl;
          }

-- either way a removal keeps the sizes
removed_sizes : (g : Graph) (v i t n : ℕ) → length g.edges ≡ n → length g.degrees ≡ n
    → (length (remove_call g v i t).graph.edges ≡ n) × (length (remove_call g v i t).graph.degrees ≡ n)
removed_sizes g v i t n x d = go (holds_vertex g v && (ltb t 3 && leb 4 (get_or g.degrees v 0)))
  where
    go : (b : Bool) → (length (pick {A = GraphCall} b (record { answer = Solved; graph = remove g v i t }) (record { answer = OutsideDomain; graph = g })).graph.edges ≡ n)
        × (length (pick {A = GraphCall} b (record { answer = Solved; graph = remove g v i t }) (record { answer = OutsideDomain; graph = g })).graph.degrees ≡ n)
    go true = (simp length-set x, simp length-set d)
    go false = (x, d)

remove_standing : {n : ℕ} {g : Graph} {flag : Bool} (crowd : Bool) (before after : List Incidence) (v i t : ℕ) → Standing n (before ++ incidence v i t ∷ after) g flag crowd
    → Standing n (before ++ after) (remove_call g v i t).graph flag crowd
remove_standing {n} {g} {flag} crowd before after v i t s = record {
  x = (removed_sizes g v i t n s.x s.d).0;
  d = (removed_sizes g v i t n s.x s.d).1;
  sides = (each_mid (λ j. j.side < 3) before after (incidence v i t) s.sides).1;
  flag_is = s.flag_is;
  few = λ e w. fewer w (s.few e w);
  holds = λ e w.
      rw (served before after g v i t n s.x s.d s.sides (s.holds e))
      (holds_left before after g v i t n s.x s.d s.sides (s.holds e) w);
}
  where
    fewer : (w : ℕ) → degree_in w (before ++ incidence v i t ∷ after) < 64 → degree_in w (before ++ after) < 64
    fewer w h = go (eqb w v) refl
      where
        go : (b : Bool) → eqb w v ≡ b → degree_in w (before ++ after) < 64
        go true q =
            let e : degree_in v (before ++ incidence v i t ∷ after) ≡ suc (degree_in v (before ++ after)) = degree_mid v before after (incidence v i t) ∙ degree_here v i t (before ++ after) in
            rw (eqb-true w v q) (let l : degree_in v (before ++ incidence v i t ∷ after) < 64 = rw (eqb-true w v q) at h in omega (arith, e))
        go false q = omega (arith, degree_mid w before after (incidence v i t) ∙ degree_there w v i t (before ++ after) q)

-- ---- the graph's sentences

standing : {n : ℕ} {js : List Incidence} {g : Graph} {flag crowd : Bool} → Changed n js g flag crowd → Standing n js g flag crowd
unfolding degree_in xor_in
standing {n} fresh = record {
  x = length-replicate n 0;
  d = length-replicate n 0;
  sides = tt;
  flag_is = refl;
  few = λ e v. omega arith;
  holds = λ e v. record { edge = zeros_at n v; byte = zeros_at n v };
}
standing {n} (added {js} {g} {flag} {crowd} v i t h k c) =
    let s = standing c in
    let e : add_call g flag v i t ≡ record { result = record { answer = Solved; graph = record { overflow = flag || overflows g v } }; graph = add g v i t } =
    rw (lt-ltb v (length g.edges) (omega (arith, s.x)), lt-ltb v (length g.degrees) (omega (arith, s.d)), lt-ltb t 3 k) refl in
    subst (λ (a : AddCall). Standing n (incidence v i t ∷ js) a.graph a.result.graph.overflow (crowd || eqb (degree_in v js) 63)) (sym e) (add_standing crowd v i t h k s)
standing (removed {g} {flag} {crowd} before after v i t c) = remove_standing crowd before after v i t (standing c)

-- after any adds and removals, while no vertex has come to a 64th incidence, each vertex holds the XOR of its edges' numbers, and its degree times 4 plus the XOR of its sides
pub graph_holds : {n : ℕ} {js : List Incidence} {g : Graph} {flag : Bool} → Changed n js g flag false → (v : ℕ) → VertexHolds js g v
graph_holds c = (standing c).holds refl

-- the flag is set exactly at a 64th incidence, and stays
pub flag_exact : {n : ℕ} {js : List Incidence} {g : Graph} {flag crowd : Bool} → Changed n js g flag crowd → flag ≡ crowd
flag_exact c = (standing c).flag_is
