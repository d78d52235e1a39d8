-- The rows of a file laid out as starts, variables and constants.
use mathlib.Core.Path.{◌≡◌, refl, sym, ap, ◌∙◌}
use mathlib.Core.List.{List, [], ◌∷◌, ◌++◌}
use mathlib.Core.Option.{some}
use Prim.Native.Nat.{ℕ, zero, suc, ◌+◌, ◌-◌, ◌*◌, ◌≤◌, ◌<◌}
use native.Mathlib.Nat.{zero-add, mul-le-mul_right, suc-mul}
use native.Mathlib.Numerals.{add-one}
use native.Mathlib.Omega.{arith}
use lib.ListN.{length, take, drop, set, length-set, length-drop}
use lib.Seq.{drop-drop, length-take-le}
use Rattle.gf2.specs.Equation.{Equation}
use Rattle.areas.specs.Stretch.{put, stretch}
use Rattle.areas.proofs.Stretch.{put_none, put_more, put_then, length-put, set_is_put}
use Rattle.system.specs.Fits.{listed_in}
use Rattle.link_form.specs.declared.rows.Rows.{Rows}
use Rattle.link_form.specs.Bytes.{little, fields}
use Rattle.link_form.specs.File.{row_bytes, row}
use Rattle.link_form.specs.Kinds.{number_of_kind}
use Rattle.link_form.specs.Rows.{count_bytes_of, count_of, row_bytes_of, row_of, rows_of, Passed}
use Rattle.link_form.proofs.NextRow.{next_row}
use Rattle.link_form.proofs.Scanning.{length_fields, length_row, length_rows, listed_fits, passed_more}
use Rattle.link_load.specs.Loading.{starts_from, starts_of, vars_of, constants_of}
use Rattle.link_load.proofs.LaidRows.{length_starts, length_vars, length_constants, starts_snoc, vars_snoc, constants_snoc, listed_snoc, listed_take}

-- ---- numbers one after the other

fields_snoc : (w i : ℕ) (bytes : List ℕ) → fields w (i + 1) bytes ≡ fields w i bytes ++ (little (take w (drop (i * w) bytes)) ∷ [])
unfolding fields
fields_snoc w zero bytes = let z : 0 * w ≡ 0 = omega arith in rw z
fields_snoc w (suc i) bytes =
    let e : suc i * w ≡ w + i * w = omega arith in
    let q : suc i + 1 ≡ suc (i + 1) = omega arith in
    rw (q, e, ← (drop-drop (i * w) w bytes)) (ap (λ (l : List ℕ). little (take w bytes) ∷ l) (fields_snoc w i (drop w bytes)))

-- i of the row's variables stand in `vars` from `to` on
pub record Noting (begin now : Rows) (before : List ℕ) (to i : ℕ) (vars : List ℕ) : Type 0 where
  pub long : length vars ≡ length before
  pub passed : Passed (i * begin.width) begin now
  pub so_far : vars ≡ put to (fields begin.width i begin.rest.now) before

pub noting_begin : (begin : Rows) (before : List ℕ) (to : ℕ) → to ≤ length before → Noting begin begin before to 0 before
unfolding fields
noting_begin begin before to h =
    let z : 0 * begin.width ≡ 0 = omega arith in
    record { long = refl; passed = rw z (record { rest = refl; kind = refl; width = refl }); so_far = sym (put_none to before) }

-- the next variable is there
pub noting_room : {begin now : Rows} {before : List ℕ} {to i : ℕ} {vars : List ℕ} (count : ℕ) → Noting begin now before to i vars → i < count
    → count * begin.width ≤ length begin.rest.now → now.width ≤ length now.rest.now
noting_room {begin} {now} {before} {to} {i} count n h r =
    let p = n.passed in
    let a = mul-le-mul_right begin.width h in
    let b = suc-mul i begin.width in
    let d = length-drop (i * begin.width) begin.rest.now in
    rw (p.width, p.rest) (omega arith)

pub noting_turn : {begin now next : Rows} {before : List ℕ} {to i : ℕ} {vars : List ℕ} {v : ℕ} (count : ℕ) → Noting begin now before to i vars → i < count → to + count ≤ length before
    → v ≡ little (take now.width now.rest.now) → Passed now.width now next → Noting begin next before to (i + 1) (set vars (to + i) v)
noting_turn {begin} {now} {next} {before} {to} {i} {vars} {v} count n h s e q =
    let p = n.passed in
    let w = p.width in
    let l : length (fields begin.width i begin.rest.now) ≡ i = length_fields begin.width i begin.rest.now in
    let x : v ≡ little (take begin.width (drop (i * begin.width) begin.rest.now)) = e ∙ rw (p.width, p.rest) in
    let m : (i + 1) * begin.width ≡ i * begin.width + now.width = let b = suc-mul i begin.width in let r = add-one i in rw r (omega arith) in
    record {
      long = simp length-set n.long;
      passed = rw m (passed_more p q);
      so_far =
          ap (λ (x : List ℕ). set x (to + i) v) n.so_far
          ∙ ap (λ (k : ℕ). set (put to (fields begin.width i begin.rest.now) before) (to + k) v) (sym l)
          ∙ put_more to v (fields begin.width i begin.rest.now) before (omega arith)
          ∙ ap (λ (x : ℕ). put to (fields begin.width i begin.rest.now ++ (x ∷ [])) before) x
          ∙ ap (λ (x : List ℕ). put to x before) (sym (fields_snoc begin.width i begin.rest.now));
    }

-- ---- one row

module _ (rows : Rows) where
  pub row_rooms : row_bytes_of rows ≤ length rows.rest.now → count_bytes_of rows + count_of rows * rows.width + 8 ≤ length rows.rest.now
  unfolding row_bytes
  row_rooms h = h

  pub row_vars : (row_of rows).vars ≡ fields rows.width (count_of rows) (drop (count_bytes_of rows) rows.rest.now)
  unfolding row
  row_vars = refl

  pub row_constant : (row_of rows).c ≡ little (take 8 (drop (count_bytes_of rows + count_of rows * rows.width) rows.rest.now))
  unfolding row stretch
  row_constant = refl

  -- a row is its variables and its constant
  sized : count_bytes_of rows + count_of rows * rows.width + 8 ≡ row_bytes_of rows
  unfolding row_bytes
  sized = refl

-- the constant stands behind the variables
pub constant_room : {rows mid : Rows} → row_bytes_of rows ≤ length rows.rest.now → Passed (count_bytes_of rows + count_of rows * rows.width) rows mid → 8 ≤ length mid.rest.now
constant_room {rows} {mid} h p =
    let r = row_rooms rows h in
    let d = length-drop (count_bytes_of rows + count_of rows * rows.width) rows.rest.now in
    rw p.rest (omega arith)

-- the variables stand behind the count
pub vars_room : {rows mid : Rows} → row_bytes_of rows ≤ length rows.rest.now → Passed (count_bytes_of rows) rows mid → count_of rows * mid.width ≤ length mid.rest.now
vars_room {rows} {mid} h p =
    let r = row_rooms rows h in
    let d = length-drop (count_bytes_of rows) rows.rest.now in
    rw (p.rest, p.width) (omega arith)

-- ---- all rows

-- one number more, and a list more, behind what is laid out
number_more : (before area s : List ℕ) (i v : ℕ) → area ≡ put 0 s before → length s ≡ i → i < length before → set area i v ≡ put 0 (s ++ (v ∷ [])) before
number_more before area s i v e l h =
    let z : 0 + length s ≡ length s = zero-add (length s) in
    rw (e, ← l) (rw z at (put_more 0 v s before (omega arith)))

list_more : (before area s more : List ℕ) (t : ℕ) → area ≡ put 0 s before → length s ≡ t → t ≤ length before → put t more area ≡ put 0 (s ++ more) before
list_more before area s more t e l h =
    let z : 0 + length s ≡ length s = zero-add (length s) in
    rw (e, ← l) (rw z at (put_then 0 s more before (omega arith)))

-- i of m rows are laid out, and list t variables
pub record Loading (begin now : Rows) (m : ℕ) (rows : List Equation) (starts₀ vars₀ constants₀ starts vars constants : List ℕ) (t i : ℕ) : Type 0 where
  pub few : t + length now.rest.now ≤ length begin.rest.now
  pub many : length rows ≡ m
  pub starts_room : m + 1 ≤ length starts₀
  pub vars_room : listed_in rows ≤ length vars₀
  pub constants_room : m ≤ length constants₀
  pub starts_long : length starts ≡ length starts₀
  pub vars_long : length vars ≡ length vars₀
  pub constants_long : length constants ≡ length constants₀
  pub listed : t ≡ listed_in (take i rows)
  pub reads : rows_of (m - i) now ≡ some (drop i rows)
  pub starts_laid : starts ≡ put 0 (starts_of (take i rows)) starts₀
  pub vars_laid : vars ≡ put 0 (vars_of (take i rows)) vars₀
  pub constants_laid : constants ≡ put 0 (constants_of (take i rows)) constants₀

-- the first start is written before the first row
pub loading_begin : (begin : Rows) (m : ℕ) (rows : List Equation) (starts vars constants : List ℕ) → rows_of m begin ≡ some rows
    → m + 1 ≤ length starts → listed_in rows ≤ length vars → m ≤ length constants → Loading begin begin m rows starts vars constants (set starts 0 0) vars constants 0 0
unfolding starts_from vars_of constants_of listed_in
loading_begin begin m rows starts vars constants e a b c =
    let z : m - 0 ≡ m = omega arith in
    record {
      few = omega arith;
      many = length_rows (number_of_kind begin.kind) begin.width m begin.rest.now rows e;
      starts_room = a;
      vars_room = b;
      constants_room = c;
      starts_long = simp length-set;
      vars_long = refl;
      constants_long = refl;
      listed = refl;
      reads = rw z e;
      starts_laid = set_is_put 0 0 starts (omega arith);
      vars_laid = sym (put_none 0 vars);
      constants_laid = sym (put_none 0 constants);
    }

-- the next row is there, and its variables have room
pub loading_room : {begin now : Rows} {m : ℕ} {rows : List Equation} {starts₀ vars₀ constants₀ starts vars constants : List ℕ} {t i : ℕ}
    → Loading begin now m rows starts₀ vars₀ constants₀ starts vars constants t i → i < m → (row_bytes_of now ≤ length now.rest.now) × (t + count_of now ≤ length vars)
loading_room {begin} {now} {m} {rows} {i = i} l h =
    let n = next_row now.rest.now (number_of_kind now.kind) now.width m rows i h l.reads in
    let a : listed_in (take (i + 1) rows) ≡ listed_in (take i rows) + count_of now =
    ap listed_in n.more ∙ listed_snoc (take i rows) (row_of now) ∙ ap (λ (k : ℕ). listed_in (take i rows) + k) (length_row (number_of_kind now.kind) now.width now.rest.now) in
    let b = listed_take (i + 1) rows in
    (n.there, omega (arith, l.listed, l.vars_room, l.vars_long))

-- no more variables are listed than there are bytes
pub loading_small : {begin now : Rows} {m : ℕ} {rows : List Equation} {starts₀ vars₀ constants₀ starts vars constants : List ℕ} {t i : ℕ}
    → Loading begin now m rows starts₀ vars₀ constants₀ starts vars constants t i → i < m → t + count_of now ≤ length begin.rest.now
loading_small {now = now} l less =
    let room = loading_room l less in
    let fits = listed_fits (number_of_kind now.kind) now.width now.rest.now in
    omega (arith, l.few, room.0)

pub loading_turn : {begin now mid next : Rows} {m : ℕ} {rows : List Equation} {starts₀ vars₀ constants₀ starts vars constants vars₁ : List ℕ} {t i k c : ℕ}
    → Loading begin now m rows starts₀ vars₀ constants₀ starts vars constants t i → i < m
    → k ≡ count_of now → vars₁ ≡ put t (row_of now).vars vars → Passed (count_bytes_of now + count_of now * now.width) now mid
    → c ≡ little (take 8 mid.rest.now) → Passed 8 mid next
    → Loading begin next m rows starts₀ vars₀ constants₀ (set starts (i + 1) (t + k)) vars₁ (set constants i c) (t + k) (i + 1)
loading_turn {begin} {now} {mid} {next} {m} {rows} {starts₀} {vars₀} {constants₀} {starts} {vars} {constants} {vars₁} {t} {i} {k} {c} l less ek ev pm ec pn =
    let n = next_row now.rest.now (number_of_kind now.kind) now.width m rows i less l.reads in
    let room = loading_room l less in
    let rl : length (row_of now).vars ≡ k = length_row (number_of_kind now.kind) now.width now.rest.now ∙ sym ek in
    let done = l.listed in
    let il : length (take i rows) ≡ i = length-take-le i rows (omega (arith, l.many)) in
    let sr = l.starts_room in
    let cr = l.constants_room in
    let vr = l.vars_room in
    let vl = l.vars_long in
    let sl = length_starts 0 (take i rows) in
    let al = length_vars (take i rows) in
    let cl = length_constants (take i rows) in
    let p : Passed (row_bytes_of now) now next = rw (← (sized now)) (passed_more pm pn) in
    let d = length-drop (row_bytes_of now) now.rest.now in
    let fits = listed_fits (number_of_kind now.kind) now.width now.rest.now in
    let m1 : listed_in (take (i + 1) rows) ≡ t + k = ap listed_in n.more ∙ listed_snoc (take i rows) (row_of now) ∙ rw (← done, rl) in
    let b = listed_take i rows in
    record {
      few = rw p.rest (omega (arith, l.few, room.0));
      many = l.many;
      starts_room = sr;
      vars_room = vr;
      constants_room = cr;
      starts_long = simp length-set l.starts_long;
      vars_long = rw ev (length-put t (row_of now).vars vars (omega (arith, room.1)) ∙ vl);
      constants_long = simp length-set l.constants_long;
      listed = sym m1;
      reads = rw (p.kind, p.width, p.rest) n.reads;
      starts_laid =
          number_more starts₀ starts (starts_of (take i rows)) (i + 1) (t + k) l.starts_laid (omega arith) (omega arith)
          ∙ ap (λ (s : List ℕ). put 0 s starts₀) (sym (ap starts_of n.more ∙ starts_snoc 0 (take i rows) (row_of now) ∙ rw (zero-add (listed_in (take i rows)), ← done, rl)));
      vars_laid =
          ev
          ∙ list_more vars₀ vars (vars_of (take i rows)) (row_of now).vars t l.vars_laid (omega arith) (omega arith)
          ∙ ap (λ (s : List ℕ). put 0 s vars₀) (sym (ap vars_of n.more ∙ vars_snoc (take i rows) (row_of now)));
      constants_laid =
          number_more constants₀ constants (constants_of (take i rows)) i c l.constants_laid (omega arith) (omega arith)
          ∙ ap (λ (s : List ℕ). put 0 s constants₀) (sym (ap constants_of n.more ∙ constants_snoc (take i rows) (row_of now) ∙ rw (row_constant now, ← pm.rest, ← ec)));
    }
